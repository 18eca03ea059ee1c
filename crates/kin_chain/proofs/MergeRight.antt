-- One theorem for both laws of a merge: where the told chains are upper chains and what was seen is so, the merge is right.
use Rattle.std.proofs.Common.{◌≡◌, refl, ap, ap₂, ◌∙◌, subst, List, [], ◌∷◌, ◌++◌, ℕ, Bool, true, false, cond, ◌||◌, map}
use Rattle.std.specs.Prelude.{Contains, flat_map, None}
use Rattle.kin_algebra.proofs.Members.{contains_head, contains_tail}
use Rattle.kin_motion.specs.declared.form.Form.{Form}
use Rattle.kin_motion.specs.declared.fact.Placed.{Placed}
use Rattle.kin_motion.specs.Numbers.{IsChain}
use Rattle.kin_motion.specs.Scene.{Scene, placed_at}
use Rattle.kin_motion.specs.Chains.{IsUpperChain}
use Rattle.kin_motion.specs.Sets.{ListsExactly}
use Rattle.kin_motion.specs.Merges.{Half, Half.{A, B}, Breakpoint, is_of, own_of, is_placed_before, IsBreakpointList, forms_of_merge, IsMergeFact}
use Rattle.kin_motion.specs.Cells.{Cell, given_by, changes_of, merged_chain}
use Rattle.kin_motion.proofs.RealLaws.{real_turn_laws}
use Rattle.kin_chain.specs.Merging.{is_in_place, SeenHolds, MergeIsRight, MergeIsSettled}
use Rattle.kin_chain.proofs.MergedChain.{merge_gives_chain}
use Rattle.kin_chain.proofs.InPlace.{list_in_place}
use Rattle.kin_chain.proofs.MergeFacts.{facts_exact}
use Rattle.kin_chain.proofs.RememberedSigns.{Agree, in_place_kept, slopes_agree, forms_kept, cells_kept}

-- ---- one half alone
-- where no breakpoint is of one half, all are of the other, so neighbours are in place
none_first : (h : Half) (e : Breakpoint) (es : List Breakpoint) → own_of h (e ∷ es) ≡ [] → (is_of h e.half ≡ false) × (own_of h es ≡ [])
none_first h e es q = at (is_of h e.half) q
  where
    at : (b : Bool) → cond b (e ∷ own_of h es) (own_of h es) ≡ [] → (b ≡ false) × (own_of h es ≡ [])
    at true q = absurd cc
    at false q = (refl, q)

same_half : (h x y : Half) → is_of h x ≡ false → is_of h y ≡ false → is_of x y ≡ true
same_half A A y p q = absurd cc
same_half A B A p q = absurd cc
same_half A B B p q = refl
same_half B A A p q = refl
same_half B A B p q = absurd cc
same_half B B y p q = absurd cc

one_half_in_place : (s : Scene) (h : Half) (es : List Breakpoint) → own_of h es ≡ [] → IsChain (is_in_place s) es
one_half_in_place s h [] q = tt
one_half_in_place s h (e ∷ []) q = tt
one_half_in_place s h (e ∷ f ∷ es) q =
    let first = none_first h e (f ∷ es) q in
    let second = none_first h f es first.1 in
    (ap (λ b. b || is_placed_before s e f) (same_half h e.half f.half first.0 second.0), one_half_in_place s h (f ∷ es) first.1)

-- ---- what was seen is so
-- neighbours are in place now, and the forms and the merged list are the same
record IsSame (old now : Scene) (a b : List ℕ) (es : List Breakpoint) : Type 0 where
  pub in_place : IsChain (is_in_place now) es
  pub forms : forms_of_merge now a b es ≡ forms_of_merge old a b es
  pub merged : merged_chain now a b es ≡ merged_chain old a b es

same_of : (old now : Scene) (a b : List ℕ) (es : List Breakpoint) → SeenHolds old now a b es → IsSame old now a b es
same_of old now [] b es k = record { in_place = one_half_in_place now A es k.interleaved.of_a; forms = refl; merged = refl }
same_of old now (a ∷ as') [] es k = record { in_place = one_half_in_place now B es k.interleaved.of_b; forms = refl; merged = refl }
same_of old now (a ∷ as') (b ∷ bs) es k = record {
  in_place = in_place_kept old now es (slopes_agree old now a as' b bs es agree) k.in_place;
  forms = forms_kept old now a as' b bs es agree;
  merged = ap (λ (cs : List Cell). changes_of None (flat_map given_by cs)) (cells_kept old now a as' b bs es agree k.interleaved);
}
  where
    agree : Agree old now (forms_of_merge old (a ∷ as') (b ∷ bs) es)
    agree = record { same = k.signs }

-- the same forms with the same signs are the same facts
same_facts : (old now : Scene) (part : ℕ) (fs : List Form) → ((f : Form) → Contains fs f → now.sign f ≡ old.sign f) → map (placed_at now part) fs ≡ map (placed_at old part) fs
same_facts old now part [] k = refl
same_facts old now part (f ∷ fs) k =
    ap₂ (λ (p : Placed) (ps : List Placed). p ∷ ps) (ap (λ t. record { part = part; fact = record { form = f; sign = t } }) (k f (contains_head f fs))) (same_facts old now part fs (λ g c. k g (contains_tail f g fs c)))

pub merge_is_right : MergeIsRight
merge_is_right old now left right a b es real told kept = record {
  breakpoints = list;
  facts = λ part. subst (λ (ps : List Placed). ListsExactly ps (IsMergeFact now left right part)) (facts_then part) (facts_exact now real left right a b es part told list);
  chain = subst (λ xs. IsUpperChain now (left ++ right) xs) same.merged (merge_gives_chain now left right a b es real told list);
}
  where
    same : IsSame old now a b es
    same = same_of old now a b es kept

    list : IsBreakpointList now a b es
    list = list_in_place now (real_turn_laws now real) left right a b es told.a_chain told.b_chain kept.interleaved same.in_place

    facts_then : (part : ℕ) → map (placed_at now part) (forms_of_merge now a b es) ≡ map (placed_at old part) (forms_of_merge old a b es)
    facts_then part = ap (map (placed_at now part)) same.forms ∙ same_facts old now part (forms_of_merge old a b es) kept.signs

pub merge_is_settled : MergeIsSettled
merge_is_settled s left right a b es real told walk in_place = merge_is_right s s left right a b es real told (record { interleaved = walk; in_place = in_place; signs = λ f c. refl })
