-- The facts of a merged list are those of the merge.
use Rattle.std.proofs.Common.{◌≡◌, refl, sym, ap, ap₂, ◌∙◌, subst, arith, List, [], ◌∷◌, ◌++◌, ℕ, ◌<◌, Bool, true, false, cond, length, map, pos, Option, Some, None, option_map}
use Rattle.std.specs.Prelude.{flat_map}
use Rattle.std.proofs.lemmas.List.{append-nil, append_assoc}
use Rattle.kin_algebra.specs.declared.sign.Sign.{Sign}
use Rattle.kin_motion.specs.declared.form.Form.{Form}
use Rattle.kin_motion.specs.declared.form.Form.TheVariants.{Line, Turn}
use Rattle.kin_motion.specs.declared.fact.Fact.{Fact}
use Rattle.kin_motion.specs.declared.fact.Placed.{Placed}
use Rattle.kin_motion.specs.Deltas.{Change}
use Rattle.kin_motion.specs.Scene.{Scene, IsReal, x_sign, y_sign, fact_at, placed_at}
use Rattle.kin_motion.specs.Chains.{is_zero, IsUpperChain}
use Rattle.kin_motion.specs.Contents.{IsSettledMerge}
use Rattle.kin_motion.specs.Kinetics.{HasChanged}
use Rattle.kin_motion.specs.Sets.{AreDistinct, ListsExactly}
use Rattle.kin_motion.specs.Merges.{Half.{A, B}, Breakpoint, is_of, slope_form, current_after, turns_from, slope_between, slopes_from, end_forms, last_of, forms_of_ends, forms_of_merge, IsMergeFact}
use Rattle.kin_motion.specs.Cells.{merged_chain}
use Rattle.kin_chain.proofs.MergeRight.{merge_is_settled}
use Rattle.kin_overlay.specs.declared.record.Record.{Record}
use Rattle.kin_overlay.specs.declared.record.Next.{Next}
use Rattle.kin_overlay.specs.declared.end.End.{End}
use Rattle.kin_overlay.specs.Remembered.{Remembered, place_of, breakpoints, turn_fact, slope_facts_of, slope_facts, y_facts, end_facts, facts_of, all_placed}
use Rattle.kin_overlay.specs.Reports.{IsTold}
use Rattle.kin_overlay.specs.Fingers.{seen_next, next_for, AreNoted, IsMerged, end_at, right_end, AreLess}
use Rattle.kin_overlay.proofs.ReportLaws.{told-gained}

module _ (s : Scene) where
  map-both : (fs gs : List Form) → map (fact_at s) (fs ++ gs) ≡ map (fact_at s) fs ++ map (fact_at s) gs
  map-both [] gs = refl
  map-both (f ∷ fs) gs = ap (λ (l : List Fact). fact_at s f ∷ l) (map-both fs gs)

  turns-are : (a b : ℕ) (rs : List Record) → AreNoted s a b rs → map turn_fact rs ≡ map (fact_at s) (turns_from a b (breakpoints rs))
  turns-are a b [] n = refl
  turns-are a b (r ∷ rs) n =
      ap₂ (λ (f : Fact) (l : List Fact). f ∷ l)
      (ap₂ (λ (k : ℕ) (t : Sign). record { form = Turn r.at.left r.at.right k; sign = t }) n.0.across (n.0.turn ∙ ap (λ (k : ℕ). s.sign (Turn r.at.left r.at.right k)) n.0.across))
      (turns-are (current_after A (place_of r) a) (current_after B (place_of r) b) rs n.1)

  slope-is-none : (e : Breakpoint) (o : Option Next) → option_map seen_next o ≡ None → slope_facts_of e o ≡ []
  slope-is-none e None q = refl
  slope-is-none e (Some n) q = absurd cc

  slope-is-some : (e f : Breakpoint) (o : Option Next) → option_map seen_next o ≡ Some (f, s.sign (slope_form e f)) → slope_facts_of e o ≡ fact_at s (slope_form e f) ∷ []
  slope-is-some e f None q = absurd cc
  slope-is-some e f (Some n) q =
      let same : seen_next n ≡ (f, s.sign (slope_form e f)) = cc in
      ap (λ (p : Breakpoint × Sign). record { form = slope_form e p.0; sign = p.1 } ∷ []) same

  between-are : (e f : Breakpoint) (o : Option Next) → option_map seen_next o ≡ next_for s e (Some f) → slope_facts_of e o ≡ map (fact_at s) (slope_between e f)
  between-are e f o q = at (is_of e.half f.half) refl
    where
      at : (b : Bool) → is_of e.half f.half ≡ b → slope_facts_of e o ≡ map (fact_at s) (slope_between e f)
      at true h =
          slope-is-none e o (q ∙ ap (λ (b : Bool). cond b None (Some (f, s.sign (slope_form e f)))) h)
          ∙ sym (ap (λ (b : Bool). map (fact_at s) (cond b [] (slope_form e f ∷ []))) h)
      at false h =
          slope-is-some e f o (q ∙ ap (λ (b : Bool). cond b None (Some (f, s.sign (slope_form e f)))) h)
          ∙ sym (ap (λ (b : Bool). map (fact_at s) (cond b [] (slope_form e f ∷ []))) h)

  slopes-are : (a b : ℕ) (rs : List Record) → AreNoted s a b rs → flat_map slope_facts rs ≡ map (fact_at s) (slopes_from (breakpoints rs))
  slopes-are a b [] n = refl
  slopes-are a b (r ∷ []) n = ap (λ (l : List Fact). l ++ []) (slope-is-none (place_of r) r.next n.0.next)
  slopes-are a b (r ∷ q ∷ rs) n =
      ap₂ (λ (l m : List Fact). l ++ m) (between-are (place_of r) (place_of q) r.next n.0.next) (slopes-are (current_after A (place_of r) a) (current_after B (place_of r) b) (q ∷ rs) n.1)
      ∙ sym (map-both (slope_between (place_of r) (place_of q)) (slopes_from (breakpoints (q ∷ rs))))

  end-are : (a b : ℕ) → end_facts (Some (end_at s a b)) ≡ map (fact_at s) (end_forms s a b)
  end-are a b = ap (λ (l : List Fact). fact_at s (Line (pos 1) (pos 0) (pos 0) a b) ∷ l) (at (is_zero (x_sign s a b)))
    where
      at : (t : Bool) → y_facts a b (cond t (Some (y_sign s a b)) None) ≡ map (fact_at s) (cond t (Line (pos 0) (pos 1) (pos 0) a b ∷ []) [])
      at true = refl
      at false = refl

  ends-are : (a : ℕ) (as' : List ℕ) (b : ℕ) (bs : List ℕ) → end_facts (Some (end_at s a b)) ++ end_facts (right_end s a as' b bs) ≡ map (fact_at s) (forms_of_ends s a as' b bs)
  ends-are a [] b [] = append-nil (end_facts (Some (end_at s a b))) ∙ end-are a b
  ends-are a [] b (q ∷ qs) = ap₂ (λ (l m : List Fact). l ++ m) (end-are a b) (end-are a (last_of b (q ∷ qs))) ∙ sym (map-both (end_forms s a b) (end_forms s a (last_of b (q ∷ qs))))
  ends-are a (p ∷ ps) b [] = ap₂ (λ (l m : List Fact). l ++ m) (end-are a b) (end-are (last_of a (p ∷ ps)) b) ∙ sym (map-both (end_forms s a b) (end_forms s (last_of a (p ∷ ps)) b))
  ends-are a (p ∷ ps) b (q ∷ qs) =
      ap₂ (λ (l m : List Fact). l ++ m) (end-are a b) (end-are (last_of a (p ∷ ps)) (last_of b (q ∷ qs))) ∙ sym (map-both (end_forms s a b) (end_forms s (last_of a (p ∷ ps)) (last_of b (q ∷ qs))))

  pub facts-are : (a b : List ℕ) (m : Remembered) → 0 < length a → 0 < length b → IsMerged s a b m → facts_of m ≡ map (fact_at s) (forms_of_merge s a b (breakpoints m.records))
  facts-are [] b m a_some b_some w = absurd (omega arith)
  facts-are (x ∷ as') [] m a_some b_some w = absurd (omega arith)
  facts-are (x ∷ as') (y ∷ bs) m a_some b_some w =
      let es = breakpoints m.records in
      let inner : map turn_fact m.records ++ flat_map slope_facts m.records ≡ map (fact_at s) (turns_from x y es ++ slopes_from es) =
      ap₂ (λ (l n : List Fact). l ++ n) (turns-are x y m.records w.noted) (slopes-are x y m.records w.noted) ∙ sym (map-both (turns_from x y es) (slopes_from es)) in
      let outer : end_facts m.left ++ end_facts m.right ≡ map (fact_at s) (forms_of_ends s x as' y bs) = ap₂ (λ (o p : Option End). end_facts o ++ end_facts p) w.left w.right ∙ ends-are x as' y bs in
      append_assoc (map turn_fact m.records ++ flat_map slope_facts m.records) (end_facts m.left) (end_facts m.right)
      ∙ ap₂ (λ (l n : List Fact). l ++ n) inner outer ∙ sym (map-both (turns_from x y es ++ slopes_from es) (forms_of_ends s x as' y bs))

  all-placed-are : (part : ℕ) (fs : List Form) → all_placed part (map (fact_at s) fs) ≡ map (placed_at s part) fs
  all-placed-are part [] = refl
  all-placed-are part (f ∷ fs) = ap (λ (l : List Placed). placed_at s part f ∷ l) (all-placed-are part fs)

  -- what was merged in the scene is settled in it
  pub merged-settled : IsReal s → (a b chain : List ℕ) (part : ℕ) (m : Remembered) → 0 < length a → 0 < length b → AreLess a b → IsUpperChain s a a → IsUpperChain s b b → IsMerged s a b m
      → chain ≡ merged_chain s a b (breakpoints m.records) → IsSettledMerge s a b chain part (all_placed part (facts_of m))
  merged-settled real a b chain part m a_some b_some less a_chain b_chain w is =
      let right = merge_is_settled s a b a b (breakpoints m.records) real (record { a_chain = a_chain; b_chain = b_chain; less = less }) w.interleaved w.in_place in
      record {
        a_some = a_some;
        b_some = b_some;
        less = less;
        a_chain = a_chain;
        b_chain = b_chain;
        is_chain = subst (λ (xs : List ℕ). IsUpperChain s (a ++ b) xs) (sym is) right.chain;
        exact = subst (λ (fs : List Placed). ListsExactly fs (IsMergeFact s a b part)) (sym (ap (all_placed part) (facts-are a b m a_some b_some w) ∙ all-placed-are part (forms_of_merge s a b (breakpoints m.records)))) (right.facts part);
      }

-- what was merged of the same chains is the same merge
pub merged-same : (s : Scene) (a b a' b' : List ℕ) (m m' : Remembered) → a' ≡ a → b' ≡ b → m' ≡ m → IsMerged s a' b' m' → IsMerged s a b m
merged-same s a b a' b' m m' e f g h = subst (λ (x : List ℕ). IsMerged s x b m) e (subst (λ (y : List ℕ). IsMerged s a' y m) f (subst (λ (n : Remembered). IsMerged s a' b' n) g h))

-- what the reports of both lists change
pub changed : (part : ℕ) (old new : Remembered) (before after : Change) → AreDistinct (all_placed part (facts_of old)) → AreDistinct (all_placed part (facts_of new))
    → IsTold part (facts_of new) (facts_of old) before.dropped after.dropped → IsTold part (facts_of old) (facts_of new) before.born after.born → HasChanged (all_placed part (facts_of old)) (all_placed part (facts_of new)) before after
changed part old new before after d e dropped born = record {
  dropped = told-gained part (facts_of new) (facts_of old) before.dropped after.dropped d dropped;
  born = told-gained part (facts_of old) (facts_of new) before.born after.born e born;
}
