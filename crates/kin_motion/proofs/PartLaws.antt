-- Facts moved to another part.
use Rattle.std.proofs.Common.{◌≡◌, refl, sym, ap, ◌∙◌, subst, arith, List, [], ◌∷◌, map, ℕ, zero, suc, ◌+◌, Bool, IsFalse}
use Rattle.std.specs.Prelude.{Contains, ◌↔◌, slice_get, Some}
use Rattle.std.proofs.lemmas.List.{map-append}
use Rattle.kin_motion.specs.declared.fact.Placed.{Placed}
use Rattle.kin_motion.specs.declared.form.Form.{Form}
use Rattle.kin_motion.specs.Scene.{Scene, Holds, placed_at}
use Rattle.kin_motion.specs.Orders.{IsOrderFact, neighbour_forms, neighbour_facts}
use Rattle.kin_motion.specs.Kinetics.{HasGained}
use Rattle.kin_motion.specs.Parts.{moved_by, MovedFactsChange, MovedFactsFail, MovedOrderFacts}
use Rattle.kin_motion.proofs.Gains.{mapped_there, there_and_not}
use Rattle.kin_motion.proofs.SetLaws.{contains_map, contains_mapped, exactly_in_words, exactly_mapped}

pub moved_one : (n : ℕ) (p q : Placed) → moved_by n p ≡ moved_by n q → p ≡ q
moved_one n p q e =
    let parts : n + p.part ≡ n + q.part = ap (λ (x : Placed). x.part) e in
    let f : p.part ≡ q.part = omega (arith, parts) in
    let g : p.fact ≡ q.fact = ap (λ (x : Placed). x.fact) e in
    λ t. record { part = f t; fact = g t }

module _ (n : ℕ) where
  gained : (before after : List Placed) (which moved_which : Placed → Type 0) → ((z : Placed) → ((x : Placed) × which x × (z ≡ moved_by n x)) ↔ moved_which z)
      → HasGained before after which → HasGained (map (moved_by n) before) (map (moved_by n) after) moved_which
  gained before after which moved_which same g = record {
    more = map (moved_by n) g.more;
    joined = ap (map (moved_by n)) g.joined ∙ map-append (moved_by n) before g.more;
    exactly = exactly_in_words (map (moved_by n) g.more) _ _ same (exactly_mapped (moved_by n) g.more which (moved_one n) g.exactly);
  }

  failing : (facts : List Placed) (is_spared : Placed → Bool) (s : Scene) (z : Placed)
      → ((x : Placed) × (Contains facts x × IsFalse (is_spared (moved_by n x)) × ¬ (Holds s x.fact)) × (z ≡ moved_by n x)) ↔ (Contains (map (moved_by n) facts) z × IsFalse (is_spared z) × ¬ (Holds s z.fact))
  failing facts is_spared s z = (
    λ h. (
      subst (Contains (map (moved_by n) facts)) (sym h.2) (contains_map (moved_by n) facts h.0 h.1.0),
      ap is_spared h.2 ∙ h.1.1,
      λ holds. h.1.2 (subst (λ (p : Placed). Holds s p.fact) h.2 holds),
    ),
    λ h. let m = contains_mapped (moved_by n) facts z h.0 in (m.0, (m.1, ap is_spared (sym m.2) ∙ h.1, λ holds. h.2 (subst (λ (p : Placed). Holds s p.fact) (sym m.2) holds)), m.2),
  )

  same_places : (xs : List Placed) (i : ℕ) (p : Placed) → slice_get xs i ≡ Some p → slice_get (map (moved_by n) xs) i ≡ Some (moved_by n p)
  same_places [] i p e = absurd cc
  same_places (x ∷ xs) zero p e = let f : x ≡ p = cc in ap (λ (q : Placed). Some (moved_by n q)) f
  same_places (x ∷ xs) (suc i) p e = same_places xs i p e

pub moved_facts_change : MovedFactsChange
moved_facts_change n old new before after h = record {
  dropped = gained n before.dropped after.dropped _ _ (there_and_not (moved_by n) (moved_one n) old new) h.dropped;
  born = gained n before.born after.born _ _ (there_and_not (moved_by n) (moved_one n) new old) h.born;
}

pub moved_facts_fail : MovedFactsFail
moved_facts_fail n facts failed is_spared s = (
  λ h. exactly_in_words (map (moved_by n) failed) _ _ (failing n facts is_spared s) (exactly_mapped (moved_by n) failed _ (moved_one n) h),
  λ h. record {
    once = λ i j p e f. h.once i j (moved_by n p) (same_places n failed i p e) (same_places n failed j p f);
    each = λ p. (
      λ c. let k = (h.each (moved_by n p)).0 (contains_map (moved_by n) failed p c) in (mapped_there (moved_by n) (moved_one n) facts p k.0, k.1, k.2),
      λ k. mapped_there (moved_by n) (moved_one n) failed p ((h.each (moved_by n p)).1 (contains_map (moved_by n) facts p k.0, k.1, k.2)),
    );
  },
)

moved_neighbours : (s : Scene) (part : ℕ) (fs : List Form) → map (moved_by part) (map (placed_at s 0) fs) ≡ map (placed_at s part) fs
moved_neighbours s part [] = refl
moved_neighbours s part (f ∷ fs) =
    let e : part + 0 ≡ part = omega arith in
    let rest = moved_neighbours s part fs in
    λ t. record { part = e t; fact = record { form = f; sign = s.sign f } } ∷ rest t

pub moved_order_facts : MovedOrderFacts
moved_order_facts s dx dy part facts exact = exactly_in_words (map (moved_by part) facts) _ _ (λ z. (to z, from z)) (exactly_mapped (moved_by part) facts (IsOrderFact s dx dy 0) (moved_one part) exact)
  where
    to : (z : Placed) → (x : Placed) × IsOrderFact s dx dy 0 x × (z ≡ moved_by part x) → IsOrderFact s dx dy part z
    to z (x, f, e) = record {
      order = f.order;
      ordered = f.ordered;
      listed = subst (λ (fs : List Placed). Contains fs z) (moved_neighbours s part (neighbour_forms dx dy f.order))
          (subst (Contains (map (moved_by part) (neighbour_facts s dx dy 0 f.order))) (sym e) (contains_map (moved_by part) (neighbour_facts s dx dy 0 f.order) x f.listed));
    }

    from : (z : Placed) → IsOrderFact s dx dy part z → (x : Placed) × IsOrderFact s dx dy 0 x × (z ≡ moved_by part x)
    from z f =
        let m = contains_mapped (moved_by part) (neighbour_facts s dx dy 0 f.order) z (subst (λ (fs : List Placed). Contains fs z) (sym (moved_neighbours s part (neighbour_forms dx dy f.order))) f.listed) in
        (m.0, record { order = f.order; ordered = f.ordered; listed = m.1 }, m.2)
