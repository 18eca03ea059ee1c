-- What a structure has reported, and the orders that it keeps, in the words of the bound on what it asks.
use Rattle.std.proofs.Common.{◌≡◌, refl, sym, ap, ◌∙◌, subst, arith, List, [], ◌∷◌, ℕ, zero, suc, ◌+◌, ℤ, length}
use Rattle.std.specs.Prelude.{Some, Contains, slice_get, sum_by, ◌↔◌}
use Rattle.std.proofs.lemmas.List.{length-append}
use Rattle.kin_motion.specs.declared.fact.Placed.{Placed}
use Rattle.kin_motion.specs.Deltas.{Change}
use Rattle.kin_motion.specs.Kinetics.{HasGained, HasChanged}
use Rattle.kin_motion.specs.Octants.{Direction}
use Rattle.kin_motion.specs.Orders.{IsOrder, IsOrderFact, order_of, neighbour_forms}
use Rattle.kin_motion.specs.Scene.{Scene, IsReal, placed_at}
use Rattle.kin_motion.specs.Sets.{ListsExactly}
use Rattle.kin_motion.specs.Spending.{AreChanged, IsFactAlong}
use Rattle.kin_motion.proofs.Proved.{order_is_one, order_proved}
use Rattle.kin_motion.proofs.SetLaws.{contains_mapped, exactly_in_words}

-- an order of a real scene is the computed one
pub order_computed : (s : Scene) (dx dy : ℤ) (xs : List ℕ) → IsReal s → IsOrder s dx dy xs → xs ≡ order_of s dx dy
order_computed s dx dy xs real order = order_is_one s dx dy xs (order_of s dx dy) real order (order_proved s dx dy real)

-- a fact of an order is in its part
pub order_fact-part : (s : Scene) (dx dy : ℤ) (part : ℕ) (p : Placed) → IsOrderFact s dx dy part p → p.part ≡ part
order_fact-part s dx dy part p fact = let at = contains_mapped (placed_at s part) (neighbour_forms dx dy fact.order) p fact.listed in ap (λ (q : Placed). q.part) at.2

-- the change that was reported, and how much longer the reports have become
pub record HasReported (old new : Placed → Type 0) (before after : Change) : Type 0 where
  pub change : Change
  pub changed : AreChanged old new change
  pub dropped : length after.dropped ≡ length before.dropped + length change.dropped
  pub born : length after.born ≡ length before.born + length change.born

-- where the facts are exactly these before and those after, what was reported is the change from these to those
pub reported : (facts facts' : List Placed) (old new : Placed → Type 0) (before after : Change) → ListsExactly facts old → ListsExactly facts' new → HasChanged facts facts' before after → HasReported old new before after
reported facts facts' old new before after were are changed = record {
  change = record { dropped = changed.dropped.more; born = changed.born.more };
  changed = record {
    dropped = exactly_in_words changed.dropped.more (λ p. Contains facts p × ¬ (Contains facts' p)) (λ p. old p × ¬ (new p)) (λ p. words p facts facts' old new (were.each p) (are.each p)) changed.dropped.exactly;
    born = exactly_in_words changed.born.more (λ p. Contains facts' p × ¬ (Contains facts p)) (λ p. new p × ¬ (old p)) (λ p. words p facts' facts new old (are.each p) (were.each p)) changed.born.exactly;
  };
  dropped = longer before.dropped after.dropped _ changed.dropped;
  born = longer before.born after.born _ changed.born;
}
  where
    words : (p : Placed) (xs ys : List Placed) (these those : Placed → Type 0) → Contains xs p ↔ these p → Contains ys p ↔ those p → (Contains xs p × ¬ (Contains ys p)) ↔ (these p × ¬ (those p))
    words p xs ys these those one two = ((λ h. (one.0 h.0, λ k. h.1 (two.1 k))), (λ h. (one.1 h.0, λ k. h.1 (two.0 k))))

    longer : (xs ys : List Placed) (which : Placed → Type 0) (gained : HasGained xs ys which) → length ys ≡ length xs + length gained.more
    longer xs ys which gained = ap length gained.joined ∙ length-append xs gained.more

-- ---- one direction
pub sum_of_one : (f : Direction → ℕ) (d : Direction) → sum_by f (d ∷ []) ≡ f d
sum_of_one f d = omega arith

-- a fact of the one direction is in part 0
one_way : (d way : Direction) (n : ℕ) → slice_get (d ∷ []) n ≡ Some way → (n ≡ 0) × (way ≡ d)
one_way d way zero e = (refl, cc)
one_way d way (suc n) e = absurd cc

pub fact_along : (d : Direction) (s : Scene) (p : Placed) → IsOrderFact s d.dx d.dy 0 p ↔ IsFactAlong (d ∷ []) s p
fact_along d s p = (to, from)
  where
    to : IsOrderFact s d.dx d.dy 0 p → IsFactAlong (d ∷ []) s p
    to fact =
        let part = sym (order_fact-part s d.dx d.dy 0 p fact) in
        record { way = d; known = subst (λ n. slice_get (d ∷ []) n ≡ Some d) part refl; fact = subst (λ n. IsOrderFact s d.dx d.dy n p) part fact }

    from : IsFactAlong (d ∷ []) s p → IsOrderFact s d.dx d.dy 0 p
    from along =
        let first = one_way d along.way p.part along.known in
        subst (λ n. IsOrderFact s d.dx d.dy n p) first.0 (subst (λ (x : Direction). IsOrderFact s x.dx x.dy p.part p) first.1 along.fact)
