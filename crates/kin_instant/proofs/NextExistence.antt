-- From every instant on there is a least later root, or none.
use Rattle.std.proofs.Common.{◌≡◌, ◌⊎◌, inl, inr, Option, Some, None, subst}
use Rattle.kin_num.specs.declared.instant.Shape.{Shape}
use Rattle.kin_num.specs.Quadratic.{Quadratic}
use Rattle.kin_num.specs.Canonical.{IsCanonicalForm}
use Rattle.kin_num.specs.Order.{IsLess}
use Rattle.kin_num.proofs.LowerFractions.{not_less_itself, less_asym}
use Rattle.kin_num.proofs.InstantOrder.{total}
use Rattle.kin_instant.specs.declared.roots.Roots.{Roots}
use Rattle.kin_instant.specs.declared.roots.Roots.TheVariants.{Nowhere, One, Two, All}
use Rattle.kin_instant.specs.Roots.{AreRootsOf}
use Rattle.kin_instant.specs.Places.{IsZeroPolynomial, IsNextRoot, HasNoRootAfter}
use Rattle.kin_instant.specs.Laws.{IsNext, NextRootsExist}
use Rattle.kin_instant.proofs.Kept.{keeps}
use Rattle.kin_instant.proofs.Nexts.{nowhere, everywhere, one_next, one_none, first_next, second_next, two_none}
use Rattle.kin_instant.proofs.Existence.{roots_exist}

pub later_or_not : (v w : Shape) → IsCanonicalForm v → IsCanonicalForm w → IsLess v w ⊎ ¬ (IsLess v w)
later_or_not v w fv fw = by_order (total v w fv fw)
  where
    by_order : IsLess v w ⊎ (IsLess w v ⊎ (v ≡ w)) → IsLess v w ⊎ ¬ (IsLess v w)
    by_order (inl l) = inl l
    by_order (inr (inl l)) = inr (less_asym w v fw fv l)
    by_order (inr (inr e)) = inr (λ l. not_less_itself w (subst (λ x. IsLess x w) e l))

module _ (p : Quadratic) (w : Shape) (form : IsCanonicalForm w) (answer : Roots) (roots : AreRootsOf p answer) where
  none_next : IsZeroPolynomial p ⊎ HasNoRootAfter p w → (next : Option Shape) × IsNext p w next
  none_next h = (None, record { found = h; kept = keeps p w answer roots None tt (λ e. h) })

  some_next : (r : Shape) → IsNextRoot p w r → (next : Option Shape) × IsNext p w next
  some_next r h = (Some r, record { found = h; kept = keeps p w answer roots (Some r) h (λ e. absurd cc) })

next_in : (p : Quadratic) (w : Shape) → IsCanonicalForm w → (answer : Roots) → AreRootsOf p answer → (next : Option Shape) × IsNext p w next
next_in p w form Nowhere h = none_next p w form Nowhere h (nowhere p w h)
next_in p w form All h = none_next p w form All h (everywhere p w h)
next_in p w form (One r) h = by_order (later_or_not w r form h.canonical.form)
  where
    by_order : IsLess w r ⊎ ¬ (IsLess w r) → (next : Option Shape) × IsNext p w next
    by_order (inl l) = some_next p w form (One r) h r (one_next p w r h l)
    by_order (inr n) = none_next p w form (One r) h (one_none p w r h n)
next_in p w form (Two r s) h = by_order (later_or_not w r form h.canonical.0.form) (later_or_not w s form h.canonical.1.form)
  where
    by_order : IsLess w r ⊎ ¬ (IsLess w r) → IsLess w s ⊎ ¬ (IsLess w s) → (next : Option Shape) × IsNext p w next
    by_order (inl l) other = some_next p w form (Two r s) h r (first_next p w r s h l)
    by_order (inr n) (inl l) = some_next p w form (Two r s) h s (second_next p w r s h n l)
    by_order (inr n) (inr m) = none_next p w form (Two r s) h (two_none p w r s h n m)

pub next_roots_exist : NextRootsExist
next_roots_exist p w small form = let k = roots_exist p small in next_in p w form k.0 k.1
