use Rattle.std.proofs.Common.{◌≡◌, ◌⊎◌, inl, inr, sym, ◌∙◌, Bool, true, false}
use Rattle.std.proofs.lemmas.Bool.{both_ways}
use Rattle.kin_wedge.proofs.orders.Orders.better.Goals as goal

neither : (b d : Bool) → b ≡ true → d ≡ true → (b ≡ false) ⊎ (d ≡ false) → ⊥
neither b d p q (inl e) = both_ways b e p
neither b d p q (inr e) = both_ways d e q

pub returns-then-is_in_octant-clause-kept : goal.returns-then-is_in_octant-clause-kept
returns-then-is_in_octant-clause-kept c = λ h. absurd (neither _ _ (sym c.is_in_octant.ensures ∙ c.if-is_in_octant.true) (sym c.comes_after.ensures ∙ c.if-comes_after.true) h)
