-- Vectors: how far one goes along a direction, the area between two, and the identity of three.
use Rattle.std.proofs.Common.{◌≡◌, [], ◌∷◌, ℤ, pos, sym, refl, ap, ◌∙◌}
use Rattle.kin_algebra.specs.declared.sign.Sign.TheVariants.{Plus}
use Rattle.kin_algebra.specs.Signs.{SumMayBe}
use Rattle.kin_algebra.proofs.Operations.{operations}
use Rattle.kin_algebra.proofs.Ring.{by_identity, quotes_in}
use Rattle.kin_algebra.proofs.Signs.{by_signs}
use Rattle.kin_algebra.proofs.OrderedRings.{OrderedRing, scale, sum_may_be}

-- a pair of values: a step, or a place
pub record Vector (R : Type 0) : Type 0 where
  pub x : R
  pub y : R

module _ {R : Type 0} (o : OrderedRing R) where
  open operations o.ring use {◌·◌, ◌⊕◌, ◌⊖◌}

  -- how far a vector goes along a direction
  abbrev pub along_way : ℤ → ℤ → Vector R → R
  along_way dx dy v = (o.ring.whole dx · v.x) ⊕ (o.ring.whole dy · v.y)

  pub along_x : (v : Vector R) → along_way (pos 1) (pos 0) v ≡ v.x
  along_x v = by_identity o.ring (v.x ∷ v.y ∷ []) _ _ (search quotes_in depth 20) (search quotes_in depth 20) refl

  pub along_y : (v : Vector R) → along_way (pos 0) (pos 1) v ≡ v.y
  along_y v = by_identity o.ring (v.x ∷ v.y ∷ []) _ _ (search quotes_in depth 20) (search quotes_in depth 20) refl

  -- twice the area between two vectors: + where b lies to the left of a
  unfoldable pub cross : Vector R → Vector R → R
  cross a b = (a.x · b.y) ⊖ (a.y · b.x)

  -- the identity of three vectors
  pub three : (a b c : Vector R) → b.x · cross a c ≡ (c.x · cross a b) ⊕ (a.x · cross b c)
  unfolding cross
  three a b c = by_identity o.ring (a.x ∷ a.y ∷ b.x ∷ b.y ∷ c.x ∷ c.y ∷ []) _ _ (search quotes_in depth 30 fits 40000) (search quotes_in depth 30 fits 40000) refl

  pub anti : (a b : Vector R) → cross b a ≡ o.ring.negative (cross a b)
  unfolding cross
  anti a b = by_identity o.ring (a.x ∷ a.y ∷ b.x ∷ b.y ∷ []) _ _ (search quotes_in depth 30 fits 40000) (search quotes_in depth 30 fits 40000) refl

  -- of three vectors to the right: what the crosses of neighbours say of that of the first and the last
  pub cross_through : (a b c : Vector R) → o.sign a.x ≡ Plus → o.sign b.x ≡ Plus → o.sign c.x ≡ Plus → SumMayBe (o.sign (cross b c)) (o.sign (cross a b)) (o.sign (cross a c))
  cross_through a b c e f g =
      by_signs (sym (scale o (cross b c) e)) (sym (scale o (cross a b) g)) (sym (scale o (cross a c) f) ∙ ap o.sign (three a b c ∙ o.ring.plus_comm (c.x · cross a b) (a.x · cross b c)))
      (sum_may_be o (a.x · cross b c) (c.x · cross a b))
