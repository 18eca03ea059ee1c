-- Steps that go nowhere.
use Rattle.std.proofs.Common.{◌≡◌, ◌≢◌, inl, inr, [], ◌∷◌, ℤ, pos, refl, ap, ◌∙◌}
use Rattle.kin_algebra.specs.declared.sign.Sign.TheVariants.{Minus, Zero}
use Rattle.kin_algebra.specs.Signs.{opposite_of}
use Rattle.kin_algebra.proofs.Operations.{operations}
use Rattle.kin_algebra.proofs.Ring.{by_identity, quotes_in}
use Rattle.kin_algebra.proofs.Signs.{AtLeast}
use Rattle.kin_algebra.proofs.Vectors.{Vector as Step, along_way}
use Rattle.kin_algebra.proofs.OrderedRings.{OrderedRing, nonnegative_sum, sign_square}
use Rattle.kin_motion.proofs.DistanceValues.{square}
use Rattle.kin_near.proofs.Coordinates.{between}
use Rattle.kin_near.proofs.Nearness.{AreNone, times_none, sum_none, no_length}

module _ {R : Type 0} (o : OrderedRing R) where
  open operations o.ring use {◌·◌, ◌⊕◌, ◌⊖◌}

  pub along_x : (v : Step R) → along_way o (pos 1) (pos 0) v ≡ v.x
  along_x v = by_identity o.ring (v.x ∷ v.y ∷ []) _ _ (search quotes_in depth 20) (search quotes_in depth 20) refl

  pub along_y : (v : Step R) → along_way o (pos 0) (pos 1) v ≡ v.y
  along_y v = by_identity o.ring (v.x ∷ v.y ∷ []) _ _ (search quotes_in depth 20) (search quotes_in depth 20) refl

  -- the step goes nowhere
  abbrev pub IsNone : Step R → Type 0
  IsNone v = AreNone o v.x v.y

  pub way_none : (dx dy : ℤ) (v : Step R) → IsNone v → o.sign (along_way o dx dy v) ≡ Zero
  way_none dx dy v k = sum_none o (times_none o (o.ring.whole dx) k.0, times_none o (o.ring.whole dy) k.1)

  pub between_none : (u v : Step R) → IsNone u → IsNone v → IsNone (between o u v)
  between_none u v k h = (sum_none o (h.0, turned u.x k.0), sum_none o (h.1, turned u.y k.1))
    where
      turned : (a : R) → o.sign a ≡ Zero → o.sign (o.ring.negative a) ≡ Zero
      turned a e = o.sign_negative a ∙ ap opposite_of e

  pub length_none : (v : Step R) → IsNone v → o.sign (square o v) ≡ Zero
  length_none v k = sum_none o (times_none o v.x k.0, times_none o v.y k.1)

  -- a step is as long as what is left of it after one that goes nowhere
  pub same_length : (u v : Step R) → IsNone u → o.sign (square o v ⊖ square o (between o u v)) ≡ Zero
  same_length u v k = ap o.sign difference ∙ sum_none o (times_none o (v.x ⊕ (v.x ⊖ u.x)) k.0, times_none o (v.y ⊕ (v.y ⊖ u.y)) k.1)
    where
      difference : square o v ⊖ square o (between o u v) ≡ ((v.x ⊕ (v.x ⊖ u.x)) · u.x) ⊕ ((v.y ⊕ (v.y ⊖ u.y)) · u.y)
      difference = by_identity o.ring (u.x ∷ u.y ∷ v.x ∷ v.y ∷ []) _ _ (search quotes_in depth 30 fits 20000) (search quotes_in depth 30 fits 20000) refl

  -- less than nothing by some length
  pub length_less : (u v : Step R) → IsNone u → o.sign (o.ring.plus (square o u) (o.ring.negative (square o v))) ≡ opposite_of (o.sign (square o v))
  length_less u v k =
      ap o.sign (o.ring.plus_comm (square o u) (o.ring.negative (square o v)))
      ∙ o.sign_plus (o.sign (o.ring.negative (square o v))) (o.ring.negative (square o v)) (square o u) refl (inr (length_none u k))
      ∙ o.sign_negative (square o v)

  -- what isn't longer than a step that goes nowhere goes nowhere
  pub not_longer : (u v : Step R) → IsNone u → o.sign (o.ring.plus (square o u) (o.ring.negative (square o v))) ≢ Minus → IsNone v
  not_longer u v k n = no_length o v (at (nonnegative_sum o (sign_square o v.x) (sign_square o v.y)))
    where
      at : AtLeast (o.sign (square o v)) → o.sign (square o v) ≡ Zero
      at (inl e) = absurd (n (length_less u v k ∙ ap opposite_of e))
      at (inr e) = e
