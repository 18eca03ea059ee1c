-- The values of squared distances at a number, as those of steps.
use Rattle.std.proofs.Common.{◌≡◌, ap, ap₂, ◌∙◌}
use Rattle.kin_algebra.specs.declared.sign.Sign.TheVariants.{Plus}
use Rattle.kin_algebra.specs.Signs.{sign_of}
use Rattle.kin_algebra.proofs.OrderedRings.{OrderedRing}
use Rattle.kin_algebra.proofs.Vectors.{Vector}
use Rattle.kin_algebra.proofs.Pairs.{Pair, pair_plus, pair_negative, Sound, sign_over}
use Rattle.kin_num.specs.Quadratic.{Quadratic, quadratic_sum, negated}
use Rattle.kin_num.specs.Instants.{Number, sign_at_number}
use Rattle.kin_num.proofs.Values.{value, value-sum, value-negated}
use Rattle.kin_num.proofs.NumberRing.{ring_over}
use Rattle.kin_motion.specs.Forms.{Linear, product, difference}
use Rattle.kin_motion.proofs.LineValues.{step_at, difference-sum, value-product}

-- the square of the length of a step
abbrev pub square : {R : Type 0} → OrderedRing R → Vector R → R
square o v = o.ring.plus (o.ring.times v.x v.x) (o.ring.times v.y v.y)

module _ (x : Number) (sound : Sound x.radicand) (positive : sign_of x.divisor ≡ Plus) where
  abbrev o : OrderedRing Pair
  o = ring_over x.radicand sound

  abbrev square_of : Linear → Linear → Quadratic
  square_of p q = quadratic_sum (product p p) (product q q)

  value-square : (p q : Linear) → value (square_of p q) x ≡ square o (step_at x sound positive p q)
  value-square p q = value-sum (product p p) (product q q) x ∙ ap₂ pair_plus (value-product p p x) (value-product q q x)

  pub distance_sign : (p q u v : Linear) → sign_at_number (difference (square_of u v) (square_of p q)) x ≡ o.sign (o.ring.plus (square o (step_at x sound positive u v)) (o.ring.negative (square o (step_at x sound positive p q))))
  distance_sign p q u v =
      ap (sign_over x.radicand)
      (ap (λ (k : Quadratic). value k x) (difference-sum (square_of u v) (square_of p q))
      ∙ value-sum (square_of u v) (negated (square_of p q)) x
      ∙ ap₂ pair_plus (value-square u v) (value-negated (square_of p q) x ∙ ap pair_negative (value-square p q)))
