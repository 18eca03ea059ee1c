-- The values of lines at a number, and the signs there of what is made of them.
use Rattle.std.proofs.Common.{◌≡◌, refl, ap, ap₂, ◌∙◌, [], ◌∷◌}
use Rattle.std.specs.Prelude.{ℤ, pos, ◌+ℤ◌, ◌-ℤ◌, ◌*ℤ◌}
use lib.IntN.{neg_ℤ}
use Rattle.kin_algebra.specs.declared.sign.Sign.TheVariants.{Plus}
use Rattle.kin_algebra.specs.Signs.{sign_of}
use Rattle.kin_algebra.proofs.Ring.{by_ring, quotes}
use Rattle.kin_algebra.proofs.OrderedRings.{OrderedRing, scale}
use Rattle.kin_algebra.proofs.Vectors.{Vector, along_way, along_x, along_y}
use Rattle.kin_algebra.proofs.Pairs.{Pair, pair, pair_plus, pair_times, pair_negative, Sound, sign_over, sign_over-whole}
use Rattle.kin_num.specs.Quadratic.{Quadratic, quadratic_sum, negated}
use Rattle.kin_num.specs.Instants.{Number, sign_at_number}
use Rattle.kin_num.proofs.Values.{value, value-sum, value-negated}
use Rattle.kin_num.proofs.NumberRing.{flat, ring_over}
use Rattle.kin_num.proofs.Products.{coordinate, product-in}
use Rattle.kin_motion.specs.Forms.{Linear, minus, product, difference, along}

-- the value of slope*t + start at a number, times its divisor
abbrev pub line_value : Linear → Number → Pair
line_value p x = coordinate x p.slope p.start

pub value-product : (p q : Linear) (x : Number) → value (product p q) x ≡ pair_times x.radicand (line_value p x) (line_value q x)
value-product p q x = product-in x p.slope p.start q.slope q.start

less_is_plus : (a b : ℤ) → a -ℤ b ≡ a +ℤ neg_ℤ b
less_is_plus a b = by_ring (a ∷ b ∷ []) _ _ (search quotes depth 20) (search quotes depth 20) refl

pub difference-sum : (p q : Quadratic) → difference p q ≡ quadratic_sum p (negated q)
difference-sum p q = let f = less_is_plus p.a q.a in let g = less_is_plus p.b q.b in let h = less_is_plus p.c q.c in λ t. record { a = f t; b = g t; c = h t }

value-difference : (p q : Quadratic) (x : Number) → value (difference p q) x ≡ pair_plus (value p x) (pair_negative (value q x))
value-difference p q x = ap (λ (r : Quadratic). value r x) (difference-sum p q) ∙ value-sum p (negated q) x ∙ ap (pair_plus (value p x)) (value-negated q x)

minus_whole : (a b c e n q : ℤ) → (a -ℤ c) *ℤ n +ℤ (b -ℤ e) *ℤ q ≡ (a *ℤ n +ℤ b *ℤ q) +ℤ neg_ℤ (c *ℤ n +ℤ e *ℤ q)
minus_whole a b c e n q = by_ring (a ∷ b ∷ c ∷ e ∷ n ∷ q ∷ []) _ _ (search quotes depth 30 fits 40000) (search quotes depth 30 fits 40000) refl

minus_root : (a c m : ℤ) → (a -ℤ c) *ℤ m ≡ a *ℤ m +ℤ neg_ℤ (c *ℤ m)
minus_root a c m = by_ring (a ∷ c ∷ m ∷ []) _ _ (search quotes depth 20) (search quotes depth 20) refl

-- the value of a difference of lines
pub line_value-minus : (p q : Linear) (x : Number) → line_value (minus p q) x ≡ pair_plus (line_value p x) (pair_negative (line_value q x))
line_value-minus p q x = ap₂ pair (minus_whole p.slope p.start q.slope q.start x.whole x.divisor) (minus_root p.slope q.slope x.root)

-- ---- in the ring over the radicand
module _ (x : Number) (sound : Sound x.radicand) (positive : sign_of x.divisor ≡ Plus) where
  abbrev o : OrderedRing Pair
  o = ring_over x.radicand sound

  -- the step of two lines, at the number
  abbrev pub step_at : Linear → Linear → Vector Pair
  step_at p q = record { x = line_value p x; y = line_value q x }

  value-along : (dx dy : ℤ) (p q : Linear) → value (along dx dy (pos 0) p q) x ≡ pair_times x.radicand (flat x.divisor) (along_way o dx dy (step_at p q))
  value-along dx dy p q =
      ap₂ pair
      (by_ring (dx ∷ dy ∷ p.slope ∷ p.start ∷ q.slope ∷ q.start ∷ x.whole ∷ x.root ∷ x.radicand ∷ x.divisor ∷ []) _ _ (search quotes depth 40 fits 80000) (search quotes depth 40 fits 80000) refl)
      (by_ring (dx ∷ dy ∷ p.slope ∷ p.start ∷ q.slope ∷ q.start ∷ x.whole ∷ x.root ∷ x.radicand ∷ x.divisor ∷ []) _ _ (search quotes depth 40 fits 80000) (search quotes depth 40 fits 80000) refl)

  pub line_sign : (dx dy : ℤ) (p q : Linear) → sign_at_number (along dx dy (pos 0) p q) x ≡ o.sign (along_way o dx dy (step_at p q))
  line_sign dx dy p q =
      ap (sign_over x.radicand) (value-along dx dy p q)
      ∙ scale o {a = flat x.divisor} (along_way o dx dy (step_at p q)) (sign_over-whole x.radicand sound x.divisor ∙ positive)

  pub x_sign-value : (p q : Linear) → sign_at_number (along (pos 1) (pos 0) (pos 0) p q) x ≡ o.sign (line_value p x)
  x_sign-value p q = line_sign (pos 1) (pos 0) p q ∙ ap o.sign (along_x o (step_at p q))

  pub y_sign-value : (p q : Linear) → sign_at_number (along (pos 0) (pos 1) (pos 0) p q) x ≡ o.sign (line_value q x)
  y_sign-value p q = line_sign (pos 0) (pos 1) p q ∙ ap o.sign (along_y o (step_at p q))

  pub products-value : (a b c e : Linear) → sign_at_number (difference (product a b) (product c e)) x ≡ o.sign (o.ring.plus (o.ring.times (line_value a x) (line_value b x)) (o.ring.negative (o.ring.times (line_value c x) (line_value e x))))
  products-value a b c e =
      ap (sign_over x.radicand) (value-difference (product a b) (product c e) x ∙ ap₂ (λ (p q : Pair). pair_plus p (pair_negative q)) (value-product a b x) (value-product c e x))
