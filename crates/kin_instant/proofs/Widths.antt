-- Sums and differences of products that fit their width.
use Rattle.std.proofs.Common.{◌≡◌, ℕ, ◌+◌, ◌-◌, ◌*◌, ◌<◌, ◌≤◌, ◌^◌, ℤ, pos, ◌+ℤ◌, ◌-ℤ◌, ◌*ℤ◌, unsigned_abs, FitsSigned, true, false, w64, to_z, of_z, sym, ap, ap₂, ◌∙◌, subst, arith, mul-le-mul}
use Rattle.std.proofs.lemmas.Int.{ints, to_z-of_z, fits_signed_from_abs, unsigned_abs-mul, to_z_pos}
use mir.Syntax.{Width, w128}
use mir.Val.{hbits}
use lib.IntN.{neg_ℤ}
use lib.Signed.{mag, lt_z, ◌<ℤ◌, ◌≤ℤ◌}
use Rattle.kin_algebra.proofs.Magnitudes.{size-sum, size-difference}

-- what the code's a * b + c * d and a * b - c * d give, where the products are at most k and l
module _ (w : Width) (a b c d : ℤ) (k l : ℕ) (fa : FitsSigned w a) (fb : FitsSigned w b) (fc : FitsSigned w c) (fd : FitsSigned w d)
    (first : unsigned_abs a * unsigned_abs b ≤ k) (second : unsigned_abs c * unsigned_abs d ≤ l) (room : k + l < 2 ^ hbits w) where
  left : unsigned_abs (a *ℤ b) ≤ unsigned_abs a * unsigned_abs b
  left = omega (arith, unsigned_abs-mul a b)

  right : unsigned_abs (c *ℤ d) ≤ unsigned_abs c * unsigned_abs d
  right = omega (arith, unsigned_abs-mul c d)

  left_fits : FitsSigned w (a *ℤ b)
  left_fits = fits_signed_from_abs w (a *ℤ b) (omega (arith, left))

  right_fits : FitsSigned w (c *ℤ d)
  right_fits = fits_signed_from_abs w (c *ℤ d) (omega (arith, right))

  pub sum-size : unsigned_abs (a *ℤ b +ℤ c *ℤ d) ≤ unsigned_abs a * unsigned_abs b + unsigned_abs c * unsigned_abs d
  sum-size = size-sum (a *ℤ b) (c *ℤ d) _ _ left right

  pub difference-size : unsigned_abs (a *ℤ b -ℤ c *ℤ d) ≤ unsigned_abs a * unsigned_abs b + unsigned_abs c * unsigned_abs d
  difference-size = size-difference (a *ℤ b) (c *ℤ d) _ _ left right

  abbrev as_left : ℤ
  as_left = to_z w (of_z w (to_z w (of_z w a) *ℤ to_z w (of_z w b)))

  abbrev as_right : ℤ
  as_right = to_z w (of_z w (to_z w (of_z w c) *ℤ to_z w (of_z w d)))

  left_is : as_left ≡ a *ℤ b
  left_is = let f = left_fits in simp to_z-of_z

  right_is : as_right ≡ c *ℤ d
  right_is = let f = right_fits in simp to_z-of_z

  sum-raw : as_left +ℤ as_right ≡ a *ℤ b +ℤ c *ℤ d
  sum-raw = rw (left_is, right_is)

  difference-raw : as_left -ℤ as_right ≡ a *ℤ b -ℤ c *ℤ d
  difference-raw = rw (left_is, right_is)

  pub sum-fits : FitsSigned w (as_left +ℤ as_right)
  sum-fits = subst (FitsSigned w) (sym sum-raw) (fits_signed_from_abs w (a *ℤ b +ℤ c *ℤ d) (omega (arith, sum-size)))

  pub difference-fits : FitsSigned w (as_left -ℤ as_right)
  difference-fits = subst (FitsSigned w) (sym difference-raw) (fits_signed_from_abs w (a *ℤ b -ℤ c *ℤ d) (omega (arith, difference-size)))

  pub sum-value : to_z w (of_z w (as_left +ℤ as_right)) ≡ a *ℤ b +ℤ c *ℤ d
  sum-value = to_z-of_z w (as_left +ℤ as_right) sum-fits ∙ sum-raw

  pub difference-value : to_z w (of_z w (as_left -ℤ as_right)) ≡ a *ℤ b -ℤ c *ℤ d
  difference-value = to_z-of_z w (as_left -ℤ as_right) difference-fits ∙ difference-raw

-- ---- what the code reads back
pub clean : (w : Width) (x : ℤ) → mag x < 2 ^ hbits w → to_z w (of_z w x) ≡ x
clean w x h = to_z-of_z w x (record { sfits = h })

pub clean-abs : (w : Width) (x : ℤ) → unsigned_abs x < 2 ^ hbits w → to_z w (of_z w x) ≡ x
clean-abs w x h = to_z-of_z w x (fits_signed_from_abs w x h)

-- a number within a bound is within it as the code reads it
pub read_within : (w : Width) (x : ℤ) (k : ℕ) → unsigned_abs x ≤ k → k < 2 ^ hbits w → unsigned_abs (to_z w (of_z w x)) ≤ k
read_within w x k h l = rw (clean-abs w x (omega arith)) h

pub same_sums : (a b c d a' b' c' d' : ℤ) → a' ≡ a → b' ≡ b → c' ≡ c → d' ≡ d → a' *ℤ b' +ℤ c' *ℤ d' ≡ a *ℤ b +ℤ c *ℤ d
same_sums a b c d a' b' c' d' p q r s = rw (p, q, r, s)

pub same_differences : (a b c d a' b' c' d' : ℤ) → a' ≡ a → b' ≡ b → c' ≡ c → d' ≡ d → a' *ℤ b' -ℤ c' *ℤ d' ≡ a *ℤ b -ℤ c *ℤ d
same_differences a b c d a' b' c' d' p q r s = rw (p, q, r, s)

-- a product in the code
pub product-raw : (w : Width) (a b a' b' : ℤ) → to_z w (of_z w a') ≡ a → to_z w (of_z w b') ≡ b → unsigned_abs (a *ℤ b) < 2 ^ hbits w → FitsSigned w (to_z w (of_z w a') *ℤ to_z w (of_z w b'))
product-raw w a b a' b' p q h = rw (p, q) (fits_signed_from_abs w (a *ℤ b) h)

pub product-value : (w : Width) (a b a' b' : ℤ) → to_z w (of_z w a') ≡ a → to_z w (of_z w b') ≡ b → unsigned_abs (a *ℤ b) < 2 ^ hbits w → to_z w (of_z w (to_z w (of_z w a') *ℤ to_z w (of_z w b'))) ≡ a *ℤ b
product-value w a b a' b' p q h = rw (p, q) (clean-abs w (a *ℤ b) h)

pub product-fits : (w : Width) (a b : ℤ) (k : ℕ) → FitsSigned w a → FitsSigned w b → unsigned_abs a * unsigned_abs b ≤ k → k < 2 ^ hbits w → FitsSigned w (to_z w (of_z w a) *ℤ to_z w (of_z w b))
product-fits w a b k fa fb h l = product-raw w a b a b (to_z-of_z w a fa) (to_z-of_z w b fb) (omega (arith, unsigned_abs-mul a b))

-- ---- tests
pub less_out : (x y : ℤ) → lt_z x y ≡ true → x <ℤ y
less_out x y e = grind (arith, ints)

pub not_less_out : (x y : ℤ) → lt_z x y ≡ false → y ≤ℤ x
not_less_out x y e = grind (arith, ints)

pub nothing_out : (x : ℤ) → FitsSigned w64 x → of_z w64 x ≡ 0 → x ≡ pos 0
nothing_out x f e = sym (to_z-of_z w64 x f) ∙ ap (to_z w64) e

-- ---- differences and doubles of small numbers
small_fits : (z : ℤ) → unsigned_abs z ≤ 2 ^ 33 → FitsSigned w64 z
small_fits z h = fits_signed_from_abs w64 z (omega arith)

pub small_difference-fits : (x y x' y' : ℤ) → x' ≡ x → y' ≡ y → unsigned_abs x ≤ 2 ^ 32 → unsigned_abs y ≤ 2 ^ 32 → FitsSigned w64 (x' -ℤ y')
small_difference-fits x y x' y' e f h k = rw (e, f) (small_fits (x -ℤ y) (size-difference x y (2 ^ 32) (2 ^ 32) h k))

pub small_difference-value : (x y x' y' : ℤ) → x' ≡ x → y' ≡ y → unsigned_abs x ≤ 2 ^ 32 → unsigned_abs y ≤ 2 ^ 32 → to_z w64 (of_z w64 (x' -ℤ y')) ≡ x -ℤ y
small_difference-value x y x' y' e f h k = to_z-of_z w64 (x' -ℤ y') (small_difference-fits x y x' y' e f h k) ∙ ap₂ (λ (u v : ℤ). u -ℤ v) e f

pub doubled-fits : (x x' : ℤ) → x' ≡ x → unsigned_abs x ≤ 2 ^ 32 → FitsSigned w64 (pos 2 *ℤ x')
doubled-fits x x' e h = rw e (small_fits (pos 2 *ℤ x) (twice x h))
  where
    twice : (x : ℤ) → unsigned_abs x ≤ 2 ^ 32 → unsigned_abs (pos 2 *ℤ x) ≤ 2 ^ 33
    twice x h = omega (arith, ints)

pub doubled-value : (x x' : ℤ) → x' ≡ x → unsigned_abs x ≤ 2 ^ 32 → to_z w64 (of_z w64 (pos 2 *ℤ x')) ≡ pos 2 *ℤ x
doubled-value x x' e h = to_z-of_z w64 (pos 2 *ℤ x') (doubled-fits x x' e h) ∙ ap (λ (u : ℤ). pos 2 *ℤ u) e

pub opposite-value : (x : ℤ) → unsigned_abs x ≤ 2 ^ 31 → to_z w64 (of_z w64 (pos 0 -ℤ to_z w64 (of_z w64 x))) ≡ neg_ℤ x
opposite-value x h = omega (arith, ints)

-- ---- wide numbers
pub below_width : (g m : ℕ) → g ≤ m → m < 2 ^ 63 → g < 2 ^ 63
below_width g m h k = omega arith

pub wide_from_narrow : (z : ℤ) → unsigned_abs z < 2 ^ 63 → FitsSigned w128 z
wide_from_narrow z h = fits_signed_from_abs w128 z (omega arith)

pub at_most : {n : ℕ} → n < 2 ^ 63 → n ≤ 2 ^ 63 - 1
at_most h = omega arith

pub positive_out : (g : ℕ) → 0 < g → g < 2 ^ 63 → pos 0 <ℤ to_z w64 g
positive_out g h k = subst (λ (z : ℤ). pos 0 <ℤ z) (sym (to_z_pos w64 g k)) (omega (arith, ints))

-- ---- one number, neither above nor below 0
pub level_out : (b b' : ℤ) → b' ≡ b → pos 0 ≤ℤ b' → b' ≤ℤ pos 0 → b ≡ pos 0
level_out b b' e h k = omega (arith, ints, e)

-- ---- the size of a difference of products, as the code reads its factors
pub size-read : (a q b p a' q' b' p' z : ℤ) → a' ≡ a → q' ≡ q → b' ≡ b → p' ≡ p → unsigned_abs z ≤ unsigned_abs a' * unsigned_abs q' + unsigned_abs b' * unsigned_abs p' → unsigned_abs z ≤ unsigned_abs a * unsigned_abs q + unsigned_abs b * unsigned_abs p
size-read a q b p a' q' b' p' z e f g h l = rw (← e, ← f, ← g, ← h) l

pub size-remainder : (a q b p z z' : ℤ) → z' ≡ z → unsigned_abs z ≤ unsigned_abs a * unsigned_abs q + unsigned_abs b * unsigned_abs p
    → unsigned_abs a ≤ 2 ^ 29 → unsigned_abs q ≤ 2 ^ 31 → unsigned_abs b ≤ 2 ^ 31 → unsigned_abs p ≤ 2 ^ 29 → unsigned_abs z' ≤ 2 ^ 61
size-remainder a q b p z z' e l h i j k = subst (λ (x : ℤ). unsigned_abs x ≤ 2 ^ 61) (sym e) (omega (arith, mul-le-mul h i, mul-le-mul j k))
