-- The sign of a product of two linear polynomials, at every canonical moment.
use Rattle.std.proofs.Common.{◌≡◌, ℕ, [], ◌∷◌, refl, sym, ap, ap₂, ◌∙◌, ◌+◌, ◌≤◌, arith}
use Rattle.std.specs.Prelude.{ℤ, pos, ◌+ℤ◌, ◌*ℤ◌}
use Rattle.kin_algebra.specs.declared.sign.Sign.TheVariants.{Plus}
use Rattle.kin_algebra.specs.Signs.{sign_of, product_of}
use Rattle.kin_algebra.proofs.Ring.{by_ring, quotes}
use Rattle.kin_algebra.proofs.OrderedRings.{scale, positive_product}
use Rattle.kin_algebra.proofs.IntegerSigns.{ordered_integers, sign_of-pos}
use Rattle.kin_algebra.proofs.Pairs.{Pair, pair, pair_times, Sound, ordered, sign_over, sign_over-whole, sign_over-times}
use Rattle.kin_num.specs.declared.instant.Shape.{Shape}
use Rattle.kin_num.specs.declared.instant.Phase.{Phase}
use Rattle.kin_num.specs.declared.instant.Phase.TheVariants.{At, After}
use Rattle.kin_num.specs.declared.instant.Moment.{Moment}
use Rattle.kin_num.specs.Quadratic.{Quadratic, linear, linear_product}
use Rattle.kin_num.specs.Canonical.{IsCanonicalForm}
use Rattle.kin_num.specs.Instants.{Number, number_of, sign_at_number, sign_at_instant, sign_at_phase, sign_at, later_by}
use Rattle.kin_num.proofs.Values.{value, canonical-sound}
use Rattle.kin_num.proofs.NumberRing.{flat}
use Rattle.kin_num.proofs.Near.{grain, grain-fine}
use Rattle.kin_num.proofs.RootZeros.{divisor-positive}
use Rattle.kin_num.proofs.Sizes.{tall, tall-height, size_of, own_size}
use Rattle.kin_num.proofs.Seat.{seat_later}

-- ---- at a number
module _ (x : Number) where
  -- the value of b*t + c, times the divisor
  abbrev pub coordinate : ℤ → ℤ → Pair
  coordinate b c = pair (b *ℤ x.whole +ℤ c *ℤ x.divisor) (b *ℤ x.root)

  pub linear-in : (b c : ℤ) → value (linear b c) x ≡ pair_times x.radicand (flat x.divisor) (coordinate b c)
  linear-in b c =
      ap₂ pair
      (by_ring (b ∷ c ∷ x.whole ∷ x.root ∷ x.radicand ∷ x.divisor ∷ []) _ _ (search quotes depth 30 fits 40000) (search quotes depth 30 fits 40000) refl)
      (by_ring (b ∷ c ∷ x.whole ∷ x.root ∷ x.divisor ∷ []) _ _ (search quotes depth 30 fits 40000) (search quotes depth 30 fits 40000) refl)

  -- a product of two linear polynomials has the product of their values
  pub product-in : (b c b' c' : ℤ) → value (linear_product b c b' c') x ≡ pair_times x.radicand (coordinate b c) (coordinate b' c')
  product-in b c b' c' =
      ap₂ pair
      (by_ring (b ∷ c ∷ b' ∷ c' ∷ x.whole ∷ x.root ∷ x.radicand ∷ x.divisor ∷ []) _ _ (search quotes depth 30 fits 40000) (search quotes depth 30 fits 40000) refl)
      (by_ring (b ∷ c ∷ b' ∷ c' ∷ x.whole ∷ x.root ∷ x.divisor ∷ []) _ _ (search quotes depth 30 fits 40000) (search quotes depth 30 fits 40000) refl)

  module _ (s : Sound x.radicand) (q : sign_of x.divisor ≡ Plus) where
    pub linear_sign : (b c : ℤ) → sign_at_number (linear b c) x ≡ sign_over x.radicand (coordinate b c)
    linear_sign b c = ap (sign_over x.radicand) (linear-in b c) ∙ scale (ordered x.radicand s) {a = flat x.divisor} (coordinate b c) (sign_over-whole x.radicand s x.divisor ∙ q)

    pub product_sign : (b c b' c' : ℤ) → sign_at_number (linear_product b c b' c') x ≡ product_of (sign_at_number (linear b c) x) (sign_at_number (linear b' c') x)
    product_sign b c b' c' =
        ap (sign_over x.radicand) (product-in b c b' c')
        ∙ sign_over-times x.radicand s (coordinate b c) (coordinate b' c')
        ∙ sym (ap₂ product_of (linear_sign b c) (linear_sign b' c'))

-- ---- at a moment
-- just after an instant: one number at which all polynomials up to a height have their signs
after_at : (w : Shape) (form : IsCanonicalForm w) (h : ℕ) (p : Quadratic) → tall p ≤ h → sign_at_phase p w After ≡ sign_at_number p (later_by (pos (grain h (size_of w))) (number_of w))
unfolding sign_at_instant
after_at w form h p k =
    let tallest = tall-height p h k in
    seat_later (number_of w) (size_of w) (grain h (size_of w)) h (own_size w form) (omega (arith, k)) (grain-fine h (size_of w)) p tallest.own tallest.slope

later-positive : (w : Shape) → IsCanonicalForm w → (h : ℕ) → sign_of (later_by (pos (grain h (size_of w))) (number_of w)).divisor ≡ Plus
later-positive w form h = positive_product ordered_integers {a = (number_of w).divisor} (divisor-positive w form) (sign_of-pos (grain h (size_of w)) (omega arith))

phase_product : (w : Shape) → IsCanonicalForm w → (f : Phase) (b c b' c' : ℤ) → sign_at_phase (linear_product b c b' c') w f ≡ product_of (sign_at_phase (linear b c) w f) (sign_at_phase (linear b' c') w f)
unfolding sign_at_instant
phase_product w form At b c b' c' = product_sign (number_of w) (canonical-sound w form) (divisor-positive w form) b c b' c'
phase_product w form After b c b' c' =
    let h = tall (linear_product b c b' c') + (tall (linear b c) + tall (linear b' c')) in
    let x = later_by (pos (grain h (size_of w))) (number_of w) in
    after_at w form h (linear_product b c b' c') (omega arith)
    ∙ product_sign x (canonical-sound w form) (later-positive w form h) b c b' c'
    ∙ sym (ap₂ product_of (after_at w form h (linear b c) (omega arith)) (after_at w form h (linear b' c') (omega arith)))

pub sign_at-product : (m : Moment) → IsCanonicalForm m.at → (b c b' c' : ℤ) → sign_at (linear_product b c b' c') m ≡ product_of (sign_at (linear b c) m) (sign_at (linear b' c') m)
unfolding sign_at
sign_at-product m form = phase_product m.at form m.phase
