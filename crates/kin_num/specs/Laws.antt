-- What holds of signs and of the order. Each is promised by a function of the module `laws`.
use Rattle.std.specs.Prelude.{◌≡◌, ◌≢◌, ◌⊎◌, ◌↔◌, ℕ, ◌*◌, ◌^◌, ℤ, pos, ◌+ℤ◌, ◌-ℤ◌, ◌*ℤ◌, ◌<ℤ◌}
use lib.IntN.{neg_ℤ}
use Rattle.kin_algebra.specs.declared.sign.Sign.TheVariants.{Plus}
use Rattle.kin_algebra.specs.Signs.{sign_of, opposite_of, product_of, pair_sign_of, SumMayBe}
use Rattle.kin_num.specs.declared.instant.Shape.{Shape}
use Rattle.kin_num.specs.declared.instant.Moment.{Moment}
use Rattle.kin_num.specs.Quadratic.{Quadratic, IsSmall, quadratic_sum, negated, linear, linear_product}
use Rattle.kin_num.specs.Canonical.{IsCanonical, IsCanonicalForm}
use Rattle.kin_num.specs.Instants.{sign_at_number, sign_at_instant, sign_at, seat_of, line}
use Rattle.kin_num.specs.Order.{Separates, IsLess, AreLevel, IsEarlier}

-- 0, or positive and no square
abbrev pub IsRadicand : ℤ → Type 0
IsRadicand d = (d ≡ pos 0) ⊎ ((pos 0 <ℤ d) × ((k : ℕ) → pos (k * k) ≢ d))

-- the signs of the numbers u + v * sqrt(d) are those of an ordered ring
pub record PairSignsAreOrdered (d : ℤ) : Type 0 where
  pub whole : (k : ℤ) → pair_sign_of k (pos 0) d ≡ sign_of k
  pub negative : (u v : ℤ) → pair_sign_of (neg_ℤ u) (neg_ℤ v) d ≡ opposite_of (pair_sign_of u v d)
  pub scaled : (k u v : ℤ) → pos 0 <ℤ k → pair_sign_of (k *ℤ u) (k *ℤ v) d ≡ pair_sign_of u v d
  pub sum : (u v x y : ℤ) → SumMayBe (pair_sign_of u v d) (pair_sign_of x y d) (pair_sign_of (u +ℤ x) (v +ℤ y) d)
  pub product : (u v x y : ℤ) → pair_sign_of (u *ℤ x +ℤ v *ℤ y *ℤ d) (u *ℤ y +ℤ v *ℤ x) d ≡ product_of (pair_sign_of u v d) (pair_sign_of x y d)

-- at one moment, of either phase, the signs of all polynomials within the bounds are those of their values at one number, in an ordered ring
pub record SignsAreOrdered (m : Moment) : Type 0 where
  pub at_seat : (p : Quadratic) → IsSmall p → sign_at p m ≡ sign_at_number p (seat_of m.at m.phase)
  pub ordered : PairSignsAreOrdered (seat_of m.at m.phase).radicand

-- signs at one moment go with negatives, sums and products as those of numbers do
pub record SignsAddAndMultiply (m : Moment) : Type 0 where
  pub negative : (p : Quadratic) → sign_at (negated p) m ≡ opposite_of (sign_at p m)
  pub sum : (p q : Quadratic) → SumMayBe (sign_at p m) (sign_at q m) (sign_at (quadratic_sum p q) m)
  pub product : (b c b' c' : ℤ) → sign_at (linear_product b c b' c') m ≡ product_of (sign_at (linear b c) m) (sign_at (linear b' c') m)

-- "less" is a strict total order of the canonical instants, and the level ones are the same
pub record InstantsAreOrdered : Type 0 where
  pub irreflexive : (w : Shape) → ¬ (IsLess w w)
  pub asymmetric : (v w : Shape) → IsCanonicalForm v → IsCanonicalForm w → IsLess v w → ¬ (IsLess w v)
  pub transitive : (u v w : Shape) → IsCanonicalForm u → IsCanonicalForm v → IsCanonicalForm w → IsLess u v → IsLess v w → IsLess u w
  pub total : (v w : Shape) → IsCanonicalForm v → IsCanonicalForm w → IsLess v w ⊎ (IsLess w v ⊎ (v ≡ w))
  pub level : (v w : Shape) → IsCanonicalForm v → IsCanonicalForm w → AreLevel v w ↔ (v ≡ w)

-- "earlier" is a strict total order of the canonical moments
pub record MomentsAreOrdered : Type 0 where
  pub irreflexive : (m : Moment) → ¬ (IsEarlier m m)
  pub asymmetric : (m n : Moment) → IsCanonicalForm m.at → IsCanonicalForm n.at → IsEarlier m n → ¬ (IsEarlier n m)
  pub transitive : (l m n : Moment) → IsCanonicalForm l.at → IsCanonicalForm m.at → IsCanonicalForm n.at → IsEarlier l m → IsEarlier m n → IsEarlier l n
  pub total : (m n : Moment) → IsCanonicalForm m.at → IsCanonicalForm n.at → IsEarlier m n ⊎ (IsEarlier n m ⊎ (m ≡ n))

-- v is less than w by the least fraction of the denominator 2^200 that isn't before v
pub record IsLessByGrain (v w : Shape) : Type 0 where
  pub n : ℤ
  pub separates : Separates v w n (pos (2 ^ 200))
  pub least : sign_at_instant (line (n -ℤ pos 1) (pos (2 ^ 200))) v ≡ Plus

-- two different canonical instants lie so far apart that a fraction of the denominator 2^200 separates them
abbrev pub InstantsLieApart : Type 0
InstantsLieApart = (v w : Shape) → IsCanonical v → IsCanonical w → v ≢ w → IsLessByGrain v w ⊎ IsLessByGrain w v
