-- Signs of whole numbers, and of the numbers u + v * sqrt(d).
use Rattle.std.specs.Prelude.{◌≡◌, zero, suc, ℤ, pos, negsuc, ◌-ℤ◌, ◌*ℤ◌}
use Rattle.kin_algebra.specs.declared.sign.Sign.{Sign}
use Rattle.kin_algebra.specs.declared.sign.Sign.TheVariants.{Minus, Zero, Plus}

-- the sign of a whole number
abbrev pub sign_of : ℤ → Sign
sign_of (pos zero) = Zero
sign_of (pos (suc n)) = Plus
sign_of (negsuc n) = Minus

-- the sign of the negated number
abbrev pub opposite_of : Sign → Sign
opposite_of Minus = Plus
opposite_of Zero = Zero
opposite_of Plus = Minus

-- the sign of a product
abbrev pub product_of : Sign → Sign → Sign
product_of Minus t = opposite_of t
product_of Zero t = Zero
product_of Plus t = t

-- the first of two signs that isn't 0
abbrev pub first_of : Sign → Sign → Sign
first_of Minus t = Minus
first_of Zero t = t
first_of Plus t = Plus

-- the sign of a sum of numbers of the signs s and t; the first one's square less the second one's has the sign n
abbrev pub sum_sign_of : Sign → Sign → Sign → Sign
sum_sign_of Zero t n = t
sum_sign_of Plus Zero n = Plus
sum_sign_of Plus Plus n = Plus
sum_sign_of Plus Minus n = n
sum_sign_of Minus Zero n = Minus
sum_sign_of Minus Minus n = Minus
sum_sign_of Minus Plus n = opposite_of n

-- the square of u less that of v * sqrt(d)
abbrev pub norm_of : ℤ → ℤ → ℤ → ℤ
norm_of u v d = u *ℤ u -ℤ v *ℤ v *ℤ d

-- the sign of u + v * sqrt(d), for d at least 0; where d is 0, v counts as 0
abbrev pub pair_sign_of : ℤ → ℤ → ℤ → Sign
pair_sign_of u v (pos zero) = sign_of u
pair_sign_of u v (pos (suc d)) = sum_sign_of (sign_of u) (sign_of v) (sign_of (norm_of u v (pos (suc d))))
pair_sign_of u v (negsuc d) = Zero

-- what the signs of two numbers say of the sign of their sum
abbrev pub SumMayBe : Sign → Sign → Sign → Type 0
SumMayBe Zero t r = r ≡ t
SumMayBe Plus Plus r = r ≡ Plus
SumMayBe Plus Zero r = r ≡ Plus
SumMayBe Plus Minus r = Unit {0}
SumMayBe Minus Plus r = Unit {0}
SumMayBe Minus Zero r = r ≡ Minus
SumMayBe Minus Minus r = r ≡ Minus
