-- Numbers in decimal digits, and fractions of them.
use Rattle.std.specs.Prelude.{ℕ, ◌+◌, ◌*◌, ◌-◌, ℤ, pos, Bool, ◌&&◌, nat_le, nat_lt, ◌==◌, [], ◌∷◌, drop, slice_index, Option, Some, None, option_map, position, take, if◌then◌else◌}
use lib.IntN.{neg_ℤ}
use Rattle.kin_script.specs.Lines.{Word}

infixl 10 ◌>>=◌
-- what is found, handed on
abbrev pub ◌>>=◌ : {A B : Type 0} → Option A → (A → Option B) → Option B
None >>= f = None
(Some x) >>= f = f x

abbrev pub is_digit : ℕ → Bool
is_digit b = nat_le 48 b && nat_le b 57

-- the number that these digits write after those of n
unfoldable pub digits_after : ℕ → Word → Option ℕ
digits_after n [] = Some n
digits_after n (d ∷ ds) = if is_digit d then digits_after (10 * n + (d - 48)) ds else None

-- one or more digits, with leading zeros as wished
unfoldable pub numeral_of : Word → Option ℕ
numeral_of [] = None
numeral_of (d ∷ ds) = digits_after 0 (d ∷ ds)

abbrev pub up_to : ℕ → Option ℕ → Option ℕ
up_to most None = None
up_to most (Some n) = if nat_le n most then Some n else None

abbrev pub at_least : ℕ → Option ℕ → Option ℕ
at_least low None = None
at_least low (Some n) = if nat_lt n low then None else Some n

abbrev pub starts_with_minus : Word → Bool
starts_with_minus w = slice_index w 0 == 45

-- a number from low to high; after a minus it can only be 0
unfoldable pub natural_of : ℕ → ℕ → Word → Option ℕ
natural_of low high w = at_least low (if starts_with_minus w then up_to 0 (numeral_of (drop 1 w)) else up_to high (numeral_of w))

-- a number at most this far from 0; -0 is 0
unfoldable pub integer_of : ℕ → Word → Option ℤ
integer_of far w = if starts_with_minus w then option_map (λ n. neg_ℤ (pos n)) (up_to far (numeral_of (drop 1 w))) else option_map pos (up_to far (numeral_of w))

-- the greatest numerator, and the greatest denominator
abbrev pub ratio_limit : ℕ
ratio_limit = 2147483647

-- N/D with the slash at a place of the word, or N for N/1
abbrev pub ratio_at_slash : Word → Option ℕ → Option (ℕ × ℕ)
ratio_at_slash w (Some i) = natural_of 0 ratio_limit (take i w) >>= λ n. natural_of 1 ratio_limit (drop (i + 1) w) >>= λ d. Some (n, d)
ratio_at_slash w None = natural_of 0 ratio_limit w >>= λ n. Some (n, 1)

-- a fraction in one word
unfoldable pub ratio_of : Word → Option (ℕ × ℕ)
ratio_of w = ratio_at_slash w (position (λ b. b == 47) w)
