-- Differences, and how large whole numbers, their sums and their products are; what is positive, and what is 0.
use Rattle.std.proofs.Common.{◌≡◌, ◌≢◌, ◌⊎◌, ℕ, ◌+◌, ◌*◌, ◌<◌, ◌≤◌, arith, unsigned_abs}
use Rattle.std.specs.Prelude.{ℤ, pos, ◌+ℤ◌, ◌-ℤ◌, ◌*ℤ◌, ◌<ℤ◌}
use Rattle.std.proofs.lemmas.Int.{ints, unsigned_abs-mul}
use Rattle.std.proofs.lemmas.Nat.{mul-le}
use lib.IntN.{neg_ℤ}

pub difference-turned : (a b : ℤ) → a -ℤ b ≡ neg_ℤ (b -ℤ a)
difference-turned a b = omega (arith, ints)

pub size-sum : (x y : ℤ) (m n : ℕ) → unsigned_abs x ≤ m → unsigned_abs y ≤ n → unsigned_abs (x +ℤ y) ≤ m + n
size-sum x y m n a b = omega (arith, ints)

pub size-difference : (x y : ℤ) (m n : ℕ) → unsigned_abs x ≤ m → unsigned_abs y ≤ n → unsigned_abs (x -ℤ y) ≤ m + n
size-difference x y m n a b = omega (arith, ints)

pub size-product : (x y : ℤ) (m n : ℕ) → unsigned_abs x ≤ m → unsigned_abs y ≤ n → unsigned_abs (x *ℤ y) ≤ m * n
size-product x y m n a b = omega (arith, unsigned_abs-mul x y, mul-le (unsigned_abs x) (unsigned_abs y) m n a b)

pub size-some : (x : ℤ) → pos 0 <ℤ x → 0 < unsigned_abs x
size-some x h = omega (arith, ints)

pub same_from_difference : (x y : ℤ) → x -ℤ y ≡ pos 0 → x ≡ y
same_from_difference x y e = omega (arith, ints)

pub difference_of_same : (x y : ℤ) → x ≡ y → x -ℤ y ≡ pos 0
difference_of_same x y e = omega (arith, ints, e)

pub zero_from_size : (z : ℤ) → unsigned_abs z ≡ 0 → z ≡ pos 0
zero_from_size z e = omega (arith, ints, e)

pub zero_or_not : (z : ℤ) → (z ≡ pos 0) ⊎ (z ≢ pos 0)
zero_or_not z = grind (arith, ints)

pub pos-some : (n : ℕ) → 0 < n → pos 0 <ℤ pos n
pos-some n h = omega (arith, ints)

pub negative-some : (x : ℤ) → x <ℤ pos 0 → pos 0 <ℤ neg_ℤ x
negative-some x h = omega (arith, ints)
