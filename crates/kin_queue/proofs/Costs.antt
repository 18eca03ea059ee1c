-- The steps of a hole on its way.
use Rattle.std.proofs.Common.{◌≡◌, inl, inr, ◌+◌, ◌*◌, ◌^◌, ◌<◌, ◌≤◌, ℕ, arith}
use Rattle.std.proofs.lemmas.Nat.{mul-le, pow-add}
use Rattle.std.proofs.lemmas.Bool.{cases_eq}
use Rattle.kin_queue.specs.Cost.{TakesSteps}
use Rattle.kin_queue.specs.Hole.{RisesWithin}

-- where nothing is compared
pub none_taken : (n old : ℕ) → TakesSteps n old old
none_taken n old = (0, omega arith, omega arith)

-- what a hole takes on its way among at most one more entry
pub taken : (m n old new : ℕ) → RisesWithin 1 (m * m) old new → m ≤ n + 1 → TakesSteps n old new
taken m n old new (r, e, b) h = let square : m * m ≤ (n + 1) * (n + 1) = mul-le m m (n + 1) (n + 1) h h in (r, e, omega arith)

-- at most one comparison for a half of the factor
pub one_more : (factor less bound old at new : ℕ) → RisesWithin factor bound old at → at ≤ new → new ≤ at + 1 → 2 * less ≤ factor → RisesWithin less bound old new
one_more factor less bound old at new (r, e, b) low high h =
    let part : 2 ^ r * (2 * less) ≤ 2 ^ r * factor = mul-le (2 ^ r) (2 * less) (2 ^ r) factor (omega arith) h in
    elim (cases_eq new at) [
      | inl s ↦ (r, omega arith, omega arith)
      | inr s ↦ let step : 2 ^ (r + 1) ≡ 2 ^ r * 2 = pow-add 2 r 1 in (r + 1, omega arith, rw step (omega arith))
    ]

pub more_bound : (factor bound more old new : ℕ) → RisesWithin factor bound old new → bound ≤ more → RisesWithin factor more old new
more_bound factor bound more old new (r, e, b) h = (r, e, omega arith)

-- at most two comparisons for the square of twice the side
pub two_more : (factor i j old at new : ℕ) → RisesWithin factor (i * i) old at → at ≤ new → new ≤ at + 2 → 2 * i ≤ j → RisesWithin factor (j * j) old new
two_more factor i j old at new (r, e, b) low high h =
    let side : (2 * i) * (2 * i) ≤ j * j = mul-le (2 * i) (2 * i) j j h h in
    elim (cases_eq new at) [
      | inl s ↦ (r, omega arith, omega arith)
      | inr n ↦ elim (cases_eq new (at + 1)) [
        | inl s ↦ let step : 2 ^ (r + 1) ≡ 2 ^ r * 2 = pow-add 2 r 1 in (r + 1, omega arith, rw step (omega arith))
        | inr s ↦ let step : 2 ^ (r + 2) ≡ 2 ^ r * 4 = pow-add 2 r 2 in (r + 2, omega arith, rw step (omega arith))
      ]
    ]

-- a way down by itself
pub no_side : (side bound old new : ℕ) → 0 < side → RisesWithin (side * side) bound old new → RisesWithin 1 bound old new
no_side side bound old new some (r, e, b) =
    let one : 1 * 1 ≤ side * side = mul-le 1 1 side side some some in
    let less : 2 ^ r * 1 ≤ 2 ^ r * (side * side) = mul-le (2 ^ r) 1 (2 ^ r) (side * side) (omega arith) (omega arith) in
    (r, e, omega arith)

-- a way up that ends where it began, and the way down from there
pub both_ways : (side bound old at new : ℕ) → 0 < side → RisesWithin 1 side old at → RisesWithin (side * side) bound at new → RisesWithin 1 bound old new
both_ways side bound old at new some (r, e, b) (q, f, c) =
    let step : 2 ^ (r + q) ≡ 2 ^ r * 2 ^ q = pow-add 2 r q in
    let first : 2 ^ r * 2 ^ q ≤ side * 2 ^ q = mul-le (2 ^ r) (2 ^ q) side (2 ^ q) (omega arith) (omega arith) in
    let one : side * 1 ≤ side * side = mul-le side 1 side side (omega arith) some in
    let second : 2 ^ q * side ≤ 2 ^ q * (side * side) = mul-le (2 ^ q) side (2 ^ q) (side * side) (omega arith) (omega arith) in
    (r + q, omega arith, rw step (omega arith))
