-- What the calls of a queue cost.
use Rattle.std.specs.Prelude.{◌≡◌, ℕ, ◌+◌, ◌*◌, ◌^◌, ◌≤◌}

-- the count rose by some r, at most twice the logarithm of one more than the number of entries
abbrev pub TakesSteps : ℕ → ℕ → ℕ → Type 0
TakesSteps entries old new = (r : ℕ) × (new ≡ old + r) × (2 ^ r ≤ (entries + 1) * (entries + 1))
