-- Whole square roots.
use Rattle.std.specs.Prelude.{ℕ, ◌+◌, ◌*◌, ◌≤◌, ◌<◌}

-- r is the greatest whole number whose square is at most x
pub record IsWholeRoot (x r : ℕ) : Type 0 where
  pub at_most : r * r ≤ x
  pub greatest : x < (r + 1) * (r + 1)
