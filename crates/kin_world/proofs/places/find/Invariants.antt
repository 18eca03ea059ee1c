use Rattle.std.proofs.Common.{◌≡◌, ◌≤◌, ℕ, Some, slice_get}
use Rattle.kin_world.proofs.places.find.Given as goal

-- the keep hasn't been passed
abbrev pub invariant-loop-k : goal.invariant-loop-k
invariant-loop-k l = (j : ℕ) → slice_get l.keeps j ≡ Some l.keep → l.k ≤ j
