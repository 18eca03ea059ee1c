use Rattle.std.proofs.Common.{◌≡◌, ℕ, ◌<◌, Some}
use Rattle.std.specs.Prelude.{slice_get}
use Rattle.kin_motion.specs.declared.fact.Placed.{Placed}
use Rattle.kin_overlay.proofs.standing.has_failed.Given as goal

abbrev pub invariant-loop-placed : goal.invariant-loop-placed
invariant-loop-placed l = (k : ℕ) (p : Placed) → k < l.placed-index → slice_get l.failed k ≡ Some p → p.fact ≡ l.fact → ⊥
