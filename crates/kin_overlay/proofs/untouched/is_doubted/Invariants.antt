use Rattle.std.proofs.Common.{◌≡◌, ℕ, ◌<◌, false, Some}
use Rattle.std.specs.Prelude.{slice_get}
use Rattle.kin_motion.specs.declared.fact.Placed.{Placed}
use Rattle.kin_overlay.specs.Passing.{begins_with}
use Rattle.kin_overlay.proofs.untouched.is_doubted.Given as goal

abbrev pub invariant-loop-placed : goal.invariant-loop-placed
invariant-loop-placed l = (k : ℕ) (p : Placed) → k < l.placed-index → slice_get l.failed k ≡ Some p → begins_with p.fact.form l.left ≡ false
