use Rattle.std.proofs.Common.{◌≡◌, ◌++◌, ◌-◌, drop}
use Rattle.kin_motion.specs.Sweeps.{breakpoints_back}
use Rattle.kin_plain.proofs.diameter.put_breakpoints_back.Given as goal

abbrev pub invariant-loop-place : goal.invariant-loop-place
invariant-loop-place l = l.list.items ++ breakpoints_back (drop (l.place - 1) l.back) ≡ l.fn.list.items ++ breakpoints_back l.back
