use Rattle.std.proofs.Common.{◌-◌, ◌≤◌, length, take}
use Rattle.kin_overlay.specs.Passing.{AreUntouched}
use Rattle.kin_overlay.proofs.passing.pass_front.Given as goal

abbrev pub invariant-loop-place : goal.invariant-loop-place
invariant-loop-place l = record {
  within : l.place ≤ length l.standing.list.now.records;
  untouched : AreUntouched l.standing l.puts.a.now l.puts.b.now (take l.place l.standing.list.now.records) l.a l.b l.first l.second;
}

abbrev pub decreases-loop-place : goal.decreases-loop-place
decreases-loop-place l = length l.standing.list.now.records - l.place
