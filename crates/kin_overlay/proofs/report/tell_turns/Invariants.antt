use Rattle.std.proofs.Common.{map, take}
use Rattle.kin_overlay.specs.Remembered.{turn_fact, facts_of}
use Rattle.kin_overlay.specs.Reports.{IsTold}
use Rattle.kin_overlay.proofs.report.tell_turns.Given as goal

abbrev pub invariant-loop-place : goal.invariant-loop-place
invariant-loop-place l = IsTold l.part (facts_of l.other) (map turn_fact (take l.place l.list.records)) l.fn.told.items l.told.items
