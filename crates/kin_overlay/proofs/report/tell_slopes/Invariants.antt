use Rattle.std.proofs.Common.{take}
use Rattle.std.specs.Prelude.{flat_map}
use Rattle.kin_overlay.specs.Remembered.{slope_facts, facts_of}
use Rattle.kin_overlay.specs.Reports.{IsTold}
use Rattle.kin_overlay.proofs.report.tell_slopes.Given as goal

abbrev pub invariant-loop-place : goal.invariant-loop-place
invariant-loop-place l = IsTold l.part (facts_of l.other) (flat_map slope_facts (take l.place l.list.records)) l.fn.told.items l.told.items
