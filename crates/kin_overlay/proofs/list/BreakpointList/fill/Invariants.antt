use Rattle.std.proofs.Common.{◌≡◌, ◌++◌, ◌-◌, List, length, take, get_or}
use Rattle.kin_overlay.specs.declared.record.Record.{Record}
use Rattle.kin_overlay.specs.Filling.{IsFillingAt}
use Rattle.kin_overlay.specs.Spans.{drafts, whole_sketch}
use Rattle.kin_overlay.proofs.list.BreakpointList.fill.Given as goal

abbrev pub invariant-loop-draft : goal.invariant-loop-draft
invariant-loop-draft g l = record {
  filling : IsFillingAt (g.O.Signs.scene l.now) l.a l.b (get_or l.a 0 0) (get_or l.b 0 0) (whole_sketch l.fn.span l.old l.between) l.first l.second (l.rest ++ drafts l.back) l.self.records l.fn.steps l.steps;
  begins : (more : List Record) × (l.self.records ≡ take (l.fn.span.front - 1) l.old ++ more);
}

abbrev pub decreases-loop-draft : goal.decreases-loop-draft
decreases-loop-draft g l = length l.rest
