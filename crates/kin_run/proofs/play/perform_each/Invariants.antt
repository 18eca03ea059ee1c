use Rattle.std.proofs.Common.{◌≡◌, ◌≤◌, drop}
use Rattle.kin_run.proofs.Vocabulary.{IsWhole, state_of, HasTallied, GainsSome, printer}
use Rattle.kin_status.proofs.Playing.{IsSoFar, ArePassedSoFar}
use Rattle.kin_run.proofs.play.perform_each.Given as goal

abbrev pub invariant-loop-line : goal.invariant-loop-line
invariant-loop-line g l = record {
  so_far : GainsSome (IsSoFar (state_of l.journal l.fn.world) l.lines (state_of l.journal l.world) (drop l.line-index l.lines)) (printer (g.K.Sink.held l.fn.sink) l.fn.out.items) (printer (g.K.Sink.held l.sink) l.out.items);
  passed : HasTallied (ArePassedSoFar (state_of l.journal l.fn.world) l.lines (state_of l.journal l.world) (drop l.line-index l.lines)) l.fn.tally l.tally;
  whole : IsWhole l.world;
  size : l.world.size ≡ l.fn.world.size;
  later : g.K.Sink.faults l.fn.sink ≤ g.K.Sink.faults l.sink;
}
