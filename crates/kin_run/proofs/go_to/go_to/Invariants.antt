use Rattle.std.proofs.Common.{◌≤◌}
use Rattle.kin_run.proofs.Vocabulary.{moments_left, printer}
use Rattle.kin_run.proofs.OnTheWay.{IsOnTheWay}
use Rattle.kin_run.proofs.go_to.go_to.Given as goal

abbrev pub invariant-loop-block : goal.invariant-loop-block
invariant-loop-block g l = record {
  on : IsOnTheWay l.journal l.fn.world l.fn.asked l.world (printer (g.K.Sink.held l.fn.sink) l.fn.out.items) (printer (g.K.Sink.held l.sink) l.out.items) l.fn.tally l.tally;
  later : g.K.Sink.faults l.fn.sink ≤ g.K.Sink.faults l.sink;
}

abbrev pub decreases-loop-block : goal.decreases-loop-block
decreases-loop-block g l = moments_left l.world.moment

abbrev pub invariant-loop-failures : goal.invariant-loop-failures
invariant-loop-failures g l = IsOnTheWay l.journal l.fn.world l.fn.asked l.world (printer (g.K.Sink.held l.fn.sink) l.fn.out.items) (printer (g.K.Sink.held l.fn.sink) l.fn.out.items) l.fn.tally l.tally

abbrev pub decreases-loop-failures : goal.decreases-loop-failures
decreases-loop-failures g l = moments_left l.world.moment
