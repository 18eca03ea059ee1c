use Rattle.kin_tourney.specs.Standings.{IsClosed}
use Rattle.kin_tourney.specs.Repairs.{IsDoubted}
use Rattle.kin_tourney.proofs.doubt.doubt_failed.Given as goal

abbrev pub invariant-loop-placed : goal.invariant-loop-placed
invariant-loop-placed l = record {
  closed : IsClosed l.doubts;
  doubted : IsDoubted l.initial.doubts l.doubts l.failed l.placed-index;
}
