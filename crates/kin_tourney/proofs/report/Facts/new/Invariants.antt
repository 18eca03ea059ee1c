use Rattle.std.proofs.Common.{◌≡◌, map, replicate}
use Rattle.std.specs.Prelude.{Option, None}
use Rattle.kin_motion.specs.declared.fact.Fact.{Fact}
use Rattle.kin_tourney.proofs.report.Facts.new.Given as goal

abbrev pub invariant-loop-node : goal.invariant-loop-node
invariant-loop-node g l = map g.K.Keyed.fact_of l.briefs.items ≡ replicate {A = Option Fact} l.node None
