use Rattle.std.proofs.Common.{◌≡◌, drop}
use Rattle.kin_tourney.specs.Tournament.{is_above_mark_from}
use Rattle.kin_cases.proofs.spares.SparesAboveSpares.spares.Given as goal

-- no mark so far is under the node
abbrev pub invariant-loop-slot : goal.invariant-loop-slot
invariant-loop-slot l = is_above_mark_from l.self.size l.fact.part 0 l.self.marks.now ≡ is_above_mark_from l.self.size l.fact.part l.slot (drop l.slot l.self.marks.now)
