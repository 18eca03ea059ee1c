use Rattle.kin_wedge.proofs.Noting.{AreNoted}
use Rattle.kin_wedge.proofs.changed.note_all.Given as goal

abbrev pub invariant-loop-touch : goal.invariant-loop-touch
invariant-loop-touch l = AreNoted l.table l.touches l.changed.items l.touch-index
