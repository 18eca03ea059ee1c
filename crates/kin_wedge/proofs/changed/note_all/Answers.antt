use Rattle.std.proofs.Common.{None}
use Rattle.std.proofs.lemmas.List.Elements.{Contains-get_or}
use Rattle.kin_wedge.proofs.Noting.{noted_more}
use Rattle.kin_wedge.proofs.changed.note_all.Goals as goal

pub note_one-requires : goal.note_one-requires
note_one-requires c = record { slot = c.requires.slots _ (Contains-get_or c.args.touches.now c.loop-touch.touch-index (record { slot = 0; old = None; offer = None }) c.loop-touch-test.true) }

pub loop-touch-preserved : goal.loop-touch-preserved
loop-touch-preserved c =
    noted_more c.args.table.now c.args.touches.now c.loop-touch.changed.items c.note_one.new.changed.items c.loop-touch.touch-index (record { slot = 0; old = None; offer = None }) c.loop-touch-test.true c.loop-touch.invariant
    c.in_ok-note_one.ensures.keeps c.in_ok-note_one.ensures.added c.in_ok-note_one.ensures.only
