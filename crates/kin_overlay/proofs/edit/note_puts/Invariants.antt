use Rattle.std.proofs.Common.{◌≡◌, ◌++◌, drop}
use Rattle.kin_motion.specs.Edits.{put_by}
use Rattle.kin_overlay.proofs.edit.note_puts.Given as goal

abbrev pub invariant-loop-edit : goal.invariant-loop-edit
invariant-loop-edit l = l.put.items ++ put_by (drop l.edit-index l.edits) ≡ l.initial.put.items ++ put_by l.edits
