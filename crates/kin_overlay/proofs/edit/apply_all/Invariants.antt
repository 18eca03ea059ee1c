use Rattle.std.proofs.Common.{◌≡◌, drop}
use Rattle.kin_motion.specs.Edits.{all_edited, AreFitting}
use Rattle.kin_overlay.proofs.edit.apply_all.Given as goal

abbrev pub invariant-loop-edit : goal.invariant-loop-edit
invariant-loop-edit l = record {
  fit : AreFitting (drop l.edit-index l.edits) l.list.items;
  led : all_edited (drop l.edit-index l.edits) l.list.items ≡ all_edited l.edits l.fn.list.items;
}
