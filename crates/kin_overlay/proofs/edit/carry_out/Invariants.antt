use Rattle.std.proofs.Common.{◌≡◌, ◌++◌, drop}
use Rattle.kin_motion.specs.Edits.{all_edited, dropped_by, AreFitting}
use Rattle.kin_overlay.proofs.edit.carry_out.Given as goal

abbrev pub invariant-loop-edit : goal.invariant-loop-edit
invariant-loop-edit l = record {
  fit : AreFitting (drop l.edit-index l.edits) l.list.items;
  led : all_edited (drop l.edit-index l.edits) l.list.items ≡ all_edited l.edits l.fn.list.items;
  noted : l.gone.items ++ dropped_by (drop l.edit-index l.edits) l.list.items ≡ l.fn.gone.items ++ dropped_by l.edits l.fn.list.items;
}
