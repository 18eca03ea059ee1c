use Rattle.std.proofs.Common.{subst}
use Rattle.kin_overlay.specs.declared.half.Half.{Half}
use Rattle.kin_overlay.specs.Fingers.{AreLess}
use Rattle.kin_overlay.specs.Overlays.{told}
use Rattle.kin_overlay.proofs.overlay.Overlay.edit.Goals as goal

pub edit_a-requires-clause-less : goal.edit_a-requires-clause-less
edit_a-requires-clause-less c = subst (λ (h : Half). AreLess (told h c.args.edits.now c.args.self.now).a (told h c.args.edits.now c.args.self.now).b) c.in-A.is c.requires.less

pub edit_b-requires-clause-less : goal.edit_b-requires-clause-less
edit_b-requires-clause-less c = subst (λ (h : Half). AreLess (told h c.args.edits.now c.args.self.now).a (told h c.args.edits.now c.args.self.now).b) c.in-B.is c.requires.less
