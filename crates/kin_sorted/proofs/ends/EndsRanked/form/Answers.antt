use Rattle.std.proofs.Common.{◌∙◌, arith}
use Rattle.std.proofs.lemmas.Int.{to_z-of_z}
use Rattle.kin_sorted.proofs.EndLaws.{end_form}
use Rattle.kin_sorted.proofs.ends.EndsRanked.form.Goals as goal

pub returns : goal.returns
returns c = end_form c.args.self.now.dx _ c.args.self.now.dy _ _ c.args.self.now.width c.args.left c.args.right (grind (arith, to_z-of_z)) (grind (arith, to_z-of_z))
    (grind (arith, to_z-of_z) ∙ c.offset.ensures)
