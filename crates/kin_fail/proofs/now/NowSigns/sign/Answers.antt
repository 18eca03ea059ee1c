use Rattle.std.proofs.Common.{ap, ◌∙◌}
use Rattle.kin_num.specs.Quadratic.{Quadratic}
use Rattle.kin_num.specs.Instants.{sign_at}
use Rattle.kin_motion.specs.declared.form.Form.{Form}
use Rattle.kin_motion.specs.Forms.{sign_of_form, polynomial_of}
use Rattle.kin_fail.proofs.Seen.{line-read}
use Rattle.kin_fail.proofs.now.NowSigns.sign.Goals as goal

pub returns-in-Line-clause-value : goal.returns-in-Line-clause-value
unfolding sign_of_form
returns-in-Line-clause-value g c =
    c.sign_at.ensures.value ∙ ap (λ (p : Quadratic). sign_at p c.args.self.now.moment.now) (c.poly_of_line-p.ensures
    ∙ ap (λ (f : Form). polynomial_of c.args.self.now.motions.now f) (line-read _ c.args.form.now c.in-Line.dx c.in-Line.dy c.in-Line.off c.in-Line.i c.in-Line.j c.requires.askable c.in-Line.is))
