use Rattle.std.proofs.Common.{◌≡◌, ap, ◌∙◌}
use Rattle.kin_num.specs.Quadratic.{Quadratic}
use Rattle.kin_num.specs.Instants.{sign_at}
use Rattle.kin_motion.specs.Forms.{polynomial_of}
use Rattle.kin_fail.proofs.Seen.{holds-seen}
use Rattle.kin_cert.proofs.Seen.{on_timed}
use Rattle.kin_cert.proofs.timing.time_curve.Goals as goal

pub time_by-requires-clause-holds : goal.time_by-requires-clause-holds
time_by-requires-clause-holds g c =
    let p_is : c.poly_of-p.result ≡ polynomial_of c.args.motions.now c.args.fact.now.form = c.poly_of-p.ensures in
    ap (λ (q : Quadratic). sign_at q c.args.now.now) p_is ∙ holds-seen c.args.motions.now c.args.fact.now c.args.now.now c.requires.holds

pub returns-clause-ok : goal.returns-clause-ok
returns-clause-ok g c =
    let p_is : c.poly_of-p.result ≡ polynomial_of c.args.motions.now c.args.fact.now.form = c.poly_of-p.ensures in
    on_timed c.args.motions.now c.args.now.now c.args.fact.now c.args.id c.args.roll.now c.time_by.new.roll c.args.schedule.now c.time_by.new.schedule c.poly_of-p.result p_is c.time_by.result c.time_by.ensures.ok
