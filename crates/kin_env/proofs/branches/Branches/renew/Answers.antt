use Rattle.kin_env.proofs.Steps.{renewed_by}
use Rattle.kin_env.proofs.branches.Branches.renew.Goals as goal

pub returns : goal.returns
returns g c =
    let p = renewed_by (g.O.Signs.scene c.args.now.now) c.requires.real c.args.self.now c.work.new.self c.clear.new.self c.requires.walked c.args.node c.requires.next c.args.out.now c.work.new.out
    c.work.ensures.same c.clear.ensures.same c.in_ok-work.ensures.worked c.clear.ensures.quiet c.clear.ensures.told in
    record { walked = p.0; renewed = p.1; tests = c.in_ok-work.ensures.tests }
