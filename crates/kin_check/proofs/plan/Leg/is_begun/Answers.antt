use Rattle.std.proofs.Common.{ap, ◌∙◌}
use Rattle.kin_motion.specs.Plans.{Leg}
use Rattle.kin_legs.specs.Paths.{whole}
use Rattle.kin_check.proofs.Legs.{begun_is}
use Rattle.kin_check.proofs.plan.Leg.is_begun.Goals as goal

pub returns : goal.returns
returns c =
    begun_is c.args.self.now c.args.moment.now c.is_after.result c.whole.result (c.whole.ensures ∙ ap (λ (l : Leg). whole l.from) c.self.view_is) c.requires c.recall_canonical.ensures
    c.is_after.ensures
