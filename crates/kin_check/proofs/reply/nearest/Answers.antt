use Rattle.std.proofs.Common.{refl, ◌∙◌}
use Rattle.kin_motion.specs.declared.keep.Keep.TheVariants.{Nearest}
use Rattle.kin_legs.specs.Paths.{plan_of}
use Rattle.kin_check.proofs.Changing.{plan_there}
use Rattle.kin_check.proofs.Replying.{has_keep, live_too, nearest_line}
use Rattle.kin_check.proofs.reply.nearest.Goals as goal

pub nearest_of-requires-clause-no_live : goal.nearest_of-requires-clause-no_live
nearest_of-requires-clause-no_live g c =
    live_too c.args.state.now c.requires c.moment.result c.in_ok-sight.sight.moment c.in_ok-sight.sight.motions c.moment.ensures c.in_ok-sight.ensures.motions c.in_ok-sight.ensures.moment c.args.no
    (plan_there (plan_of c.args.state.now.plans c.args.no) c.plan.result c.plan.ensures ∙ c.if-is_none.ensures)

pub returns : goal.returns
returns g c = (
  (
    has_keep c.args.state.now c.keeps.result.now Nearest c.keeps.ensures (c.if-not-has_keep.ensures.0 refl),
    plan_there (plan_of c.args.state.now.plans c.args.no) c.plan.result c.plan.ensures ∙ c.if-is_none.ensures,
  ),
  nearest_line c.args.state.now c.requires c.moment.result c.in_ok-sight.sight.moment c.in_ok-sight.sight.motions c.moment.ensures c.in_ok-sight.ensures.motions c.in_ok-sight.ensures.moment c.args.no
      c.in_ok-nearest_of.field-0 c.in_ok-nearest_of.ensures,
)
