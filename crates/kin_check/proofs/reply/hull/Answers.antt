use Rattle.std.proofs.Common.{refl}
use Rattle.kin_motion.specs.declared.keep.Keep.TheVariants.{Hull}
use Rattle.kin_check.proofs.Replying.{has_keep, hull_line}
use Rattle.kin_check.proofs.reply.hull.Goals as goal

pub returns : goal.returns
returns g c = (
  (has_keep c.args.state.now c.keeps.result.now Hull c.keeps.ensures (c.if-not-has_keep.ensures.0 refl), tt),
  hull_line c.args.state.now c.requires c.moment.result c.in_ok-sight.sight.moment c.in_ok-sight.sight.motions c.moment.ensures c.in_ok-sight.ensures.motions c.in_ok-sight.ensures.moment
      c.in_ok-cycle_of.field-0.items c.in_ok-cycle_of.ensures,
)
