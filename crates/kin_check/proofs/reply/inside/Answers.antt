use Rattle.std.proofs.Common.{refl}
use Rattle.kin_motion.specs.declared.keep.Keep.TheVariants.{Range}
use Rattle.kin_check.proofs.Replying.{has_keep, inside_line}
use Rattle.kin_check.proofs.reply.inside.Goals as goal

pub returns : goal.returns
returns g c = (
  (has_keep c.args.state.now c.keeps.result.now Range c.keeps.ensures (c.if-not-has_keep.ensures.0 refl), tt),
  inside_line c.args.state.now c.requires.sound c.moment.result c.in_ok-sight.sight.moment c.in_ok-sight.sight.motions c.moment.ensures c.in_ok-sight.ensures.motions c.in_ok-sight.ensures.moment
      c.args.rect.now c.in_ok-inside.inside.items c.in_ok-inside.ensures,
)
