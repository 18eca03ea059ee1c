use Rattle.kin_motion.specs.declared.keep.Keep.TheVariants.{Extreme}
use Rattle.kin_check.proofs.Replying.{extreme_line, extreme_small, keep_is}
use Rattle.kin_check.proofs.reply.extreme.Goals as goal

pub extreme_of-requires-clause-small : goal.extreme_of-requires-clause-small
extreme_of-requires-clause-small g c =
    extreme_small c.args.state.now c.requires c.args.s c.in-Some-Extreme.dx c.in-Some-Extreme.dy
    (keep_is c.args.state.now c.keeps.result.now c.args.s c.keep_at.result c.in-Some-Extreme.field-0 (Extreme c.in-Some-Extreme.dx c.in-Some-Extreme.dy) c.keeps.ensures c.keep_at.ensures
    c.in-Some-Extreme.is c.in-Some-Extreme.field-0-is)

pub returns-in_ok-sight-in-Some-Extreme : goal.returns-in_ok-sight-in-Some-Extreme
returns-in_ok-sight-in-Some-Extreme g c =
    let kept =
    keep_is c.args.state.now c.keeps.result.now c.args.s c.keep_at.result c.in-Some-Extreme.field-0 (Extreme c.in-Some-Extreme.dx c.in-Some-Extreme.dy) c.keeps.ensures c.keep_at.ensures
    c.in-Some-Extreme.is c.in-Some-Extreme.field-0-is in (
      ((c.in-Some-Extreme.dx, c.in-Some-Extreme.dy, kept), tt),
      extreme_line c.args.state.now c.requires c.moment.result c.in_ok-sight-in-Some-Extreme.sight.moment c.in_ok-sight-in-Some-Extreme.sight.motions c.moment.ensures
          c.in_ok-sight-in-Some-Extreme.ensures.motions c.in_ok-sight-in-Some-Extreme.ensures.moment
          c.args.s c.in-Some-Extreme.dx c.in-Some-Extreme.dy c.extreme_of.result kept c.extreme_of.ensures,
    )
