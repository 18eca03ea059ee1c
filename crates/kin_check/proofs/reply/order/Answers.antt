use Rattle.kin_motion.specs.declared.keep.Keep.TheVariants.{Order}
use Rattle.kin_check.proofs.Replying.{keep_is, order_line, order_small}
use Rattle.kin_check.proofs.reply.order.Goals as goal

pub order_of-requires-clause-small : goal.order_of-requires-clause-small
order_of-requires-clause-small g c =
    order_small c.args.state.now c.requires c.args.s c.in-Some-Order.dx c.in-Some-Order.dy
    (keep_is c.args.state.now c.keeps.result.now c.args.s c.keep_at.result c.in-Some-Order.field-0 (Order c.in-Some-Order.dx c.in-Some-Order.dy) c.keeps.ensures c.keep_at.ensures c.in-Some-Order.is
    c.in-Some-Order.field-0-is)

pub returns-in_ok-order_of-in-Some-Order : goal.returns-in_ok-order_of-in-Some-Order
returns-in_ok-order_of-in-Some-Order g c =
    let kept =
    keep_is c.args.state.now c.keeps.result.now c.args.s c.keep_at.result c.in-Some-Order.field-0 (Order c.in-Some-Order.dx c.in-Some-Order.dy) c.keeps.ensures c.keep_at.ensures c.in-Some-Order.is
    c.in-Some-Order.field-0-is in (
      ((c.in-Some-Order.dx, c.in-Some-Order.dy, kept), tt),
      order_line c.args.state.now c.requires c.moment.result c.in_ok-sight-in-Some-Order.sight.moment c.in_ok-sight-in-Some-Order.sight.motions c.moment.ensures
          c.in_ok-sight-in-Some-Order.ensures.motions c.in_ok-sight-in-Some-Order.ensures.moment
          c.args.s c.in-Some-Order.dx c.in-Some-Order.dy c.in_ok-order_of-in-Some-Order.field-0.items kept c.in_ok-order_of-in-Some-Order.ensures,
    )
