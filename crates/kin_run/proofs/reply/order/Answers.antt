use Rattle.std.proofs.Common.{Some, ap, refl, sym, ◌∙◌}
use Rattle.kin_motion.specs.Orders.{IsOrder}
use Rattle.kin_motion.specs.declared.keep.Keep.{Keep}
use Rattle.kin_run.proofs.Replying.{seen_alike}
use Rattle.kin_run.proofs.reply.order.Goals as goal

pub returns-in_ok-order-in-Some-Order : goal.returns-in_ok-order-in-Some-Order
returns-in_ok-order-in-Some-Order c =
    let dx = c.in-Some-Order.field-0-0 in
    let dy = c.in-Some-Order.field-0-1 in
    let numbers = c.in_ok-order-in-Some-Order.field-0.items in
    let kept = sym c.keep.ensures ∙ c.in-Some-Order.is ∙ ap (λ (k : Keep). Some k) c.in-Some-Order.field-0-is in
    let is = seen_alike c.args.world.now c.requires (λ s. IsOrder s dx dy numbers) (c.in_ok-order-in-Some-Order.ensures.order dx dy kept) in
    record { reply = λ journal. (((dx, dy, kept), tt), record { dx = dx; dy = dy; kept = kept; order = numbers; ordered = is journal; line = refl }) }
