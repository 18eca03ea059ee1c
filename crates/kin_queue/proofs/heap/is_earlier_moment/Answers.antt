use Rattle.std.proofs.Common.{◌≡◌, ◌↔◌, refl}
use Rattle.std.specs.declared.cmp.Ordering.TheVariants.{Less}
use Rattle.kin_num.specs.Order.{IsEarlier}
use Rattle.kin_queue.specs.Tickets.{moment_in}
use Rattle.kin_queue.proofs.heap.is_earlier_moment.Goals as goal

pub returns-in-Less-clause-earlier : goal.returns-in-Less-clause-earlier
returns-in-Less-clause-earlier g c =
    let less : (c.compare_moments.result ≡ Less) ↔ IsEarlier (moment_in c.args.instants.now c.args.x.now) (moment_in c.args.instants.now c.args.y.now) = rw (c.moment.ensures, c.moment-2.ensures) at c.compare_moments.ensures.less in
    (λ t. less.0 c.in-Less.is, λ h. refl)
