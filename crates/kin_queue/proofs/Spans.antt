-- Tickets whose spans differ.
use Rattle.std.proofs.Common.{◌≢◌, ◌<◌, inl, inr, arith}
use Rattle.std.proofs.lemmas.Bool.{cases_lt}
use Rattle.kin_num.specs.Order.{IsEarlier}
use Rattle.kin_num.proofs.MomentOrder.{not_earlier_itself, earlier_trans}
use Rattle.kin_instant.proofs.KeyOrder.{lesser_span}
use Rattle.kin_queue.specs.declared.instants.Instants.{Instants}
use Rattle.kin_queue.specs.declared.ticket.Ticket.{Ticket}
use Rattle.kin_queue.specs.Tickets.{moment_in, IsStamped}

pub earlier_span : (ms : Instants) (x y : Ticket) → IsStamped ms x → IsStamped ms y → x.span < y.span → IsEarlier (moment_in ms x) (moment_in ms y)
earlier_span ms x y left right lt = inl (lesser_span (moment_in ms x).at (moment_in ms y).at left.canonical.form right.canonical.form x.span y.span left.key.span right.key.span lt)

pub span_earlier : (ms : Instants) (x y : Ticket) → IsStamped ms x → IsStamped ms y → x.span ≢ y.span → IsEarlier (moment_in ms x) (moment_in ms y) → x.span < y.span
span_earlier ms x y left right n h = elim (cases_lt x.span y.span) [
  | inl lt ↦ lt
  | inr ge ↦
      let m = moment_in ms x in
      let back : IsEarlier (moment_in ms y) (moment_in ms x) = earlier_span ms y x right left (omega arith) in
      absurd (not_earlier_itself m (earlier_trans m (moment_in ms y) m left.canonical.form right.canonical.form left.canonical.form h back))
]
