use Rattle.std.proofs.Common.{◌≡◌, ◌+◌, ◌*◌, length}
use Rattle.kin_cert.specs.Cost.{TakesAtMost}
use Rattle.kin_cert.specs.Layout.{due_count}
use Rattle.kin_cert.specs.Mails.{IsPostedUpTo}
use Rattle.kin_cert.proofs.table.Table.post_each.Given as goal

abbrev pub invariant-loop-next : goal.invariant-loop-next
invariant-loop-next g l = record {
  posted : IsPostedUpTo l.moment l.fn.self.live l.self.live l.mail l.given;
  boxes : length l.mail ≡ length l.fn.mail;
  left : l.given + due_count l.self.live ≡ due_count l.fn.self.live;
  count : length l.self.live ≡ length l.fn.self.live;
  made : l.self.made ≡ l.fn.self.made;
  cost : TakesAtMost (length l.fn.self.live) (λ r. l.given * r) l.fn.steps l.steps;
}

abbrev pub decreases-loop-next : goal.decreases-loop-next
decreases-loop-next g l = due_count l.self.live
