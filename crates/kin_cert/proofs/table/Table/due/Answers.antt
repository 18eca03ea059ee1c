use Rattle.std.proofs.Common.{◌≡◌, ℕ, Option, Some, None, MatchOption, List, subst}
use Rattle.std.specs.FinMap.{empty}
use Rattle.kin_num.specs.declared.instant.Moment.{Moment}
use Rattle.kin_queue.specs.Agenda.{IsLeast}
use Rattle.kin_cert.specs.Entries.{Entry}
use Rattle.kin_cert.specs.Facts.{Facts}
use Rattle.kin_cert.specs.Layout.{live_in, IsTable, IsDue, NoneDue}
use Rattle.kin_cert.proofs.Schedules.{Moments}
use Rattle.kin_cert.proofs.Dues.{due-some, due-none}
use Rattle.kin_cert.proofs.table.Table.due.Goals as goal

due-least-of : (slots : List (Option Entry)) (moments : Moments) (o : Option Moment) → IsTable slots moments → MatchOption o (moments ≡ empty) (λ m. (id : ℕ) × IsLeast moments (id, m)) → MatchOption o (NoneDue (live_in slots)) (λ m. IsDue (live_in slots) m)
due-least-of slots moments None table e = due-none slots moments table e
due-least-of slots moments (Some m) table least = due-some slots moments table least.0 m least.1

pub returns : goal.returns
returns c = subst (λ (t : Facts). MatchOption c.least.result (NoneDue t.live) (λ m. IsDue t.live m)) c.self.view_is (due-least-of c.self.inside.roll c.self.inside.schedule c.least.result c.self.invariant.table c.least.ensures)
