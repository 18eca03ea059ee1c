-- Tickets at the moment of the first one.
use Rattle.std.proofs.Common.{◌≡◌, ℕ, ◌<◌, List, length, get_or, sym, ap, ◌∙◌}
use Rattle.kin_num.specs.declared.instant.Moment.{Moment}
use Rattle.kin_queue.specs.declared.instants.Instants.{Instants}
use Rattle.kin_queue.specs.declared.ticket.Ticket.{Ticket}
use Rattle.kin_queue.specs.Tickets.{moment_in, entries_of}
use Rattle.kin_queue.specs.Heap.{IsWithFirst}
use Rattle.kin_queue.proofs.Tickets.{blank, entry_at, entry_there, ticket_there}

module _ (s : Instants) (ts : List Ticket) where
  moment_at : (i : ℕ) (d : ℕ × Moment) → i < length ts → (get_or (entries_of s ts) i d).1 ≡ moment_in s (get_or ts i blank)
  moment_at i d lt = ap (λ (e : ℕ × Moment). e.1) (entry_at s ts i lt d)

  pub tied_at : (place : ℕ) → place < length ts → moment_in s (get_or ts place blank) ≡ moment_in s (get_or ts 0 blank) → IsWithFirst (entries_of s ts) place
  tied_at place inside same = λ some. (entry_there s ts place inside, λ d. moment_at place d inside ∙ same ∙ sym (moment_at 0 d (ticket_there s ts 0 some)))
