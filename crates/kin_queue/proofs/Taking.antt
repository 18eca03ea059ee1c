-- The map after a ticket was taken out.
use Rattle.std.proofs.Common.{◌≡◌, ◌⊎◌, ◌↔◌, ℕ, ◌+◌, ◌<◌, List, [], ◌∷◌, ◌++◌, length, get_or, arith}
use Rattle.std.specs.Ordering.{nat_cmp}
use Rattle.std.specs.FinMap.{remove, from_entries}
use Rattle.std.proofs.lemmas.List.{length-append}
use Rattle.kin_num.specs.declared.instant.Moment.{Moment}
use Rattle.kin_queue.specs.declared.instants.Instants.{Instants}
use Rattle.kin_queue.specs.declared.ticket.Ticket.{Ticket}
use Rattle.kin_queue.specs.Tickets.{entry_of, entries_of}
use Rattle.kin_queue.specs.Heap.{IsKeyed}
use Rattle.kin_queue.specs.Hole.{Stands, StandsOutside}
use Rattle.kin_queue.proofs.Tickets.{entry_there}
use Rattle.kin_queue.proofs.Opening.{keyed_front, outside_end, left_out}
use Rattle.kin_queue.proofs.Contents.{heap_apart, moments_removed}

module _ (ms : Instants) (ts : List Ticket) (t : Ticket) (ps : List ℕ) (keyed : IsKeyed ms (ts ++ t ∷ []) ps) (place : ℕ) where
  longer : length (ts ++ t ∷ []) ≡ length ts + 1
  longer = length-append ts (t ∷ [])

  -- the last one
  pub last_taken : place ≡ length ts → (d : ℕ × Moment) → from_entries {R = nat_cmp} (entries_of ms ts) ≡ remove (from_entries (entries_of ms (ts ++ t ∷ []))) (get_or (entries_of ms (ts ++ t ∷ [])) place d).0
  last_taken end d =
      let inside : place < length (ts ++ t ∷ []) = let l = longer in omega arith in
      moments_removed (entries_of ms (ts ++ t ∷ [])) (entries_of ms ts) place d (heap_apart (entries_of ms (ts ++ t ∷ [])) ps keyed.heap) (heap_apart (entries_of ms ts) ps (keyed_front ms ts t ps keyed).heap) (entry_there ms (ts ++ t ∷ []) place inside)
      (rw end (λ e. ((outside_end ms ts t e).1, (outside_end ms ts t e).0)))

  -- another one, whose place the last one takes
  pub other_taken : place < length ts → (us : List Ticket) (qs : List ℕ) → IsKeyed ms us qs →
      ((e : ℕ × Moment) → Stands (entries_of ms us) e ↔ ((e ≡ entry_of ms t) ⊎ StandsOutside (entries_of ms ts) place e)) →
      (d : ℕ × Moment) → from_entries {R = nat_cmp} (entries_of ms us) ≡ remove (from_entries (entries_of ms (ts ++ t ∷ []))) (get_or (entries_of ms (ts ++ t ∷ [])) place d).0
  other_taken low us qs settled stands d =
      let inside : place < length (ts ++ t ∷ []) = let l = longer in omega arith in
      moments_removed (entries_of ms (ts ++ t ∷ [])) (entries_of ms us) place d (heap_apart (entries_of ms (ts ++ t ∷ [])) ps keyed.heap) (heap_apart (entries_of ms us) qs settled.heap) (entry_there ms (ts ++ t ∷ []) place inside)
      (λ e. (λ s. (left_out ms ts t ps keyed place low e).0 ((stands e).0 s), λ s. (stands e).1 ((left_out ms ts t ps keyed place low e).1 s)))
