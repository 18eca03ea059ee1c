-- How a queue lies in memory: a heap of its entries, and the place of each id. No public clause cites this module.
use Rattle.std.specs.Prelude.{◌≡◌, ℕ, ◌+◌, ◌*◌, ◌^◌, ◌<◌, ◌≤◌, List, length, slice_get, slice_index, slice_index_or}
use Rattle.std.specs.List.{All}
use Rattle.std.specs.FinMap.{from_entries}
use Rattle.kin_num.specs.declared.instant.Moment.{Moment}
use Rattle.kin_num.specs.Canonical.{IsCanonical}
use Rattle.kin_num.specs.Order.{IsEarlier}
use Rattle.kin_queue.specs.Agenda.{Agenda}
use Rattle.kin_queue.specs.declared.instants.Instants.{Instants}
use Rattle.kin_queue.specs.declared.ticket.Ticket.{Ticket}
use Rattle.kin_queue.specs.Tickets.{entries_of, AreStamped}

-- what a queue of these entries means, where the next one is at this place
abbrev pub agenda_of : List (ℕ × Moment) → ℕ → Agenda
agenda_of es next = record { moments = from_entries es; next = slice_get es next }

-- the second place lies right below the first
abbrev pub IsRightBelow : ℕ → ℕ → Type 0
IsRightBelow p c = (2 * p < c) × (c ≤ 2 * p + 2)

-- the second entry is not earlier than the first
abbrev pub MayStandAbove : ℕ × Moment → ℕ × Moment → Type 0
MayStandAbove above below = ¬ (IsEarlier below.1 above.1)

-- the id is known to be at this place
abbrev pub IsPlaceOf : List ℕ → ℕ → ℕ → Type 0
IsPlaceOf ps id i = (id < length ps) × (slice_index ps id ≡ i)

pub record IsHeap (es : List (ℕ × Moment)) (ps : List ℕ) : Type 0 where
  pub canonical : All (λ e. IsCanonical e.1.at) es
  pub placed : (i : ℕ) (d : ℕ × Moment) → i < length es → IsPlaceOf ps (slice_index_or es i d).0 i
  pub ordered : (p c : ℕ) (d : ℕ × Moment) → IsRightBelow p c → c < length es → MayStandAbove (slice_index_or es p d) (slice_index_or es c d)

-- if there are entries, the one at this place is at the moment of the first one
abbrev pub IsWithFirst : List (ℕ × Moment) → ℕ → Type 0
IsWithFirst es place = 0 < length es → (place < length es) × ((d : ℕ × Moment) → (slice_index_or es place d).1 ≡ (slice_index_or es 0 d).1)

-- a heap of tickets that have the keys of their moments, and whose places fit 32 bits
pub record IsKeyed (s : Instants) (ts : List Ticket) (ps : List ℕ) : Type 0 where
  pub heap : IsHeap (entries_of s ts) ps
  pub stamped : AreStamped s ts
  pub few : length ts ≤ 2 ^ 32

-- such a heap, and the place of the entry that comes next
pub record IsLed (s : Instants) (ts : List Ticket) (ps : List ℕ) (next : ℕ) : Type 0 where
  pub keyed : IsKeyed s ts ps
  pub least : IsWithFirst (entries_of s ts) next
