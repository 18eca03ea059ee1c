-- A heap with a hole, and an entry in hand that has to come into it. No public clause cites this module.
use Rattle.std.specs.Prelude.{◌≡◌, ◌≢◌, ℕ, ◌+◌, ◌*◌, ◌^◌, ◌<◌, ◌≤◌, ◌↔◌, List, length, slice_index_or}
use Rattle.std.specs.List.{All}
use Rattle.kin_num.specs.declared.instant.Moment.{Moment}
use Rattle.kin_num.specs.Canonical.{IsCanonical}
use Rattle.kin_queue.specs.declared.instants.Instants.{Instants}
use Rattle.kin_queue.specs.declared.ticket.Ticket.{Ticket}
use Rattle.kin_queue.specs.Tickets.{entry_of, entries_of, IsStamped, AreStamped}
use Rattle.kin_queue.specs.Heap.{IsRightBelow, MayStandAbove, IsPlaceOf}

-- all is well but for the hole, and across it
pub record IsHollow (es : List (ℕ × Moment)) (ps : List ℕ) (hole : ℕ) (hand : ℕ × Moment) : Type 0 where
  pub within : hole < length es
  pub known : hand.0 < length ps
  pub canonical : All (λ e. IsCanonical e.1.at) es
  pub canonical_hand : IsCanonical hand.1.at
  pub placed : (i : ℕ) (d : ℕ × Moment) → i < length es → i ≢ hole → IsPlaceOf ps (slice_index_or es i d).0 i
  pub apart : (i : ℕ) (d : ℕ × Moment) → i < length es → i ≢ hole → (slice_index_or es i d).0 ≢ hand.0
  pub ordered : (p c : ℕ) (d : ℕ × Moment) → IsRightBelow p c → c < length es → p ≢ hole → c ≢ hole → MayStandAbove (slice_index_or es p d) (slice_index_or es c d)
  pub across : (p c : ℕ) (d : ℕ × Moment) → IsRightBelow p hole → IsRightBelow hole c → c < length es → MayStandAbove (slice_index_or es p d) (slice_index_or es c d)

-- the same of at most 2^32 tickets that have the keys of their moments
pub record IsOpen (s : Instants) (ts : List Ticket) (ps : List ℕ) (hole : ℕ) (hand : Ticket) : Type 0 where
  pub hollow : IsHollow (entries_of s ts) ps hole (entry_of s hand)
  pub stamped : AreStamped s ts
  pub stamped_hand : IsStamped s hand
  pub few : length ts ≤ 2 ^ 32

-- the entry in hand is not earlier than the one above the hole
abbrev pub FitsBelow : List (ℕ × Moment) → ℕ → ℕ × Moment → Type 0
FitsBelow es hole hand = (p : ℕ) (d : ℕ × Moment) → IsRightBelow p hole → MayStandAbove (slice_index_or es p d) hand

-- no entry right below the hole is earlier than the one in hand
abbrev pub FitsAbove : List (ℕ × Moment) → ℕ → ℕ × Moment → Type 0
FitsAbove es hole hand = (c : ℕ) (d : ℕ × Moment) → IsRightBelow hole c → c < length es → MayStandAbove hand (slice_index_or es c d)

-- the list has the entry
abbrev pub Stands : List (ℕ × Moment) → ℕ × Moment → Type 0
Stands es e = (i : ℕ) × (i < length es) × ((d : ℕ × Moment) → slice_index_or es i d ≡ e)

-- the list has the entry outside the hole
abbrev pub StandsOutside : List (ℕ × Moment) → ℕ → ℕ × Moment → Type 0
StandsOutside es hole e = (i : ℕ) × (i < length es) × (i ≢ hole) × ((d : ℕ × Moment) → slice_index_or es i d ≡ e)

-- the hole moved from one place to another, and outside it are the same entries
pub record HasMoved (hand : ℕ × Moment) (old : List (ℕ × Moment)) (start : ℕ) (new : List (ℕ × Moment)) (ps : List ℕ) (hole : ℕ) : Type 0 where
  pub hollow : IsHollow new ps hole hand
  pub same : (e : ℕ × Moment) → StandsOutside old start e ↔ StandsOutside new hole e

-- the earliest entry right below a place
pub record IsEarliestBelow (es : List (ℕ × Moment)) (place child : ℕ) : Type 0 where
  pub within : child < length es
  pub below : IsRightBelow place child
  pub earliest : (c : ℕ) (d : ℕ × Moment) → IsRightBelow place c → c < length es → MayStandAbove (slice_index_or es child d) (slice_index_or es c d)

-- the count rose by some r, and 2 ^ r times the factor is within the bound
abbrev pub RisesWithin : ℕ → ℕ → ℕ → ℕ → Type 0
RisesWithin factor bound old new = (r : ℕ) × (new ≡ old + r) × (2 ^ r * factor ≤ bound)
