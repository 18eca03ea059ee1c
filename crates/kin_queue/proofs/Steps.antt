-- One step of a hole among tickets.
use Rattle.std.proofs.Common.{◌≡◌, ◌≢◌, ◌⊎◌, ◌↔◌, inl, inr, ℕ, ◌+◌, ◌*◌, ◌^◌, ◌<◌, ◌≤◌, Bool, true, false, IsTrue, List, length, get_or, set, refl, sym, ap, subst, ◌∙◌, arith}
use Rattle.std.specs.Int.{from_bool}
use Rattle.std.proofs.lemmas.List.{length-set}
use Rattle.std.proofs.lemmas.List.Elements.{All-set}
use Rattle.std.proofs.lemmas.Bool.{cases_eq}
use Rattle.kin_num.specs.declared.instant.Moment.{Moment}
use Rattle.kin_num.specs.Order.{IsEarlier}
use Rattle.kin_queue.specs.declared.instants.Instants.{Instants}
use Rattle.kin_queue.specs.declared.ticket.Ticket.{Ticket}
use Rattle.kin_queue.specs.Tickets.{entry_of, entries_of, IsStamped, AreStamped}
use Rattle.kin_queue.specs.Heap.{IsRightBelow, IsPlaceOf, MayStandAbove, IsHeap, IsKeyed}
use Rattle.kin_queue.specs.Hole.{IsHollow, FitsAbove, FitsBelow, HasMoved, IsEarliestBelow, Stands, StandsOutside}
use Rattle.kin_queue.proofs.Order.{AtInstant, earlier_above, above_itself}
use Rattle.kin_queue.proofs.Tickets.{blank, entry_at, entries_length, entries_set, entry_there}
use Rattle.kin_queue.proofs.Rising.{risen, fits_above_risen, fits_below_at}
use Rattle.kin_queue.proofs.Sinking.{sunk, fits_below_sunk, fits_above_at}
use Rattle.kin_queue.proofs.Filling.{filled, stands_filled}

-- the earlier one of two entries right below a place
module _ (es : List (ℕ × Moment)) (p : ℕ) (l r : ℕ × Moment) (inside : 2 * p + 1 + 1 < length es) (left : (d : ℕ × Moment) → get_or es (2 * p + 1) d ≡ l) (right : (d : ℕ × Moment) → get_or es (2 * p + 1 + 1) d ≡ r) where
  on_right : (c : ℕ) (d : ℕ × Moment) → c ≡ 2 * p + 1 + 1 → get_or es c d ≡ r
  on_right c d s = ap (λ (i : ℕ). get_or es i d) s ∙ right d

  on_left : (c : ℕ) (d : ℕ × Moment) → IsRightBelow p c → c ≢ 2 * p + 1 + 1 → get_or es c d ≡ l
  on_left c d b n = let s : c ≡ 2 * p + 1 = omega arith in ap (λ (i : ℕ). get_or es i d) s ∙ left d

  pub right_earliest : AtInstant l → AtInstant r → IsEarlier r.1 l.1 → IsEarliestBelow es p (2 * p + 1 + 1)
  right_earliest fl fr h = record {
    within = inside;
    below = (omega arith, omega arith);
    earliest = λ c d b lt. subst (λ (k : ℕ × Moment). MayStandAbove k (get_or es c d)) (sym (right d)) (elim (cases_eq c (2 * p + 1 + 1)) [
      | inl s ↦ subst (MayStandAbove r) (sym (on_right c d s)) (above_itself r)
      | inr n ↦ subst (MayStandAbove r) (sym (on_left c d b n)) (earlier_above r l fr fl h)
    ]);
  }

  pub left_earliest : ¬ (IsEarlier r.1 l.1) → IsEarliestBelow es p (2 * p + 1)
  left_earliest h = record {
    within = omega arith;
    below = (omega arith, omega arith);
    earliest = λ c d b lt. subst (λ (k : ℕ × Moment). MayStandAbove k (get_or es c d)) (sym (left d)) (elim (cases_eq c (2 * p + 1 + 1)) [
      | inl s ↦ subst (MayStandAbove l) (sym (on_right c d s)) h
      | inr n ↦ subst (MayStandAbove l) (sym (on_left c d b n)) (above_itself l)
    ]);
  }

-- its place, as a sum
pub earlier_child : (es : List (ℕ × Moment)) (p : ℕ) (l r : ℕ × Moment) → 2 * p + 1 + 1 < length es → ((d : ℕ × Moment) → get_or es (2 * p + 1) d ≡ l) → ((d : ℕ × Moment) → get_or es (2 * p + 1 + 1) d ≡ r) → AtInstant l → AtInstant r → (b : Bool) → (IsTrue b ↔ IsEarlier r.1 l.1) → IsEarliestBelow es p (2 * p + 1 + from_bool b)
earlier_child es p l r inside left right fl fr true h = right_earliest es p l r inside left right fl fr (h.0 refl)
earlier_child es p l r inside left right fl fr false h =
    let here : 2 * p + 1 ≡ 2 * p + 1 + 0 = omega arith in
    subst (IsEarliestBelow es p) here (left_earliest es p l r inside left right (λ k. absurd (let e : false ≡ true = h.1 k in cc)))

-- an entry that stands alone right below a place
pub last_earliest : (es : List (ℕ × Moment)) (p : ℕ) → length es ≡ 2 * p + 2 → IsEarliestBelow es p (2 * p + 1)
last_earliest es p n = record {
  within = omega arith;
  below = (omega arith, omega arith);
  earliest = λ c d b lt. let s : 2 * p + 1 ≡ c = omega arith in subst (λ (i : ℕ). MayStandAbove (get_or es (2 * p + 1) d) (get_or es i d)) s (above_itself (get_or es (2 * p + 1) d));
}

-- there is no entry below a place
pub fits_above_none : (ms : Instants) (ts : List Ticket) (p : ℕ) (t : Ticket) → length ts ≤ 2 * p + 1 → FitsAbove (entries_of ms ts) p (entry_of ms t)
fits_above_none ms ts p t n = λ c d b lt. absurd (let m = entries_length ms ts in omega arith)

module _ (ms : Instants) (ts : List Ticket) (ps : List ℕ) (h g : ℕ) (t : Ticket) (hollow : IsHollow (entries_of ms ts) ps h (entry_of ms t)) (inside : g < length ts) where
  abbrev es : List (ℕ × Moment)
  es = entries_of ms ts

  abbrev x : ℕ × Moment
  x = entry_of ms t

  abbrev u : Ticket
  u = get_or ts g blank

  is : (d : ℕ × Moment) → get_or (entries_of ms ts) g d ≡ entry_of ms (get_or ts g blank)
  is = entry_at ms ts g inside

  -- the ticket's place is known
  pub known_there : g ≢ h → (get_or ts g blank).id < length ps
  known_there apart = (subst (λ (k : ℕ × Moment). IsPlaceOf ps k.0 g) (is (entry_of ms t)) (hollow.placed g (entry_of ms t) (entry_there ms ts g inside) apart)).0

  abbrev Moved : List (ℕ × Moment) → ℕ → Type 0
  Moved old start = HasMoved (entry_of ms t) old start (entries_of ms (set ts h (get_or ts g blank))) (set ps (get_or ts g blank).id h) g

  module _ (below : IsRightBelow g h) where
    pub ticket_risen : (old : List (ℕ × Moment)) (start : ℕ) → HasMoved (entry_of ms t) old start (entries_of ms ts) ps h → Moved old start
    ticket_risen old start m = subst (λ (l : List (ℕ × Moment)). HasMoved (entry_of ms t) old start l (set ps (get_or ts g blank).id h) g) (sym (entries_set ms ts h u)) (risen es ps h g x (entry_of ms u) hollow below is old start m)

    pub fits_above_raised : IsEarlier (entry_of ms t).1 (entry_of ms (get_or ts g blank)).1 → FitsAbove (entries_of ms (set ts h (get_or ts g blank))) g (entry_of ms t)
    fits_above_raised e = subst (λ (l : List (ℕ × Moment)). FitsAbove l g (entry_of ms t)) (sym (entries_set ms ts h u)) (fits_above_risen es ps h g x (entry_of ms u) hollow below is e)

    pub fits_below_there : ¬ (IsEarlier (entry_of ms t).1 (entry_of ms (get_or ts g blank)).1) → FitsBelow (entries_of ms ts) h (entry_of ms t)
    fits_below_there n = fits_below_at es ps h g x (entry_of ms u) hollow below is n

  module _ (child : IsEarliestBelow (entries_of ms ts) h g) where
    pub ticket_sunk : (old : List (ℕ × Moment)) (start : ℕ) → HasMoved (entry_of ms t) old start (entries_of ms ts) ps h → Moved old start
    ticket_sunk old start m = subst (λ (l : List (ℕ × Moment)). HasMoved (entry_of ms t) old start l (set ps (get_or ts g blank).id h) g) (sym (entries_set ms ts h u)) (sunk es ps h g x (entry_of ms u) hollow child is old start m)

    pub fits_below_lowered : IsEarlier (entry_of ms (get_or ts g blank)).1 (entry_of ms t).1 → FitsBelow (entries_of ms (set ts h (get_or ts g blank))) g (entry_of ms t)
    fits_below_lowered e = subst (λ (l : List (ℕ × Moment)). FitsBelow l g (entry_of ms t)) (sym (entries_set ms ts h u)) (fits_below_sunk es ps h g x (entry_of ms u) hollow child is e)

    pub fits_above_there : ¬ (IsEarlier (entry_of ms (get_or ts g blank)).1 (entry_of ms t).1) → FitsAbove (entries_of ms ts) h (entry_of ms t)
    fits_above_there n = fits_above_at es ps h g x (entry_of ms u) hollow child is n

-- the ticket in hand comes into the hole
module _ (ms : Instants) (ts : List Ticket) (ps : List ℕ) (h : ℕ) (t : Ticket) (hollow : IsHollow (entries_of ms ts) ps h (entry_of ms t)) where
  pub ticket_filled : AreStamped ms ts → IsStamped ms t → length ts ≤ 2 ^ 32 → FitsBelow (entries_of ms ts) h (entry_of ms t) → FitsAbove (entries_of ms ts) h (entry_of ms t) → IsKeyed ms (set ts h t) (set ps t.id h)
  ticket_filled all stamped few over under = record {
    heap = subst (λ (l : List (ℕ × Moment)). IsHeap l (set ps t.id h)) (sym (entries_set ms ts h t)) (filled (entries_of ms ts) ps h (entry_of ms t) hollow over under);
    stamped = All-set (IsStamped ms) ts h t stamped all;
    few = subst (λ (n : ℕ). n ≤ 2 ^ 32) (sym (length-set ts h t)) few;
  }

  pub stands_there : (e : ℕ × Moment) → Stands (entries_of ms (set ts h t)) e ↔ ((e ≡ entry_of ms t) ⊎ StandsOutside (entries_of ms ts) h e)
  stands_there e = subst (λ (l : List (ℕ × Moment)). Stands l e ↔ ((e ≡ entry_of ms t) ⊎ StandsOutside (entries_of ms ts) h e)) (sym (entries_set ms ts h t)) (stands_filled (entries_of ms ts) ps h (entry_of ms t) hollow e)
