-- Tickets, and the entries that they stand for.
use Rattle.std.proofs.Common.{◌≡◌, ◌≢◌, ℕ, suc, ◌+◌, ◌-◌, ◌<◌, List, [], ◌∷◌, ◌++◌, length, get_or, set, drop, take, false, refl, sym, ap, ap₂, ◌∙◌, subst, arith}
use Rattle.std.proofs.lemmas.List.{get_or-map, get_or-drop, get_or-take, length-map, map-append, map-set}
use Rattle.kin_num.specs.declared.instant.Shape.{Shape}
use Rattle.kin_num.specs.declared.instant.Phase.TheVariants.{At}
use Rattle.kin_num.specs.declared.instant.Moment.{Moment}
use Rattle.kin_num.specs.Canonical.{IsCanonical}
use Rattle.kin_instant.specs.Keys.{IsKeyOf}
use Rattle.kin_queue.specs.declared.instants.Instants.{Instants}
use Rattle.kin_queue.specs.declared.ticket.Ticket.{Ticket}
use Rattle.kin_queue.specs.Cells.{AreKept}
use Rattle.kin_queue.specs.Tickets.{moment_in, key_in, entry_of, entries_of, IsStamped, AreStamped}

-- what a slice gives outside
abbrev pub blank : Ticket
blank = record { span = 0; id = 0; phase = At; is_vague = false }

-- the first two tickets of those from a place on
pub first_from : (ts : List Ticket) (i : ℕ) → i < length ts → get_or (take (length ts - i) (drop i ts)) 0 blank ≡ get_or ts i blank
first_from ts i lt = get_or-take (length ts - i) (drop i ts) 0 blank (omega arith) ∙ get_or-drop i ts 0 blank ∙ ap (λ (k : ℕ). get_or ts k blank) (omega arith)

pub second_from : (ts : List Ticket) (i : ℕ) → i + 1 < length ts → get_or (take (length ts - i) (drop i ts)) 1 blank ≡ get_or ts (i + 1) blank
second_from ts i lt = get_or-take (length ts - i) (drop i ts) 1 blank (omega arith) ∙ get_or-drop i ts 1 blank

module _ (ms : Instants) where
  -- the entry of the ticket at a place
  pub entry_at : (ts : List Ticket) (i : ℕ) → i < length ts → (d : ℕ × Moment) → get_or (entries_of ms ts) i d ≡ entry_of ms (get_or ts i blank)
  entry_at ts i lt d = get_or-map (entry_of ms) ts i blank d lt

  pub entries_length : (ts : List Ticket) → length (entries_of ms ts) ≡ length ts
  entries_length ts = length-map ts (entry_of ms)

  pub ticket_there : (ts : List Ticket) (i : ℕ) → i < length (entries_of ms ts) → i < length ts
  ticket_there ts i lt = subst (λ (n : ℕ). i < n) (entries_length ts) lt

  pub entry_there : (ts : List Ticket) (i : ℕ) → i < length ts → i < length (entries_of ms ts)
  entry_there ts i lt = subst (λ (n : ℕ). i < n) (sym (entries_length ts)) lt

  pub entries_set : (ts : List Ticket) (i : ℕ) (t : Ticket) → entries_of ms (set ts i t) ≡ set (entries_of ms ts) i (entry_of ms t)
  entries_set ts i t = map-set (entry_of ms) ts i t

  pub entries_append : (ts : List Ticket) (t : Ticket) → entries_of ms (ts ++ t ∷ []) ≡ entries_of ms ts ++ entry_of ms t ∷ []
  entries_append ts t = map-append (entry_of ms) ts (t ∷ [])

-- the tickets of other ids keep their moments
module _ (old new : Instants) (id : ℕ) (others : AreKept old id new) where
  module _ (t : Ticket) (stamped : IsStamped old t) (other : t.id ≢ id) where
    same_moment : moment_in new t ≡ moment_in old t
    same_moment = ap (λ (w : Shape). record { at = w; phase = t.phase }) (others t.id stamped.held other).is

    still_stamped : IsStamped new t
    still_stamped = record {
      held = (others t.id stamped.held other).held;
      canonical = subst (λ (m : Moment). IsCanonical m.at) (sym same_moment) stamped.canonical;
      key = subst (λ (m : Moment). IsKeyOf (key_in t) m) (sym same_moment) stamped.key;
    }

  abbrev pub AreOthers : List Ticket → Type 0
  AreOthers ts = (i : ℕ) (d : Ticket) → i < length ts → (get_or ts i d).id ≢ id

  behind : (t : Ticket) (ts : List Ticket) → AreOthers (t ∷ ts) → AreOthers ts
  behind t ts o i d lt = o (suc i) d (omega arith)

  pub same_entries : (ts : List Ticket) → AreStamped old ts → AreOthers ts → entries_of new ts ≡ entries_of old ts
  same_entries [] s o = refl
  same_entries (t ∷ ts) s o =
      ap₂ (λ (m : Moment) (es : List (ℕ × Moment)). (t.id, m) ∷ es) (same_moment t (s 0 t (omega arith)) (o 0 t (omega arith)))
      (same_entries ts (λ k d lt. s (suc k) d (omega arith)) (behind t ts o))

  pub same_stamps : (ts : List Ticket) → AreStamped old ts → AreOthers ts → AreStamped new ts
  same_stamps ts s o = λ k d lt. still_stamped (get_or ts k d) (s k d lt) (o k d lt)
