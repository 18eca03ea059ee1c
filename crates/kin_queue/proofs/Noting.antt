-- A heap whose instants take one more in.
use Rattle.std.proofs.Common.{◌≡◌, ℕ, List, None, sym, ap, ap₂, subst, ◌∙◌}
use Rattle.std.specs.Ordering.{nat_cmp}
use Rattle.std.specs.FinMap.{FinMap, get, insert, get-from_entries}
use Rattle.std.proofs.lemmas.Cmp.{nat_cmp_total}
use Rattle.std.proofs.lemmas.List.{get_or-map}
use Rattle.kin_num.specs.declared.instant.Shape.{Shape}
use Rattle.kin_num.specs.declared.instant.Phase.{Phase}
use Rattle.kin_num.specs.declared.instant.Moment.{Moment}
use Rattle.kin_num.specs.Canonical.{IsCanonical}
use Rattle.kin_instant.specs.Keys.{IsKeyOf}
use Rattle.kin_queue.specs.Agenda.{Agenda}
use Rattle.kin_queue.specs.declared.instants.Instants.{Instants}
use Rattle.kin_queue.specs.declared.ticket.Ticket.{Ticket}
use Rattle.kin_queue.specs.Tickets.{moment_in, key_in, entry_of, entries_of, IsStamped}
use Rattle.kin_queue.specs.Cells.{instant_in, IsHeld, IsHeldAt, AreKept, Extends}
use Rattle.kin_queue.specs.Heap.{IsHeap, IsKeyed, IsWithFirst, IsLed, agenda_of}
use Rattle.kin_queue.proofs.Entries.{look_up, look_up-missed}
use Rattle.kin_queue.proofs.Tickets.{entry_there, AreOthers, same_entries, same_stamps}
use Rattle.kin_queue.proofs.Opening.{heap_within}

pub same_insert : (m n : FinMap nat_cmp Moment) (i j : ℕ) (v w : Moment) → m ≡ n → i ≡ j → v ≡ w → insert m i v ≡ insert n j w
same_insert m n i j v w e f h = rw (e, f, h)

module _ (old new : Instants) (id : ℕ) (kept : AreKept old id new) (ts : List Ticket) (ps qs : List ℕ) (next : ℕ) (led : IsLed old ts ps next) (more : Extends ps qs)
    (a : Agenda) (view : agenda_of (entries_of old ts) next ≡ a) (absent : get a.moments id ≡ None) where
  none : look_up id (entries_of old ts) ≡ None
  none = sym (get-from_entries nat_cmp_total (entries_of old ts) id) ∙ ap (λ (x : Agenda). get x.moments id) view ∙ absent

  others : AreOthers old new id kept ts
  others i d lt e = look_up-missed (entries_of old ts) id none i (entry_of old d) (entry_there old ts i lt) (ap (λ (k : ℕ × Moment). k.0) (get_or-map (entry_of old) ts i d (entry_of old d) lt) ∙ e)

  as_before : entries_of new ts ≡ entries_of old ts
  as_before = same_entries old new id kept ts led.keyed.stamped others

  keyed_on : IsKeyed new ts qs
  keyed_on = record {
    heap = subst (λ (l : List (ℕ × Moment)). IsHeap l qs) (sym as_before) (heap_within (entries_of old ts) ps qs led.keyed.heap more);
    stamped = same_stamps old new id kept ts led.keyed.stamped others;
    few = led.keyed.few;
  }

  pub led_on : IsLed new ts qs next
  led_on = record { keyed = keyed_on; least = subst (λ (l : List (ℕ × Moment)). IsWithFirst l next) (sym as_before) led.least }

  pub agenda_before : agenda_of (entries_of new ts) next ≡ a
  agenda_before = ap (λ (l : List (ℕ × Moment)). agenda_of l next) as_before ∙ view

-- the ticket of the id whose instant is written down
module _ (s : Instants) (id : ℕ) (at : Moment) (noted : IsHeldAt s id at.at) (t : Ticket) (e : t.id ≡ id) (key : IsKeyOf (key_in t) at) where
  pub moment_noted : moment_in s t ≡ at
  moment_noted = ap₂ (λ (w : Shape) (p : Phase). record { at = w; phase = p }) (ap (instant_in s) e ∙ noted.is) key.phase

  pub stamped_on : IsCanonical at.at → IsStamped s t
  stamped_on canonical = record {
    held = subst (IsHeld s) (sym e) noted.held;
    canonical = subst (λ (m : Moment). IsCanonical m.at) (sym moment_noted) canonical;
    key = subst (λ (m : Moment). IsKeyOf (key_in t) m) (sym moment_noted) key;
  }
