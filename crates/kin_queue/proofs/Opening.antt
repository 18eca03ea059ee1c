-- Tickets before and after one of them comes in or goes.
use Rattle.std.proofs.Common.{◌≡◌, ◌⊎◌, ◌↔◌, ℕ, ◌+◌, ◌^◌, ◌<◌, ◌≤◌, List, [], ◌∷◌, ◌++◌, length, get_or, None, sym, subst, ◌∙◌, arith}
use Rattle.std.proofs.Math.ListN.{get_or-append}
use Rattle.std.proofs.Math.Seq.{get_or-append_seam}
use Rattle.std.proofs.lemmas.List.{length-append}
use Rattle.std.proofs.lemmas.List.Elements.{All-append}
use Rattle.kin_num.specs.declared.instant.Moment.{Moment}
use Rattle.kin_queue.specs.declared.instants.Instants.{Instants}
use Rattle.kin_queue.specs.declared.ticket.Ticket.{Ticket}
use Rattle.kin_queue.specs.Tickets.{entry_of, entries_of, IsStamped, AreStamped}
use Rattle.kin_queue.specs.Cells.{Extends}
use Rattle.kin_queue.specs.Heap.{IsHeap, IsKeyed, IsWithFirst, IsLed}
use Rattle.kin_queue.specs.Hole.{IsHollow, IsOpen, FitsBelow, Stands, StandsOutside}
use Rattle.kin_queue.proofs.Entries.{look_up}
use Rattle.kin_queue.proofs.Tickets.{entries_length, entries_append, entry_there}
use Rattle.kin_queue.proofs.Begin.{hollow_in, hollow_out, heap_front, fits_below_least, outside_last, left_over}

-- more known places do no harm
pub heap_within : (es : List (ℕ × Moment)) (ps qs : List ℕ) → IsHeap es ps → Extends ps qs → IsHeap es qs
heap_within es ps qs heap more = record {
  canonical = heap.canonical;
  placed = λ i d lt.
      let p = heap.placed i d lt in
      let q = more (get_or es i d).0 p.0 in
      (q.0, q.1 0 ∙ p.1);
  ordered = heap.ordered;
}

keyed_within : (ms : Instants) (ts : List Ticket) (ps qs : List ℕ) → IsKeyed ms ts ps → Extends ps qs → IsKeyed ms ts qs
keyed_within ms ts ps qs keyed more = record { heap = heap_within (entries_of ms ts) ps qs keyed.heap more; stamped = keyed.stamped; few = keyed.few }

pub led_within : (ms : Instants) (ts : List Ticket) (ps qs : List ℕ) (next : ℕ) → IsLed ms ts ps next → Extends ps qs → IsLed ms ts qs next
led_within ms ts ps qs next led more = record { keyed = keyed_within ms ts ps qs led.keyed more; least = led.least }

module _ (ms : Instants) (ts : List Ticket) (t : Ticket) where
  abbrev es : List (ℕ × Moment)
  es = entries_of ms ts

  abbrev x : ℕ × Moment
  x = entry_of ms t

  longer : length (ts ++ t ∷ []) ≡ length ts + 1
  longer = length-append ts (t ∷ [])

  one_stamped : IsStamped ms t → AreStamped ms (t ∷ [])
  one_stamped s = λ k d lt. subst (λ (i : ℕ). IsStamped ms (get_or (t ∷ []) i d)) (let z : 0 ≡ k = omega arith in z) s

  pub open_in : (ps : List ℕ) → IsKeyed ms ts ps → look_up t.id (entries_of ms ts) ≡ None → IsStamped ms t → t.id < length ps → length ts < 2 ^ 32 → IsOpen ms (ts ++ t ∷ []) ps (length ts) t
  open_in ps keyed none stamped known room = record {
    hollow = subst (λ (l : List (ℕ × Moment)). IsHollow l ps (length ts) (entry_of ms t)) (sym (entries_append ms ts t))
        (subst (λ (n : ℕ). IsHollow (entries_of ms ts ++ entry_of ms t ∷ []) ps n (entry_of ms t)) (entries_length ms ts) (hollow_in es x ps keyed.heap none stamped.canonical known));
    stamped = All-append (IsStamped ms) ts (t ∷ []) keyed.stamped (one_stamped stamped);
    stamped_hand = stamped;
    few = let l = longer in omega arith;
  }

  pub outside_end : (e : ℕ × Moment) → StandsOutside (entries_of ms (ts ++ t ∷ [])) (length ts) e ↔ Stands (entries_of ms ts) e
  outside_end e = subst (λ (l : List (ℕ × Moment)). StandsOutside l (length ts) e ↔ Stands (entries_of ms ts) e) (sym (entries_append ms ts t))
      (subst (λ (n : ℕ). StandsOutside (entries_of ms ts ++ entry_of ms t ∷ []) n e ↔ Stands (entries_of ms ts) e) (entries_length ms ts) (outside_last es x e))

  module _ (ps : List ℕ) (keyed : IsKeyed ms (ts ++ t ∷ []) ps) where
    heap : IsHeap (entries_of ms ts ++ entry_of ms t ∷ []) ps
    heap = subst (λ (l : List (ℕ × Moment)). IsHeap l ps) (entries_append ms ts t) keyed.heap

    stamped_front : AreStamped ms ts
    stamped_front = λ k d lt. subst (IsStamped ms) (get_or-append ts (t ∷ []) d k lt) (keyed.stamped k d (let l = longer in omega arith))

    fewer : length ts ≤ 2 ^ 32
    fewer = let l = longer in let f = keyed.few in omega arith

    pub keyed_front : IsKeyed ms ts ps
    keyed_front = record { heap = heap_front es x ps heap; stamped = stamped_front; few = fewer }

    pub open_out : (place : ℕ) → place < length ts → IsOpen ms ts ps place t
    open_out place inside = record {
      hollow = hollow_out es x ps heap place (entry_there ms ts place inside);
      stamped = stamped_front;
      stamped_hand = subst (IsStamped ms) (get_or-append_seam ts t [] t) (keyed.stamped (length ts) t (let l = longer in omega arith));
      few = fewer;
    }

    pub fits_below_tied : (place : ℕ) → place < length ts → IsWithFirst (entries_of ms (ts ++ t ∷ [])) place → FitsBelow (entries_of ms ts) place (entry_of ms t)
    fits_below_tied place inside tied = fits_below_least es x ps heap place (entry_there ms ts place inside) (subst (λ (l : List (ℕ × Moment)). IsWithFirst l place) (entries_append ms ts t) tied)

    pub left_out : (place : ℕ) → place < length ts → (e : ℕ × Moment) → ((e ≡ entry_of ms t) ⊎ StandsOutside (entries_of ms ts) place e) ↔ StandsOutside (entries_of ms (ts ++ t ∷ [])) place e
    left_out place inside e = subst (λ (l : List (ℕ × Moment)). ((e ≡ entry_of ms t) ⊎ StandsOutside (entries_of ms ts) place e) ↔ StandsOutside l place e) (sym (entries_append ms ts t))
        (left_over es x ps heap place (entry_there ms ts place inside) e)
