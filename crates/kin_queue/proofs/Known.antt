-- The place of an id that is there, and what stands at the place of any id.
use Rattle.std.proofs.Common.{◌≡◌, ℕ, ◌<◌, ◌≤◌, Bool, List, length, get_or, Option, Some, None, IsSome, is_some, nat_eq, false, true, refl, sym, ap, subst, ◌∙◌, arith}
use Rattle.std.specs.FinMap as map
use Rattle.std.specs.FinMap.{get-from_entries}
use Rattle.std.proofs.lemmas.Cmp.{nat_cmp_total}
use Rattle.std.proofs.lemmas.Bool.{eqb-true, eq-eqb, false_from_ne_true}
use Rattle.kin_num.specs.declared.instant.Moment.{Moment}
use Rattle.kin_queue.specs.Agenda.{Agenda}
use Rattle.kin_queue.specs.declared.instants.Instants.{Instants}
use Rattle.kin_queue.specs.declared.ticket.Ticket.{Ticket}
use Rattle.kin_queue.specs.Tickets.{entry_of, entries_of}
use Rattle.kin_queue.specs.Heap.{IsHeap, agenda_of, IsPlaceOf}
use Rattle.kin_queue.proofs.Entries.{look_up}
use Rattle.kin_queue.proofs.Contents.{found, found_at, heap_apart}
use Rattle.kin_queue.proofs.Tickets.{blank, entry_at, entry_there, entries_length}

pub record IsKnownAt (es : List (ℕ × Moment)) (ps : List ℕ) (id place : ℕ) : Type 0 where
  pub known : id < length ps
  pub within : place < length es
  pub entry : ℕ × Moment
  pub stands : (d : ℕ × Moment) → get_or es place d ≡ entry
  pub names : entry.0 ≡ id

module _ (es : List (ℕ × Moment)) (ps : List ℕ) (heap : IsHeap es ps) (id : ℕ) where
  stands_at : (v : Moment) → look_up id es ≡ Some v → IsKnownAt es ps id (get_or ps id 0)
  stands_at v h =
      let s = found es id v h in
      let p : IsPlaceOf ps id s.0 = subst (λ (k : ℕ × Moment). IsPlaceOf ps k.0 s.0) (s.2 (id, v)) (heap.placed s.0 (id, v) s.1) in
      subst (IsKnownAt es ps id) (sym p.1) (record { known = p.0; within = s.1; entry = (id, v); stands = s.2; names = refl })

  pub known_at : (next : ℕ) (a : Agenda) → agenda_of es next ≡ a → IsSome (map.get a.moments id) → IsKnownAt es ps id (get_or ps id 0)
  known_at next a e some = at (look_up id es) refl
    where
      seen : map.get a.moments id ≡ look_up id es
      seen = sym (ap (λ (x : Agenda). map.get x.moments id) e) ∙ get-from_entries nat_cmp_total es id

      at : (o : Option Moment) → look_up id es ≡ o → IsKnownAt es ps id (get_or ps id 0)
      at (Some v) h = stands_at v h
      at None h = absurd (let n : false ≡ true = subst (λ (x : Option Moment). IsSome x) (seen ∙ h) some in cc)

  pub nowhere_at : (next : ℕ) (a : Agenda) → agenda_of es next ≡ a → ¬ (IsKnownAt es ps id (get_or ps id 0)) → is_some (map.get a.moments id) ≡ false
  nowhere_at next a e n = false_from_ne_true (is_some (map.get a.moments id)) (λ t. n (known_at next a e t))

  pub there_at : (next : ℕ) (a : Agenda) → agenda_of es next ≡ a → (place : ℕ) (e : ℕ × Moment) → place < length es → ((d : ℕ × Moment) → get_or es place d ≡ e) → e.0 ≡ id → is_some (map.get a.moments id) ≡ true
  there_at next a view place e lt stands names =
      ap (λ (x : Agenda). is_some (map.get x.moments id)) (sym view)
      ∙ ap is_some (get-from_entries nat_cmp_total es id)
      ∙ ap (λ (k : ℕ). is_some (look_up k es)) (sym names)
      ∙ ap is_some (found_at es (heap_apart es ps heap) e (place, lt, stands))

-- the ticket at the place of an id tells whether the id is there
module _ (ms : Instants) (ts : List Ticket) (ps : List ℕ) (heap : IsHeap (entries_of ms ts) ps) (id : ℕ) (next : ℕ) (a : Agenda) (view : agenda_of (entries_of ms ts) next ≡ a) where
  pub unplaced : length ps ≤ id → is_some (map.get a.moments id) ≡ false
  unplaced far = nowhere_at (entries_of ms ts) ps heap id next a view (λ k. absurd (let lt = k.known in omega arith))

  pub outside : length ts ≤ get_or ps id 0 → is_some (map.get a.moments id) ≡ false
  outside far = nowhere_at (entries_of ms ts) ps heap id next a view (λ k. absurd (let lt = k.within in let n = entries_length ms ts in omega arith))

  module _ (inside : get_or ps id 0 < length ts) where
    at_place : (d : ℕ × Moment) → get_or (entries_of ms ts) (get_or ps id 0) d ≡ entry_of ms (get_or ts (get_or ps id 0) blank)
    at_place d = entry_at ms ts (get_or ps id 0) inside d

    told : (b : Bool) → nat_eq (get_or ts (get_or ps id 0) blank).id id ≡ b → b ≡ is_some (map.get a.moments id)
    told true e = sym (there_at (entries_of ms ts) ps heap id next a view (get_or ps id 0) (entry_of ms (get_or ts (get_or ps id 0) blank)) (entry_there ms ts (get_or ps id 0) inside) at_place (eqb-true (get_or ts (get_or ps id 0) blank).id id e))
    told false e = sym (nowhere_at (entries_of ms ts) ps heap id next a view (λ k.
        let same : (get_or ts (get_or ps id 0) blank).id ≡ id = ap (λ (x : ℕ × Moment). x.0) (sym (at_place k.entry) ∙ k.stands k.entry) ∙ k.names in
        absurd (let both : true ≡ false = sym (eq-eqb (get_or ts (get_or ps id 0) blank).id id same) ∙ e in cc)))

    pub told_there : nat_eq (get_or ts (get_or ps id 0) blank).id id ≡ is_some (map.get a.moments id)
    told_there = told (nat_eq (get_or ts (get_or ps id 0) blank).id id) refl
