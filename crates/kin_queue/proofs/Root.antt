-- The first entry of a heap is one of least moment, and so is each one at its moment.
use Rattle.std.proofs.Common.{◌≡◌, ◌/◌, ◌<◌, ◌≤◌, ℕ, zero, suc, List, [], ◌∷◌, length, get_or, slice_get, Option, IsSome, true, false, refl, sym, ap, subst, ◌∙◌, arith}
use Rattle.std.specs.Ordering.{nat_cmp}
use Rattle.std.specs.FinMap.{FinMap, remove, from_entries, get-from_entries}
use Rattle.std.proofs.lemmas.Cmp.{nat_cmp_total}
use Rattle.std.proofs.lemmas.List.{get_or_default}
use Rattle.std.proofs.lemmas.Option.{slice_get-get_or}
use Rattle.kin_num.specs.declared.instant.Moment.{Moment}
use Rattle.kin_num.specs.Order.{IsEarlier}
use Rattle.kin_queue.specs.Agenda.{Agenda, IsNext, without}
use Rattle.kin_queue.specs.Heap.{IsHeap, IsRightBelow, MayStandAbove, IsWithFirst, agenda_of}
use Rattle.kin_queue.proofs.Entries.{look_up-place}
use Rattle.kin_queue.proofs.Contents.{heap_apart, found_at}
use Rattle.kin_queue.proofs.Order.{canonical_at, above_trans, above_itself}

module _ (es : List (ℕ × Moment)) (ps : List ℕ) (heap : IsHeap es ps) (d : ℕ × Moment) where
  least_up_to : (n i : ℕ) → i ≤ n → i < length es → MayStandAbove (get_or es 0 d) (get_or es i d)
  least_up_to n zero le lt = above_itself (get_or es 0 d)
  least_up_to zero (suc i) le lt = absurd (omega arith)
  least_up_to (suc n) (suc i) le lt =
      let up : IsRightBelow (i / 2) (suc i) = (omega arith, omega arith) in
      let high : i / 2 < length es = omega arith in
      above_trans (get_or es 0 d) (get_or es (i / 2) d) (get_or es (suc i) d) (canonical_at es 0 d heap.canonical (omega arith)) (canonical_at es (i / 2) d heap.canonical high) (canonical_at es (suc i) d heap.canonical lt)
      (least_up_to n (i / 2) (omega arith) high) (heap.ordered (i / 2) (suc i) d up lt)

  pub least_first : (i : ℕ) → i < length es → MayStandAbove (get_or es 0 d) (get_or es i d)
  least_first i lt = least_up_to i i (omega arith) lt

-- the first entry is at its own moment
pub with_itself : (es : List (ℕ × Moment)) → IsWithFirst es 0
with_itself es = λ some. (some, λ d. refl)

-- an entry at the moment of the first one is one of least moment
pub heap_next : (es : List (ℕ × Moment)) (ps : List ℕ) → IsHeap es ps → (next : ℕ) → IsWithFirst es next → IsNext (from_entries es) (slice_get es next)
heap_next [] ps heap next tied = refl
heap_next (e ∷ es) ps heap next tied =
    let t = tied (omega arith) in
    subst (λ (o : Option (ℕ × Moment)). IsNext (from_entries (e ∷ es)) o) (sym (slice_get-get_or (e ∷ es) next e t.0))
    (record {
      there = get-from_entries nat_cmp_total (e ∷ es) (get_or (e ∷ es) next e).0 ∙ found_at (e ∷ es) (heap_apart (e ∷ es) ps heap) (get_or (e ∷ es) next e) (next, t.0, λ d. get_or_default (e ∷ es) next d e t.0);
      least = λ id at h.
          let r = look_up-place (e ∷ es) id at (sym (get-from_entries nat_cmp_total (e ∷ es) id) ∙ h) in
          subst (λ (m : Moment). ¬ (IsEarlier at m)) (sym (t.1 e))
          (subst (λ (k : ℕ × Moment). MayStandAbove (get_or (e ∷ es) 0 e) k) (r.2 e) (least_first (e ∷ es) ps heap e r.0 r.1));
    })

module _ (es : List (ℕ × Moment)) (next : ℕ) (a : Agenda) (view : agenda_of es next ≡ a) (some : IsSome a.next) where
  inside_of : (xs : List (ℕ × Moment)) (i : ℕ) → IsSome (slice_get xs i) → i < length xs
  inside_of [] i h = absurd (let e : false ≡ true = h in cc)
  inside_of (x ∷ xs) zero h = omega arith
  inside_of (x ∷ xs) (suc i) h = let lt = inside_of xs i h in omega arith

  pub next_inside : next < length es
  next_inside = inside_of es next (subst (λ (x : Agenda). IsSome x.next) (sym view) some)

  left_of : (xs : List (ℕ × Moment)) (m : FinMap nat_cmp Moment) → next < length xs → ((d : ℕ × Moment) → m ≡ remove (from_entries xs) (get_or xs next d).0) → m ≡ without (from_entries xs) (slice_get xs next)
  left_of [] m lt taken = absurd (omega arith)
  left_of (x ∷ xs) m lt taken = subst (λ (o : Option (ℕ × Moment)). m ≡ without (from_entries (x ∷ xs)) o) (sym (slice_get-get_or (x ∷ xs) next x lt)) (taken x)

  -- what is left without the next entry
  pub next_taken : (m : FinMap nat_cmp Moment) → ((d : ℕ × Moment) → m ≡ remove (from_entries es) (get_or es next d).0) → m ≡ without a.moments a.next
  next_taken m taken = left_of es m next_inside taken ∙ ap (λ (x : Agenda). without x.moments x.next) view
