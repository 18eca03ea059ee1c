-- The hole of an entry that comes in, and of one that goes.
use Rattle.std.proofs.Common.{◌≡◌, ◌≢◌, ◌⊎◌, ◌↔◌, inl, inr, ℕ, ◌+◌, ◌<◌, List, [], ◌∷◌, ◌++◌, length, get_or, None, sym, ap, subst, ◌∙◌, arith}
use Rattle.std.specs.List.{All}
use Rattle.std.proofs.Math.ListN.{get_or-append}
use Rattle.std.proofs.Math.Seq.{get_or-append_seam}
use Rattle.std.proofs.lemmas.List.{length-append}
use Rattle.std.proofs.lemmas.List.Elements.{All-append, All-from_get_or}
use Rattle.std.proofs.lemmas.Bool.{cases_eq}
use Rattle.kin_num.specs.declared.instant.Moment.{Moment}
use Rattle.kin_num.specs.Canonical.{IsCanonical}
use Rattle.kin_num.specs.Order.{IsEarlier}
use Rattle.kin_queue.specs.Heap.{IsHeap, IsRightBelow, IsPlaceOf, MayStandAbove, IsWithFirst}
use Rattle.kin_queue.specs.Hole.{IsHollow, FitsBelow, Stands, StandsOutside}
use Rattle.kin_queue.proofs.Order.{AtInstant, canonical_at, above_trans}
use Rattle.kin_queue.proofs.Entries.{look_up, look_up-missed}
use Rattle.kin_queue.proofs.Contents.{heap_apart}
use Rattle.kin_queue.proofs.Root.{least_first}

-- one more entry at the end
module _ (es : List (ℕ × Moment)) (x : ℕ × Moment) where
  longer : length (es ++ x ∷ []) ≡ length es + 1
  longer = length-append es (x ∷ [])

  low : (i : ℕ) → i < length (es ++ x ∷ []) → i ≢ length es → i < length es
  low i lt n = let l = longer in omega arith

  front : (i : ℕ) (d : ℕ × Moment) → i < length es → get_or (es ++ x ∷ []) i d ≡ get_or es i d
  front i d lt = get_or-append es (x ∷ []) d i lt

  last : (d : ℕ × Moment) → get_or (es ++ x ∷ []) (length es) d ≡ x
  last d = get_or-append_seam es x [] d

  pub hollow_in : (ps : List ℕ) → IsHeap es ps → look_up x.0 es ≡ None → IsCanonical x.1.at → x.0 < length ps → IsHollow (es ++ x ∷ []) ps (length es) x
  hollow_in ps heap none canonical known = record {
    within = let l = longer in omega arith;
    known = known;
    canonical = All-append AtInstant es (x ∷ []) heap.canonical (All-from_get_or AtInstant (x ∷ []) x (λ i lt. subst AtInstant (ap (λ (k : ℕ). get_or (x ∷ []) k x) (let z : 0 ≡ i = omega arith in z)) canonical));
    canonical_hand = canonical;
    placed = λ i d lt n. subst (λ (k : ℕ × Moment). IsPlaceOf ps k.0 i) (sym (front i d (low i lt n))) (heap.placed i d (low i lt n));
    apart = λ i d lt n. subst (λ (k : ℕ × Moment). k.0 ≢ x.0) (sym (front i d (low i lt n))) (look_up-missed es x.0 none i d (low i lt n));
    ordered = λ p c d b lt np nc. between p c d b (low c lt nc);
    across = λ p c d b b' lt. absurd (let l = longer in omega arith);
  }
    where
      between : (p c : ℕ) (d : ℕ × Moment) → IsRightBelow p c → c < length es → MayStandAbove (get_or (es ++ x ∷ []) p d) (get_or (es ++ x ∷ []) c d)
      between p c d b lt =
          subst (λ (k : ℕ × Moment). MayStandAbove k (get_or (es ++ x ∷ []) c d)) (sym (front p d (omega arith)))
          (subst (MayStandAbove (get_or es p d)) (sym (front c d lt)) (heap.ordered p c d b lt))

  pub outside_last : (e : ℕ × Moment) → StandsOutside (es ++ x ∷ []) (length es) e ↔ Stands es e
  outside_last e = (
    λ s. (s.0, low s.0 s.1 s.2, λ d. sym (front s.0 d (low s.0 s.1 s.2)) ∙ s.3 d),
    λ s. (s.0, let l = longer in let w = s.1 in omega arith, λ t. absurd (let w = s.1 in omega arith), λ d. front s.0 d s.1 ∙ s.2 d),
  )

  -- and one less
  module _ (ps : List ℕ) (heap : IsHeap (es ++ x ∷ []) ps) where
    wide : (i : ℕ) → i < length es → i < length (es ++ x ∷ [])
    wide i lt = let l = longer in omega arith

    at_end : length es < length (es ++ x ∷ [])
    at_end = let l = longer in omega arith

    canonical_front : All (λ e. IsCanonical e.1.at) es
    canonical_front = All-from_get_or AtInstant es x (λ i lt. subst AtInstant (front i x lt) (canonical_at (es ++ x ∷ []) i x heap.canonical (wide i lt)))

    placed_front : (i : ℕ) (d : ℕ × Moment) → i < length es → IsPlaceOf ps (get_or es i d).0 i
    placed_front i d lt = subst (λ (k : ℕ × Moment). IsPlaceOf ps k.0 i) (front i d lt) (heap.placed i d (wide i lt))

    ordered_front : (p c : ℕ) (d : ℕ × Moment) → IsRightBelow p c → c < length es → MayStandAbove (get_or es p d) (get_or es c d)
    ordered_front p c d b lt =
        subst (λ (k : ℕ × Moment). MayStandAbove k (get_or es c d)) (front p d (omega arith))
        (subst (MayStandAbove (get_or (es ++ x ∷ []) p d)) (front c d lt) (heap.ordered p c d b (wide c lt)))

    pub heap_front : IsHeap es ps
    heap_front = record { canonical = canonical_front; placed = placed_front; ordered = ordered_front }

    pub hollow_out : (place : ℕ) → place < length es → IsHollow es ps place x
    hollow_out place inside = record {
      within = inside;
      known = subst (λ (k : ℕ × Moment). k.0 < length ps) (last x) (heap.placed (length es) x at_end).0;
      canonical = canonical_front;
      canonical_hand = subst AtInstant (last x) (canonical_at (es ++ x ∷ []) (length es) x heap.canonical at_end);
      placed = λ i d lt n. placed_front i d lt;
      apart = λ i d lt n e. absurd (let s : i ≡ length es = heap_apart (es ++ x ∷ []) ps heap i (length es) d (wide i lt) at_end (ap (λ (k : ℕ × Moment). k.0) (front i d lt) ∙ e ∙ ap (λ (k : ℕ × Moment). k.0) (sym (last d))) in omega arith);
      ordered = λ p c d b lt np nc. ordered_front p c d b lt;
      across = λ p c d b b' lt. above_trans (get_or es p d) (get_or es place d) (get_or es c d)
          (canonical_at es p d canonical_front (omega arith)) (canonical_at es place d canonical_front inside) (canonical_at es c d canonical_front lt)
          (ordered_front p place d b inside) (ordered_front place c d b' lt);
    }

    -- where a least entry goes, nothing above the place is later than the last one
    pub fits_below_least : (place : ℕ) → place < length es → IsWithFirst (es ++ x ∷ []) place → FitsBelow es place x
    fits_below_least place inside tied = λ p d b.
        let all = es ++ x ∷ [] in
        let low : p < length es = omega arith in
        let some : 0 < length (es ++ x ∷ []) = let l = longer in omega arith in
        let up : MayStandAbove (get_or (es ++ x ∷ []) p d) (get_or (es ++ x ∷ []) 0 d) =
        subst (λ (m : Moment). ¬ (IsEarlier m (get_or (es ++ x ∷ []) p d).1)) ((tied some).1 d) (heap.ordered p place d b (wide place inside)) in
        let over : MayStandAbove (get_or (es ++ x ∷ []) p d) (get_or (es ++ x ∷ []) (length es) d) =
        above_trans (get_or all p d) (get_or all 0 d) (get_or all (length es) d)
        (canonical_at all p d heap.canonical (wide p low)) (canonical_at all 0 d heap.canonical some) (canonical_at all (length es) d heap.canonical at_end)
        up (least_first all ps heap d (length es) at_end) in
        subst (MayStandAbove (get_or es p d)) (last d) (subst (λ (k : ℕ × Moment). MayStandAbove k (get_or (es ++ x ∷ []) (length es) d)) (front p d low) over)

    -- what is left: the last entry, and what stands outside the place
    pub left_over : (place : ℕ) → place < length es → (e : ℕ × Moment) → ((e ≡ x) ⊎ StandsOutside es place e) ↔ StandsOutside (es ++ x ∷ []) place e
    left_over place inside e = (
      λ s. elim s [
        | inl t ↦ (length es, at_end, λ u. absurd (omega arith), λ d. last d ∙ sym t)
        | inr o ↦ (o.0, wide o.0 o.1, o.2, λ d. front o.0 d o.1 ∙ o.3 d)
      ],
      λ s. elim (cases_eq s.0 (length es)) [
        | inl t ↦ inl (sym (s.3 x) ∙ ap (λ (k : ℕ). get_or (es ++ x ∷ []) k x) t ∙ last x)
        | inr t ↦ inr (s.0, low s.0 s.1 t, s.2, λ d. sym (front s.0 d (low s.0 s.1 t)) ∙ s.3 d)
      ],
    )
