-- The entry in hand comes into the hole.
use Rattle.std.proofs.Common.{◌≡◌, ◌≢◌, ◌⊎◌, ◌↔◌, inl, inr, ℕ, ◌<◌, List, length, get_or, set, sym, ap, subst, ◌∙◌, arith}
use Rattle.std.proofs.lemmas.List.{get_or-set_same, get_or-set_other, length-set}
use Rattle.std.proofs.lemmas.List.Elements.{All-set}
use Rattle.std.proofs.lemmas.Bool.{cases_eq}
use Rattle.kin_num.specs.declared.instant.Moment.{Moment}
use Rattle.kin_queue.specs.Heap.{IsRightBelow, MayStandAbove, IsPlaceOf, IsHeap}
use Rattle.kin_queue.specs.Hole.{IsHollow, FitsAbove, FitsBelow, Stands, StandsOutside}
use Rattle.kin_queue.proofs.Order.{AtInstant}

module _ (es : List (ℕ × Moment)) (ps : List ℕ) (h : ℕ) (x : ℕ × Moment) (hollow : IsHollow es ps h x) where
  read_here : (i : ℕ) (d : ℕ × Moment) → i ≡ h → get_or (set es h x) i d ≡ x
  read_here i d s = ap (λ (k : ℕ). get_or (set es h x) k d) s ∙ get_or-set_same es h x d hollow.within

  read_other : (i : ℕ) (d : ℕ × Moment) → i ≢ h → get_or (set es h x) i d ≡ get_or es i d
  read_other i d n = get_or-set_other es h i x d n

  placed : (i : ℕ) (d : ℕ × Moment) → i < length (set es h x) → IsPlaceOf (set ps x.0 h) (get_or (set es h x) i d).0 i
  placed i d lt = elim (cases_eq i h) [
    | inl s ↦ subst (λ (k : ℕ × Moment). IsPlaceOf (set ps x.0 h) k.0 i) (sym (read_here i d s)) (subst (λ (m : ℕ). x.0 < m) (sym (length-set ps x.0 h)) hollow.known, get_or-set_same ps x.0 h 0 hollow.known ∙ sym s)
    | inr s ↦
        let low : i < length es = subst (λ (m : ℕ). i < m) (length-set es h x) lt in
        let p : IsPlaceOf ps (get_or es i d).0 i = hollow.placed i d low s in
        subst (λ (k : ℕ × Moment). IsPlaceOf (set ps x.0 h) k.0 i) (sym (read_other i d s)) (subst (λ (m : ℕ). (get_or es i d).0 < m) (sym (length-set ps x.0 h)) p.0, get_or-set_other ps x.0 (get_or es i d).0 h 0 (hollow.apart i d low s) ∙ p.1)
  ]

  module _ (over : FitsBelow es h x) (under : FitsAbove es h x) where
    ordered : (p c : ℕ) (d : ℕ × Moment) → IsRightBelow p c → c < length (set es h x) → MayStandAbove (get_or (set es h x) p d) (get_or (set es h x) c d)
    ordered p c d b lt =
        let low : c < length es = subst (λ (m : ℕ). c < m) (length-set es h x) lt in
        elim (cases_eq p h) [
          | inl s ↦
              let other : c ≢ h = λ t. absurd (omega arith) in
              subst (λ (k : ℕ × Moment). MayStandAbove k (get_or (set es h x) c d)) (sym (read_here p d s)) (subst (MayStandAbove x) (sym (read_other c d other)) (under c d (subst (λ (k : ℕ). IsRightBelow k c) s b) low))
          | inr s ↦ subst (λ (k : ℕ × Moment). MayStandAbove k (get_or (set es h x) c d)) (sym (read_other p d s)) (elim (cases_eq c h) [
            | inl t ↦ subst (MayStandAbove (get_or es p d)) (sym (read_here c d t)) (over p d (subst (IsRightBelow p) t b))
            | inr t ↦ subst (MayStandAbove (get_or es p d)) (sym (read_other c d t)) (hollow.ordered p c d b low s t)
          ])
        ]

    pub filled : IsHeap (set es h x) (set ps x.0 h)
    filled = record {
      canonical = All-set AtInstant es h x hollow.canonical_hand hollow.canonical;
      placed = placed;
      ordered = ordered;
    }

  pub stands_filled : (e : ℕ × Moment) → Stands (set es h x) e ↔ ((e ≡ x) ⊎ StandsOutside es h e)
  stands_filled e = (
    λ s. elim (cases_eq s.0 h) [
      | inl t ↦ inl (sym (s.2 x) ∙ read_here s.0 x t)
      | inr t ↦ inr (s.0, subst (λ (m : ℕ). s.0 < m) (length-set es h x) s.1, t, λ d. sym (read_other s.0 d t) ∙ s.2 d)
    ],
    λ s. elim s [
      | inl t ↦ (h, subst (λ (m : ℕ). h < m) (sym (length-set es h x)) hollow.within, λ d. read_here h d (λ i. h) ∙ sym t)
      | inr o ↦ (o.0, subst (λ (m : ℕ). o.0 < m) (sym (length-set es h x)) o.1, λ d. read_other o.0 d o.2 ∙ o.3 d)
    ],
  )
