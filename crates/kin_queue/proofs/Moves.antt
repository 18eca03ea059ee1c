-- A hole moves to a place, whose entry comes into the hole.
use Rattle.std.proofs.Common.{◌≡◌, ◌≢◌, inl, inr, ℕ, ◌<◌, List, length, get_or, set, sym, ap, subst, ◌∙◌, arith}
use Rattle.std.proofs.lemmas.List.{get_or-set_same, get_or-set_other, length-set}
use Rattle.std.proofs.lemmas.List.Elements.{All-set}
use Rattle.std.proofs.lemmas.Bool.{cases_eq}
use Rattle.kin_num.specs.declared.instant.Moment.{Moment}
use Rattle.kin_queue.specs.Heap.{IsRightBelow, MayStandAbove, IsPlaceOf}
use Rattle.kin_queue.specs.Hole.{IsHollow, StandsOutside, HasMoved}
use Rattle.kin_queue.proofs.Order.{AtInstant, canonical_at}

module _ (es : List (ℕ × Moment)) (ps : List ℕ) (h g : ℕ) (x e : ℕ × Moment) (hollow : IsHollow es ps h x) (apart : g ≢ h) (inside : g < length es) (is : (d : ℕ × Moment) → get_or es g d ≡ e) where
  pub read_here : (i : ℕ) (d : ℕ × Moment) → i ≡ h → get_or (set es h e) i d ≡ e
  read_here i d s = ap (λ (k : ℕ). get_or (set es h e) k d) s ∙ get_or-set_same es h e d hollow.within

  pub read_other : (i : ℕ) (d : ℕ × Moment) → i ≢ h → get_or (set es h e) i d ≡ get_or es i d
  read_other i d n = get_or-set_other es h i e d n

  pub canonical_moved : AtInstant e
  canonical_moved = subst AtInstant (is x) (canonical_at es g x hollow.canonical inside)

  placed_before : IsPlaceOf ps e.0 g
  placed_before = subst (λ (k : ℕ × Moment). IsPlaceOf ps k.0 g) (is x) (hollow.placed g x inside apart)

  placed_here : IsPlaceOf (set ps e.0 h) e.0 h
  placed_here = (subst (λ (n : ℕ). e.0 < n) (sym (length-set ps e.0 h)) placed_before.0, get_or-set_same ps e.0 h 0 placed_before.0)

  placed_other : (k i : ℕ) → i ≢ g → IsPlaceOf ps k i → IsPlaceOf (set ps e.0 h) k i
  placed_other k i n p =
      let differs : k ≢ e.0 = λ s. n (sym p.1 ∙ ap (λ (m : ℕ). get_or ps m 0) s ∙ placed_before.1) in
      (subst (λ (n : ℕ). k < n) (sym (length-set ps e.0 h)) p.0, get_or-set_other ps e.0 k h 0 differs ∙ p.1)

  placed_moved : (i : ℕ) (d : ℕ × Moment) → i < length (set es h e) → i ≢ g → IsPlaceOf (set ps e.0 h) (get_or (set es h e) i d).0 i
  placed_moved i d lt n = elim (cases_eq i h) [
    | inl s ↦ subst (λ (k : ℕ × Moment). IsPlaceOf (set ps e.0 h) k.0 i) (sym (read_here i d s)) (subst (λ (k : ℕ). IsPlaceOf (set ps e.0 h) e.0 k) (sym s) placed_here)
    | inr s ↦ subst (λ (k : ℕ × Moment). IsPlaceOf (set ps e.0 h) k.0 i) (sym (read_other i d s)) (placed_other (get_or es i d).0 i n (hollow.placed i d (subst (λ (m : ℕ). i < m) (length-set es h e) lt) s))
  ]

  apart_moved : (i : ℕ) (d : ℕ × Moment) → i < length (set es h e) → i ≢ g → (get_or (set es h e) i d).0 ≢ x.0
  apart_moved i d lt n = elim (cases_eq i h) [
    | inl s ↦ subst (λ (k : ℕ × Moment). k.0 ≢ x.0) (sym (read_here i d s)) (subst (λ (k : ℕ × Moment). k.0 ≢ x.0) (is d) (hollow.apart g d inside apart))
    | inr s ↦ subst (λ (k : ℕ × Moment). k.0 ≢ x.0) (sym (read_other i d s)) (hollow.apart i d (subst (λ (m : ℕ). i < m) (length-set es h e) lt) s)
  ]

  -- what the moved entry stands above, and what above it
  module _ (under : (c : ℕ) (d : ℕ × Moment) → IsRightBelow h c → c < length es → c ≢ g → MayStandAbove e (get_or es c d))
      (over : (p : ℕ) (d : ℕ × Moment) → IsRightBelow p h → p ≢ g → MayStandAbove (get_or es p d) e) where
    pub ordered_moved : (p c : ℕ) (d : ℕ × Moment) → IsRightBelow p c → c < length (set es h e) → p ≢ g → c ≢ g → MayStandAbove (get_or (set es h e) p d) (get_or (set es h e) c d)
    ordered_moved p c d b lt np nc =
        let low : c < length es = subst (λ (m : ℕ). c < m) (length-set es h e) lt in
        elim (cases_eq p h) [
          | inl s ↦
              let below : IsRightBelow h c = subst (λ (k : ℕ). IsRightBelow k c) s b in
              let other : c ≢ h = λ t. absurd (omega arith) in
              subst (λ (k : ℕ × Moment). MayStandAbove k (get_or (set es h e) c d)) (sym (read_here p d s)) (subst (MayStandAbove e) (sym (read_other c d other)) (under c d below low nc))
          | inr s ↦ subst (λ (k : ℕ × Moment). MayStandAbove k (get_or (set es h e) c d)) (sym (read_other p d s)) (elim (cases_eq c h) [
            | inl t ↦ subst (MayStandAbove (get_or es p d)) (sym (read_here c d t)) (over p d (subst (IsRightBelow p) t b) np)
            | inr t ↦ subst (MayStandAbove (get_or es p d)) (sym (read_other c d t)) (hollow.ordered p c d b low s t)
          ])
        ]

    pub hollow_moved : ((p c : ℕ) (d : ℕ × Moment) → IsRightBelow p g → IsRightBelow g c → c < length (set es h e) → MayStandAbove (get_or (set es h e) p d) (get_or (set es h e) c d)) → IsHollow (set es h e) (set ps e.0 h) g x
    hollow_moved across = record {
      within = subst (λ (m : ℕ). g < m) (sym (length-set es h e)) inside;
      known = subst (λ (m : ℕ). x.0 < m) (sym (length-set ps e.0 h)) hollow.known;
      canonical = All-set AtInstant es h e canonical_moved hollow.canonical;
      canonical_hand = hollow.canonical_hand;
      placed = placed_moved;
      apart = apart_moved;
      ordered = ordered_moved;
      across = across;
    }

  same_forth : (k : ℕ × Moment) → StandsOutside es h k → StandsOutside (set es h e) g k
  same_forth k s = elim (cases_eq s.0 g) [
    | inl t ↦ (h, subst (λ (m : ℕ). h < m) (sym (length-set es h e)) hollow.within, λ u. apart (sym u), λ d. read_here h d (λ i. h) ∙ sym (is d) ∙ ap (λ (i : ℕ). get_or es i d) (sym t) ∙ s.3 d)
    | inr t ↦ (s.0, subst (λ (m : ℕ). s.0 < m) (sym (length-set es h e)) s.1, t, λ d. read_other s.0 d s.2 ∙ s.3 d)
  ]

  same_back : (k : ℕ × Moment) → StandsOutside (set es h e) g k → StandsOutside es h k
  same_back k s = elim (cases_eq s.0 h) [
    | inl t ↦ (g, inside, apart, λ d. is d ∙ sym (read_here s.0 d t) ∙ s.3 d)
    | inr t ↦ (s.0, subst (λ (m : ℕ). s.0 < m) (length-set es h e) s.1, t, λ d. sym (read_other s.0 d t) ∙ s.3 d)
  ]

  pub moved_on : (old : List (ℕ × Moment)) (start : ℕ) → HasMoved x old start es ps h → IsHollow (set es h e) (set ps e.0 h) g x → HasMoved x old start (set es h e) (set ps e.0 h) g
  moved_on old start m next = record {
    hollow = next;
    same = λ k. (λ s. same_forth k ((m.same k).0 s), λ s. (m.same k).1 (same_back k s));
  }
