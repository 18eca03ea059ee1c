-- A hole rises by one step.
use Rattle.std.proofs.Common.{◌≡◌, ◌≢◌, inl, inr, ℕ, ◌<◌, List, length, get_or, set, sym, ap, subst, ◌∙◌, arith}
use Rattle.std.proofs.lemmas.List.{length-set}
use Rattle.std.proofs.lemmas.Bool.{cases_eq}
use Rattle.kin_num.specs.declared.instant.Moment.{Moment}
use Rattle.kin_num.specs.Order.{IsEarlier}
use Rattle.kin_queue.specs.Heap.{IsRightBelow, MayStandAbove}
use Rattle.kin_queue.specs.Hole.{IsHollow, FitsAbove, HasMoved}
use Rattle.kin_queue.proofs.Order.{canonical_at, above_trans, earlier_above}
use Rattle.kin_queue.proofs.Moves.{read_here, read_other, canonical_moved, hollow_moved, moved_on}

module _ (es : List (ℕ × Moment)) (ps : List ℕ) (h g : ℕ) (x e : ℕ × Moment) (hollow : IsHollow es ps h x) (below : IsRightBelow g h) (is : (d : ℕ × Moment) → get_or es g d ≡ e) where
  apart : g ≢ h
  apart s = absurd (omega arith)

  inside : g < length es
  inside = let w = hollow.within in omega arith

  under : (c : ℕ) (d : ℕ × Moment) → IsRightBelow h c → c < length es → c ≢ g → MayStandAbove e (get_or es c d)
  under c d b lt n = subst (λ (k : ℕ × Moment). MayStandAbove k (get_or es c d)) (is d) (hollow.across g c d below b lt)

  over : (p : ℕ) (d : ℕ × Moment) → IsRightBelow p h → p ≢ g → MayStandAbove (get_or es p d) e
  over p d b n = absurd (n (omega arith))

  over_moved : (p : ℕ) (d : ℕ × Moment) → IsRightBelow p g → MayStandAbove (get_or es p d) e
  over_moved p d b = subst (MayStandAbove (get_or es p d)) (is d) (hollow.ordered p g d b inside (λ s. absurd (omega arith)) apart)

  under_moved : (c : ℕ) (d : ℕ × Moment) → IsRightBelow g c → c < length es → c ≢ h → MayStandAbove e (get_or es c d)
  under_moved c d b lt n = subst (λ (k : ℕ × Moment). MayStandAbove k (get_or es c d)) (is d) (hollow.ordered g c d b lt apart n)

  across : (p c : ℕ) (d : ℕ × Moment) → IsRightBelow p g → IsRightBelow g c → c < length (set es h e) → MayStandAbove (get_or (set es h e) p d) (get_or (set es h e) c d)
  across p c d b b' lt =
      let low : c < length es = subst (λ (m : ℕ). c < m) (length-set es h e) lt in
      let high : p < length es = let w = inside in omega arith in
      let not_here : p ≢ h = λ s. absurd (omega arith) in
      subst (λ (k : ℕ × Moment). MayStandAbove k (get_or (set es h e) c d)) (sym (read_other es ps h g x e hollow apart inside is p d not_here)) (elim (cases_eq c h) [
        | inl s ↦ subst (MayStandAbove (get_or es p d)) (sym (read_here es ps h g x e hollow apart inside is c d s)) (over_moved p d b)
        | inr s ↦ subst (MayStandAbove (get_or es p d)) (sym (read_other es ps h g x e hollow apart inside is c d s))
            (above_trans (get_or es p d) e (get_or es c d) (canonical_at es p d hollow.canonical high) (canonical_moved es ps h g x e hollow apart inside is) (canonical_at es c d hollow.canonical low) (over_moved p d b) (under_moved c d b' low s))
      ])

  pub risen : (old : List (ℕ × Moment)) (start : ℕ) → HasMoved x old start es ps h → HasMoved x old start (set es h e) (set ps e.0 h) g
  risen old start m = moved_on es ps h g x e hollow apart inside is old start m (hollow_moved es ps h g x e hollow apart inside is under over across)

  pub fits_above_risen : IsEarlier x.1 e.1 → FitsAbove (set es h e) g x
  fits_above_risen earlier c d b lt =
      let low : c < length es = subst (λ (m : ℕ). c < m) (length-set es h e) lt in
      let first : MayStandAbove x e = earlier_above x e hollow.canonical_hand (canonical_moved es ps h g x e hollow apart inside is) earlier in
      elim (cases_eq c h) [
        | inl s ↦ subst (MayStandAbove x) (sym (read_here es ps h g x e hollow apart inside is c d s)) first
        | inr s ↦ subst (MayStandAbove x) (sym (read_other es ps h g x e hollow apart inside is c d s))
            (above_trans x e (get_or es c d) hollow.canonical_hand (canonical_moved es ps h g x e hollow apart inside is) (canonical_at es c d hollow.canonical low) first (under_moved c d b low s))
      ]

  -- the place above a hole is one
  pub fits_below_at : ¬ (IsEarlier x.1 e.1) → (p : ℕ) (d : ℕ × Moment) → IsRightBelow p h → MayStandAbove (get_or es p d) x
  fits_below_at n p d b =
      let s : p ≡ g = omega arith in
      subst (λ (k : ℕ × Moment). MayStandAbove k x) (sym (ap (λ (i : ℕ). get_or es i d) s ∙ is d)) n
