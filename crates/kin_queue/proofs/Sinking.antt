-- A hole sinks by one step.
use Rattle.std.proofs.Common.{◌≡◌, ◌≢◌, ℕ, ◌<◌, List, length, get_or, set, sym, subst, arith}
use Rattle.std.proofs.lemmas.List.{length-set}
use Rattle.kin_num.specs.declared.instant.Moment.{Moment}
use Rattle.kin_num.specs.Order.{IsEarlier}
use Rattle.kin_queue.specs.Heap.{IsRightBelow, MayStandAbove}
use Rattle.kin_queue.specs.Hole.{IsHollow, FitsAbove, FitsBelow, HasMoved, IsEarliestBelow}
use Rattle.kin_queue.proofs.Order.{canonical_at, above_trans, earlier_above}
use Rattle.kin_queue.proofs.Moves.{read_here, read_other, canonical_moved, hollow_moved, moved_on}

module _ (es : List (ℕ × Moment)) (ps : List ℕ) (h g : ℕ) (x e : ℕ × Moment) (hollow : IsHollow es ps h x) (child : IsEarliestBelow es h g) (is : (d : ℕ × Moment) → get_or es g d ≡ e) where
  apart : g ≢ h
  apart s = let b = child.below in absurd (omega arith)

  under : (c : ℕ) (d : ℕ × Moment) → IsRightBelow h c → c < length es → MayStandAbove e (get_or es c d)
  under c d b lt = subst (λ (k : ℕ × Moment). MayStandAbove k (get_or es c d)) (is d) (child.earliest c d b lt)

  over : (p : ℕ) (d : ℕ × Moment) → IsRightBelow p h → p ≢ g → MayStandAbove (get_or es p d) e
  over p d b n = subst (MayStandAbove (get_or es p d)) (is d) (hollow.across p g d b child.below child.within)

  across : (p c : ℕ) (d : ℕ × Moment) → IsRightBelow p g → IsRightBelow g c → c < length (set es h e) → MayStandAbove (get_or (set es h e) p d) (get_or (set es h e) c d)
  across p c d b b' lt =
      let low : c < length es = subst (λ (m : ℕ). c < m) (length-set es h e) lt in
      let k = child.below in
      let here : p ≡ h = omega arith in
      let not_here : c ≢ h = λ s. absurd (omega arith) in
      subst (λ (k : ℕ × Moment). MayStandAbove k (get_or (set es h e) c d)) (sym (read_here es ps h g x e hollow apart child.within is p d here))
      (subst (MayStandAbove e) (sym (read_other es ps h g x e hollow apart child.within is c d not_here))
      (subst (λ (k : ℕ × Moment). MayStandAbove k (get_or es c d)) (is d) (hollow.ordered g c d b' low apart not_here)))

  pub sunk : (old : List (ℕ × Moment)) (start : ℕ) → HasMoved x old start es ps h → HasMoved x old start (set es h e) (set ps e.0 h) g
  sunk old start m = moved_on es ps h g x e hollow apart child.within is old start m (hollow_moved es ps h g x e hollow apart child.within is (λ c d b lt n. under c d b lt) over across)

  pub fits_below_sunk : IsEarlier e.1 x.1 → FitsBelow (set es h e) g x
  fits_below_sunk earlier p d b =
      let k = child.below in
      let here : p ≡ h = omega arith in
      subst (λ (k : ℕ × Moment). MayStandAbove k x) (sym (read_here es ps h g x e hollow apart child.within is p d here))
      (earlier_above e x (canonical_moved es ps h g x e hollow apart child.within is) hollow.canonical_hand earlier)

  pub fits_above_at : ¬ (IsEarlier e.1 x.1) → FitsAbove es h x
  fits_above_at n c d b lt = above_trans x e (get_or es c d) hollow.canonical_hand (canonical_moved es ps h g x e hollow apart child.within is) (canonical_at es c d hollow.canonical lt) n (under c d b lt)
