-- A member of an octant comes after the apex in the octant's third order.
use Rattle.std.proofs.Common.{◌≡◌, ◌≢◌, refl, sym, ap, ◌∙◌, ℕ, zero, suc, Bool, true, false, not, Some, ℤ, pos, negsuc}
use Rattle.std.specs.Prelude.{slice_get}
use Rattle.std.proofs.lemmas.Bool.{and_parts}
use Rattle.kin_motion.specs.Scene.{Scene}
use Rattle.kin_motion.specs.Orders.{is_before}
use Rattle.kin_motion.specs.Octants.{Octant, octants, is_in_octant, comes_after}
use Rattle.kin_motion.specs.Laws.{HasLineLaws}
use Rattle.kin_motion.proofs.OctantLaws.{before_turned, sum_of}

module _ (s : Scene) (laws : HasLineLaws s) where
  -- of two different numbers, that which is not before the other is behind it
  turned : (dx dy : ℤ) (i j : ℕ) → i ≢ j → (is_before s dx dy i j ≡ true → ⊥) → is_before s dx dy j i ≡ true
  turned dx dy i j n h = at (is_before s dx dy i j) refl
    where
      at : (b : Bool) → is_before s dx dy i j ≡ b → is_before s dx dy j i ≡ true
      at true e = absurd (h e)
      at false e = before_turned s laws dx dy i j n ∙ ap not e

  -- not before and behind at once
  not_both : (dx dy : ℤ) (i j : ℕ) → i ≢ j → is_before s dx dy i j ≡ true → is_before s dx dy j i ≡ true → ⊥
  not_both dx dy i j n a b = let c : true ≡ false = sym b ∙ before_turned s laws dx dy i j n ∙ ap not a in cc

  -- y and x - y: then x, x + y and 2x + y
  nought : (p q : ℕ) → is_before s (pos 0) (pos 1) p q ≡ true → is_before s (pos 1) (negsuc 0) p q ≡ true → is_before s (pos 2) (pos 1) p q ≡ true
  nought p q y d =
      let x = sum_of s laws (pos 0) (pos 1) (pos 1) (negsuc 0) p q y d in
      let t = sum_of s laws (pos 0) (pos 1) (pos 1) (pos 0) p q y x in
      sum_of s laws (pos 1) (pos 1) (pos 1) (pos 0) p q t x

  -- x and not x - y: then y, x + y and x + 2y
  first : (p q : ℕ) → p ≢ q → is_before s (pos 1) (negsuc 0) q p ≡ true → is_before s (pos 1) (pos 0) p q ≡ true → is_before s (pos 1) (pos 2) p q ≡ true
  first p q n d x =
      let y = turned (pos 0) (pos 1) q p (λ e. n (sym e)) (λ k. not_both (pos 1) (pos 0) p q n x (sum_of s laws (pos 0) (pos 1) (pos 1) (negsuc 0) q p k d)) in
      let t = sum_of s laws (pos 0) (pos 1) (pos 1) (pos 0) p q y x in
      sum_of s laws (pos 1) (pos 1) (pos 0) (pos 1) p q t y

  -- x + y and not x: then y, not x - y, and -x + 2y
  second : (p q : ℕ) → p ≢ q → is_before s (pos 1) (pos 0) q p ≡ true → is_before s (pos 1) (pos 1) p q ≡ true → is_before s (negsuc 0) (pos 2) p q ≡ true
  second p q n x t =
      let y = turned (pos 0) (pos 1) q p (λ e. n (sym e)) (λ k. not_both (pos 1) (pos 1) p q n t (sum_of s laws (pos 0) (pos 1) (pos 1) (pos 0) q p k x)) in
      let d = turned (pos 1) (negsuc 0) p q n (λ k. not_both (pos 1) (pos 0) p q n (sum_of s laws (pos 0) (pos 1) (pos 1) (negsuc 0) p q y k) x) in
      turned (negsuc 0) (pos 2) q p (λ e. n (sym e)) (λ k. not_both (pos 0) (pos 1) p q n y (sum_of s laws (negsuc 0) (pos 2) (pos 1) (negsuc 0) q p k d))

  -- y and not x + y: then not x, and -2x + y
  third : (p q : ℕ) → p ≢ q → is_before s (pos 1) (pos 1) q p ≡ true → is_before s (pos 0) (pos 1) p q ≡ true → is_before s (negsuc 1) (pos 1) p q ≡ true
  third p q n t y =
      let x = turned (pos 1) (pos 0) p q n (λ k. not_both (pos 1) (pos 1) p q n (sum_of s laws (pos 0) (pos 1) (pos 1) (pos 0) p q y k) t) in
      turned (negsuc 1) (pos 1) q p (λ e. n (sym e)) (λ k. not_both (pos 0) (pos 1) p q n y (sum_of s laws (negsuc 0) (pos 1) (pos 1) (pos 0) q p (sum_of s laws (negsuc 1) (pos 1) (pos 1) (pos 0) q p k x) x))

  IsThirdAfter : Octant → Type 0
  IsThirdAfter o = (p q : ℕ) → p ≢ q → is_in_octant s o p q ≡ true → comes_after s o.third p q ≡ true

  told : (a o : Octant) → IsThirdAfter a → Some a ≡ Some o → IsThirdAfter o
  unfolding IsThirdAfter
  told a o h e = let same : a ≡ o = cc in at same
    where
      at : a ≡ o → IsThirdAfter o
      at same = λ p q n k. ap (λ (x : Octant). comes_after s x.third p q) (sym same) ∙ h p q n (ap (λ (x : Octant). is_in_octant s x p q) same ∙ k)

  by_number : (w : ℕ) (o : Octant) → slice_get octants w ≡ Some o → IsThirdAfter o
  unfolding IsThirdAfter
  by_number zero o e = told _ o (λ p q n h. let k = and_parts _ _ h in nought p q k.0 k.1) e
  by_number (suc zero) o e = told _ o (λ p q n h. let k = and_parts _ _ h in first p q n k.0 k.1) e
  by_number (suc (suc zero)) o e = told _ o (λ p q n h. let k = and_parts _ _ h in second p q n k.0 k.1) e
  by_number (suc (suc (suc zero))) o e = told _ o (λ p q n h. let k = and_parts _ _ h in third p q n k.0 k.1) e
  by_number (suc (suc (suc (suc zero)))) o e = told _ o (λ p q n h. let k = and_parts _ _ h in nought q p k.0 k.1) e
  by_number (suc (suc (suc (suc (suc zero))))) o e = told _ o (λ p q n h. let k = and_parts _ _ h in first q p (λ f. n (sym f)) k.0 k.1) e
  by_number (suc (suc (suc (suc (suc (suc zero)))))) o e = told _ o (λ p q n h. let k = and_parts _ _ h in second q p (λ f. n (sym f)) k.0 k.1) e
  by_number (suc (suc (suc (suc (suc (suc (suc zero))))))) o e = told _ o (λ p q n h. let k = and_parts _ _ h in third q p (λ f. n (sym f)) k.0 k.1) e
  by_number (suc (suc (suc (suc (suc (suc (suc (suc w)))))))) o e = absurd cc

  pub third_after : (w : ℕ) (o : Octant) (p q : ℕ) → slice_get octants w ≡ Some o → p ≢ q → is_in_octant s o p q ≡ true → comes_after s o.third p q ≡ true
  unfolding IsThirdAfter
  third_after w o p q e n h = by_number w o e p q n h
