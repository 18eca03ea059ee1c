-- There is one extreme point at most, one hull cycle, and one closest pair.
use Rattle.std.proofs.Common.{◌≡◌, ◌≢◌, ◌⊎◌, inl, inr, refl, sym, ap, ap₂, ◌∙◌, subst, List, [], ℕ, ◌<◌, arith, true, false, ℤ, pos}
use Rattle.std.specs.Prelude.{Some, None}
use Rattle.kin_algebra.specs.declared.sign.Sign.{Sign}
use Rattle.kin_algebra.specs.declared.sign.Sign.TheVariants.{Minus, Zero, Plus}
use Rattle.kin_algebra.specs.Signs.{opposite_of}
use Rattle.kin_motion.specs.declared.form.Form.TheVariants.{Line, Dist}
use Rattle.kin_motion.specs.Numbers.{IsIn}
use Rattle.kin_motion.specs.Scene.{Scene, IsReal, reflected}
use Rattle.kin_motion.specs.Extremes.{IsExtreme}
use Rattle.kin_motion.specs.Chains.{round}
use Rattle.kin_motion.specs.ClosestPairs.{IsClosestPair}
use Rattle.kin_motion.specs.Theorems.{OneExtreme, OneHullCycle, OneClosest}
use Rattle.kin_motion.proofs.RealLaws.{real_line_laws}
use Rattle.kin_motion.proofs.ReflectedLaws.{reflected-real}
use Rattle.kin_motion.proofs.ChainLaws.{one_upper_chain}
use Rattle.kin_motion.proofs.DistanceLaws.{real_distance_laws, three_ways}

-- a sign that is not + and whose opposite is not + is 0
level : (t : Sign) → t ≢ Plus → opposite_of t ≢ Plus → t ≡ Zero
level Minus h k = absurd (k refl)
level Zero h k = refl
level Plus h k = absurd (h refl)

nobody : (set : List ℕ) (i : ℕ) {A : Type 0} → set ≡ [] → IsIn i set → A
nobody set i {A} e h = absurd (let clash : false ≡ true = subst (λ xs. IsIn i xs) e h in cc)

module _ (s : Scene) (r : IsReal s) (dx dy : ℤ) where
  opposite : (i j : ℕ) → s.sign (Line dx dy (pos 0) j i) ≡ opposite_of (s.sign (Line dx dy (pos 0) i j))
  opposite = (real_line_laws s r).opposite dx dy

  one_extreme_number : (i j : ℕ) → IsExtreme s dx dy s.live i → IsExtreme s dx dy s.live j → i ≡ j
  one_extreme_number i j a b = at (three_ways i j)
    where
      same : s.sign (Line dx dy (pos 0) i j) ≡ Zero
      same = level _ (a.farthest j b.member) (λ e. b.farthest i a.member (opposite i j ∙ e))

      at : (i < j) ⊎ ((i ≡ j) ⊎ (j < i)) → i ≡ j
      at (inl h) = absurd (b.least i a.member h (opposite i j ∙ ap opposite_of same))
      at (inr (inl e)) = e
      at (inr (inr h)) = absurd (a.least j b.member h same)

pub one_extreme : OneExtreme
one_extreme s dx dy None None r a b = refl
one_extreme s dx dy None (Some j) r a b = nobody s.live j a b.member
one_extreme s dx dy (Some i) None r a b = nobody s.live i b a.member
one_extreme s dx dy (Some i) (Some j) r a b = ap (λ (n : ℕ). Some n) (one_extreme_number s r dx dy i j a b)

pub one_hull_cycle : OneHullCycle
one_hull_cycle s xs ys r a b =
    let lower = one_upper_chain (reflected s) (real_line_laws (reflected s) (reflected-real s r)) s.live a.lower b.lower a.lower_chain b.lower_chain in
    let upper = one_upper_chain s (real_line_laws s r) s.live a.upper b.upper a.upper_chain b.upper_chain in
    a.joined ∙ ap₂ round lower upper ∙ sym b.joined

module _ (s : Scene) (r : IsReal s) where
  other_way : (i j k l : ℕ) → s.sign (Dist k l i j) ≡ opposite_of (s.sign (Dist i j k l))
  other_way = (real_distance_laws s r).opposite

  not_minus : (t : Sign) → t ≢ Minus → opposite_of t ≢ Plus
  not_minus Minus h e = h refl
  not_minus Zero h e = cc
  not_minus Plus h e = cc

  one_closest_pair : (i j k l : ℕ) → IsClosestPair s i j → IsClosestPair s k l → (i ≡ k) × (j ≡ l)
  one_closest_pair i j k l a b = at (three_ways i k) (three_ways j l)
    where
      no_less : s.sign (Dist i j k l) ≢ Minus
      no_less = a.closest k l b.i_live b.j_live b.rising

      no_more : s.sign (Dist i j k l) ≢ Plus
      no_more e = b.closest i j a.i_live a.j_live a.rising (other_way i j k l ∙ ap opposite_of e)

      same : s.sign (Dist i j k l) ≡ Zero
      same = level _ no_more (not_minus _ no_less)

      back : s.sign (Dist k l i j) ≡ Zero
      back = other_way i j k l ∙ ap opposite_of same

      at : (i < k) ⊎ ((i ≡ k) ⊎ (k < i)) → (j < l) ⊎ ((j ≡ l) ⊎ (l < j)) → (i ≡ k) × (j ≡ l)
      at (inl h) t = absurd (b.least i j a.i_live a.j_live a.rising (inl h) back)
      at (inr (inr h)) t = absurd (a.least k l b.i_live b.j_live b.rising (inl h) same)
      at (inr (inl e)) (inl h) = absurd (b.least i j a.i_live a.j_live a.rising (inr (e, h)) back)
      at (inr (inl e)) (inr (inr h)) = absurd (a.least k l b.i_live b.j_live b.rising (inr (sym e, h)) same)
      at (inr (inl e)) (inr (inl f)) = (e, f)

  not_two : (i j : ℕ) {A : Type 0} → ((k l : ℕ) → IsIn k s.live → IsIn l s.live → k ≡ l) → IsClosestPair s i j → A
  not_two i j {A} one p = absurd (let e = one i j p.i_live p.j_live in let h : i < j = p.rising in omega (arith, e, h))

pub one_closest : OneClosest
one_closest s None None r a b = refl
one_closest s None (Some (k, l)) r a b = not_two s r k l a b
one_closest s (Some (i, j)) None r a b = not_two s r i j b a
one_closest s (Some (i, j)) (Some (k, l)) r a b = let e = one_closest_pair s r i j k l a b in ap₂ (λ (m n : ℕ). Some (m, n)) e.0 e.1
