-- Numbers in the ordered ring of pairs over their radicand.
use Rattle.std.proofs.Common.{◌≡◌, ◌≢◌, ◌⊎◌, inl, inr, ℕ, zero, suc, [], ◌∷◌, refl, sym, ap, ap₂, ◌∙◌, subst, ◌+◌, ◌*◌, ◌≤◌, arith, unsigned_abs}
use Rattle.std.specs.Prelude.{ℤ, pos, negsuc, ◌+ℤ◌, ◌-ℤ◌, ◌*ℤ◌, ◌≤ℤ◌}
use Rattle.std.proofs.lemmas.Int.{ints}
use lib.IntN.{neg_ℤ}
use Rattle.kin_algebra.specs.declared.sign.Sign.{Sign}
use Rattle.kin_algebra.specs.declared.sign.Sign.TheVariants.{Minus, Zero, Plus}
use Rattle.kin_algebra.specs.Signs.{sign_of, product_of, norm_of, sum_sign_of}
use Rattle.kin_algebra.proofs.Ring.{by_ring, quotes}
use Rattle.kin_algebra.proofs.Signs.{code, AtLeast}
use Rattle.kin_algebra.proofs.OrderedRings.{OrderedRing}
use Rattle.kin_algebra.proofs.Bounds.{Between, product_between, sum_between, wider_between, IsApart}
use Rattle.kin_algebra.proofs.IntegerSigns.{sign_of-times}
use Rattle.kin_algebra.proofs.Radicals.{Radical, by_norm, norm_form}
use Rattle.kin_algebra.proofs.Pairs.{Pair, pair, pair_plus, pair_times, Sound, by_cases, sign_over, sign_over-whole, ordered}

-- a whole number as a pair
abbrev pub flat : ℤ → Pair
flat k = pair k (pos 0)

abbrev pub conjugate : Pair → Pair
conjugate a = pair a.units (neg_ℤ a.roots)

pub at_least_in : (k : ℤ) → pos 0 ≤ℤ k → AtLeast (sign_of k)
at_least_in (pos zero) h = inr refl
at_least_in (pos (suc n)) h = inl refl
at_least_in (negsuc n) h = absurd (omega (arith, ints))

module _ (d : ℤ) (s : Sound d) where
  abbrev pub ring_over : OrderedRing Pair
  ring_over = ordered d s

  pub flat-times : (a b : ℤ) → pair_times d (flat a) (flat b) ≡ flat (a *ℤ b)
  flat-times a b =
      ap₂ pair
      (by_ring (a ∷ b ∷ d ∷ []) _ _ (search quotes depth 20) (search quotes depth 20) refl)
      (by_ring (a ∷ b ∷ []) _ _ (search quotes depth 20) (search quotes depth 20) refl)

  pub flat_some : (k : ℤ) → pos 0 ≤ℤ k → AtLeast (sign_over d (flat k))
  flat_some k h = subst AtLeast (sym (sign_over-whole d s k)) (at_least_in k h)

  pub flat_between : (k : ℕ) (z : ℤ) → unsigned_abs z ≤ k → Between ring_over (flat (pos k)) (flat z)
  flat_between k z h = record { above = flat_some (pos k -ℤ z) (upper k z h); below = flat_some (pos k +ℤ z) (lower k z h) }
    where
      upper : (k : ℕ) (z : ℤ) → unsigned_abs z ≤ k → pos 0 ≤ℤ (pos k -ℤ z)
      upper k (pos n) h = omega (arith, ints, h)
      upper k (negsuc n) h = omega (arith, ints, h)

      lower : (k : ℕ) (z : ℤ) → unsigned_abs z ≤ k → pos 0 ≤ℤ (pos k +ℤ z)
      lower k (pos n) h = omega (arith, ints, h)
      lower k (negsuc n) h = omega (arith, ints, h)

  pub flat_wider : {j k : ℕ} {a : Pair} → j ≤ k → Between ring_over (flat (pos j)) a → Between ring_over (flat (pos k)) a
  flat_wider {j} {k} h = wider_between ring_over (flat_some (pos k -ℤ pos j) (omega (arith, ints)))

  -- ---- a pair that isn't 0 is apart from 0
  norm_some : (a : Pair) → sign_over d a ≡ Plus → sign_of (norm_of a.units a.roots d) ≢ Zero
  norm_some = by_cases (λ d. (a : Pair) → sign_over d a ≡ Plus → sign_of (norm_of a.units a.roots d) ≢ Zero) flat_case root_case d s
    where
      plain : (u v : ℤ) → norm_of u v (pos 0) ≡ u *ℤ u
      plain u v = by_ring (u ∷ v ∷ []) _ _ (search quotes depth 20) (search quotes depth 20) refl

      flat_case : (a : Pair) → sign_of a.units ≡ Plus → sign_of (norm_of a.units a.roots (pos 0)) ≢ Zero
      flat_case a e z = code (sym z ∙ ap sign_of (plain a.units a.roots) ∙ sign_of-times a.units a.units ∙ ap₂ product_of e e)

      root_case : (n : ℕ) → Radical (pos (suc n)) → (a : Pair) → sign_over (pos (suc n)) a ≡ Plus → sign_of (norm_of a.units a.roots (pos (suc n))) ≢ Zero
      root_case n r a e z = code (sym (ap (λ t. by_norm t (sign_of a.units) (sign_of a.roots)) z) ∙ sym (norm_form (pos (suc n)) r a.units a.roots) ∙ e)

  own_norm : (a : Pair) → pair_times d a (conjugate a) ≡ flat (norm_of a.units a.roots d)
  own_norm a =
      ap₂ pair
      (by_ring (a.units ∷ a.roots ∷ d ∷ []) _ _ (search quotes depth 20) (search quotes depth 20) refl)
      (by_ring (a.units ∷ a.roots ∷ []) _ _ (search quotes depth 20) (search quotes depth 20) refl)

  either_way : (n : ℤ) → sign_of n ≢ Zero → (pos 0 ≤ℤ (n -ℤ pos 1)) ⊎ (pos 0 ≤ℤ (neg_ℤ n -ℤ pos 1))
  either_way (pos zero) e = absurd (e refl)
  either_way (pos (suc n)) e = inl (omega (arith, ints))
  either_way (negsuc n) e = inr (omega (arith, ints))

  pub positive_apart : (a : Pair) → sign_over d a ≡ Plus → IsApart ring_over a (conjugate a)
  positive_apart a e = go (either_way (norm_of a.units a.roots d) (norm_some a e))
    where
      go : (pos 0 ≤ℤ (norm_of a.units a.roots d -ℤ pos 1)) ⊎ (pos 0 ≤ℤ (neg_ℤ (norm_of a.units a.roots d) -ℤ pos 1)) → IsApart ring_over a (conjugate a)
      go (inl k) = inl (subst (λ x. AtLeast (sign_over d (pair_plus x (flat (negsuc 0))))) (sym (own_norm a)) (flat_some _ k))
      go (inr k) = inr (subst (λ x. AtLeast (sign_over d (pair_plus (pair (neg_ℤ x.units) (neg_ℤ x.roots)) (flat (negsuc 0))))) (sym (own_norm a)) (flat_some _ k))

  -- ---- the square root of d lies between -S and S
  abbrev theta : Pair
  theta = pair (pos 0) (pos 1)

  root_less : (S : ℕ) → pos 0 ≤ℤ (pos (S * S) -ℤ d) → AtLeast (sign_over d (pair (pos S) (negsuc 0)))
  root_less S h = by_cases (λ d. pos 0 ≤ℤ (pos (S * S) -ℤ d) → AtLeast (sign_over d (pair (pos S) (negsuc 0)))) (λ h. at_least_in (pos S) (omega (arith, ints))) (λ n r h. turned (sign_of (pos S)) _ (at_least_in (pos S) (omega (arith, ints))) (norm_least S n h) (no_root S n h)) d s h
    where
      norm_least : (S n : ℕ) → pos 0 ≤ℤ (pos (S * S) -ℤ pos (suc n)) → AtLeast (sign_of (norm_of (pos S) (negsuc 0) (pos (suc n))))
      norm_least S n h = at_least_in _ (omega (arith, ints, h))

      no_root : (S n : ℕ) → pos 0 ≤ℤ (pos (S * S) -ℤ pos (suc n)) → sign_of (pos S) ≢ Zero
      no_root zero n h = absurd (omega (arith, ints, h))
      no_root (suc S) n h = λ e. code e

      turned : (u n : Sign) → AtLeast u → AtLeast n → u ≢ Zero → AtLeast (sum_sign_of u Minus n)
      turned u n (inl e) k z = subst (λ u. AtLeast (sum_sign_of u Minus n)) (sym e) k
      turned u n (inr e) k z = absurd (z e)

  root_more : (S : ℕ) → AtLeast (sign_over d (pair (pos S) (pos 1)))
  root_more S = by_cases (λ d. AtLeast (sign_over d (pair (pos S) (pos 1)))) (at_least_in (pos S) (omega (arith, ints))) (λ n r. added (sign_of (pos S)) _ (at_least_in (pos S) (omega (arith, ints)))) d s
    where
      added : (u n : Sign) → AtLeast u → AtLeast (sum_sign_of u Plus n)
      added u n (inl e) = subst (λ u. AtLeast (sum_sign_of u Plus n)) (sym e) (inl refl)
      added u n (inr e) = subst (λ u. AtLeast (sum_sign_of u Plus n)) (sym e) (inl refl)

  no_more : (k : ℤ) → k +ℤ pos 0 ≡ k
  no_more k = omega (arith, ints)

  theta_between : (S : ℕ) → pos 0 ≤ℤ (pos (S * S) -ℤ d) → Between ring_over (flat (pos S)) theta
  theta_between S h = record {
    above = subst (λ k. AtLeast (sign_over d (pair k (negsuc 0)))) (sym (no_more (pos S))) (root_less S h);
    below = subst (λ k. AtLeast (sign_over d (pair k (pos 1)))) (sym (no_more (pos S))) (root_more S);
  }

  scaled_theta : (n m : ℤ) → pair_plus (flat n) (pair_times d (flat m) theta) ≡ pair n m
  scaled_theta n m =
      ap₂ pair
      (by_ring (n ∷ m ∷ d ∷ []) _ _ (search quotes depth 20) (search quotes depth 20) refl)
      (by_ring (m ∷ []) _ _ (search quotes depth 20) (search quotes depth 20) refl)

  pub pair_between : (S : ℕ) → pos 0 ≤ℤ (pos (S * S) -ℤ d) → (w : ℕ) (n m : ℤ) → unsigned_abs n + unsigned_abs m * S ≤ w → Between ring_over (flat (pos w)) (pair n m)
  pair_between S h w n m k =
      flat_wider {j = unsigned_abs n + unsigned_abs m * S} k
      (subst (Between ring_over (flat (pos (unsigned_abs n + unsigned_abs m * S)))) (scaled_theta n m)
      (subst (λ X. Between ring_over X (pair_plus (flat n) (pair_times d (flat m) theta))) (ap (pair_plus (flat (pos (unsigned_abs n)))) (flat-times (pos (unsigned_abs m)) (pos S)))
      (sum_between ring_over (flat_between (unsigned_abs n) n (omega arith)) (product_between ring_over (flat_between (unsigned_abs m) m (omega arith)) (theta_between S h)))))
