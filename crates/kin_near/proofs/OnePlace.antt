-- Points at one place.
use Rattle.std.proofs.Common.{◌≡◌, ◌≢◌, ◌⊎◌, inl, inr, refl, sym, ap, ap₂, ◌∙◌, subst, arith, ℕ, zero, suc, ◌<◌, true, cond, ◌&&◌, nat_lt}
use Rattle.std.specs.Prelude.{Some, slice_get}
use Rattle.std.proofs.lemmas.Bool.{and_parts, and_from}
use Rattle.std.proofs.lemmas.Bool.Decides.{nat_tests}
use Rattle.std.proofs.lemmas.Option.{same_Some}
use Rattle.kin_algebra.specs.declared.sign.Sign.{Sign}
use Rattle.kin_algebra.specs.declared.sign.Sign.TheVariants.{Minus, Zero, Plus}
use Rattle.kin_algebra.specs.Signs.{opposite_of, SumMayBe}
use Rattle.kin_algebra.proofs.Signs.{zero_from_opposite}
use Rattle.kin_motion.specs.declared.form.Form.TheVariants.{Dist}
use Rattle.kin_motion.specs.Journal.{same_sign}
use Rattle.kin_motion.specs.Laws.{HasLineLaws}
use Rattle.kin_motion.specs.Octants.{Reading, forward, back, Octant, octant, octants, comes_after, is_in_octant}
use Rattle.kin_motion.specs.Orders.{leads}
use Rattle.kin_motion.specs.Scene.{Scene, IsReal, x_sign, y_sign}
use Rattle.kin_motion.proofs.RealLaws.{real_line_laws}
use Rattle.kin_near.specs.Candidates.{AreCoincident, is_there}
use Rattle.kin_near.proofs.SwappedPairs.{left_turned, right_turned}
use Rattle.kin_near.proofs.ThreePoints.{line_form, as_near, level, equally_far}

is_zero : (t : Sign) → (t ≡ Zero) ⊎ (t ≢ Zero)
is_zero Minus = inr (λ e. cc)
is_zero Zero = inl refl
is_zero Plus = inr (λ e. cc)

pub through_zero : (t u r : Sign) → SumMayBe t u r → t ≡ Zero → u ≡ Zero → r ≡ Zero
through_zero Zero u r sum e f = sum ∙ f
through_zero Minus u r sum e f = absurd cc
through_zero Plus u r sum e f = absurd cc

both : (a b : ℕ) → a < b → nat_lt a b && nat_lt a b ≡ true
both a b h = grind (arith, nat_tests, h)

less_twice : (a b : ℕ) → nat_lt a b && nat_lt a b ≡ true → a < b
less_twice a b h = let k = (and_parts (nat_lt a b) (nat_lt a b) h).0 in grind (arith, nat_tests, k)

not_round : (a b : ℕ) → nat_lt a b && nat_lt b a ≡ true → ⊥
not_round a b h = let k = and_parts (nat_lt a b) (nat_lt b a) h in let l = k.0 in let m = k.1 in grind (arith, nat_tests, l, m)

-- the octants in which points at the apex's place are
abbrev pub octant_0 : Octant
octant_0 = octant (forward 0) (forward 1) (forward 4)

abbrev pub octant_4 : Octant
octant_4 = octant (back 0) (back 1) (back 4)

-- ---- the test
same_as_zero : (t : Sign) → same_sign t Zero ≡ true → t ≡ Zero
same_as_zero Minus e = absurd cc
same_as_zero Zero e = refl
same_as_zero Plus e = absurd cc

pub is_there-there : (s : Scene) (p q : ℕ) → is_there s p q ≡ true → AreCoincident s p q
is_there-there s p q e = let k = and_parts (same_sign (x_sign s p q) Zero) (same_sign (y_sign s p q) Zero) e in (same_as_zero _ k.0, same_as_zero _ k.1)

pub there-is_there : (s : Scene) (p q : ℕ) → AreCoincident s p q → is_there s p q ≡ true
there-is_there s p q k = and_from _ _ (ap (λ t. same_sign t Zero) k.0) (ap (λ t. same_sign t Zero) k.1)

module _ (s : Scene) (real : IsReal s) where
  laws : HasLineLaws s
  laws = real_line_laws s real

  pub together : (i j : ℕ) → AreCoincident s i j ⊎ ¬ (AreCoincident s i j)
  together i j = at (is_zero (x_sign s i j)) (is_zero (y_sign s i j))
    where
      at : (x_sign s i j ≡ Zero) ⊎ (x_sign s i j ≢ Zero) → (y_sign s i j ≡ Zero) ⊎ (y_sign s i j ≢ Zero) → AreCoincident s i j ⊎ ¬ (AreCoincident s i j)
      at (inl e) (inl f) = inl (e, f)
      at (inl e) (inr n) = inr (λ k. n k.1)
      at (inr n) f = inr (λ k. n k.0)

  pub with_itself : (i : ℕ) → AreCoincident s i i
  with_itself i = (zero_from_opposite _ ((laws).opposite _ _ i i), zero_from_opposite _ ((laws).opposite _ _ i i))

  pub turned : (i j : ℕ) → AreCoincident s i j → AreCoincident s j i
  turned i j k = ((laws).opposite _ _ i j ∙ ap opposite_of k.0, (laws).opposite _ _ i j ∙ ap opposite_of k.1)

  pub through : (i j k : ℕ) → AreCoincident s i j → AreCoincident s j k → AreCoincident s i k
  through i j k a b = (through_zero _ _ _ ((laws).chain _ _ i j k) a.0 b.0, through_zero _ _ _ ((laws).chain _ _ i j k) a.1 b.1)

  -- ---- orders
  -- no line leads from one to the other
  pub no_line : (r : Reading) (i j : ℕ) → AreCoincident s i j → s.sign (line_form r i j) ≡ Zero
  no_line r i j k = (level s real (octant r r r) i j j k k).first_c

  -- in each order they come by their numbers
  pub by_number : (r : Reading) (i j : ℕ) → AreCoincident s i j → comes_after s r i j ≡ cond r.from_end (nat_lt j i) (nat_lt i j)
  by_number r i j k = ap₂ (λ t u. cond r.from_end (leads t j i) (leads u i j)) (no_line r j i (turned i j k)) (no_line r i j k)

  -- ---- octants
  inside : (w : Octant) (p q : ℕ) → AreCoincident s p q → is_in_octant s w p q ≡ cond w.first.from_end (nat_lt q p) (nat_lt p q) && cond w.second.from_end (nat_lt q p) (nat_lt p q)
  inside w p q k = ap₂ (λ a b. a && b) (by_number w.first p q k) (by_number w.second p q k)

  -- a greater number is in octant 0
  pub greater_inside : (p q : ℕ) → AreCoincident s p q → p < q → is_in_octant s octant_0 p q ≡ true
  greater_inside p q k less = inside octant_0 p q k ∙ both p q less

  -- and a lesser one in octant 4
  pub lesser_inside : (p q : ℕ) → AreCoincident s p q → q < p → is_in_octant s octant_4 p q ≡ true
  lesser_inside p q k less = inside octant_4 p q k ∙ both q p less

  -- q is in octant 0 of p, and greater, or in octant 4 of p, and less
  abbrev pub IsBeside : ℕ → ℕ → ℕ → Type 0
  IsBeside n p q = ((n ≡ 0) × (p < q)) ⊎ ((n ≡ 4) × (q < p))

  -- in no other octants
  pub beside : (n : ℕ) (w : Octant) (p q : ℕ) → slice_get octants n ≡ Some w → AreCoincident s p q → is_in_octant s w p q ≡ true → IsBeside n p q
  beside n w p q e k h = at n e
    where
      told : (n : ℕ) (v : Octant) → Some v ≡ Some w → (cond v.first.from_end (nat_lt q p) (nat_lt p q) && cond v.second.from_end (nat_lt q p) (nat_lt p q) ≡ true → IsBeside n p q) → IsBeside n p q
      told n v f go = go (sym (inside v p q k) ∙ subst (λ (u : Octant). is_in_octant s u p q ≡ true) (sym (same_Some v w f)) h)

      at : (n : ℕ) → slice_get octants n ≡ Some w → IsBeside n p q
      at zero f = told _ _ f (λ g. inl (refl, less_twice p q g))
      at (suc zero) f = told _ _ f (λ g. absurd (not_round q p g))
      at (suc (suc zero)) f = told _ _ f (λ g. absurd (not_round q p g))
      at (suc (suc (suc zero))) f = told _ _ f (λ g. absurd (not_round q p g))
      at (suc (suc (suc (suc zero)))) f = told _ _ f (λ g. inr (refl, less_twice q p g))
      at (suc (suc (suc (suc (suc zero))))) f = told _ _ f (λ g. absurd (not_round p q g))
      at (suc (suc (suc (suc (suc (suc zero)))))) f = told _ _ f (λ g. absurd (not_round p q g))
      at (suc (suc (suc (suc (suc (suc (suc zero))))))) f = told _ _ f (λ g. absurd (not_round p q g))
      at (suc (suc (suc (suc (suc (suc (suc (suc m)))))))) f = absurd cc

  -- ---- distances
  -- two points at one place are equally far from a third one
  pub as_far : (i j k : ℕ) → AreCoincident s i j → s.sign (Dist k i k j) ≡ Zero
  as_far i j k here = sym (left_turned s real i k k j) ∙ sym (right_turned s real i k j k) ∙ equally_far s real octant_0 j i k (turned i j here)

  -- what is no farther from a point than another at its place is there as well
  pub no_farther : (i j k : ℕ) → AreCoincident s i j → s.sign (Dist i k i j) ≢ Minus → AreCoincident s i k
  no_farther i j k here near = as_near s real octant_0 i j k here near
