-- The computed nearest other point is the nearest, and there is one at most.
use Rattle.std.proofs.Common.{◌≡◌, ◌≢◌, ◌⊎◌, inl, inr, refl, sym, ap, ◌∙◌, subst, arith, [], ℕ, ◌<◌, Bool, true, false, not, nat_eq, nat_lt}
use Rattle.std.specs.Prelude.{Option, Some, None, Contains}
use Rattle.std.proofs.lemmas.Bool.{and_parts, and_from}
use Rattle.std.proofs.lemmas.Bool.Decides.{nat_tests}
use Rattle.kin_algebra.specs.declared.sign.Sign.{Sign}
use Rattle.kin_algebra.specs.declared.sign.Sign.TheVariants.{Minus, Zero, Plus}
use Rattle.kin_algebra.specs.Signs.{opposite_of, SumMayBe}
use Rattle.kin_algebra.proofs.Signs.{zero_from_opposite}
use Rattle.kin_motion.specs.declared.form.Form.TheVariants.{Dist}
use Rattle.kin_motion.specs.Agreements.{NearestAgrees}
use Rattle.kin_motion.specs.Laws.{HasDistanceLaws}
use Rattle.kin_motion.specs.Nearest.{IsNearestTo, IsNearest, left_is_closer, distance_from, others_of, nearest_of}
use Rattle.kin_motion.specs.Numbers.{is_in, IsIn}
use Rattle.kin_motion.specs.Scene.{Scene}
use Rattle.kin_motion.specs.Theorems.{OneNearest}
use Rattle.kin_motion.specs.Tournaments.{beats}
use Rattle.kin_motion.proofs.AgreementLaws.{kept-members}
use Rattle.kin_motion.proofs.BestLaws.{none_there, best_is_top}
use Rattle.kin_motion.proofs.Choices.{IsTop}
use Rattle.kin_motion.proofs.DistanceLaws.{three_ways, real_distance_laws}
use Rattle.kin_motion.proofs.Members.{in_from_contains, contains_from_in}

closer_otherwise : (t : Sign) (j k : ℕ) → left_is_closer t j k ≡ false → (j ≡ k) ⊎ (left_is_closer (opposite_of t) k j ≡ true)
closer_otherwise Minus j k e = inr refl
closer_otherwise Plus j k e = absurd cc
closer_otherwise Zero j k e = at (nat_eq j k) refl
  where
    at : (b : Bool) → nat_eq j k ≡ b → (j ≡ k) ⊎ (nat_lt k j ≡ true)
    at true f = inl (grind (arith, nat_tests, f))
    at false f = inr (grind (arith, nat_tests, e, f))

closer_through : (t u r : Sign) (j k l : ℕ) → SumMayBe t u r → left_is_closer t j k ≡ true → left_is_closer u k l ≡ true → left_is_closer r j l ≡ true
closer_through Minus u r j k l sum a b = absurd cc
closer_through Zero Minus r j k l sum a b = absurd cc
closer_through Zero Zero r j k l sum a b = subst (λ q. left_is_closer q j l ≡ true) (sym sum) (grind (arith, nat_tests, a, b))
closer_through Zero Plus r j k l sum a b = ap (λ q. left_is_closer q j l) sum
closer_through Plus Minus r j k l sum a b = absurd cc
closer_through Plus Zero r j k l sum a b = ap (λ q. left_is_closer q j l) sum
closer_through Plus Plus r j k l sum a b = ap (λ q. left_is_closer q j l) sum

not_nearer : (t : Sign) (j k : ℕ) → left_is_closer t j k ≡ true → (t ≢ Minus) × (k < j → t ≢ Zero)
not_nearer Plus j k e = ((λ f. absurd cc), (λ h f. absurd cc))
not_nearer Zero j k e = ((λ f. absurd cc), (λ h f. absurd (let l : nat_lt j k ≡ true = e in grind (arith, nat_tests, h, l))))
not_nearer Minus j k e = absurd cc

-- a sign that is not - and whose opposite is not - is 0
level : (t : Sign) → t ≢ Minus → opposite_of t ≢ Minus → t ≡ Zero
level Minus h k = absurd (h refl)
level Zero h k = refl
level Plus h k = absurd (k refl)

module _ (s : Scene) (i : ℕ) where
  is_other : ℕ → Bool
  is_other j = not (nat_eq j i)

  other_of : (j : ℕ) → IsIn j (others_of s i) → IsIn j s.live × (j ≢ i)
  unfolding is_other
  other_of j h = let k = and_parts (is_in j s.live) (is_other j) (sym (kept-members is_other s.live j) ∙ h) in (k.0, λ e. let f = k.1 in grind (arith, nat_tests, e, f))

  pub one_of_others : (j : ℕ) → IsIn j s.live → j ≢ i → IsIn j (others_of s i)
  unfolding is_other
  one_of_others j l n = kept-members is_other s.live j ∙ and_from (is_in j s.live) (is_other j) l (grind (arith, nat_tests, n))

  module _ (laws : HasDistanceLaws s) where
    closer-otherwise : (j k : ℕ) → beats s (distance_from i) j k ≡ false → (j ≡ k) ⊎ (beats s (distance_from i) k j ≡ true)
    closer-otherwise j k e = turned (closer_otherwise (s.sign (Dist i j i k)) j k e)
      where
        turned : (j ≡ k) ⊎ (left_is_closer (opposite_of (s.sign (Dist i j i k))) k j ≡ true) → (j ≡ k) ⊎ (beats s (distance_from i) k j ≡ true)
        turned (inl f) = inl f
        turned (inr f) = inr (ap (λ t. left_is_closer t k j) (laws.opposite i j i k) ∙ f)

    closer-through : (j k l : ℕ) → beats s (distance_from i) j k ≡ true → beats s (distance_from i) k l ≡ true → beats s (distance_from i) j l ≡ true
    closer-through j k l = closer_through _ _ _ j k l (laws.chain i j i k i l)

    itself : (j : ℕ) → s.sign (Dist i j i j) ≡ Zero
    itself j = zero_from_opposite (s.sign (Dist i j i j)) (laws.opposite i j i j)

    from_top : (j : ℕ) → Contains (others_of s i) j → ((k : ℕ) → Contains (others_of s i) k → (j ≡ k) ⊎ (beats s (distance_from i) j k ≡ true)) → IsNearestTo s i j
    from_top j there top =
        let known = other_of j (in_from_contains (others_of s i) j there) in
        record {
          live = known.0;
          other = known.1;
          nearest = λ k l n. (against k (top k (contains_from_in (others_of s i) k (one_of_others k l n)))).0;
          least = λ k l n. (against k (top k (contains_from_in (others_of s i) k (one_of_others k l n)))).1;
        }
      where
        against : (k : ℕ) → (j ≡ k) ⊎ (beats s (distance_from i) j k ≡ true) → (s.sign (Dist i j i k) ≢ Minus) × (k < j → s.sign (Dist i j i k) ≢ Zero)
        against k (inr e) = not_nearer (s.sign (Dist i j i k)) j k e
        against k (inl e) =
            let zero_here : s.sign (Dist i j i k) ≡ Zero = ap (λ l. s.sign (Dist i j i l)) (sym e) ∙ itself j in
            ((λ f. absurd (let g : Zero ≡ Minus = sym zero_here ∙ f in cc)), (λ h f. absurd (omega (arith, h, e))))

    alone : others_of s i ≡ [] → (j : ℕ) → IsIn j s.live → j ≡ i
    alone none j l = at (nat_eq j i) refl
      where
        at : (b : Bool) → nat_eq j i ≡ b → j ≡ i
        at true e = grind (arith, nat_tests, e)
        at false e = absurd (let clash : false ≡ true = subst (λ xs. IsIn j xs) none (one_of_others j l (λ f. grind (arith, nat_tests, e, f))) in cc)

    nearest_agrees : IsNearest s i (nearest_of s i)
    unfolding IsTop
    nearest_agrees = at (nearest_of s i) refl
      where
        at : (o : Option ℕ) → nearest_of s i ≡ o → IsNearest s i o
        at None e = alone (none_there s (distance_from i) closer-otherwise closer-through (others_of s i) e)
        at (Some j) e = let top = best_is_top s (distance_from i) closer-otherwise closer-through (others_of s i) j e in from_top j top.0 top.1

    one_number : (j k : ℕ) → IsNearestTo s i j → IsNearestTo s i k → j ≡ k
    one_number j k a b = at (three_ways j k)
      where
        same : s.sign (Dist i j i k) ≡ Zero
        same = level _ (a.nearest k b.live b.other) (λ e. b.nearest j a.live a.other (laws.opposite i j i k ∙ e))

        at : (j < k) ⊎ ((j ≡ k) ⊎ (k < j)) → j ≡ k
        at (inl h) = absurd (b.least j a.live a.other h (laws.opposite i j i k ∙ ap opposite_of same))
        at (inr (inl e)) = e
        at (inr (inr h)) = absurd (a.least k b.live b.other h same)

pub nearest_proved : NearestAgrees
nearest_proved s i r = nearest_agrees s i (real_distance_laws s r)

pub one_nearest : OneNearest
one_nearest s i None None r a b = refl
one_nearest s i None (Some k) r a b = absurd (b.other (a k b.live))
one_nearest s i (Some j) None r a b = absurd (a.other (b j a.live))
one_nearest s i (Some j) (Some k) r a b = ap (λ (n : ℕ). Some n) (one_number s i (real_distance_laws s r) j k a b)
