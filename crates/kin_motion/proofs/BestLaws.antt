-- The computed best item, and the computed extreme point.
use Rattle.std.proofs.Common.{◌≡◌, ◌≢◌, ◌⊎◌, inl, inr, refl, sym, ap, ◌∙◌, subst, arith, List, [], ◌∷◌, ℕ, ◌<◌, Bool, true, false, not, nat_eq, nat_lt, ℤ, pos}
use Rattle.std.specs.Prelude.{Option, Some, None, Contains, MatchOption}
use Rattle.std.proofs.lemmas.Bool.Decides.{nat_tests}
use Rattle.kin_algebra.specs.declared.sign.Sign.{Sign}
use Rattle.kin_algebra.specs.declared.sign.Sign.TheVariants.{Minus, Zero, Plus}
use Rattle.kin_algebra.specs.Signs.{opposite_of, SumMayBe}
use Rattle.kin_algebra.proofs.Signs.{zero_from_opposite}
use Rattle.kin_motion.specs.declared.form.Form.TheVariants.{Line}
use Rattle.kin_motion.specs.Scene.{Scene}
use Rattle.kin_motion.specs.Tournaments.{Key, beats, better_of, best_of}
use Rattle.kin_motion.specs.Extremes.{IsExtreme, IsExtremePoint, left_is_farther, along_key, extreme_of}
use Rattle.kin_motion.specs.Laws.{HasLineLaws}
use Rattle.kin_motion.proofs.Choices.{preferred, IsTop, nothing_there, chosen_is_top}
use Rattle.kin_motion.proofs.Members.{in_from_contains, contains_from_in}

module _ {Item : Type 0} (s : Scene) (key : Key Item)
    (otherwise : (a b : Item) → beats s key a b ≡ false → (a ≡ b) ⊎ (beats s key b a ≡ true))
    (through : (a b c : Item) → beats s key a b ≡ true → beats s key b c ≡ true → beats s key a c ≡ true) where
  as_preferred : (a : Item) (items : List Item) → best_of s key (a ∷ items) ≡ preferred (beats s key) a (best_of s key items)
  as_preferred a items = at (best_of s key items)
    where
      at : (o : Option Item) → better_of s key a o ≡ preferred (beats s key) a o
      at None = refl
      at (Some b) = refl

  pub none_there : (xs : List Item) → best_of s key xs ≡ None → xs ≡ []
  none_there xs e = nothing_there (beats s key) (best_of s key) refl as_preferred xs e

  pub best_is_top : (xs : List Item) (a : Item) → best_of s key xs ≡ Some a → IsTop (beats s key) xs a
  best_is_top xs a e = chosen_is_top (beats s key) (best_of s key) refl as_preferred otherwise through xs a e

-- ---- the extreme point
pub farther_otherwise : (t : Sign) (i j : ℕ) → left_is_farther t i j ≡ false → (i ≡ j) ⊎ (left_is_farther (opposite_of t) j i ≡ true)
farther_otherwise Minus i j e = absurd cc
farther_otherwise Plus i j e = inr refl
farther_otherwise Zero i j e = at (nat_eq i j) refl
  where
    at : (b : Bool) → nat_eq i j ≡ b → (i ≡ j) ⊎ (nat_lt j i ≡ true)
    at true f = inl (grind (arith, nat_tests, f))
    at false f = inr (grind (arith, nat_tests, e, f))

pub farther_through : (t u r : Sign) (i j k : ℕ) → SumMayBe t u r → left_is_farther t i j ≡ true → left_is_farther u j k ≡ true → left_is_farther r i k ≡ true
farther_through Plus u r i j k sum a b = absurd cc
farther_through Zero Plus r i j k sum a b = absurd cc
farther_through Zero Zero r i j k sum a b = subst (λ q. left_is_farther q i k ≡ true) (sym sum) (grind (arith, nat_tests, a, b))
farther_through Zero Minus r i j k sum a b = ap (λ q. left_is_farther q i k) sum
farther_through Minus Plus r i j k sum a b = absurd cc
farther_through Minus Zero r i j k sum a b = ap (λ q. left_is_farther q i k) sum
farther_through Minus Minus r i j k sum a b = ap (λ q. left_is_farther q i k) sum

pub farther_turned : (t : Sign) (i j : ℕ) → i ≢ j → left_is_farther (opposite_of t) j i ≡ not (left_is_farther t i j)
farther_turned Minus i j n = refl
farther_turned Zero i j n = grind (arith, nat_tests, n)
farther_turned Plus i j n = refl

not_beyond : (t : Sign) (i j : ℕ) → left_is_farther t i j ≡ true → (t ≢ Plus) × (j < i → t ≢ Zero)
not_beyond Minus i j e = ((λ f. absurd cc), (λ h f. absurd cc))
not_beyond Zero i j e = ((λ f. absurd cc), (λ h f. absurd (let k : nat_lt i j ≡ true = e in grind (arith, nat_tests, h, k))))
not_beyond Plus i j e = absurd cc

module _ (s : Scene) (laws : HasLineLaws s) (dx dy : ℤ) where
  itself : (i : ℕ) → s.sign (Line dx dy (pos 0) i i) ≡ Zero
  itself i = zero_from_opposite (s.sign (Line dx dy (pos 0) i i)) (laws.opposite dx dy i i)

  extreme_from_top : (i : ℕ) → Contains s.live i → ((j : ℕ) → Contains s.live j → (i ≡ j) ⊎ (beats s (along_key dx dy) i j ≡ true)) → IsExtreme s dx dy s.live i
  extreme_from_top i there top = record {
    member = in_from_contains s.live i there;
    farthest = λ j h. (against j (top j (contains_from_in s.live j h))).0;
    least = λ j h. (against j (top j (contains_from_in s.live j h))).1;
  }
    where
      against : (j : ℕ) → (i ≡ j) ⊎ (beats s (along_key dx dy) i j ≡ true) → (s.sign (Line dx dy (pos 0) i j) ≢ Plus) × (j < i → s.sign (Line dx dy (pos 0) i j) ≢ Zero)
      against j (inr e) = not_beyond (s.sign (Line dx dy (pos 0) i j)) i j e
      against j (inl e) =
          let zero_here : s.sign (Line dx dy (pos 0) i j) ≡ Zero = ap (λ k. s.sign (Line dx dy (pos 0) i k)) (sym e) ∙ itself i in
          ((λ f. absurd (let g : Zero ≡ Plus = sym zero_here ∙ f in cc)), (λ h f. absurd (omega (arith, h, e))))

  pub farther-otherwise : (i j : ℕ) → beats s (along_key dx dy) i j ≡ false → (i ≡ j) ⊎ (beats s (along_key dx dy) j i ≡ true)
  farther-otherwise i j e = turned (farther_otherwise (s.sign (Line dx dy (pos 0) i j)) i j e)
    where
      turned : (i ≡ j) ⊎ (left_is_farther (opposite_of (s.sign (Line dx dy (pos 0) i j))) j i ≡ true) → (i ≡ j) ⊎ (beats s (along_key dx dy) j i ≡ true)
      turned (inl f) = inl f
      turned (inr f) = inr (ap (λ t. left_is_farther t j i) (laws.opposite dx dy i j) ∙ f)

  pub extreme_agrees : IsExtremePoint s dx dy (extreme_of s dx dy)
  unfolding IsTop
  extreme_agrees = at (extreme_of s dx dy) refl
    where
      at : (o : Option ℕ) → extreme_of s dx dy ≡ o → MatchOption o (s.live ≡ []) (λ i. IsExtreme s dx dy s.live i)
      at None e = none_there s (along_key dx dy) farther-otherwise (λ i j k. farther_through _ _ _ i j k (laws.chain dx dy i j k)) s.live e
      at (Some i) e =
          let top = best_is_top s (along_key dx dy) farther-otherwise (λ i j k. farther_through _ _ _ i j k (laws.chain dx dy i j k)) s.live i e in
          extreme_from_top i top.0 top.1
