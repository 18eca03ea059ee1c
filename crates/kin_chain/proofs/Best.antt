-- The best point of a set along a direction: the highest, of these the leftmost, of these the one of least number.
use Rattle.std.proofs.Common.{◌≡◌, ◌⊎◌, inl, inr, refl, sym, ap, ap₂, ◌∙◌, subst, arith, ◌<◌, zero, suc, List, [], ◌∷◌, ℕ}
use Rattle.kin_algebra.specs.declared.sign.Sign.{Sign}
use Rattle.kin_algebra.specs.declared.sign.Sign.TheVariants.{Minus, Zero, Plus}
use Rattle.kin_algebra.specs.Signs.{opposite_of, first_of, SumMayBe}
use Rattle.kin_algebra.proofs.Ring.{by_identity, quotes_in}
use Rattle.kin_algebra.proofs.Signs.{code, first_of-opposite, first_of-sum}
use Rattle.kin_algebra.proofs.OrderedRings.{OrderedRing, sum_may_be}
use Rattle.kin_motion.specs.Numbers.{IsIn}
use Rattle.kin_motion.proofs.Members.{in_head, in_tail, in_cases}
use Rattle.kin_chain.proofs.Comparisons.{way, AtMost, Below, Level, turned, two_steps, not_both, level_turned, most_or_below}
use Rattle.kin_chain.proofs.Planes.{Places}
use Rattle.kin_chain.proofs.Geometry.{Direction, up, straight, middle}
use Rattle.kin_chain.proofs.Stays.{Stays}

-- + where the second is better, and 0 where both are as good
pub record IsComparison (c : ℕ → ℕ → Sign) : Type 0 where
  pub opposite : (i j : ℕ) → c j i ≡ opposite_of (c i j)
  pub through : (i j k : ℕ) → SumMayBe (c i j) (c j k) (c i k)

-- by the first comparison, and where that is 0 by the second
pub one_after_other : {c d : ℕ → ℕ → Sign} → IsComparison c → IsComparison d → IsComparison (λ i j. first_of (c i j) (d i j))
one_after_other {c} {d} p q = record {
  opposite = λ i j. ap₂ first_of (p.opposite i j) (q.opposite i j) ∙ first_of-opposite (c i j) (d i j);
  through = λ i j k. first_of-sum (c i j) (c j k) (c i k) (d i j) (d j k) (d i k) (p.through i j k) (q.through i j k);
}

-- the lesser number is better
pub by_number : ℕ → ℕ → Sign
by_number zero zero = Zero
by_number zero (suc j) = Minus
by_number (suc i) zero = Plus
by_number (suc i) (suc j) = by_number i j

numbers_compared : IsComparison by_number
unfolding by_number
numbers_compared = record { opposite = opposite; through = through }
  where
    opposite : (i j : ℕ) → by_number j i ≡ opposite_of (by_number i j)
    opposite zero zero = refl
    opposite zero (suc j) = refl
    opposite (suc i) zero = refl
    opposite (suc i) (suc j) = opposite i j

    through : (i j k : ℕ) → SumMayBe (by_number i j) (by_number j k) (by_number i k)
    through zero zero k = refl
    through zero (suc j) zero = tt
    through zero (suc j) (suc k) = less (by_number j k)
      where
        less : (t : Sign) → SumMayBe Minus t Minus
        less Minus = refl
        less Zero = refl
        less Plus = tt
    through (suc i) zero zero = refl
    through (suc i) zero (suc k) = tt
    through (suc i) (suc j) zero = more (by_number i j)
      where
        more : (t : Sign) → SumMayBe t Plus Plus
        more Minus = tt
        more Zero = refl
        more Plus = refl
    through (suc i) (suc j) (suc k) = through i j k

less_is_better : (i j : ℕ) → j < i → by_number i j ≡ Plus
unfolding by_number
less_is_better zero j lt = absurd (omega (arith, lt))
less_is_better (suc i) zero lt = refl
less_is_better (suc i) (suc j) lt = less_is_better i j (omega (arith, lt))

-- ---- the best of a list
-- b is of the list, and none of it is better
pub record IsBest (c : ℕ → ℕ → Sign) (set : List ℕ) (b : ℕ) : Type 0 where
  pub inside : IsIn b set
  pub none_better : (q : ℕ) → IsIn q set → c b q ≡ Plus → ⊥

module _ (c : ℕ → ℕ → Sign) (is : IsComparison c) where
  own_best : (i : ℕ) → c i i ≡ Plus → ⊥
  own_best i e = code (sym e ∙ is.opposite i i ∙ ap opposite_of e)

  -- nothing is better than what is better than the best
  still_best : (x b q : ℕ) → c b x ≡ Plus → (c b q ≡ Plus → ⊥) → c x q ≡ Plus → ⊥
  still_best x b q e n f = n (at (subst (λ t. SumMayBe t (c x q) (c b q)) e (is.through b x q)))
    where
      at : SumMayBe Plus (c x q) (c b q) → c b q ≡ Plus
      at s = subst (λ t. SumMayBe Plus t (c b q)) f s

  pub best : (x : ℕ) (xs : List ℕ) → (b : ℕ) × IsBest c (x ∷ xs) b
  best x [] = (x, record { inside = in_head x []; none_better = λ q i e. only q e (in_cases q x [] i) })
    where
      only : (q : ℕ) → c x q ≡ Plus → (q ≡ x) ⊎ IsIn q [] → ⊥
      only q e (inl f) = own_best x (ap (c x) (sym f) ∙ e)
      only q e (inr k) = absurd cc
  best x (y ∷ ys) = at (best y ys)
    where
      at : (b : ℕ) × IsBest c (y ∷ ys) b → (b : ℕ) × IsBest c (x ∷ y ∷ ys) b
      at (b, r) = by_sign (c b x) refl
        where
          other : (t : Sign) → c b x ≡ t → (t ≡ Plus → ⊥) → IsBest c (x ∷ y ∷ ys) b
          other t e n = record { inside = in_tail b x (y ∷ ys) r.inside; none_better = λ q i f. cases q f (in_cases q x (y ∷ ys) i) }
            where
              cases : (q : ℕ) → c b q ≡ Plus → (q ≡ x) ⊎ IsIn q (y ∷ ys) → ⊥
              cases q f (inl g) = n (sym e ∙ ap (c b) (sym g) ∙ f)
              cases q f (inr k) = r.none_better q k f

          by_sign : (t : Sign) → c b x ≡ t → (b : ℕ) × IsBest c (x ∷ y ∷ ys) b
          by_sign Minus e = (b, other Minus e (λ f. code f))
          by_sign Zero e = (b, other Zero e (λ f. code f))
          by_sign Plus e = (x, record { inside = in_head x (y ∷ ys); none_better = λ q i f. cases q f (in_cases q x (y ∷ ys) i) })
            where
              cases : (q : ℕ) → c x q ≡ Plus → (q ≡ x) ⊎ IsIn q (y ∷ ys) → ⊥
              cases q f (inl g) = own_best x (ap (c x) (sym g) ∙ f)
              cases q f (inr k) = still_best x b q e (r.none_better q k) f

  pub best_of_some : (x : ℕ) (set : List ℕ) → IsIn x set → (b : ℕ) × IsBest c set b
  best_of_some x [] i = absurd cc
  best_of_some x (y ∷ ys) i = best y ys

-- ---- along a direction
module _ {R : Type 0} (o : OrderedRing R) (ps : Places o) where
  by_value : (v : ℕ → R) → IsComparison (λ i j. o.sign (way o v i j))
  by_value v = record {
    opposite = turned o v;
    through = λ i j k. subst (λ (z : R). SumMayBe (o.sign (way o v i j)) (o.sign (way o v j k)) (o.sign z)) (two_steps o (v i) (v j) (v k)) (sum_may_be o (way o v i j) (way o v j k));
  }

  leftwards : ℕ → R
  leftwards i = o.ring.negative (ps.x i)

  -- + where j lies to the left of i
  leftwards_step : (i j : ℕ) → way o leftwards i j ≡ way o ps.x j i
  unfolding leftwards
  leftwards_step i j = by_identity o.ring (ps.x i ∷ ps.x j ∷ []) _ _ (search quotes_in depth 20) (search quotes_in depth 20) refl

  module _ (e : Direction o) (set : List ℕ) where
    compare : ℕ → ℕ → Sign
    compare i j = first_of (o.sign (way o (up o ps e) i j)) (first_of (o.sign (way o leftwards i j)) (by_number i j))

    compared : IsComparison compare
    unfolding compare
    compared = one_after_other (by_value (up o ps e)) (one_after_other (by_value leftwards) numbers_compared)

    module _ {b : ℕ} (r : IsBest compare set b) where
      best_high : (q : ℕ) → IsIn q set → AtMost o (up o ps e) q b
      unfolding compare
      best_high q i = at (most_or_below o (up o ps e) q b)
        where
          at : AtMost o (up o ps e) q b ⊎ Below o (up o ps e) b q → AtMost o (up o ps e) q b
          at (inl m) = m
          at (inr k) = absurd (r.none_better q i (ap (λ t. first_of t (first_of (o.sign (way o leftwards b q)) (by_number b q))) k.is))

      -- none is as high and farther left
      none_left : (q : ℕ) → IsIn q set → Level o (up o ps e) b q → Below o ps.x q b → ⊥
      unfolding compare
      none_left q i level left =
          r.none_better q i
          (ap (λ t. first_of t (first_of (o.sign (way o leftwards b q)) (by_number b q))) level.is
          ∙ ap (λ t. first_of t (by_number b q)) (ap o.sign (leftwards_step b q) ∙ left.is))

      best_stays : Stays o ps set b
      unfolding compare
      best_stays = record {
        no_double = λ q i x y lt. r.none_better q i
            (ap (λ t. first_of t (first_of (o.sign (way o leftwards b q)) (by_number b q))) (straight o ps e x ∙ y.is)
            ∙ ap (λ t. first_of t (by_number b q)) (ap o.sign (leftwards_step b q) ∙ (level_turned o x).is)
            ∙ less_is_better b q lt);
        no_above = λ q i x y. not_both o (record { is = straight o ps e x ∙ y.is }) (best_high q i);
        no_segment = λ q r' i j left right low. none_left q i (level_turned o (middle o ps e left right low (best_high q i) (best_high r' j)).0) left;
      }

    -- best point: it is at least as high as all others, and stays
    pub best_point : (x : ℕ) → IsIn x set → (b : ℕ) × IsIn b set × Stays o ps set b × ((q : ℕ) → IsIn q set → AtMost o (up o ps e) q b)
    best_point x i = let r = best_of_some compare compared x set i in (r.0, r.1.inside, best_stays r.1, best_high r.1)
