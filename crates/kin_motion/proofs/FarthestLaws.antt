-- The computed farthest pair is the farthest, and there is one at most.
use Rattle.std.proofs.Common.{◌≡◌, ◌≢◌, ◌⊎◌, inl, inr, refl, sym, ap, ap₂, ◌∙◌, subst, ℕ, ◌<◌, Bool, true, false, not}
use Rattle.std.specs.Prelude.{Option, Some, None, Contains}
use Rattle.kin_algebra.specs.declared.sign.Sign.{Sign}
use Rattle.kin_algebra.specs.declared.sign.Sign.TheVariants.{Minus, Zero, Plus}
use Rattle.kin_algebra.specs.Signs.{opposite_of, SumMayBe}
use Rattle.kin_algebra.proofs.Members.{contains_none}
use Rattle.kin_algebra.proofs.Signs.{zero_from_opposite}
use Rattle.kin_motion.specs.declared.form.Form.TheVariants.{Dist}
use Rattle.kin_motion.specs.Agreements.{FarthestAgrees}
use Rattle.kin_motion.specs.ClosestPairs.{Near, is_less_pair, pairs_of, pair_in}
use Rattle.kin_motion.specs.Farthest.{are_apart, IsPairApart, IsFarthestPair, IsFarthest, left_is_farther_pair, farness_key, pairs_apart, farthest_of}
use Rattle.kin_motion.specs.Laws.{HasDistanceLaws}
use Rattle.kin_motion.specs.Scene.{Scene}
use Rattle.kin_motion.specs.Theorems.{OneFarthest}
use Rattle.kin_motion.specs.Tournaments.{beats, best_of}
use Rattle.kin_motion.proofs.BestLaws.{none_there, best_is_top}
use Rattle.kin_motion.proofs.Choices.{IsTop}
use Rattle.kin_motion.proofs.ClosestLaws.{Rises, filled-rises, pair, pairs_members, pairs_listed}
use Rattle.kin_motion.proofs.DistanceLaws.{LessPair, less_from, less_to, less_through, not_both, three_ways, same_or_less, turned_pair, real_distance_laws}
use Rattle.kin_motion.proofs.SetLaws.{filter-sound, filter-complete}

pub farther_otherwise : (t : Sign) (p q : Near) → left_is_farther_pair t p q ≡ false → (p ≡ q) ⊎ (left_is_farther_pair (opposite_of t) q p ≡ true)
farther_otherwise Plus p q e = inr refl
farther_otherwise Minus p q e = absurd cc
farther_otherwise Zero p q e = at (same_or_less p q)
  where
    at : (p ≡ q) ⊎ (LessPair p q ⊎ LessPair q p) → (p ≡ q) ⊎ (is_less_pair q p ≡ true)
    at (inl f) = inl f
    at (inr (inl h)) = absurd (let k : true ≡ false = sym (less_to p q h) ∙ e in cc)
    at (inr (inr h)) = inr (less_to q p h)

farther_through : (t u r : Sign) (p q v : Near) → SumMayBe t u r → left_is_farther_pair t p q ≡ true → left_is_farther_pair u q v ≡ true → left_is_farther_pair r p v ≡ true
farther_through Plus u r p q v sum a b = absurd cc
farther_through Zero Plus r p q v sum a b = absurd cc
farther_through Zero Zero r p q v sum a b = ap (λ x. left_is_farther_pair x p v) sum ∙ less_to p v (less_through p q v (less_from p q a) (less_from q v b))
farther_through Zero Minus r p q v sum a b = ap (λ x. left_is_farther_pair x p v) sum
farther_through Minus Plus r p q v sum a b = absurd cc
farther_through Minus Zero r p q v sum a b = ap (λ x. left_is_farther_pair x p v) sum
farther_through Minus Minus r p q v sum a b = ap (λ x. left_is_farther_pair x p v) sum

not_farther : (t : Sign) (p q : Near) → left_is_farther_pair t p q ≡ true → (t ≢ Plus) × (LessPair q p → t ≢ Zero)
not_farther Plus p q e = absurd cc
not_farther Zero p q e = ((λ f. absurd cc), (λ h f. not_both p q (less_from p q e) h))
not_farther Minus p q e = ((λ f. absurd cc), (λ h f. absurd cc))

farther_never : (t : Sign) (p : Near) → t ≡ opposite_of t → left_is_farther_pair t p p ≡ true → ⊥
farther_never Plus p o e = absurd cc
farther_never Minus p o e = absurd cc
farther_never Zero p o e = let g = less_from p p e in not_both p p g g

farther_turned : (t : Sign) (p q : Near) → p ≢ q → left_is_farther_pair (opposite_of t) q p ≡ not (left_is_farther_pair t p q)
farther_turned Plus p q n = refl
farther_turned Minus p q n = refl
farther_turned Zero p q n = turned_pair p q n

-- a sign that is not + and whose opposite is not + is 0
level : (t : Sign) → t ≢ Plus → opposite_of t ≢ Plus → t ≡ Zero
level Minus h k = absurd (k refl)
level Zero h k = refl
level Plus h k = absurd (h refl)

module _ (s : Scene) (laws : HasDistanceLaws s) where
  itself : (i j : ℕ) → s.sign (Dist i j i j) ≡ Zero
  itself i j = zero_from_opposite (s.sign (Dist i j i j)) (laws.opposite i j i j)

  pub farther-otherwise : (p q : Near) → beats s farness_key p q ≡ false → (p ≡ q) ⊎ (beats s farness_key q p ≡ true)
  farther-otherwise p q e = turned (farther_otherwise (s.sign (Dist p.i p.j q.i q.j)) p q e)
    where
      turned : (p ≡ q) ⊎ (left_is_farther_pair (opposite_of (s.sign (Dist p.i p.j q.i q.j))) q p ≡ true) → (p ≡ q) ⊎ (beats s farness_key q p ≡ true)
      turned (inl f) = inl f
      turned (inr f) = inr (ap (λ t. left_is_farther_pair t q p) (laws.opposite p.i p.j q.i q.j) ∙ f)

  pub farther-through : (p q v : Near) → beats s farness_key p q ≡ true → beats s farness_key q v ≡ true → beats s farness_key p v ≡ true
  farther-through p q v = farther_through _ _ _ p q v (laws.chain p.i p.j q.i q.j v.i v.j)

  pub farther-never : (p : Near) → beats s farness_key p p ≡ true → ⊥
  farther-never p e = farther_never (s.sign (Dist p.i p.j p.i p.j)) p (laws.opposite p.i p.j p.i p.j) e

  -- of two different pairs exactly one is farther, or as far and less
  pub farther-total : (p q : Near) → p ≢ q → beats s farness_key q p ≡ not (beats s farness_key p q)
  farther-total p q n = ap (λ t. left_is_farther_pair t q p) (laws.opposite p.i p.j q.i q.j) ∙ farther_turned (s.sign (Dist p.i p.j q.i q.j)) p q n

  module _ (rises : Rises s.live) where
    is_apart : Near → Bool
    is_apart p = are_apart s p.i p.j

    listed : (i j : ℕ) → IsPairApart s i j → Contains (pairs_apart s) (pair i j)
    unfolding is_apart
    listed i j a = filter-complete is_apart (pairs_of s.live) (pair i j) (pairs_members s.live i j rises a.i_live a.j_live a.rising) a.apart

    from_list : (p : Near) → Contains (pairs_apart s) p → IsPairApart s p.i p.j
    unfolding is_apart
    from_list p there =
        let k = filter-sound is_apart (pairs_of s.live) p there in
        let l = pairs_listed s.live rises p k.0 in
        record { i_live = l.i_in; j_live = l.j_in; rising = l.rising; apart = k.1 }

    from_top : (p : Near) → Contains (pairs_apart s) p → ((q : Near) → Contains (pairs_apart s) q → (p ≡ q) ⊎ (beats s farness_key p q ≡ true)) → IsFarthestPair s p.i p.j
    unfolding LessPair
    from_top p there top = record {
      pair = from_list p there;
      farthest = λ k l a. (against k l (top (pair k l) (listed k l a))).0;
      least = λ k l a h. (against k l (top (pair k l) (listed k l a))).1 (lesser k l h);
    }
      where
        lesser : (k l : ℕ) → (k < p.i) ⊎ ((k ≡ p.i) × (l < p.j)) → LessPair (pair k l) p
        lesser k l (inl h) = inl h
        lesser k l (inr (e, h)) = inr (e, inl h)

        against : (k l : ℕ) → (p ≡ pair k l) ⊎ (beats s farness_key p (pair k l) ≡ true) → (s.sign (Dist p.i p.j k l) ≢ Plus) × (LessPair (pair k l) p → s.sign (Dist p.i p.j k l) ≢ Zero)
        against k l (inr e) = not_farther (s.sign (Dist p.i p.j k l)) p (pair k l) e
        against k l (inl e) =
            let zero_here : s.sign (Dist p.i p.j k l) ≡ Zero = ap (λ (q : Near). s.sign (Dist p.i p.j q.i q.j)) (sym e) ∙ itself p.i p.j in
            ((λ f. absurd (let g : Zero ≡ Plus = sym zero_here ∙ f in cc)), (λ h f. not_both p p (subst (λ (q : Near). LessPair q p) (sym e) h) (subst (λ (q : Near). LessPair q p) (sym e) h)))

    farthest_agrees : IsFarthest s (farthest_of s)
    unfolding IsTop
    farthest_agrees = at (best_of s farness_key (pairs_apart s)) refl
      where
        at : (o : Option Near) → best_of s farness_key (pairs_apart s) ≡ o → IsFarthest s (pair_in o)
        at None e = λ i j a. contains_none (pair i j) (subst (λ ps. Contains ps (pair i j)) (none_there s farness_key farther-otherwise farther-through (pairs_apart s) e) (listed i j a))
        at (Some p) e =
            let top = best_is_top s farness_key farther-otherwise farther-through (pairs_apart s) p e in
            from_top p top.0 top.1

  one_farthest_pair : (i j k l : ℕ) → IsFarthestPair s i j → IsFarthestPair s k l → (i ≡ k) × (j ≡ l)
  one_farthest_pair i j k l a b = at (three_ways i k) (three_ways j l)
    where
      same : s.sign (Dist i j k l) ≡ Zero
      same = level _ (a.farthest k l b.pair) (λ e. b.farthest i j a.pair (laws.opposite i j k l ∙ e))

      less : (i < k) ⊎ ((i ≡ k) × (j < l)) → ⊥
      less h = b.least i j a.pair h (laws.opposite i j k l ∙ ap opposite_of same)

      more : (k < i) ⊎ ((k ≡ i) × (l < j)) → ⊥
      more h = a.least k l b.pair h same

      at : (i < k) ⊎ ((i ≡ k) ⊎ (k < i)) → (j < l) ⊎ ((j ≡ l) ⊎ (l < j)) → (i ≡ k) × (j ≡ l)
      at (inl h) v = absurd (less (inl h))
      at (inr (inr h)) v = absurd (more (inl h))
      at (inr (inl e)) (inl h) = absurd (less (inr (e, h)))
      at (inr (inl e)) (inr (inr h)) = absurd (more (inr (sym e, h)))
      at (inr (inl e)) (inr (inl f)) = (e, f)

pub farthest_proved : FarthestAgrees
farthest_proved s r = farthest_agrees s (real_distance_laws s r) (subst Rises (sym r.live) (filled-rises 0 r.motions))

pub one_farthest : OneFarthest
one_farthest s None None r a b = refl
one_farthest s None (Some (k, l)) r a b = absurd (a k l b.pair)
one_farthest s (Some (i, j)) None r a b = absurd (b i j a.pair)
one_farthest s (Some (i, j)) (Some (k, l)) r a b = let e = one_farthest_pair s (real_distance_laws s r) i j k l a b in ap₂ (λ (m n : ℕ). Some (m, n)) e.0 e.1
