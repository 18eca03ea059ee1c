-- The computed closest pair is the closest pair.
use Rattle.std.proofs.Common.{◌≡◌, ◌≢◌, ◌⊎◌, inl, inr, refl, ap, sym, ◌∙◌, subst, arith, List, [], ◌∷◌, ◌++◌, ℕ, zero, ◌+◌, ◌<◌, Bool, true, false, nat_lt}
use Rattle.std.specs.Prelude.{Option, Some, None, Contains}
use Rattle.std.proofs.lemmas.Bool.Decides.{nat_tests}
use Rattle.std.proofs.lemmas.List.Elements.{Contains-append_left, Contains-append_right, Contains-append_cases}
use Rattle.kin_algebra.proofs.Members.{contains_cases, contains_tail}
use Rattle.kin_algebra.specs.declared.sign.Sign.{Sign}
use Rattle.kin_algebra.specs.declared.sign.Sign.TheVariants.{Minus, Zero, Plus}
use Rattle.kin_algebra.specs.Signs.{opposite_of}
use Rattle.kin_algebra.proofs.Signs.{zero_from_opposite}
use Rattle.kin_motion.specs.declared.form.Form.TheVariants.{Dist}
use Rattle.kin_motion.specs.Numbers.{is_in, IsIn, filled_from}
use Rattle.kin_motion.specs.Scene.{Scene}
use Rattle.kin_motion.specs.Tournaments.{beats, best_of}
use Rattle.kin_motion.specs.ClosestPairs.{Near, is_less_pair, left_is_nearer, distance_key, pairs_with, pairs_of, pair_in, IsClosestPair, IsClosest, closest_of}
use Rattle.kin_motion.specs.Laws.{HasDistanceLaws}
use Rattle.kin_motion.specs.Agreements.{ClosestAgrees}
use Rattle.kin_motion.proofs.LiveLaws.{not_below}
use Rattle.kin_motion.proofs.BestLaws.{none_there, best_is_top}
use Rattle.kin_motion.proofs.Choices.{IsTop}
use Rattle.kin_motion.proofs.DistanceLaws.{LessPair, less_from, less_to, not_both, three_ways, same_or_less, nearer_transitive, real_distance_laws}
use Rattle.kin_motion.proofs.Members.{in_tail, in_front, in_cases}

-- each number is less than all in_tail it
abbrev pub Rises : List ℕ → Type 0
Rises [] = Unit {0}
Rises (x ∷ xs) = ((j : ℕ) → is_in j xs ≡ true → x < j) × Rises xs

pub filled-rises : {A : Type 0} (n : ℕ) (cs : List (Option A)) → Rises (filled_from n cs)
filled-rises {A} n [] = tt
filled-rises {A} n (Some c ∷ cs) = ((λ j h. above j (nat_lt j (n + 1)) refl h), filled-rises (n + 1) cs)
  where
    above : (j : ℕ) (t : Bool) → nat_lt j (n + 1) ≡ t → is_in j (filled_from (n + 1) cs) ≡ true → n < j
    above j true e h = absurd (let k : true ≡ false = sym h ∙ not_below (n + 1) j cs (grind (arith, nat_tests, e)) in cc)
    above j false e h = grind (arith, nat_tests, e)
filled-rises {A} n (None ∷ cs) = filled-rises (n + 1) cs

abbrev pub pair : ℕ → ℕ → Near
pair i j = record { i = i; j = j; slot = 0 }

with_members : (i j : ℕ) (js : List ℕ) → is_in j js ≡ true → Contains (pairs_with i js) (pair i j)
with_members i j [] h = absurd cc
with_members i j (k ∷ js) h = at (in_cases j k js h) (with_members i j js)
  where
    at : (j ≡ k) ⊎ (is_in j js ≡ true) → (is_in j js ≡ true → Contains (pairs_with i js) (pair i j)) → Contains (pairs_with i (k ∷ js)) (pair i j)
    at (inl e) rest = (zero, omega arith, ap (pair i) (sym e))
    at (inr h) rest = contains_tail (pair i k) (pair i j) (pairs_with i js) (rest h)

pub pairs_members : (xs : List ℕ) (i j : ℕ) → Rises xs → is_in i xs ≡ true → is_in j xs ≡ true → i < j → Contains (pairs_of xs) (pair i j)
pairs_members [] i j r a b lt = absurd cc
pairs_members (x ∷ xs) i j r a b lt = at (in_cases i x xs a) (in_cases j x xs b) (pairs_members xs i j r.1)
  where
    at : (i ≡ x) ⊎ (is_in i xs ≡ true) → (j ≡ x) ⊎ (is_in j xs ≡ true) → (is_in i xs ≡ true → is_in j xs ≡ true → i < j → Contains (pairs_of xs) (pair i j)) → Contains (pairs_with x xs ++ pairs_of xs) (pair i j)
    at (inl e) (inl f) rest = absurd (omega (arith, lt, e, f))
    at (inl e) (inr h) rest = Contains-append_left (pairs_with x xs) (pairs_of xs) (pair i j) (subst (λ y. Contains (pairs_with y xs) (pair i j)) e (with_members i j xs h))
    at (inr h) (inl f) rest = absurd (let k = r.0 i h in omega (arith, lt, f, k))
    at (inr h) (inr k) rest = Contains-append_right (pairs_with x xs) (pairs_of xs) (pair i j) (rest h k lt)

-- what a listed pair is
pub record IsListed (xs : List ℕ) (p : Near) : Type 0 where
  pub i_in : is_in p.i xs ≡ true
  pub j_in : is_in p.j xs ≡ true
  pub rising : p.i < p.j
  pub first_slot : p.slot ≡ 0

with_listed : (i : ℕ) (js : List ℕ) (p : Near) → Contains (pairs_with i js) p → (i ≡ p.i) × (is_in p.j js ≡ true) × (p.slot ≡ 0)
with_listed i [] p (k, l, e) = absurd (omega arith)
with_listed i (j ∷ js) p h = at (contains_cases (pair i j) p (pairs_with i js) (as_pair h)) (with_listed i js p)
  where
    as_pair : Contains (pairs_with i (j ∷ js)) p → Contains (pair i j ∷ pairs_with i js) p
    as_pair h = h

    at : (pair i j ≡ p) ⊎ Contains (pairs_with i js) p → (Contains (pairs_with i js) p → (i ≡ p.i) × (is_in p.j js ≡ true) × (p.slot ≡ 0)) → (i ≡ p.i) × (is_in p.j (j ∷ js) ≡ true) × (p.slot ≡ 0)
    at (inl e) rest = (ap (λ (q : Near). q.i) e, in_front p.j j js (ap (λ (q : Near). q.j) e), sym (ap (λ (q : Near). q.slot) e))
    at (inr h) rest = let r = rest h in (r.0, in_tail p.j j js r.1, r.2)

pub pairs_listed : (xs : List ℕ) → Rises xs → (p : Near) → Contains (pairs_of xs) p → IsListed xs p
pairs_listed [] r p (k, l, e) = absurd (omega arith)
pairs_listed (x ∷ xs) r p h = at (Contains-append_cases (pairs_with x xs) (pairs_of xs) p h) (pairs_listed xs r.1 p)
  where
    at : Contains (pairs_with x xs) p ⊎ Contains (pairs_of xs) p → (Contains (pairs_of xs) p → IsListed xs p) → IsListed (x ∷ xs) p
    at (inl h) rest = let w = with_listed x xs p h in let lt = r.0 p.j w.1 in record { i_in = in_front p.i x xs w.0; j_in = in_tail p.j x xs w.1; rising = subst (λ i. i < p.j) w.0 lt; first_slot = w.2 }
    at (inr h) rest = let l = rest h in record { i_in = in_tail p.i x xs l.i_in; j_in = in_tail p.j x xs l.j_in; rising = l.rising; first_slot = l.first_slot }

pub nearer_otherwise : (t : Sign) (p q : Near) → left_is_nearer t p q ≡ false → (p ≡ q) ⊎ (left_is_nearer (opposite_of t) q p ≡ true)
nearer_otherwise Minus p q e = inr refl
nearer_otherwise Plus p q e = absurd cc
nearer_otherwise Zero p q e = at (same_or_less p q)
  where
    at : (p ≡ q) ⊎ (LessPair p q ⊎ LessPair q p) → (p ≡ q) ⊎ (is_less_pair q p ≡ true)
    at (inl f) = inl f
    at (inr (inl h)) = absurd (let k : true ≡ false = sym (less_to p q h) ∙ e in cc)
    at (inr (inr h)) = inr (less_to q p h)

not_closer : (t : Sign) (p q : Near) → left_is_nearer t p q ≡ true → (t ≢ Minus) × (LessPair q p → t ≢ Zero)
not_closer Minus p q e = absurd cc
not_closer Zero p q e = ((λ f. absurd cc), (λ h f. not_both p q (less_from p q e) h))
not_closer Plus p q e = ((λ f. absurd cc), (λ h f. absurd cc))

pub nearer-otherwise : (s : Scene) → HasDistanceLaws s → (p q : Near) → beats s distance_key p q ≡ false → (p ≡ q) ⊎ (beats s distance_key q p ≡ true)
nearer-otherwise s laws p q e = turned (nearer_otherwise (s.sign (Dist p.i p.j q.i q.j)) p q e)
  where
    turned : (p ≡ q) ⊎ (left_is_nearer (opposite_of (s.sign (Dist p.i p.j q.i q.j))) q p ≡ true) → (p ≡ q) ⊎ (beats s distance_key q p ≡ true)
    turned (inl f) = inl f
    turned (inr f) = inr (ap (λ t. left_is_nearer t q p) (laws.opposite p.i p.j q.i q.j) ∙ f)

module _ (s : Scene) (laws : HasDistanceLaws s) (rises : Rises s.live) where
  itself : (i j : ℕ) → s.sign (Dist i j i j) ≡ Zero
  itself i j = zero_from_opposite (s.sign (Dist i j i j)) (laws.opposite i j i j)

  no_self : (p : Near) → LessPair p p → ⊥
  no_self p h = not_both p p h h

  from_top : (p : Near) → Contains (pairs_of s.live) p → ((q : Near) → Contains (pairs_of s.live) q → (p ≡ q) ⊎ (beats s distance_key p q ≡ true)) → IsClosestPair s p.i p.j
  unfolding LessPair
  from_top p there top =
      let l = pairs_listed s.live rises p there in
      record {
        i_live = l.i_in;
        j_live = l.j_in;
        rising = l.rising;
        closest = λ i j a b lt. (against i j (top (pair i j) (pairs_members s.live i j rises a b lt))).0;
        least = λ i j a b lt h. (against i j (top (pair i j) (pairs_members s.live i j rises a b lt))).1 (lesser i j h);
      }
    where
      lesser : (i j : ℕ) → (i < p.i) ⊎ ((i ≡ p.i) × (j < p.j)) → (i < p.i) ⊎ ((i ≡ p.i) × ((j < p.j) ⊎ ((j ≡ p.j) × (0 < p.slot))))
      lesser i j (inl h) = inl h
      lesser i j (inr (e, h)) = inr (e, inl h)

      against : (i j : ℕ) → (p ≡ pair i j) ⊎ (beats s distance_key p (pair i j) ≡ true) → (s.sign (Dist p.i p.j i j) ≢ Minus) × (LessPair (pair i j) p → s.sign (Dist p.i p.j i j) ≢ Zero)
      against i j (inr e) = not_closer (s.sign (Dist p.i p.j i j)) p (pair i j) e
      against i j (inl e) =
          let zero_here : s.sign (Dist p.i p.j i j) ≡ Zero = ap (λ (q : Near). s.sign (Dist p.i p.j q.i q.j)) (sym e) ∙ itself p.i p.j in
          ((λ f. absurd (let g : Zero ≡ Minus = sym zero_here ∙ f in cc)), (λ h f. no_self p (subst (λ (q : Near). LessPair q p) (sym e) h)))

  one_alone : pairs_of s.live ≡ [] → (i j : ℕ) → IsIn i s.live → IsIn j s.live → i ≡ j
  one_alone none i j a b = at (three_ways i j)
    where
      nothing : (p : Near) → Contains (pairs_of s.live) p → ⊥
      nothing p h = empty (subst (λ ps. Contains ps p) none h)
        where
          empty : Contains {X = Near} [] p → ⊥
          empty (k, l, e) = absurd (omega arith)

      at : (i < j) ⊎ ((i ≡ j) ⊎ (j < i)) → i ≡ j
      at (inl h) = absurd (nothing (pair i j) (pairs_members s.live i j rises a b h))
      at (inr (inl e)) = e
      at (inr (inr h)) = absurd (nothing (pair j i) (pairs_members s.live j i rises b a h))

  pub closest_agrees : IsClosest s (closest_of s)
  unfolding IsTop
  closest_agrees = at (best_of s distance_key (pairs_of s.live)) refl
    where
      at : (o : Option Near) → best_of s distance_key (pairs_of s.live) ≡ o → IsClosest s (pair_in o)
      at None e = one_alone (none_there s distance_key (nearer-otherwise s laws) (nearer_transitive s laws) (pairs_of s.live) e)
      at (Some p) e =
          let top = best_is_top s distance_key (nearer-otherwise s laws) (nearer_transitive s laws) (pairs_of s.live) p e in
          from_top p top.0 top.1

pub closest_proved : ClosestAgrees
closest_proved s r = closest_agrees s (real_distance_laws s r) (subst Rises (sym r.live) (filled-rises 0 r.motions))
