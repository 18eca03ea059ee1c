-- Steps down at one place, and how many there can be.
use Rattle.std.proofs.Common.{◌≡◌, ◌≢◌, ◌⊎◌, inl, inr, refl, sym, ap, ◌∙◌, subst, arith, List, [], ◌∷◌, ℕ, ◌+◌, ◌^◌, ◌<◌, ◌≤◌, Bool, true, false, ◌&&◌, cond, nat_lt, count_by}
use Rattle.std.specs.Prelude.{Option, Some, None, MatchOption, IsTrue, ◌↔◌}
use Rattle.std.proofs.lemmas.Bool.{and_parts, and_from}
use Rattle.std.proofs.lemmas.Bool.Decides.{nat_tests}
use Rattle.std.proofs.lemmas.List.Sums.{sum_by-cons}
use Rattle.kin_algebra.specs.declared.sign.Sign.{Sign}
use Rattle.kin_algebra.specs.declared.sign.Sign.TheVariants.{Minus, Zero}
use Rattle.kin_motion.specs.declared.form.Form.TheVariants.{Dist}
use Rattle.kin_motion.specs.Numbers.{IsIn}
use Rattle.kin_motion.specs.Octants.{IsCandidateAnswer}
use Rattle.kin_motion.specs.Scene.{Scene, IsReal}
use Rattle.kin_motion.proofs.Members.{in_cases}
use Rattle.kin_wedge.specs.Wedging.{Wedging, candidate_told, IsSettledWedging}
use Rattle.kin_near.specs.Candidates.{AreCoincident, is_there}
use Rattle.kin_near.specs.Hits.{IsLeastThere, IsNextBelow, IsWayDown}
use Rattle.kin_near.proofs.OnePlace.{octant_4, with_itself, turned, through, as_far, no_farther, is_there-there, there-is_there}
use Rattle.kin_near.proofs.WaysDown.{of_member, candidate_is_next_below}
use Rattle.kin_nearest.specs.Nearing.{is_lesser_there, count_lesser_there}
use Rattle.kin_nearest.specs.Walks.{IsStepDown, IsLowestFor}

-- ---- counts
abbrev one_if : Bool → ℕ
one_if b = cond b 1 0

module _ (f g : ℕ → Bool) (through : (k : ℕ) → f k ≡ true → g k ≡ true) where
  one_within : (a b : Bool) → (a ≡ true → b ≡ true) → one_if a ≤ one_if b
  one_within true true h = omega arith
  one_within true false h = absurd (let clash : false ≡ true = h refl in cc)
  one_within false true h = omega arith
  one_within false false h = omega arith

  count_within : (xs : List ℕ) → count_by f xs ≤ count_by g xs
  count_within [] = omega arith
  count_within (x ∷ xs) =
      let a = sum_by-cons (λ k. one_if (f k)) x xs in
      let b = sum_by-cons (λ k. one_if (g k)) x xs in
      let here = one_within (f x) (g x) (through x) in
      let rest = count_within xs in
      omega (arith, a, b, here, rest)

  -- one more passes the second test
  count_fewer : (c : ℕ) (xs : List ℕ) → IsIn c xs → f c ≡ false → g c ≡ true → count_by f xs + 1 ≤ count_by g xs
  count_fewer c [] h e k = absurd cc
  count_fewer c (x ∷ xs) h e k = at (in_cases c x xs h) (count_fewer c xs)
    where
      a : count_by f (x ∷ xs) ≡ one_if (f x) + count_by f xs
      a = sum_by-cons (λ i. one_if (f i)) x xs

      b : count_by g (x ∷ xs) ≡ one_if (g x) + count_by g xs
      b = sum_by-cons (λ i. one_if (g i)) x xs

      at : (c ≡ x) ⊎ IsIn c xs → (IsIn c xs → f c ≡ false → g c ≡ true → count_by f xs + 1 ≤ count_by g xs) → count_by f (x ∷ xs) + 1 ≤ count_by g (x ∷ xs)
      at (inl same) rest =
          let none : one_if (f x) ≡ 0 = ap one_if (ap f (sym same) ∙ e) in
          let one : one_if (g x) ≡ 1 = ap one_if (ap g (sym same) ∙ k) in
          let within = count_within xs in
          omega (arith, a, b, none, one, within)
      at (inr there) rest =
          let here = one_within (f x) (g x) (through x) in
          let fewer = rest there e k in
          omega (arith, a, b, here, fewer)

module _ (s : Scene) (real : IsReal s) where
  -- a step down leaves fewer lesser numbers
  fewer : (g c : ℕ) → IsNextBelow s g c → count_lesser_there s c + 1 ≤ count_lesser_there s g
  fewer g c next = count_fewer (is_lesser_there s c) (is_lesser_there s g) both c s.live next.live none (and_from _ _ (let l = next.less in grind (arith, nat_tests, l)) (there-is_there s g c next.there))
    where
      both : (i : ℕ) → is_lesser_there s c i ≡ true → is_lesser_there s g i ≡ true
      both i h =
          let k = and_parts (nat_lt i c) (is_there s c i) h in
          let low = k.0 in
          let less = next.less in
          and_from _ _ (grind (arith, nat_tests, low, less)) (there-is_there s g i (through s real g c i next.there (is_there-there s c i k.1)))

      none : is_lesser_there s c c ≡ false
      none = let same : nat_lt c c ≡ false = grind (arith, nat_tests) in ap (λ t. t && is_there s c c) same

  -- ---- at one place
  pub at_one_place : (i j : ℕ) (t : Sign) → t ≡ s.sign (Dist i j i i) → t ≡ Zero → IsTrue true ↔ AreCoincident s i j
  at_one_place i j t e zero = (λ h. no_farther s real i i j (with_itself s real i) (λ f. let clash : Zero ≡ Minus = sym zero ∙ e ∙ f in cc), λ here. refl)

  pub at_two_places : (i j : ℕ) (t : Sign) → t ≡ s.sign (Dist i j i i) → t ≢ Zero → IsTrue false ↔ AreCoincident s i j
  at_two_places i j t e other = (λ h. absurd cc, λ here. absurd (other (e ∙ as_far s real j i i (turned s real i j here))))

  -- ---- one step
  module _ (k : Wedging) (settled : IsSettledWedging k s) (p g : ℕ) (live : IsIn g s.live) where
    answer_of : (answer : Option ℕ) → answer ≡ candidate_told k g 4 → IsCandidateAnswer s octant_4 g answer
    answer_of answer e = subst (IsCandidateAnswer s octant_4 g) (sym e) (settled.wedges.candidates.of_live g 4 octant_4 live refl)

    below : (answer : Option ℕ) → answer ≡ candidate_told k g 4 → MatchOption answer (IsLeastThere s g) (λ c. IsNextBelow s g c ⊎ (IsLeastThere s g × ¬ (AreCoincident s g c)))
    below answer e = candidate_is_next_below s octant_4 g answer real refl (answer_of answer e)

    pub next_live : (c : ℕ) → Some c ≡ candidate_told k g 4 → IsIn c s.live
    next_live c e = (of_member s real octant_4 g c (answer_of (Some c) e)).0

    least_lowest : IsLeastThere s g → IsLowestFor s p g
    least_lowest least i there at_place less = absurd (least i there at_place less)

    pub lowest_none : None ≡ candidate_told k g 4 → IsLowestFor s p g
    lowest_none e = least_lowest (below None e)

    pub lowest_above : (c : ℕ) → Some c ≡ candidate_told k g 4 → c ≡ p → IsLowestFor s p g
    lowest_above c e same = at (below (Some c) e)
      where
        at : IsNextBelow s g c ⊎ (IsLeastThere s g × ¬ (AreCoincident s g c)) → IsLowestFor s p g
        at (inl next) = λ i listed at_place less. (subst (AreCoincident s g) same next.there, subst (λ n. n < g) same next.less)
        at (inr (least, elsewhere)) = least_lowest least

    pub lowest_elsewhere : (c : ℕ) → Some c ≡ candidate_told k g 4 → ¬ (AreCoincident s g c) → IsLowestFor s p g
    lowest_elsewhere c e away = at (below (Some c) e)
      where
        at : IsNextBelow s g c ⊎ (IsLeastThere s g × ¬ (AreCoincident s g c)) → IsLowestFor s p g
        at (inl next) = absurd (away next.there)
        at (inr (least, elsewhere)) = least_lowest least

    pub step_down : (c : ℕ) → Some c ≡ candidate_told k g 4 → c ≢ p → AreCoincident s g c → IsStepDown s p g c
    step_down c e other here = at (below (Some c) e)
      where
        at : IsNextBelow s g c ⊎ (IsLeastThere s g × ¬ (AreCoincident s g c)) → IsStepDown s p g c
        at (inl next) = record { next = next; other = other }
        at (inr (least, elsewhere)) = absurd (elsewhere here)

-- ---- the way
-- it has come from an apex to a number at the apex's place, with so many signs
pub record IsOnTheWay (s : Scene) (size p apex before end now : ℕ) : Type 0 where
  pub live : IsIn end s.live
  pub other : end ≢ p
  pub there : AreCoincident s apex end
  pub down : end ≤ apex
  pub room : end < 2 ^ size
  pub asked : now + count_lesser_there s end ≤ before + count_lesser_there s apex

module _ (s : Scene) (real : IsReal s) (size p apex before : ℕ) where
  pub way_begun : IsIn apex s.live → apex ≢ p → apex < 2 ^ size → IsOnTheWay s size p apex before apex before
  way_begun live other room = record { live = live; other = other; there = with_itself s real apex; down = omega arith; room = room; asked = omega arith }

  module _ (end now : ℕ) (way : IsOnTheWay s size p apex before end now) where
    pub way_on : (c then : ℕ) → IsStepDown s p end c → c < 2 ^ size → then ≤ now + 1 → IsOnTheWay s size p apex before c then
    way_on c then step room more =
        let less = step.next.less in
        let down = way.down in
        let asked = way.asked in
        let lesser = fewer s real end c step.next in
        record { live = step.next.live; other = step.other; there = through s real apex end c way.there step.next.there; down = omega (arith, less, down); room = room; asked = omega (arith, asked, lesser, more) }

    pub way_ended : IsLowestFor s p end → IsWayDown s p apex end
    way_ended lowest = record { live = way.live; other = way.other; there = way.there; down = way.down; lowest = λ i live there less. from (lowest i live (through s real end apex i (turned s real apex end way.there) there) less) }
      where
        from : AreCoincident s end p × (p < end) → AreCoincident s apex p × (p < end)
        from k = (through s real apex end p way.there k.0, k.1)

    pub few_asked : (then : ℕ) → then ≤ now + 1 → then ≤ before + count_lesser_there s apex + 1
    few_asked then more = let asked = way.asked in omega (arith, asked, more)
