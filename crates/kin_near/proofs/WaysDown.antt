-- The candidate in octant 4 is the next lesser number at the apex's place.
use Rattle.std.proofs.Common.{◌≡◌, ◌⊎◌, inl, inr, refl, sym, ◌∙◌, subst, arith, ℕ, ◌<◌, ◌≤◌, true, nat_lt}
use Rattle.std.specs.Prelude.{Option, Some, None, MatchOption}
use Rattle.std.proofs.lemmas.Bool.{and_parts, and_from}
use Rattle.std.proofs.lemmas.Bool.Decides.{nat_tests}
use Rattle.std.proofs.lemmas.Option.{same_Some}
use Rattle.kin_algebra.specs.declared.sign.Sign.TheVariants.{Minus, Plus}
use Rattle.kin_motion.specs.declared.form.Form.TheVariants.{Dist}
use Rattle.kin_motion.specs.Numbers.{is_in, IsIn}
use Rattle.kin_motion.specs.Octants.{Octant, comes_after, is_in_octant, octant_members, candidate_of, IsCandidate, IsCandidateAnswer}
use Rattle.kin_motion.specs.Scene.{Scene, IsReal}
use Rattle.kin_motion.proofs.AgreementLaws.{kept-members}
use Rattle.kin_motion.proofs.CandidateLaws.{candidate_agrees}
use Rattle.kin_near.specs.Candidates.{AreCoincident}
use Rattle.kin_near.specs.Hits.{IsLeastThere, IsNextBelow, CandidateIsNextBelow}
use Rattle.kin_near.proofs.ClosestPoints.{first_there}
use Rattle.kin_near.proofs.OnePlace.{octant_4, together, turned, through, by_number, beside, lesser_inside, no_farther, IsBeside}
use Rattle.kin_near.proofs.SwappedPairs.{left_turned, right_turned}
use Rattle.kin_near.proofs.ThreePoints.{first_is_nearer}

module _ (s : Scene) (real : IsReal s) where
  pub member : (w : Octant) (h p : ℕ) → IsIn p s.live → is_in_octant s w h p ≡ true → IsIn p (octant_members s w h)
  member w h p live inside = kept-members (is_in_octant s w h) s.live p ∙ and_from _ _ live inside

  pub of_member : (w : Octant) (h c : ℕ) → IsCandidate s w h c → IsIn c s.live × (is_in_octant s w h c ≡ true)
  of_member w h c k = and_parts (is_in c s.live) (is_in_octant s w h c) (sym (kept-members (is_in_octant s w h) s.live c) ∙ k.member)

  -- an octant with a point has a candidate
  pub candidate_there : (w : Octant) (h p : ℕ) → IsIn p s.live → is_in_octant s w h p ≡ true → (c : ℕ) × IsCandidate s w h c
  candidate_there w h p live inside = at (candidate_of s w h) refl (candidate_agrees s w h real)
    where
      at : (a : Option ℕ) → candidate_of s w h ≡ a → IsCandidateAnswer s w h a → (c : ℕ) × IsCandidate s w h c
      at None e k = absurd (first_there s w.third (octant_members s w h) p (member w h p live inside) e)
      at (Some c) e k = (c, k)

  module _ (g : ℕ) where
    -- of lesser numbers at the place the candidate is the greatest
    next_below : (c : ℕ) → IsCandidate s octant_4 g c → AreCoincident s g c → IsNextBelow s g c
    next_below c k here = record { live = (of_member octant_4 g c k).0; there = here; less = falls (beside s real 4 octant_4 g c refl here (of_member octant_4 g c k).1); next = λ i live there less. up i there (k.first i (member octant_4 g i live (lesser_inside s real g i there less))) }
      where
        falls : IsBeside s real 4 g c → c < g
        falls (inl e) = absurd (let f = e.0 in omega (arith, f))
        falls (inr e) = e.1

        up : (i : ℕ) → AreCoincident s g i → (i ≡ c) ⊎ (comes_after s octant_4.third c i ≡ true) → i ≤ c
        up i there (inl e) = omega (arith, e)
        up i there (inr after) = let l : nat_lt i c ≡ true = sym (by_number s real octant_4.third c i (through s real c g i (turned s real g c here) there)) ∙ after in grind (arith, nat_tests, l)

    -- a candidate elsewhere comes after all of them
    none_below : (c : ℕ) → IsCandidate s octant_4 g c → ¬ (AreCoincident s g c) → IsLeastThere s g
    none_below c k elsewhere i live there less = at (k.first i (member octant_4 g i live inside))
      where
        inside : is_in_octant s octant_4 g i ≡ true
        inside = lesser_inside s real g i there less

        back_at : AreCoincident s i c → ⊥
        back_at here = elsewhere (through s real g i c there here)

        farther : (s.sign (Dist c i g i) ≡ Plus) ⊎ AreCoincident s g c → ⊥
        farther (inl e) =
            let f : s.sign (Dist i c i g) ≡ Plus = sym (right_turned s real i c g i) ∙ sym (left_turned s real c i g i) ∙ e in
            back_at (no_farther s real i g c (turned s real g i there) (λ m. let clash : Plus ≡ Minus = sym f ∙ m in cc))
        farther (inr here) = elsewhere here

        at : (i ≡ c) ⊎ (comes_after s octant_4.third c i ≡ true) → ⊥
        at (inl e) = elsewhere (subst (AreCoincident s g) e there)
        at (inr after) = farther (first_is_nearer s 4 octant_4 g c i real refl (of_member octant_4 g c k).1 inside after)

    in_four : (answer : Option ℕ) → IsCandidateAnswer s octant_4 g answer → MatchOption answer (IsLeastThere s g) (λ c. IsNextBelow s g c ⊎ (IsLeastThere s g × ¬ (AreCoincident s g c)))
    in_four None none = λ i live there less. let c = candidate_there octant_4 g i live (lesser_inside s real g i there less) in none c.0 c.1
    in_four (Some c) k = at (together s real g c)
      where
        at : AreCoincident s g c ⊎ ¬ (AreCoincident s g c) → IsNextBelow s g c ⊎ (IsLeastThere s g × ¬ (AreCoincident s g c))
        at (inl here) = inl (next_below c k here)
        at (inr elsewhere) = inr (none_below c k elsewhere, elsewhere)

pub candidate_is_next_below : CandidateIsNextBelow
candidate_is_next_below s o g answer real known told = in_four s real g answer (subst (λ (w : Octant). IsCandidateAnswer s w g answer) (sym (same_Some octant_4 o known)) told)
