-- The computed candidate is the candidate, and there is one at most.
use Rattle.std.proofs.Common.{◌≡◌, ◌≢◌, ◌⊎◌, inl, inr, refl, sym, ap, ◌∙◌, subst, List, [], ◌∷◌, ℕ, Bool, true, false, cond, not}
use Rattle.std.specs.Prelude.{Option, Some, None}
use Rattle.std.proofs.lemmas.Bool.{cases_eq}
use Rattle.kin_motion.specs.Numbers.{IsIn}
use Rattle.kin_motion.specs.Scene.{Scene}
use Rattle.kin_motion.specs.Octants.{direction_of, is_before_in, Reading, comes_after, octant_members, IsCandidateAnswer, earlier_of, first_in, candidate_of}
use Rattle.kin_motion.specs.Laws.{HasLineLaws}
use Rattle.kin_motion.specs.Agreements.{CandidateAgrees}
use Rattle.kin_motion.specs.Theorems.{OneCandidate}
use Rattle.kin_motion.proofs.RealLaws.{real_line_laws}
use Rattle.kin_motion.proofs.OrderLaws.{never_before_itself, before_through}
use Rattle.kin_motion.proofs.OctantLaws.{before_turned}
use Rattle.kin_motion.proofs.Choices.{preferred, IsTop, nothing_there, chosen_is_top}
use Rattle.kin_motion.proofs.Members.{in_from_contains, contains_from_in}

module _ (s : Scene) (laws : HasLineLaws s) (r : Reading) where
  -- of two different numbers one comes after the other
  after_turned : (p q : ℕ) → p ≢ q → comes_after s r q p ≡ not (comes_after s r p q)
  after_turned p q n = at r.from_end
    where
      at : (b : Bool) → cond b (is_before_in s r.part p q) (is_before_in s r.part q p) ≡ not (cond b (is_before_in s r.part q p) (is_before_in s r.part p q))
      at true = before_turned s laws (direction_of r.part).dx (direction_of r.part).dy q p (λ e. n (sym e))
      at false = before_turned s laws (direction_of r.part).dx (direction_of r.part).dy p q n

  after_through : (p q v : ℕ) → comes_after s r p q ≡ true → comes_after s r q v ≡ true → comes_after s r p v ≡ true
  after_through p q v = at r.from_end
    where
      at : (b : Bool) → cond b (is_before_in s r.part q p) (is_before_in s r.part p q) ≡ true → cond b (is_before_in s r.part v q) (is_before_in s r.part q v) ≡ true → cond b (is_before_in s r.part v p) (is_before_in s r.part p v) ≡ true
      at true e f = before_through s laws (direction_of r.part).dx (direction_of r.part).dy v q p f e
      at false e f = before_through s laws (direction_of r.part).dx (direction_of r.part).dy p q v e f

  pub never_after_itself : (p : ℕ) → comes_after s r p p ≡ true → ⊥
  never_after_itself p = at r.from_end
    where
      at : (b : Bool) → cond b (is_before_in s r.part p p) (is_before_in s r.part p p) ≡ true → ⊥
      at true e = never_before_itself s laws (direction_of r.part).dx (direction_of r.part).dy p e
      at false e = never_before_itself s laws (direction_of r.part).dx (direction_of r.part).dy p e

  after_otherwise : (p q : ℕ) → comes_after s r p q ≡ false → (p ≡ q) ⊎ (comes_after s r q p ≡ true)
  after_otherwise p q e = at (cases_eq p q)
    where
      at : (p ≡ q) ⊎ (p ≢ q) → (p ≡ q) ⊎ (comes_after s r q p ≡ true)
      at (inl k) = inl k
      at (inr k) = inr (after_turned p q k ∙ ap not e)

  as_preferred : (p : ℕ) (ps : List ℕ) → first_in s r (p ∷ ps) ≡ preferred (comes_after s r) p (first_in s r ps)
  as_preferred p ps = at (first_in s r ps)
    where
      at : (o : Option ℕ) → earlier_of s r p o ≡ preferred (comes_after s r) p o
      at None = refl
      at (Some q) = refl

  none_first : (xs : List ℕ) → first_in s r xs ≡ None → xs ≡ []
  none_first xs e = nothing_there (comes_after s r) (first_in s r) refl as_preferred xs e

  -- it is in the list, and every other number of the list comes after it
  first_agrees : (xs : List ℕ) (c : ℕ) → first_in s r xs ≡ Some c → IsIn c xs × ((q : ℕ) → IsIn q xs → (q ≡ c) ⊎ (comes_after s r c q ≡ true))
  unfolding IsTop
  first_agrees xs c e =
      let top = chosen_is_top (comes_after s r) (first_in s r) refl as_preferred after_otherwise after_through xs c e in
      (in_from_contains xs c top.0, λ q h. turned q (top.1 q (contains_from_in xs q h)))
    where
      turned : (q : ℕ) → (c ≡ q) ⊎ (comes_after s r c q ≡ true) → (q ≡ c) ⊎ (comes_after s r c q ≡ true)
      turned q (inl k) = inl (sym k)
      turned q (inr k) = inr k

pub candidate_agrees : CandidateAgrees
candidate_agrees s o p real = at (candidate_of s o p) refl
  where
    laws : HasLineLaws s
    laws = real_line_laws s real

    at : (a : Option ℕ) → candidate_of s o p ≡ a → IsCandidateAnswer s o p a
    at None e = λ c k. absurd (let clash : false ≡ true = subst (λ xs. IsIn c xs) (none_first s laws o.third (octant_members s o p) e) k.member in cc)
    at (Some c) e = let f = first_agrees s laws o.third (octant_members s o p) c e in record { member = f.0; first = f.1 }

pub one_candidate : OneCandidate
one_candidate s o p c d real a b = at (a.first d b.member) (b.first c a.member)
  where
    at : (d ≡ c) ⊎ (comes_after s o.third c d ≡ true) → (c ≡ d) ⊎ (comes_after s o.third d c ≡ true) → c ≡ d
    at (inl e) g = sym e
    at (inr e) (inl g) = g
    at (inr e) (inr g) = absurd (never_after_itself s (real_line_laws s real) o.third c (after_through s (real_line_laws s real) o.third c d c e g))
