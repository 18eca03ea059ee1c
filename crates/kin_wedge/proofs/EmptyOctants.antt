-- An octant without a candidate is empty.
use Rattle.std.proofs.Common.{◌≡◌, refl, List, [], ◌∷◌, ℕ}
use Rattle.std.specs.Prelude.{Option, Some, None, MatchOption}
use Rattle.kin_motion.specs.Scene.{Scene, IsReal}
use Rattle.kin_motion.specs.Octants.{Octant, Reading, octant_members, earlier_of, first_in, candidate_of, IsCandidate, IsCandidateAnswer}
use Rattle.kin_motion.proofs.CandidateLaws.{candidate_agrees}

-- a list in which nothing comes first is empty
none_there : (s : Scene) (r : Reading) (ps : List ℕ) → first_in s r ps ≡ None → ps ≡ []
none_there s r [] e = refl
none_there s r (p ∷ ps) e = at (first_in s r ps) e
  where
    at : (first : Option ℕ) → earlier_of s r p first ≡ None → p ∷ ps ≡ []
    at None f = absurd cc
    at (Some q) f = absurd cc

module _ (s : Scene) (o : Octant) (p : ℕ) (real : IsReal s) where
  empty_octant : ((c : ℕ) → ¬ (IsCandidate s o p c)) → octant_members s o p ≡ []
  empty_octant none = at (candidate_of s o p) refl (candidate_agrees s o p real)
    where
      at : (computed : Option ℕ) → candidate_of s o p ≡ computed → IsCandidateAnswer s o p computed → octant_members s o p ≡ []
      at None e h = none_there s o.third (octant_members s o p) e
      at (Some c) e h = absurd (none c h)

  pub none_where_empty : (answer : Option ℕ) → IsCandidateAnswer s o p answer → MatchOption answer (octant_members s o p ≡ []) (IsCandidate s o p)
  none_where_empty None h = empty_octant h
  none_where_empty (Some c) h = h
