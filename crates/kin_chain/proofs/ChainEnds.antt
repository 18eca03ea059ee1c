-- Where the members of a list that rises by x lie: behind the first, and before the last.
use Rattle.std.proofs.Common.{◌≡◌, ◌⊎◌, inl, inr, sym, subst, List, [], ◌∷◌, ℕ}
use Rattle.kin_algebra.proofs.OrderedRings.{OrderedRing}
use Rattle.kin_motion.specs.Numbers.{IsChain, IsIn}
use Rattle.kin_motion.specs.Scene.{Scene}
use Rattle.kin_motion.specs.Chains.{is_left}
use Rattle.kin_motion.specs.Merges.{last_of}
use Rattle.kin_motion.proofs.Members.{in_cases}
use Rattle.kin_motion.proofs.MergeFormLaws.{last_in}
use Rattle.kin_chain.proofs.Comparisons.{Below, below_most, below_then}
use Rattle.kin_chain.proofs.Planes.{Places, Shows}
use Rattle.kin_chain.proofs.Stays.{left_is}

module _ {R : Type 0} (o : OrderedRing R) (places : Places o) (s : Scene) (shows : Shows o s places) where
  -- all others lie right of the first
  pub behind_first : (p : ℕ) (ps : List ℕ) → IsChain (is_left s) (p ∷ ps) → (c : ℕ) → IsIn c ps → Below o places.x p c
  behind_first p [] rising c i = absurd cc
  behind_first p (q ∷ ps) rising c i = at (in_cases c q ps i) (behind_first q ps rising.1 c)
    where
      next : Below o places.x p q
      next = left_is o places s shows rising.0

      at : (c ≡ q) ⊎ IsIn c ps → (IsIn c ps → Below o places.x q c) → Below o places.x p c
      at (inl e) later = subst (λ n. Below o places.x p n) (sym e) next
      at (inr k) later = below_then o next (below_most o (later k))

  pub first_left : (p : ℕ) (ps : List ℕ) → IsChain (is_left s) (p ∷ ps) → (c : ℕ) → IsIn c (p ∷ ps) → (c ≡ p) ⊎ Below o places.x p c
  first_left p ps rising c i = at (in_cases c p ps i)
    where
      at : (c ≡ p) ⊎ IsIn c ps → (c ≡ p) ⊎ Below o places.x p c
      at (inl e) = inl e
      at (inr k) = inr (behind_first p ps rising c k)

  -- and left of the last
  pub last_right : (p : ℕ) (ps : List ℕ) → IsChain (is_left s) (p ∷ ps) → (c : ℕ) → IsIn c (p ∷ ps) → (c ≡ last_of p ps) ⊎ Below o places.x c (last_of p ps)
  last_right p [] rising c i = first_only (in_cases c p [] i)
    where
      first_only : (c ≡ p) ⊎ IsIn c [] → (c ≡ p) ⊎ Below o places.x c p
      first_only (inl e) = inl e
      first_only (inr k) = absurd cc
  last_right p (q ∷ ps) rising c i = at (in_cases c p (q ∷ ps) i) (last_right q ps rising.1 c)
    where
      at : (c ≡ p) ⊎ IsIn c (q ∷ ps) → (IsIn c (q ∷ ps) → (c ≡ last_of q ps) ⊎ Below o places.x c (last_of q ps)) → (c ≡ last_of q ps) ⊎ Below o places.x c (last_of q ps)
      at (inl e) rest = inr (subst (λ n. Below o places.x n (last_of q ps)) (sym e) (behind_first p (q ∷ ps) rising (last_of q ps) (last_in q ps)))
      at (inr k) rest = rest k
