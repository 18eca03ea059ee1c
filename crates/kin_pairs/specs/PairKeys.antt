-- The laws of the keys of the closest and of the farthest pair.
use Rattle.std.specs.Prelude.{◌≡◌, ◌≢◌, ℕ, true, not, List, [], ◌∷◌}
use Rattle.std.proofs.lemmas.List.Elements.{All-head, All-tail}
use Rattle.kin_motion.specs.declared.form.Form.TheVariants.{Dist}
use Rattle.kin_motion.specs.ClosestPairs.{Near, distance_key}
use Rattle.kin_motion.specs.Farthest.{farness_key}
use Rattle.kin_motion.specs.Forms.{IsAskable}
use Rattle.kin_motion.specs.Numbers.{IsIn}
use Rattle.kin_motion.specs.Scene.{Scene, IsReal}
use Rattle.kin_motion.specs.Tournaments.{beats}
use Rattle.kin_motion.proofs.DistanceLaws.{nearer_total, nearer_transitive, real_distance_laws}
use Rattle.kin_motion.proofs.FarthestLaws.{farther-total, farther-through}
use Rattle.kin_tourney.specs.Names.{AreLive}

-- the numbers that a pair names
abbrev pub pair_names : Near → List ℕ
pair_names p = p.i ∷ p.j ∷ []

-- the form names live numbers
pub pairs_askable : (live : List ℕ) (p q : Near) → AreLive live (pair_names p) → AreLive live (pair_names q) → IsAskable live (Dist p.i p.j q.i q.j)
pairs_askable live p q here there = (first p.i p.j here, second p.i p.j here, first q.i q.j there, second q.i q.j there)
  where
    first : (i j : ℕ) → AreLive live (i ∷ j ∷ []) → IsIn i live
    first i j k = All-head (λ n. IsIn n live) i (j ∷ []) k

    second : (i j : ℕ) → AreLive live (i ∷ j ∷ []) → IsIn j live
    second i j k = All-head (λ n. IsIn n live) j [] (All-tail (λ n. IsIn n live) i (j ∷ []) k)

-- of two different pairs one is closer, or equally close and less
pub distance_total : (s : Scene) (p q : Near) → IsReal s → AreLive s.live (pair_names p) → AreLive s.live (pair_names q) → p ≢ q → beats s distance_key q p ≡ not (beats s distance_key p q)
distance_total s p q real here there n = nearer_total s (real_distance_laws s real) p q n

-- closer than a closer one is closer
pub distance_transitive : (s : Scene) (p q r : Near) → IsReal s → AreLive s.live (pair_names p) → AreLive s.live (pair_names q) → AreLive s.live (pair_names r)
    → beats s distance_key p q ≡ true → beats s distance_key q r ≡ true → beats s distance_key p r ≡ true
distance_transitive s p q r real a b c = nearer_transitive s (real_distance_laws s real) p q r

-- of two different pairs one is farther, or equally far and less
pub farness_total : (s : Scene) (p q : Near) → IsReal s → AreLive s.live (pair_names p) → AreLive s.live (pair_names q) → p ≢ q → beats s farness_key q p ≡ not (beats s farness_key p q)
farness_total s p q real here there n = farther-total s (real_distance_laws s real) p q n

-- farther than a farther one is farther
pub farness_transitive : (s : Scene) (p q r : Near) → IsReal s → AreLive s.live (pair_names p) → AreLive s.live (pair_names q) → AreLive s.live (pair_names r)
    → beats s farness_key p q ≡ true → beats s farness_key q r ≡ true → beats s farness_key p r ≡ true
farness_transitive s p q r real a b c = farther-through s (real_distance_laws s real) p q r
