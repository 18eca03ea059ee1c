-- The closest pair.
use Rattle.std.specs.Prelude.{◌≡◌, ◌≢◌, ℕ, ◌<◌, Bool, true, false, ◌&&◌, ◌||◌, nat_eq, nat_lt, List, [], ◌∷◌, ◌++◌, Option, Some, None, MatchOption, ◌⊎◌}
use Rattle.kin_algebra.specs.declared.sign.Sign.{Sign}
use Rattle.kin_algebra.specs.declared.sign.Sign.TheVariants.{Minus, Zero, Plus}
use Rattle.kin_motion.specs.declared.form.Form.TheVariants.{Dist}
use Rattle.kin_motion.specs.Numbers.{IsIn}
use Rattle.kin_motion.specs.Scene.{Scene}
use Rattle.kin_motion.specs.Tournaments.{Key, best_of}

-- two live numbers i < j: no other pair is closer, and no equally close one is less
pub record IsClosestPair (s : Scene) (i j : ℕ) : Type 0 where
  pub i_live : IsIn i s.live
  pub j_live : IsIn j s.live
  pub rising : i < j
  pub closest : (k l : ℕ) → IsIn k s.live → IsIn l s.live → k < l → s.sign (Dist i j k l) ≢ Minus
  pub least : (k l : ℕ) → IsIn k s.live → IsIn l s.live → k < l → (k < i) ⊎ ((k ≡ i) × (l < j)) → s.sign (Dist i j k l) ≢ Zero

-- the closest pair, or none where no two numbers are live
abbrev pub IsClosest : Scene → Option (ℕ × ℕ) → Type 0
IsClosest s answer = MatchOption answer ((i j : ℕ) → IsIn i s.live → IsIn j s.live → i ≡ j) (λ pair. IsClosestPair s pair.0 pair.1)

-- a pair i < j in its slot
pub record Near : Type 0 where
  pub i : ℕ
  pub j : ℕ
  pub slot : ℕ

-- less by the first number, then by the second, then by the slot
abbrev pub is_less_pair : Near → Near → Bool
is_less_pair p q = nat_lt p.i q.i || (nat_eq p.i q.i && (nat_lt p.j q.j || (nat_eq p.j q.j && nat_lt p.slot q.slot)))

-- the left pair wins where it is closer, or equally close and less
abbrev pub left_is_nearer : Sign → Near → Near → Bool
left_is_nearer Plus p q = true
left_is_nearer Zero p q = is_less_pair p q
left_is_nearer Minus p q = false

-- pairs compared by distance
abbrev pub distance_key : Key Near
distance_key = record { form = λ p q. Dist p.i p.j q.i q.j; left_wins = left_is_nearer }

-- i with each of the numbers after it
abbrev pub pairs_with : ℕ → List ℕ → List Near
pairs_with i [] = []
pairs_with i (j ∷ js) = record { i = i; j = j; slot = 0 } ∷ pairs_with i js

-- all pairs of a rising list
abbrev pub pairs_of : List ℕ → List Near
pairs_of [] = []
pairs_of (i ∷ is) = pairs_with i is ++ pairs_of is

-- the two numbers of a pair
abbrev pub pair_in : Option Near → Option (ℕ × ℕ)
pair_in None = None
pair_in (Some p) = Some (p.i, p.j)

-- the closest pair by computation
abbrev pub closest_of : Scene → Option (ℕ × ℕ)
closest_of s = pair_in (best_of s distance_key (pairs_of s.live))
