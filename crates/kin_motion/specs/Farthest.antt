-- The farthest pair.
use Rattle.std.specs.Prelude.{◌≡◌, ◌≢◌, ℕ, ◌<◌, Bool, true, false, not, ◌&&◌, List, filter, Option, MatchOption, IsTrue, ◌⊎◌}
use Rattle.kin_algebra.specs.declared.sign.Sign.{Sign}
use Rattle.kin_algebra.specs.declared.sign.Sign.TheVariants.{Minus, Zero, Plus}
use Rattle.kin_motion.specs.declared.form.Form.TheVariants.{Dist}
use Rattle.kin_motion.specs.Numbers.{IsIn}
use Rattle.kin_motion.specs.Scene.{Scene, x_sign, y_sign}
use Rattle.kin_motion.specs.Tournaments.{Key, best_of}
use Rattle.kin_motion.specs.Chains.{is_zero}
use Rattle.kin_motion.specs.ClosestPairs.{Near, is_less_pair, pairs_of, pair_in}

-- they are at different places
abbrev pub are_apart : Scene → ℕ → ℕ → Bool
are_apart s i j = not (is_zero (x_sign s i j) && is_zero (y_sign s i j))

-- two live numbers i < j at different places
pub record IsPairApart (s : Scene) (i j : ℕ) : Type 0 where
  pub i_live : IsIn i s.live
  pub j_live : IsIn j s.live
  pub rising : i < j
  pub apart : IsTrue (are_apart s i j)

-- a pair at different places: no other such pair is farther, and no equally far one is less
pub record IsFarthestPair (s : Scene) (i j : ℕ) : Type 0 where
  pub pair : IsPairApart s i j
  pub farthest : (k l : ℕ) → IsPairApart s k l → s.sign (Dist i j k l) ≢ Plus
  pub least : (k l : ℕ) → IsPairApart s k l → (k < i) ⊎ ((k ≡ i) × (l < j)) → s.sign (Dist i j k l) ≢ Zero

-- the farthest pair, or none where no two live numbers are at different places
abbrev pub IsFarthest : Scene → Option (ℕ × ℕ) → Type 0
IsFarthest s answer = MatchOption answer ((i j : ℕ) → IsPairApart s i j → ⊥) (λ pair. IsFarthestPair s pair.0 pair.1)

-- the left pair wins where it is farther, or equally far and less
abbrev pub left_is_farther_pair : Sign → Near → Near → Bool
left_is_farther_pair Plus p q = false
left_is_farther_pair Zero p q = is_less_pair p q
left_is_farther_pair Minus p q = true

-- pairs compared by distance, the farther one preferred
abbrev pub farness_key : Key Near
farness_key = record { form = λ p q. Dist p.i p.j q.i q.j; left_wins = left_is_farther_pair }

-- all pairs of live numbers at different places
abbrev pub pairs_apart : Scene → List Near
pairs_apart s = filter (λ p. are_apart s p.i p.j) (pairs_of s.live)

-- the farthest pair by computation
abbrev pub farthest_of : Scene → Option (ℕ × ℕ)
farthest_of s = pair_in (best_of s farness_key (pairs_apart s))
