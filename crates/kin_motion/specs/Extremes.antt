-- The extreme point along a direction.
use Rattle.std.specs.Prelude.{◌≡◌, ◌≢◌, ℕ, ◌<◌, ◌^◌, Bool, true, false, cond, nat_lt, ℤ, pos, List, [], map, Option, Some, None, MatchOption}
use Rattle.kin_algebra.specs.declared.sign.Sign.{Sign}
use Rattle.kin_algebra.specs.declared.sign.Sign.TheVariants.{Minus, Zero, Plus}
use Rattle.kin_motion.specs.declared.form.Form.TheVariants.{Line}
use Rattle.kin_motion.specs.declared.fact.Placed.{Placed}
use Rattle.kin_motion.specs.Numbers.{is_in, IsIn, numbers_from}
use Rattle.kin_motion.specs.Scene.{Scene}
use Rattle.kin_motion.specs.Tournaments.{Key, best_of, IsNodeFact, tournament_facts}

-- a number of the set: no other lies farther, and no equally far one is less
pub record IsExtreme (s : Scene) (dx dy : ℤ) (set : List ℕ) (i : ℕ) : Type 0 where
  pub member : IsIn i set
  pub farthest : (j : ℕ) → IsIn j set → s.sign (Line dx dy (pos 0) i j) ≢ Plus
  pub least : (j : ℕ) → IsIn j set → j < i → s.sign (Line dx dy (pos 0) i j) ≢ Zero

-- the extreme live number, or none where no number is live
abbrev pub IsExtremePoint : Scene → ℤ → ℤ → Option ℕ → Type 0
IsExtremePoint s dx dy answer = MatchOption answer (s.live ≡ []) (λ i. IsExtreme s dx dy s.live i)

-- the left number wins where it lies farther, or equally far and is less
abbrev pub left_is_farther : Sign → ℕ → ℕ → Bool
left_is_farther Minus i j = true
left_is_farther Zero i j = nat_lt i j
left_is_farther Plus i j = false

-- points compared along a direction
abbrev pub along_key : ℤ → ℤ → Key ℕ
along_key dx dy = record { form = Line dx dy (pos 0); left_wins = left_is_farther }

-- the same by computation
abbrev pub extreme_of : Scene → ℤ → ℤ → Option ℕ
extreme_of s dx dy = best_of s (along_key dx dy) s.live

-- slot i holds point i where it is live
abbrev pub slot_of_point : List ℕ → ℕ → Option ℕ
slot_of_point live i = cond (is_in i live) (Some i) None

-- the slots of all numbers below 2^size
abbrev pub point_slots : ℕ → List ℕ → List (Option ℕ)
point_slots size live = map (slot_of_point live) (numbers_from 0 (2 ^ size))

-- a fact of the tournament of the points along a direction
abbrev pub IsExtremeFact : ℕ → Scene → ℤ → ℤ → Placed → Type 0
IsExtremeFact size s dx dy p = IsNodeFact s (along_key dx dy) size (point_slots size s.live) p

-- the same by computation
abbrev pub extreme_facts : ℕ → Scene → ℤ → ℤ → List Placed
extreme_facts size s dx dy = tournament_facts s (along_key dx dy) size (point_slots size s.live)
