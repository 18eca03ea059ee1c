-- What the calls of a world cost, by the world before and the world after.
use Rattle.std.specs.Prelude.{◌≡◌, ◌⊎◌, ℕ, ◌+◌, ◌*◌, ◌≤◌, List, Option, Some, None, slice_get, length, sum, sum_by, count_by, Contains}
use Rattle.kin_motion.specs.declared.keep.Keep.{Keep}
use Rattle.kin_motion.specs.Course.{Course}
use Rattle.kin_motion.specs.Live.{Certificate}
use Rattle.kin_motion.specs.Scene.{Scene}
use Rattle.kin_motion.specs.Sets.{ListsExactly}
use Rattle.kin_motion.specs.Spending.{MayAsk}
use Rattle.kin_cert.specs.Cost.{IsEnough}
use Rattle.kin_world.specs.Worlds.{World, world_scene, is_about, facts_as_begins, legs_by, HasInserted, HasRemoved}

-- a structure asks nothing, or what its keep may ask
abbrev pub IsAsked : ℕ → Keep → Scene → Scene → ℕ → Type 0
IsAsked size keep v w asked = (asked ≡ 0) ⊎ MayAsk size keep v w asked

-- one number for each keep: what its structure asks between the two scenes
pub record AreAsked (size : ℕ) (keeps : List Keep) (v w : Scene) (asked : List ℕ) : Type 0 where
  pub count : length asked ≡ length keeps
  pub each : (j : ℕ) (keep : Keep) (n : ℕ) → slice_get keeps j ≡ Some keep → slice_get asked j ≡ Some n → IsAsked size keep v w n

-- the certificates that one list has and another has not, each once
abbrev pub AreInFirstAlone : List Certificate → List Certificate → List Certificate → Type 0
AreInFirstAlone first second which = ListsExactly which (λ c. Contains first c × ¬ (Contains second c))

-- for each leg that begins between the two worlds, 2r + 1 for each fact about its number that is live as it begins, and 4
abbrev pub cost_of_legs : ℕ → World → World → ℕ
cost_of_legs r old new = sum_by (λ l. facts_as_begins old l * (2 * r + 1) + 4) (legs_by new.moment old.legs)

-- The count has risen by at most what the structures ask, r + 1 for each certificate dropped or born, 2 for each failure, and 4, besides what the legs cost that begin. Here r may be any number that is enough for the certificates live before and those born, together.
pub record IsRepairCost (old new : World) (failures before after : ℕ) : Type 0 where
  pub asked : List ℕ
  pub asks : AreAsked old.size old.keeps (world_scene old) (world_scene new) asked
  pub dropped : List Certificate
  pub gone : AreInFirstAlone old.live new.live dropped
  pub born : List Certificate
  pub come : AreInFirstAlone new.live old.live born
  pub bound : (r : ℕ) → IsEnough (length old.live + length born) r → after ≤ before + (sum asked + (length dropped + length born) * (r + 1) + 2 * failures + 4 + cost_of_legs r old new)

-- the count has risen by at most what the removal and then the insertion may take
pub record IsReplacementCost (number : ℕ) (motion : Course) (old new : World) (before after : ℕ) : Type 0 where
  pub between : World
  pub removed : HasRemoved number old between
  pub inserted : HasInserted number motion between new
  pub halfway : ℕ
  pub leaving : IsRepairCost old between 0 before halfway
  pub entering : IsRepairCost between new 0 halfway after

-- a turn takes at most 2r + 1 steps for each live fact about the number, and 4; r is enough for the live facts
abbrev pub IsTurnCost : ℕ → World → ℕ → ℕ → Type 0
IsTurnCost number old before after = (r : ℕ) → IsEnough (length old.live) r → after ≤ before + (count_by (is_about number) old.live * (2 * r + 1) + 4)

-- a step without a block takes at most 4 steps, besides what the legs cost that begin, and one with a block what a repair may take
abbrev pub IsStepCost : World → World → Option ℕ → ℕ → ℕ → Type 0
IsStepCost old new None before after = (r : ℕ) → IsEnough (length old.live) r → after ≤ before + (4 + cost_of_legs r old new)
IsStepCost old new (Some failures) before after = IsRepairCost old new failures before after
