-- How legs lie in memory: all by their instants, and those of each number. No public clause cites this module.
use Rattle.std.specs.Prelude.{◌≡◌, ℕ, ◌≤◌, ◌^◌, List, [], map, length, slice_index_or}
use Rattle.kin_motion.specs.Course.{Course}
use Rattle.kin_legs.specs.declared.leg.Leg.{Leg}
use Rattle.kin_legs.specs.Planning.{IsRising, legs_of}

-- a leg by its instant and number
abbrev pub leg_in : (ℕ × ℕ) × Course → Leg
leg_in e = record { at = e.0.0; no = e.0.1; m = e.1 }

abbrev pub legs_in : List ((ℕ × ℕ) × Course) → List Leg
legs_in es = map leg_in es

-- the legs of a number, which has none beyond the lists
abbrev pub filed_under : ℕ → List (List Leg) → List Leg
filed_under i queues = slice_index_or queues i []

-- the legs rise, and each number has its own
pub record AreFiled (size : ℕ) (legs : List Leg) (queues : List (List Leg)) : Type 0 where
  pub rising : IsRising legs
  pub few : length queues ≤ 2 ^ size
  pub each : (i : ℕ) → filed_under i queues ≡ legs_of i legs
