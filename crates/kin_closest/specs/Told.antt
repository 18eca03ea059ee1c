-- Slots of the tournament that get the pairs of their candidates.
use Rattle.std.specs.Prelude.{◌≡◌, ◌≢◌, ℕ, ◌+◌, ◌/◌, ◌%◌, ◌^◌, ◌<◌, ◌≤◌, true, List, length, Option, Some, slice_get}
use Rattle.kin_motion.specs.ClosestPairs.{Near}
use Rattle.kin_motion.specs.ClosestFacts.{near_of}
use Rattle.kin_tourney.specs.Tournament.{Tournament, mark_in, mark_count}

-- each candidate of a number below 2^size is below 2^12
abbrev pub AreLow : ℕ → (ℕ → ℕ → Option ℕ) → Type 0
AreLow size candidate = (p w q : ℕ) → p < 2 ^ size → w < 8 → candidate p w ≡ Some q → q < 2 ^ 12

-- the first n of these slots are marked and hold their candidates now, and the others hold what they held
pub record AreTold {K : Type 0} (candidate : ℕ → ℕ → Option ℕ) (changed : List ℕ) (n : ℕ) (old new : Tournament K Near) : Type 0 where
  pub same : new ≡ record old { slots = new.slots; marked = new.marked; winners = new.winners }
  pub slots_room : length new.slots ≡ length old.slots
  pub marks_room : length new.marked ≡ length old.marked
  pub told : (k i : ℕ) → k < n → slice_get changed k ≡ Some i → slice_get new.slots i ≡ Some (near_of i (i / 8) (candidate (i / 8) (i % 8)))
  pub kept : (i : ℕ) → ((k : ℕ) → k < n → slice_get changed k ≢ Some i) → slice_get new.slots i ≡ slice_get old.slots i
  pub marked : (k i : ℕ) → k < n → slice_get changed k ≡ Some i → mark_in new.marked i ≡ true
  pub few : mark_count new.marked ≤ mark_count old.marked + n
