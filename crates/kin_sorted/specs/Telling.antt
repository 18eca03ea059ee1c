-- What a list reports of its facts in a part of a structure.
use Rattle.std.specs.Prelude.{◌≡◌, ◌++◌, ℕ, List, [], map}
use Rattle.kin_motion.specs.declared.fact.Placed.{Placed}
use Rattle.kin_motion.specs.Deltas.{Change}
use Rattle.kin_motion.specs.Kinetics.{HasChanged}
use Rattle.kin_motion.specs.Parts.{moved_by}

abbrev pub nothing_told : Change
nothing_told = record { dropped = []; born = [] }

-- what was reported before, and then this change with its facts in a part
abbrev pub told_more : ℕ → Change → Change → Change
told_more part before more = record { dropped = before.dropped ++ map (moved_by part) more.dropped; born = before.born ++ map (moved_by part) more.born }

-- the change of these facts is reported, each this many parts further on
pub record IsToldIn (part : ℕ) (old new : List Placed) (before after : Change) : Type 0 where
  pub change : Change
  pub changed : HasChanged old new nothing_told change
  pub told : after ≡ told_more part before change
