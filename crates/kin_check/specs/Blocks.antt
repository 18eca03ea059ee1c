-- The next block that comes by a moment.
use Rattle.std.specs.Prelude.{List, [], Option, Some, None, filter, map}
use Rattle.kin_num.specs.declared.instant.Moment.{Moment}
use Rattle.kin_num.specs.Order.{IsEarlier}
use Rattle.kin_motion.specs.Journal.{Block, Failure, IsJournal, IsNextBlock, has_failed, is_listed_before, seen_in}
use Rattle.kin_motion.specs.Live.{Certificate}
use Rattle.kin_motion.specs.Numbers.{sorted_by}
use Rattle.kin_motion.specs.Scene.{Scene}
use Rattle.kin_script.specs.States.{State, state_setting}

-- those of the facts whose sign is another in the scene, in the journal's order
abbrev pub failures_seen : Scene → List Certificate → List Failure
failures_seen s cs = sorted_by is_listed_before (filter has_failed (map (seen_in s) cs))

-- the next block, which isn't after the last moment; or none where nothing fails up to there
abbrev pub IsNextBlockBy : State → Moment → Moment → Option Block → Type 0
IsNextBlockBy s from last (Some b) = IsNextBlock (state_setting s) from b × ¬ (IsEarlier last b.moment)
IsNextBlockBy s from last None = IsJournal (state_setting s) from last []
