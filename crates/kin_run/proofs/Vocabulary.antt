-- The words and lemmas of the crates below that several proofs of this crate speak in, brought in at one place.
pub use Rattle.std.proofs.lemmas.Int.{to_z-of_z}
pub use Rattle.std.proofs.lemmas.Result.{err_from_is_err_and, on_err_weaker}
pub use Rattle.kin_algebra.proofs.Results.{on_err, on_ok}
pub use Rattle.kin_num.specs.Canonical.{IsCanonical}
pub use Rattle.kin_num.specs.Grains.{moments_left}
pub use Rattle.kin_num.specs.Instants.{line}
pub use Rattle.kin_num.specs.Order.{IsEarlier}
pub use Rattle.kin_num.specs.declared.instant.Moment.{Moment}
pub use Rattle.kin_num.specs.declared.instant.Shape.{Shape}
pub use Rattle.kin_motion.specs.Course.{Course, motion_of}
pub use Rattle.kin_motion.specs.Journal.{Block, IsJournal, IsNextBlock}
pub use Rattle.kin_motion.specs.Turning.{just_at}
pub use Rattle.kin_motion.proofs.JournalLaws.{block_is_listed}
pub use Rattle.kin_io.specs.Ends.{AppendsFront}
pub use Rattle.kin_print.proofs.Fronts.{nothing}
pub use Rattle.kin_script.specs.Changes.{IsSlowVelocity, enters, leaves, restarts, schedules, turns}
pub use Rattle.kin_script.specs.Deeds.{deed_of}
pub use Rattle.kin_script.specs.Printed.{PutsFront}
pub use Rattle.kin_script.specs.PrintedJournal.{none_line}
pub use Rattle.kin_script.specs.Ranges.{IsRootInRange}
pub use Rattle.kin_script.specs.Alike.{IsAlike}
pub use Rattle.kin_script.specs.States.{State, state_setting}
pub use Rattle.kin_script.specs.Text.{IsPassedText, refused_line}
pub use Rattle.kin_script.specs.declared.command.Command.{Command}
pub use Rattle.kin_script.proofs.Questions.{asks_otherwise}
pub use Rattle.kin_status.specs.Performed.{BreaksOff, IsCutOfText, IsFrontOfEach}
pub use Rattle.kin_status.specs.Passed.{printed_if}
pub use Rattle.kin_status.specs.Tallies.{HasTallied, counted_on}
pub use Rattle.kin_status.specs.Written.{Gains, GainsSome, IsFront, Printer, printer}
pub use Rattle.kin_status.specs.declared.stop.Halt.{Halt}
pub use Rattle.kin_status.specs.declared.tally.Tally.{Tally}
pub use Rattle.kin_status.specs.declared.stop.Stop.TheVariants.{Fault, NoMemory}
pub use Rattle.kin_world.specs.Worlds.{HasGoneTo, HasInserted, HasLeftBehind, HasMoved, HasPassed, HasPlanned, HasRemoved, HasReplaced, HasStepped, HasTurned, IsWhole, World, failure_count, world_plans, world_setting, world_view}
pub use Rattle.kin_run.specs.Arrived.{HasArrived}
pub use Rattle.kin_run.specs.Replied.{RepliesTo}
pub use Rattle.kin_run.specs.States.{state_of}
