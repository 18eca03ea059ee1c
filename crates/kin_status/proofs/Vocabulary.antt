-- The words and lemmas of the crates below that several proofs of this crate speak in, brought in at one place.
pub use Rattle.std.specs.Io.KnownBytes.{Appends, Consumes}
pub use Rattle.std.proofs.KnownBytes.{Appends-nil, Appends-trans}
pub use Rattle.std.proofs.lemmas.Bool.{cases_lt}
pub use Rattle.std.proofs.lemmas.Int.{ints, to_z-of_z}
pub use Rattle.std.proofs.lemmas.List.{drop_all, length-replicate}
pub use Rattle.std.proofs.lemmas.Option.{same_Some}
pub use Rattle.std.proofs.lemmas.Result.{on_err_weaker}
pub use Rattle.kin_algebra.proofs.Results.{on_err}
pub use Rattle.kin_algebra.specs.Signs.{opposite_of, product_of, sign_of}
pub use Rattle.kin_algebra.specs.declared.sign.Sign.{Sign}
pub use Rattle.kin_algebra.specs.declared.sign.Sign.TheVariants.{Minus, Plus, Zero}
pub use Rattle.kin_algebra.proofs.IntegerSigns.{sign_in, sign_of-times, sign_out}
pub use Rattle.kin_num.specs.Canonical.{IsCanonical, IsCanonicalForm, discriminant}
pub use Rattle.kin_num.specs.Instants.{line, sign_at_instant}
pub use Rattle.kin_num.specs.Order.{IsEarlier, IsLess}
pub use Rattle.kin_num.specs.Quadratic.{Quadratic}
pub use Rattle.kin_num.specs.declared.instant.Moment.{Moment}
pub use Rattle.kin_num.specs.declared.instant.Phase.TheVariants.{After, At}
pub use Rattle.kin_num.specs.declared.instant.Shape.{Shape}
pub use Rattle.kin_num.proofs.InstantOrder.{above_fraction, level_same}
pub use Rattle.kin_num.proofs.LowerFractions.{less_asym, not_less_itself}
pub use Rattle.kin_num.proofs.Values.{start_canonical}
pub use Rattle.kin_instant.specs.Roots.{AreRootsOf, HasRoot, IsFraction, count_by_signs}
pub use Rattle.kin_instant.specs.declared.roots.Roots.{Roots}
pub use Rattle.kin_instant.specs.declared.roots.Roots.TheVariants.{All, Nowhere, One, Two}
pub use Rattle.kin_motion.specs.Course.{Course, IsSlow, motion_limit}
pub use Rattle.kin_motion.specs.Journal.{Block, IsJournal, IsNextBlock, Setting}
pub use Rattle.kin_motion.specs.Plans.{Plan, motion_in_force, motions_in_force}
pub use Rattle.kin_motion.specs.Turning.{just_at}
pub use Rattle.kin_motion.proofs.JournalLaws.{block_is_listed, journal_is_one, next_block_is_one}
pub use Rattle.kin_io.specs.Ends.{AppendsFront}
pub use Rattle.kin_fail.specs.Blocks.{failure_of}
pub use Rattle.kin_legs.specs.Nexts.{Next, block, leg, nothing, IsNext, comes_at}
pub use Rattle.kin_legs.specs.Paths.{ArePaths, IsPath, lasting, left_of, plan_of, plans_left}
pub use Rattle.kin_legs.specs.Planned.{ArePlannable}
pub use Rattle.kin_print.proofs.Fronts.{front_at, front_behind, front_first}
pub use Rattle.kin_script.specs.Changes.{PointChange, ChangesTo, IsChangeInRange, IsRefusedChange, enters, leaves, restarts, turns, schedules}
pub use Rattle.kin_script.specs.Deeds.{Deed, asks, changes, deed_of, goes_on, goes_to}
pub use Rattle.kin_script.specs.Generated.{IsGenerated, IsLeastSize, insertion, insertions, generated_keeps, questions}
pub use Rattle.kin_script.specs.Grammar.{script_of}
pub use Rattle.kin_script.specs.Inputs.{IsTextOf}
pub use Rattle.kin_script.specs.Printed.{PutsFront}
pub use Rattle.kin_script.specs.PrintedJournal.{block_lines, failure_line, journal_lines}
pub use Rattle.kin_script.specs.Questions.{IsAnswerable, IsPresent, IsProvided, must_be_live}
pub use Rattle.kin_script.specs.Ranges.{IsAskedFor, IsCommandInRange, IsDeedInRange, IsRatioInRange, IsWithin}
pub use Rattle.kin_script.specs.Replay.{HasNoRoot, IsAllowed, IsNamedRoot, IsRefused, IsRootOf, LeadsTo}
pub use Rattle.kin_script.specs.Alike.{IsAlike, IsOnPaths}
pub use Rattle.kin_script.specs.States.{State, start, state_scene, state_setting, state_view}
pub use Rattle.kin_script.specs.Text.{Ending, IsNextText, IsPassedText, next_lines, Prints, Step, Text, bad_line, refused_line}
pub use Rattle.kin_script.specs.declared.command.Command.{Command}
pub use Rattle.kin_script.specs.declared.refusal.Refusal.{Refusal}
pub use Rattle.kin_script.specs.declared.refusal.Refusal.TheVariants.{Absent, NoRoot, NotWhole, OutOfBounds, Past, Planned, Taken}
pub use Rattle.kin_script.specs.declared.script.Script.{Script}
pub use Rattle.kin_script.proofs.Questions.{answerable_allowed, deed_in_range, has_line, one_refused_question, one_reply_line, small_keep}
pub use Rattle.kin_status.specs.Demo.{DemoTextsExist, IsDemoText, OneDemoText, WritesDemo, demo_line, failures_in, start_of}
pub use Rattle.kin_status.specs.Headline.{Answers, IsAnswer, IsBrokenOff, IsCut, OneAnswer, Outcome, TakesWhole, TextsExist, status_of_stop}
pub use Rattle.kin_status.specs.Passed.{Passes, PassesInTurn, block_of_next, printed_if}
pub use Rattle.kin_status.specs.Performed.{BreaksOff, IsCutOfText, IsFrontOfEach, IsReply, Performs, PutsLine, Replies}
pub use Rattle.kin_status.specs.Tallies.{HasTallied, counted_on, tallied_on, tally_line}
pub use Rattle.kin_status.specs.Written.{Gains, GainsSome, IsFront, LosesSome, Printer, Wrote, printer}
pub use Rattle.kin_status.specs.declared.stop.Halt.{Halt}
pub use Rattle.kin_status.specs.declared.stop.Halt.TheVariants.{Broken, Refused}
pub use Rattle.kin_status.specs.declared.status.Status.{Status}
pub use Rattle.kin_status.specs.declared.tally.Tally.{Tally}
pub use Rattle.kin_status.specs.declared.stop.Stop.{Stop}
pub use Rattle.kin_status.specs.declared.stop.Stop.TheVariants.{Fault, NoMemory}
