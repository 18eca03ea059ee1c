-- The words and lemmas of std and of the crates below that several proofs of this crate speak in, brought in at one place.
pub use Rattle.std.proofs.Common.{All, Contains, Err, IsNone, IsTrue, List, None, Option, Some, [], ap, arith, false, get_or, get_or-set_same, inl, inr, is_some, length, length-set, map, min, pos, refl, rules, set-set, slice_get}
pub use Rattle.std.proofs.Common.{slice_index_or, slice_set, subst, sym, take, true, w32, ℕ, ℤ, ◌++◌, ◌+◌, ◌-◌, ◌<◌, ◌^◌, ◌↔◌, ◌∙◌, ◌∷◌, ◌≡◌, ◌≢◌, ◌≤◌, ◌⊎◌}
pub use Rattle.std.proofs.lemmas.Bool.{cases_Bool, cases_eq, or_parts}
pub use Rattle.std.proofs.lemmas.Bool.Decides.{nat_tests}
pub use Rattle.std.proofs.lemmas.List.{length-map, length-replicate, length_push, set-get_or}
pub use Rattle.std.proofs.lemmas.List.Elements.{All-contains, Contains-get_or}
pub use Rattle.std.proofs.lemmas.List.Sorted.{Contains-permutation, IsPermutation-sym, length_permutation}
pub use Rattle.std.proofs.lemmas.Option.{IfSome_then, same_Some, slice_get-get_or, slice_get_read, slice_get_within}
pub use Rattle.kin_algebra.proofs.Members.{contains_none}
pub use Rattle.kin_algebra.proofs.Places.{get-push_cases, get-set_other, get-set_same, get_within}
pub use Rattle.kin_algebra.proofs.Results.{from_two, on_err}
pub use Rattle.kin_num.specs.Canonical.{IsCanonical}
pub use Rattle.kin_num.specs.Grains.{moments_left}
pub use Rattle.kin_num.specs.Order.{IsEarlier}
pub use Rattle.kin_num.specs.declared.instant.Moment.{Moment}
pub use Rattle.kin_num.specs.declared.instant.Phase.TheVariants.{At}
pub use Rattle.kin_num.proofs.MomentLaws.{never, through, total}
pub use Rattle.kin_instant.proofs.Widths.{clean}
pub use Rattle.kin_motion.specs.Course.{AreSlow, Course, IsSlow, is_live, live_of, motion_of}
pub use Rattle.kin_motion.specs.Forms.{IsAskable, names}
pub use Rattle.kin_motion.specs.Journal.{Block, Failure, IsNextBlock, NothingFails, failures_at, seen_in}
pub use Rattle.kin_motion.specs.Kinetics.{AllHold, HasChanged, HaveSameLive}
pub use Rattle.kin_motion.specs.Live.{Certificate, IsKeepFact, IsLiveFact, IsSmallKeep, ListsLive, owned_by}
pub use Rattle.kin_motion.specs.Moments.{FailsFirst, HoldsAt}
pub use Rattle.kin_motion.specs.Numbers.{filled_from}
pub use Rattle.kin_motion.specs.Scene.{Holds, IsReal, Scene, scene_at}
pub use Rattle.kin_motion.specs.Sets.{AreDistinct, ListsExactly}
pub use Rattle.kin_motion.specs.Turning.{IsNotWhole, IsOutOfBounds, TurnsTo}
pub use Rattle.kin_motion.specs.declared.fact.Placed.{Placed}
pub use Rattle.kin_motion.specs.declared.form.Form.{Form}
pub use Rattle.kin_motion.specs.declared.form.Form.TheVariants.{Dist, Line, Slope, Turn}
pub use Rattle.kin_motion.specs.declared.keep.Keep.{Keep}
pub use Rattle.kin_motion.proofs.KeepLaws.{few_at_most, hull_before, one_hull}
pub use Rattle.kin_motion.proofs.MotionScenes.{live_fits, real_at}
pub use Rattle.kin_motion.proofs.SetLaws.{contains_map, contains_mapped, distinct_cons, distinct_filter, distinct_mapped_on, distinct_none, exactly_both, exactly_in_words, exactly_none, filter-complete, filter-sound}
pub use Rattle.kin_turn.specs.declared.turned.TurnError.TheVariants.{NotWhole, OutOfBounds}
pub use Rattle.kin_fail.specs.Blocks.{certificate_of}
pub use Rattle.kin_cert.specs.Facts.{AreAlike, Facts, IsAt, LiveFact, NoneAlike}
pub use Rattle.kin_fail.specs.Failures.{IsFirstFailure}
pub use Rattle.kin_cert.specs.Mails.{gathered, is_of, placed_of, told_to}
pub use Rattle.kin_cert.specs.Taken.{HasGivenOut, HasTaken, IsLeastFailure, NoneFails, NoneFailsUntil, NoneWaits, certificate_rank, is_taken_before}
pub use Rattle.kin_cert.specs.Told.{HasFactsOf, IsTimed, MayTell, certificates_of, nothing}
pub use Rattle.kin_fail.specs.declared.owned.Owned.{Owned}
pub use Rattle.kin_cert.proofs.NextLaws.{IsInTime, earlier_still, fails_first, hold_before_least, later_start, next_block, nothing_fails, nothing_until, timed_holds}
pub use Rattle.kin_world.specs.Kinds.{HasMembers, IsGroundedIn, kinetic, placed_facts}
pub use Rattle.kin_world.specs.Costs.{IsRepairCost, IsTurnCost}
pub use Rattle.kin_world.specs.Paid.{HavePaid}
pub use Rattle.kin_world.specs.Structures.{AreLiveAfter, AreVacant, HoldFor, HasHull, HasNeeds, IsSettledFor, IsVacant}
pub use Rattle.kin_world.specs.Upkeep.{AreBoxed, AreLeft, AreWaiting, HasComeTo, HasGoneOn, HasGoneOver, HasLanded, HasOneMore, HasSameFrame, HasSettled, HasTakenUp, HasTimedNew, HasUpdated, IsBeyond, IsCarriedOut, IsDueWithin, IsFit}
pub use Rattle.kin_world.specs.Upkeep.{IsIdle, IsInOrder, IsInPlace, IsLanding, IsMarked, IsRepaired, IsRepairing, IsSound, IsTimedOrFailed, IsUnderRepair, ListsWaiting, MayTakeUp, Stage, is_line, meaning, setting, sight}
pub use Rattle.kin_world.specs.Upkeep.{stage_of, with_marked}
pub use Rattle.kin_legs.specs.declared.leg.Leg.{Leg}
pub use Rattle.kin_legs.specs.Joined.{AreAhead, AreFollowed, begins_at, piece_of, plans_of}
pub use Rattle.kin_legs.specs.Planning.{Planning, without}
pub use Rattle.kin_world.specs.Crossing.{EndsAt, Flight, HasCrossed, HasCrossedTo, IsAtEase, IsKnownBy, IsNextStop, IsReady, NoneIsPast, flight_of, seen, two_a_leg}
pub use Rattle.kin_world.specs.Worlds.{BeginsWithin, CanPlan, CanTurn, FailsWithin, HasGoneTo, HasInserted, HasLeftBehind, HasMade, HasMoved, HasPassed, HasPlanned, HasRemoved, HasTurned, IsBusyWithin, IsNextMoment, IsWhole, World, certificate}
pub use Rattle.kin_world.specs.Worlds.{facts_as_begins, is_about, legs_by, remade_by, with_facts_of, world_plans, world_setting, world_view}
pub use Rattle.kin_world.specs.declared.structure.Structure.{Structure}
