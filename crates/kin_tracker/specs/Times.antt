-- As time goes on: when it may, and where the tracker is then.
use Rattle.std.specs.Prelude.{◌≡◌}
use Rattle.kin_num.specs.declared.instant.Moment.{Moment}
use Rattle.kin_num.specs.Order.{IsEarlier}
use Rattle.kin_legs.specs.Nexts as next
use Rattle.kin_legs.specs.Nexts.{IsNext}
use Rattle.kin_legs.specs.Paths.{plans_left}
use Rattle.kin_tracker.specs.declared.refusal.Refusal.{Refusal}
use Rattle.kin_tracker.specs.declared.refusal.Refusal.TheVariants.{Lost, Past, NoMemory}
use Rattle.kin_tracker.specs.declared.time.Event.{Event}
use Rattle.kin_tracker.specs.declared.time.Event.TheVariants.{Failures, Leg, Nothing}
use Rattle.kin_tracker.specs.Trackers.{IsHere, IsLost}
use Rattle.kin_world.specs.Worlds.{World, IsWhole, HasGoneTo, IsBusyWithin, IsNextMoment, world_plans, world_view}

-- ---- to a moment that isn't before now

-- it isn't before now
abbrev pub MayGo : World → Moment → Type 0
MayGo w moment = IsHere w × ¬ (IsEarlier moment w.moment)

-- why the tracker doesn't go there
abbrev pub IsRefusedGoing : World → Moment → Refusal → Type 0
IsRefusedGoing w moment Lost = IsLost w
IsRefusedGoing w moment Past = IsHere w × IsEarlier moment w.moment
IsRefusedGoing w moment NoMemory = MayGo w moment × IsBusyWithin moment w
IsRefusedGoing w moment _ = ⊥

-- the moment is this one, the same is kept, and of the plans there is what is left of them
pub record HasArrived (m : Moment) (old new : World) : Type 0 where
  pub moment : new.moment ≡ m
  pub size : new.size ≡ old.size
  pub keeps : new.keeps ≡ old.keeps
  pub plans : world_plans new ≡ plans_left m (world_plans old)
  pub whole : IsWhole new

-- ---- to what comes next

-- why the tracker doesn't go on: memory is wanting only where something comes
abbrev pub IsRefusedStep : World → Refusal → Type 0
IsRefusedStep w Lost = IsLost w
IsRefusedStep w NoMemory = IsHere w × ((moment : Moment) × IsNextMoment (world_view w) moment)
IsRefusedStep w _ = ⊥

-- it is the event that comes next, and the tracker has gone to its moment
abbrev pub HasGoneOn : World → World → Event → Type 0
HasGoneOn old new (Failures block) = IsNext (world_view old) (next.block block) × HasGoneTo block.moment old new
HasGoneOn old new (Leg moment) = IsNext (world_view old) (next.leg moment) × HasGoneTo moment old new
HasGoneOn old new Nothing = IsNext (world_view old) next.nothing × (new ≡ old)

-- failures, or a leg that begins
abbrev pub HasCome : Event → Type 0
HasCome (Failures block) = Unit {0}
HasCome (Leg moment) = Unit {0}
HasCome Nothing = ⊥
