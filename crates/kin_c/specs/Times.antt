-- Calls that go on in time.
use Rattle.std.specs.Prelude.{◌≡◌, ◌<◌, ℕ, ℤ, Bool, List, [], Some, None, map}
use Rattle.kin_num.specs.declared.instant.Moment.{Moment}
use Rattle.kin_num.specs.Grains.{moments_left}
use Rattle.kin_num.specs.Quadratic.{IsSmall, quadratic}
use Rattle.kin_motion.specs.Journal.{Failure}
use Rattle.kin_tracker.specs.declared.refusal.Refusal.{Refusal}
use Rattle.kin_tracker.specs.declared.time.Event.{Event}
use Rattle.kin_tracker.specs.declared.time.Event.TheVariants.{Failures, Leg, Nothing}
use Rattle.kin_tracker.specs.Numbers.{IsAtFraction, IsAtRoot, IsRefusedFraction, IsRefusedRoot}
use Rattle.kin_tracker.specs.Ranges.{IsFractionInRange}
use Rattle.kin_tracker.specs.Times.{MayGo, IsRefusedGoing, IsRefusedStep, HasArrived, HasCome, HasGoneOn}
use Rattle.kin_tracker.specs.Trackers.{IsHere, Leaves}
use Rattle.kin_world.specs.Worlds.{World, HasStepped}
use Rattle.kin_c.specs.declared.failure.KinFailure.{KinFailure}
use Rattle.kin_c.specs.declared.moment.KinMoment.{KinMoment}
use Rattle.kin_c.specs.declared.status.Status.{Status}
use Rattle.kin_c.specs.declared.status.Status.TheVariants.{Done, NoWorld, Refused, TooSmall}
use Rattle.kin_c.specs.Buffers.{Puts, buffer}
use Rattle.kin_c.specs.Calls.{Changes, Reads}
use Rattle.kin_c.specs.Failures.{failure_numbers}
use Rattle.kin_c.specs.Moments.{IsNoMoment, Names, moment_numbers}

-- ---- to a moment that is named

-- to a moment
abbrev pub Goes : Moment → World → World → Status → Type 0
Goes m old new = Changes old new (MayGo old m) (HasArrived m old new) (IsRefusedGoing old m)

-- to the instant n/d
abbrev pub GoesToFraction : ℤ → ℤ → World → World → Status → Type 0
GoesToFraction n d old new = Reads (λ m. IsFractionInRange n d × IsAtFraction n d m) (IsRefusedFraction n d) (new ≡ old) (λ m. Goes m old new)

-- to a root of a*t^2 + b*t + c
abbrev pub GoesToRoot : ℤ → ℤ → ℤ → Bool → World → World → Status → Type 0
GoesToRoot a b c upper old new =
    Reads (λ m. IsSmall (quadratic a b c) × IsAtRoot a b c upper m) (IsRefusedRoot a b c upper) (new ≡ old) (λ m. Goes m old new)

-- to a moment that is given as numbers
abbrev pub GoesToMoment : KinMoment → World → World → Status → Type 0
GoesToMoment k old new = Reads (Names k) (IsNoMoment k) (new ≡ old) (λ m. Goes m old new)

-- ---- to what comes next

-- what is said of an event: what it is, its moment, and its failures with their number
pub record Report : Type 0 where
  pub event : ℕ
  pub moment : KinMoment
  pub list : List KinFailure
  pub len : ℕ

abbrev pub report : ℕ → KinMoment → List KinFailure → ℕ → Report
report event moment list len = record { event = event; moment = moment; list = list; len = len }

-- what it is, and its moment
abbrev pub IsHeaded : Event → Report → Report → Type 0
IsHeaded (Failures block) before after = (after.event ≡ 1) × (after.moment ≡ moment_numbers block.moment)
IsHeaded (Leg moment) before after = (after.event ≡ 2) × (after.moment ≡ moment_numbers moment)
IsHeaded Nothing before after = (after.event ≡ 0) × (after.moment ≡ before.moment)

-- the failures of an event
abbrev pub failures_of : Event → List Failure
failures_of (Failures block) = block.failures
failures_of (Leg moment) = []
failures_of Nothing = []

-- the event is reported, without its failures where there is too little room
abbrev pub Reports : Event → Report → Report → Status → Type 0
Reports event before after status =
    IsHeaded event before after × Puts (map failure_numbers (failures_of event)) (buffer before.list before.len) (buffer after.list after.len) status

-- an event has come, and is reported; or it is refused, and nothing is
abbrev pub Comes : World → World → (Event → Type 0) → (Refusal → Type 0) → Report → Report → Status → Type 0
Comes old new came refused before after (Refused r) = refused r × Leaves old new r × (after ≡ before)
Comes old new came refused before after NoWorld = ⊥
Comes old new came refused before after Done = (event : Event) × came event × Reports event before after Done
Comes old new came refused before after TooSmall = (event : Event) × came event × Reports event before after TooSmall

-- after failures, and after a leg that begins, fewer moments are left
abbrev pub LeavesFewer : World → World → Event → Type 0
LeavesFewer old new event = HasCome event → moments_left new.moment < moments_left old.moment

-- to what comes next
abbrev pub GoesOn : Report → Report → World → World → Status → Type 0
GoesOn before after old new = Comes old new (λ event. IsHere old × HasGoneOn old new event × LeavesFewer old new event) (IsRefusedStep old) before after

-- it is what a step to the moment has found
abbrev pub HasFound : Moment → World → World → Event → Type 0
HasFound m old new (Failures block) = HasStepped m (Some block) old new
HasFound m old new (Leg moment) = ⊥
HasFound m old new Nothing = HasStepped m None old new

-- to the next failures, or to the limit
abbrev pub StepsTo : Moment → Report → Report → World → World → Status → Type 0
StepsTo m before after old new =
    Comes old new (λ event. MayGo old m × HasFound m old new event × LeavesFewer old new event) (IsRefusedGoing old m) before after

-- the same, where the limit is given as numbers
abbrev pub Steps : KinMoment → Report → Report → World → World → Status → Type 0
Steps k before after old new = Reads (Names k) (IsNoMoment k) ((new ≡ old) × (after ≡ before)) (λ m. StepsTo m before after old new)
