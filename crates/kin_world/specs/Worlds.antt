-- What a world means, and what its calls do.
use Rattle.std.specs.Prelude.{◌≡◌, ◌⊎◌, ◌↔◌, ℕ, ℤ, ◌+◌, ◌-◌, ◌≤◌, ◌^◌, pos, min, Bool, true, false, List, [], Option, Some, None, filter, length, slice_get, slice_set, replicate, count_by, sum_by, Contains, IsTrue}
use Rattle.kin_algebra.specs.declared.sign.Sign.{Sign}
use Rattle.kin_num.specs.declared.instant.Moment.{Moment}
use Rattle.kin_num.specs.declared.instant.Phase.TheVariants.{At}
use Rattle.kin_num.specs.declared.instant.Shape.TheVariants.{Ratio}
use Rattle.kin_num.specs.Canonical.{IsCanonical}
use Rattle.kin_num.specs.Order.{IsEarlier}
use Rattle.kin_motion.specs.declared.form.Form.{Form}
use Rattle.kin_motion.specs.declared.keep.Keep.{Keep}
use Rattle.kin_motion.specs.Course.{Course, IsSlow, AreSlow, motion_of}
use Rattle.kin_motion.specs.Forms.{names}
use Rattle.kin_motion.specs.Journal.{Setting, Block, IsNextBlock, IsJournal}
use Rattle.kin_motion.specs.Keeps.{may_keep}
use Rattle.kin_motion.specs.Live.{Certificate, IsLiveFact, IsSmallKeep, ListsLive, live_facts}
use Rattle.kin_motion.specs.Moments.{FailsFirst}
use Rattle.kin_motion.specs.Numbers.{put_in}
use Rattle.kin_motion.specs.Plans.{Plan, is_begun, plans_scene}
use Rattle.kin_motion.specs.Scene.{Scene, scene_at}
use Rattle.kin_motion.specs.Sets.{ListsExactly}
use Rattle.kin_motion.specs.Turning.{TurnsTo}
use Rattle.kin_legs.specs.declared.leg.Leg.{Leg}
use Rattle.kin_legs.specs.Joined.{AreAhead, AreFollowed, begins_at, piece_of, plans_of}
use Rattle.kin_legs.specs.Nexts.{Next, View, IsNext, comes_at}
use Rattle.kin_legs.specs.Paths.{plan_of, plans_left}
use Rattle.kin_legs.specs.Planned.{planned}
use Rattle.kin_legs.specs.Planning.{is_earlier, without}
use Rattle.kin_legs.specs.Scheduling.{MayFollow}

-- the size, what is kept, the motion of each live number, the legs that are still to come, the moment now, the live facts with their owners, how many failure moments were made, and false after a changing call that found no memory
pub record World : Type 0 where
  pub size : ℕ
  pub keeps : List Keep
  pub motions : List (Option Course)
  pub legs : List Leg
  pub moment : Moment
  pub live : List Certificate
  pub made : ℕ
  pub whole : Bool

-- the plan of each live number: its motion now, and its legs
abbrev pub world_plans : World → List (Option Plan)
world_plans w = plans_of w.motions w.legs

-- what is kept, and what is seen at each moment
abbrev pub world_setting : World → Setting
world_setting w = planned (world_plans w) w.size w.keeps

-- the same, as it is seen from now on
abbrev pub world_view : World → View
world_view w = record { plans = world_plans w; size = w.size; keeps = w.keeps; now = w.moment }

-- what is seen now
abbrev pub world_scene : World → Scene
world_scene w = scene_at w.motions w.moment

-- the fact of this form with this sign, of a structure and a part
abbrev pub certificate : ℕ → ℕ → Form → Sign → Certificate
certificate structure part form sign = record { structure = structure; placed = record { part = part; fact = record { form = form; sign = sign } } }

-- a world may keep these: few enough, each farthest pair with a hull before it, each with a small direction, and boxes of a small width and height
pub record AreKeepable (keeps : List Keep) : Type 0 where
  pub few : IsTrue (may_keep keeps)
  pub small : (j : ℕ) (keep : Keep) → slice_get keeps j ≡ Some keep → IsSmallKeep keep

-- the live facts are exactly those of the definition, over slow motions, at a canonical moment, and all legs are still to come
pub record IsWhole (w : World) : Type 0 where
  pub whole : IsTrue w.whole
  pub low : 1 ≤ w.size
  pub high : w.size ≤ 12
  pub keepable : AreKeepable w.keeps
  pub room : length w.motions ≡ 2 ^ w.size
  pub slow : AreSlow w.motions
  pub canonical : IsCanonical w.moment.at
  pub live : ListsLive w.size w.keeps (world_scene w) w.live
  pub followed : AreFollowed w.motions w.legs
  pub ahead : AreAhead w.moment w.legs

-- no points yet, at the instant 0
abbrev pub empty : ℕ → List Keep → World
empty size keeps = record {
  size = size;
  keeps = keeps;
  motions = replicate (2 ^ size) None;
  legs = [];
  moment = record { at = Ratio (pos 0) (pos 1); phase = At };
  live = [];
  made = 0;
  whole = true;
}

-- as many failure moments were made as there are live facts that were not there, and so many more
pub record HasMade (more : ℕ) (old new : World) : Type 0 where
  pub born : List Certificate
  pub exactly : ListsExactly born (λ c. Contains new.live c × ¬ (Contains old.live c))
  pub count : new.made ≡ min (old.made + length born + more) (2 ^ 64 - 1)

-- only the live facts and their count changed
abbrev pub with_facts_of : World → World → World
with_facts_of old new = record old { live = new.live; made = new.made }

-- one number has a motion now, and nothing else changed but the facts
pub record HasInserted (entering : ℕ) (motion : Course) (old new : World) : Type 0 where
  pub state : new ≡ with_facts_of (record old { motions = slice_set old.motions entering (Some motion) }) new
  pub whole : IsWhole new
  pub made : HasMade 0 old new

-- one number has no motion and no legs any more, and nothing else changed but the facts
pub record HasRemoved (leaving : ℕ) (old new : World) : Type 0 where
  pub state : new ≡ with_facts_of (record old { motions = slice_set old.motions leaving None; legs = without leaving old.legs }) new
  pub whole : IsWhole new
  pub made : HasMade 0 old new

-- a number has left and entered again with this motion, at the same moment, and both halves have made failure moments
pub record HasReplaced (number : ℕ) (motion : Course) (old new : World) : Type 0 where
  pub between : World
  pub removed : HasRemoved number old between
  pub inserted : HasInserted number motion between new

-- the number may take this motion up now: it has the velocity (u, v), and the number is where it was
pub record CanTurn (turning : ℕ) (u v : ℤ) (w : World) (motion : Course) : Type 0 where
  pub before : Course
  pub had : motion_of w.motions turning ≡ Some before
  pub at : w.moment.phase ≡ At
  pub turns : TurnsTo w.moment.at u v before motion
  pub slow : IsSlow motion

-- whether the fact is about the number
abbrev pub is_about : ℕ → Certificate → Bool
is_about number c = names c.placed.fact.form number

-- a number has the velocity (u, v) now, at the place where it was, and no legs: every live fact stays, and failure moments were made for those about the number
pub record HasTurned (turning : ℕ) (u v : ℤ) (old new : World) : Type 0 where
  pub motion : Course
  pub turned : CanTurn turning u v old motion
  pub state : new ≡ with_facts_of (record old { motions = slice_set old.motions turning (Some motion); legs = without turning old.legs }) new
  pub whole : IsWhole new
  pub stay : (c : Certificate) → Contains new.live c ↔ Contains old.live c
  pub made : new.made ≡ min (old.made + count_by (is_about turning) old.live) (2 ^ 64 - 1)

-- the number may be given this motion from a whole instant on: its path goes on there with the velocity (u, v)
pub record CanPlan (number at : ℕ) (u v : ℤ) (w : World) (motion : Course) : Type 0 where
  pub plan : Plan
  pub is : plan_of (world_plans w) number ≡ Some plan
  pub may : MayFollow w.moment plan at u v motion

-- a number has one leg more, and nothing else changed
pub record HasPlanned (number at : ℕ) (u v : ℤ) (old new : World) : Type 0 where
  pub motion : Course
  pub can : CanPlan number at u v old motion
  pub state : new ≡ record old { legs = put_in is_earlier (record { at = at; no = number; m = motion }) old.legs }
  pub whole : IsWhole new

-- ---- as time goes on
-- the legs that begin by a moment
abbrev pub legs_by : Moment → List Leg → List Leg
legs_by m legs = filter (λ l. is_begun (piece_of l) m) legs

-- how many facts about the number of a leg are live as it begins
abbrev pub facts_as_begins : World → Leg → ℕ
facts_as_begins w l = count_by (is_about l.no) (live_facts w.size w.keeps (plans_scene (world_plans w) (begins_at l)))

-- how many failure moments are made anew for the legs that begin by a moment
abbrev pub remade_by : Moment → World → ℕ
remade_by m w = sum_by (facts_as_begins w) (legs_by m w.legs)

-- the moment is another, the legs that have begun by then are motions now, and nothing else changed but the facts
pub record HasGoneTo (m : Moment) (old new : World) : Type 0 where
  pub state : new ≡ with_facts_of (record old { moment = m; motions = new.motions; legs = new.legs }) new
  pub plans : world_plans new ≡ plans_left m (world_plans old)
  pub whole : IsWhole new
  pub made : HasMade (remade_by m old) old new

-- the moment is that of the next block, which isn't after the limit
pub record HasPassed (limit : Moment) (b : Block) (old new : World) : Type 0 where
  pub next : IsNextBlock (world_setting old) old.moment b
  pub within : ¬ (IsEarlier limit b.moment)
  pub gone : HasGoneTo b.moment old new

-- no live fact fails up to the limit, all stay, and the moment is the limit
pub record HasMoved (limit : Moment) (old new : World) : Type 0 where
  pub nothing : IsJournal (world_setting old) old.moment limit []
  pub stay : (c : Certificate) → Contains new.live c ↔ Contains old.live c
  pub gone : HasGoneTo limit old new

-- what a step did
abbrev pub HasStepped : Moment → Option Block → World → World → Type 0
HasStepped limit None old new = HasMoved limit old new
HasStepped limit (Some b) old new = HasPassed limit b old new

-- a live fact fails at or before the limit
pub record FailsWithin (limit : Moment) (w : World) : Type 0 where
  pub certificate : Certificate
  pub live : IsLiveFact w.size w.keeps (world_scene w) certificate
  pub moment : Moment
  pub fails : FailsFirst (plans_scene (world_plans w)) w.moment moment certificate.placed.fact
  pub within : ¬ (IsEarlier limit moment)

-- a leg begins at or before the limit
abbrev pub BeginsWithin : Moment → World → Type 0
BeginsWithin limit w = (l : Leg) × Contains w.legs l × ¬ (IsEarlier limit (begins_at l))

-- something is to be done up to the limit: a live fact fails, or a leg begins
abbrev pub IsBusyWithin : Moment → World → Type 0
IsBusyWithin limit w = FailsWithin limit w ⊎ BeginsWithin limit w

-- a live fact has failed up to the moment now, which isn't after the limit
pub record HasLeftBehind (limit : Moment) (old new : World) : Type 0 where
  pub due : FailsWithin new.moment old
  pub within : ¬ (IsEarlier limit new.moment)
  pub gone : HasGoneTo new.moment old new

-- what a leap did
abbrev pub HasLeapt : Moment → Bool → World → World → Type 0
HasLeapt limit false old new = HasMoved limit old new
HasLeapt limit true old new = HasLeftBehind limit old new

-- how many failures a step held, if there was a block
abbrev pub failure_count : Option Block → Option ℕ
failure_count None = None
failure_count (Some b) = Some (length b.failures)

-- a block or a leg comes next, at this moment
abbrev pub IsNextMoment : View → Moment → Type 0
IsNextMoment v m = (n : Next) × IsNext v n × (comes_at n ≡ Some m)
