-- All that a world is made of, in one piece: what is true of it between two calls, and while it is repaired. No public clause of the world cites this module.
use Rattle.std.specs.Prelude.{◌≡◌, ◌≢◌, ℕ, ◌+◌, ◌<◌, ◌≤◌, ◌^◌, ◌-◌, ◌⊎◌, min, true, false, Bool, List, [], length, slice_get, slice_set, Option, Some, count_by, Contains, ◌↔◌, IsTrue}
use Rattle.std.specs.List.{All}
use Rattle.kin_num.specs.declared.instant.Moment.{Moment}
use Rattle.kin_num.specs.declared.instant.Phase.TheVariants.{At, After}
use Rattle.kin_num.specs.Canonical.{IsCanonical}
use Rattle.kin_num.specs.Order.{IsEarlier}
use Rattle.kin_motion.specs.declared.fact.Placed.{Placed}
use Rattle.kin_motion.specs.declared.form.Form.{Form}
use Rattle.kin_motion.specs.declared.form.Form.TheVariants.{Line, Turn, Slope, Dist}
use Rattle.kin_motion.specs.declared.keep.Keep.{Keep}
use Rattle.kin_motion.specs.declared.keep.Keep.TheVariants.{Hull}
use Rattle.kin_motion.specs.Course.{Course, AreSlow, IsSlow, is_live, motion_of}
use Rattle.kin_motion.specs.Deltas.{Change}
use Rattle.kin_motion.specs.Journal.{Setting, setting_of}
use Rattle.kin_motion.specs.Kinetics.{HasChanged, HaveSameLive}
use Rattle.kin_motion.specs.Live.{Certificate, IsKeepFact, owned_by}
use Rattle.kin_motion.specs.Moments.{HoldsAt}
use Rattle.kin_motion.specs.Scene.{Scene, IsReal, Holds, scene_at}
use Rattle.kin_motion.specs.Sets.{AreDistinct, ListsExactly}
use Rattle.kin_motion.specs.Turning.{TurnsTo}
use Rattle.kin_fail.specs.declared.owned.Owned.{Owned}
use Rattle.kin_fail.specs.Blocks.{certificate_of}
use Rattle.kin_cert.specs.Facts.{LiveFact, Facts, NoneAlike}
use Rattle.kin_cert.specs.Mails.{told_to}
use Rattle.kin_cert.specs.Taken.{NoneWaits, IsLeastFailure}
use Rattle.kin_cert.specs.Told.{HasFactsOf, IsTimed, IsTold, AreNew, certificates_of, nothing}
use Rattle.kin_legs.specs.declared.leg.Leg.{Leg}
use Rattle.kin_world.specs.declared.structure.Mark.{Mark}
use Rattle.kin_world.specs.declared.structure.Mark.TheVariants.{Enters, Leaves}
use Rattle.kin_world.specs.declared.structure.Structure.{Structure}
use Rattle.kin_world.specs.declared.structure.Structure.TheVariants.{Diameter}
use Rattle.kin_world.specs.declared.upkeep.Upkeep.{Upkeep}
use Rattle.kin_diameter.specs.Diameter.{Diameter as FarthestPair}
use Rattle.kin_world.specs.Kinds.{placed_facts}
use Rattle.kin_world.specs.Structures.{IsSettledFor, marked}
use Rattle.kin_world.specs.Worlds.{World, AreKeepable, is_about}

-- what is kept, the structures in the same order, the table of their live facts, the motions, and the moment now
pub record Stage : Type 0 where
  pub size : ℕ
  pub keeps : List Keep
  pub structures : List Structure
  pub table : Facts
  pub motions : List (Option Course)
  pub moment : Moment

abbrev pub stage_of : Upkeep → Stage
stage_of u = record { size = u.size; keeps = u.keeps.items; structures = u.structures.items; table = u.table; motions = u.motions; moment = u.moment }

-- what a contract of the world sees of it
abbrev pub meaning : Stage → List Leg → Bool → World
meaning s legs whole = record { size = s.size; keeps = s.keeps; motions = s.motions; legs = legs; moment = s.moment; live = certificates_of s.table.live; made = s.table.made; whole = whole }

-- what is kept, and what is seen at each moment
abbrev pub setting : Stage → Setting
setting s = setting_of s.motions s.size s.keeps

-- what is seen now
abbrev pub sight : Stage → Scene
sight s = scene_at s.motions s.moment

-- all but the structures and the facts is as before
abbrev pub HasSameFrame : Stage → Stage → Type 0
HasSameFrame s t = t ≡ record s { structures = t.structures; table = t.table }

-- the size and what is kept are in range, and each number has room for a slow motion
pub record IsFit (size : ℕ) (keeps : List Keep) (motions : List (Option Course)) : Type 0 where
  pub low : 1 ≤ size
  pub high : size ≤ 12
  pub keepable : AreKeepable keeps
  pub room : length motions ≡ 2 ^ size
  pub slow : AreSlow motions

-- a structure is fine in some sense, and the table has exactly its facts, under its number
pub record IsInPlace (is_fine : ℕ → Keep → Structure → Type 0) (live : List LiveFact) (j : ℕ) (keep : Keep) (st : Structure) : Type 0 where
  pub fine : is_fine j keep st
  pub tabled : HasFactsOf live j (placed_facts st)

-- a live fact waits to be dropped and doesn't hold now, or has its first failure, seen from now
pub record IsTimedOrFailed (scene : Moment → Scene) (now : Moment) (l : LiveFact) : Type 0 where
  pub timed : l.waits ≡ false → IsTimed scene now l
  pub failed : IsTrue l.waits → ¬ (HoldsAt scene now l.certificate.placed.fact)

-- there is one structure for each keep, each live fact is of one of them, and each is timed or has failed
pub record IsInOrder (is_fine : ℕ → Keep → Structure → Type 0) (s : Stage) : Type 0 where
  pub fit : IsFit s.size s.keeps s.motions
  pub canonical : IsCanonical s.moment.at
  pub counted : s.table.made ≤ 2 ^ 64 - 1
  pub count : length s.structures ≡ length s.keeps
  pub each : (j : ℕ) (keep : Keep) (st : Structure) → slice_get s.keeps j ≡ Some keep → slice_get s.structures j ≡ Some st → IsInPlace is_fine s.table.live j keep st
  pub once : NoneAlike s.table.live
  pub owned : (l : LiveFact) → Contains s.table.live l → l.certificate.structure < length s.structures
  pub timely : (l : LiveFact) → Contains s.table.live l → IsTimedOrFailed (scene_at s.motions) s.moment l

-- between two calls: every structure is settled now, and no fact waits
pub record IsSound (s : Stage) : Type 0 where
  pub in_order : IsInOrder (λ j keep st. IsSettledFor s.size keep (sight s) st) s
  pub none_waits : NoneWaits s.table.live

-- the structures below k are settled in the scene now, and the others are as they were in the scene before
pub record HasGoneOver (size k : ℕ) (before now : Scene) (j : ℕ) (keep : Keep) (st : Structure) : Type 0 where
  pub done : j < k → IsSettledFor size keep now st
  pub ahead : k ≤ j → IsSettledFor size keep before st

-- the second list of motions has one number's motion more
pub record HasOneMore (number : ℕ) (less more : List (Option Course)) : Type 0 where
  pub free : is_live less number ≡ false
  pub motion : Course
  pub is : more ≡ slice_set less number (Some motion)

-- the motions have changed as the mark says
abbrev pub AreChangedBy : Mark → List (Option Course) → List (Option Course) → Type 0
AreChangedBy (Enters n) before now = HasOneMore n before now
AreChangedBy (Leaves n) before now = HasOneMore n now before

-- of the motions before and now, those that have the marked number's
abbrev pub with_marked : Mark → List (Option Course) → List (Option Course) → List (Option Course)
with_marked (Enters n) before now = now
with_marked (Leaves n) before now = before

-- structure after structure carries a mark out; until all have, failures are those seen with the marked number's motion
pub record IsMarked (mark : Mark) (k : ℕ) (before : List (Option Course)) (s : Stage) : Type 0 where
  pub in_order : IsInOrder (HasGoneOver s.size k (scene_at before s.moment) (sight s)) (record s { motions = with_marked mark before s.motions })
  pub none_waits : NoneWaits s.table.live
  pub room : marked mark < 2 ^ s.size
  pub slow : AreSlow s.motions
  pub changed : AreChangedBy mark before s.motions

-- the structures below k have carried the mark out
abbrev pub IsCarriedOut : Mark → ℕ → Stage → Type 0
IsCarriedOut mark k s = (before : List (Option Course)) × IsMarked mark k before s

-- these are the facts of the structure k that wait
abbrev pub ListsWaiting : ℕ → List LiveFact → List Placed → Type 0
ListsWaiting k live failed = ListsExactly failed (λ p. (l : LiveFact) × Contains live l × IsTrue l.waits × (l.certificate ≡ owned_by k p))

-- the certificates given out are those of the facts that wait, each once
pub record AreWaiting (live : List LiveFact) (taken : List Owned) : Type 0 where
  pub once : AreDistinct taken
  pub each : (l : LiveFact) → Contains live l → IsTrue l.waits → (o : Owned) × Contains taken o × (l.certificate ≡ certificate_of o)
  pub only : (o : Owned) → Contains taken o → (l : LiveFact) × Contains live l × IsTrue l.waits × (l.certificate ≡ certificate_of o)

-- structure after structure is repaired: the same numbers were live in the scene before, and facts that fail now wait to be dropped
pub record IsUnderRepair (k : ℕ) (before : Scene) (s : Stage) : Type 0 where
  pub in_order : IsInOrder (HasGoneOver s.size k before (sight s)) s
  pub real : IsReal before
  pub same_live : HaveSameLive before (sight s)

-- in its box each structure has the facts that it had in the scene before and that fail now
abbrev pub AreBoxed : Scene → Stage → List (List Placed) → Type 0
AreBoxed before s boxes = (j : ℕ) (keep : Keep) → slice_get s.keeps j ≡ Some keep → ListsExactly (told_to boxes j) (λ p. IsKeepFact s.size before keep p × ¬ (Holds (sight s) p.fact))

-- the structures below k are repaired
abbrev pub IsRepaired : List (List Placed) → ℕ → Stage → Type 0
IsRepaired boxes k s = (before : Scene) × IsUnderRepair k before s × AreBoxed before s boxes

-- the structure k has nothing to repair: its box is empty, and so is that of the hull, if it is made of one
pub record IsIdle (k : ℕ) (s : Stage) (boxes : List (List Placed)) : Type 0 where
  pub own : told_to boxes k ≡ []
  pub hull : (pair : FarthestPair) (h : ℕ) → slice_get s.structures k ≡ Some (Diameter pair) → slice_get s.keeps h ≡ Some Hull → told_to boxes h ≡ []

-- some certificates are new, and as many failure moments were made
pub record HasTimedNew (old new : Facts) : Type 0 where
  pub born : List Certificate
  pub exactly : AreNew old.live new.live born
  pub count : new.made ≡ min (old.made + length born) (2 ^ 64 - 1)

-- the other structures' live facts are as before
abbrev pub AreLeft : ℕ → List LiveFact → List LiveFact → Type 0
AreLeft k old new = (l : LiveFact) → l.certificate.structure ≢ k → Contains old l ↔ Contains new l

-- the structure k has become another, which is settled in the scene now, and the table took over what has changed
pub record HasUpdated (k : ℕ) (now : Scene) (s : Stage) (keep : Keep) (st after : Structure) (table : Facts) : Type 0 where
  pub kept : slice_get s.keeps k ≡ Some keep
  pub here : slice_get s.structures k ≡ Some st
  pub settled : IsSettledFor s.size keep now after
  pub change : Change
  pub changed : HasChanged (placed_facts st) (placed_facts after) nothing change
  pub told : IsTold k change (scene_at s.motions) s.moment s.table.live table.live
  pub made : table.made ≡ min (s.table.made + length change.born) (2 ^ 64 - 1)

-- the structure k has gone over, after those below it
pub record HasGoneOn (is_over : ℕ → Stage → Type 0) (k : ℕ) (s t : Stage) : Type 0 where
  pub next : is_over k s → is_over (k + 1) t
  pub others : AreLeft k s.table.live t.table.live
  pub made : HasTimedNew s.table t.table

-- from the structure k on all certificates are those of the start, and as many failure moments were made as there are new ones
pub record HasComeTo (k : ℕ) (start now : Facts) : Type 0 where
  pub made : HasTimedNew start now
  pub ahead : (c : Certificate) → k ≤ c.structure → Contains (certificates_of start.live) c ↔ Contains (certificates_of now.live) c

-- the structures below k are repaired, and nothing has changed of the others
pub record IsRepairing (start s : Stage) (k : ℕ) (boxes : List (List Placed)) : Type 0 where
  pub repair : IsRepaired boxes k s
  pub come : HasComeTo k start.table s.table
  pub frame : HasSameFrame start s

-- the world is sound, and as many failure moments were made as certificates are new
pub record HasSettled (before : Facts) (s : Stage) : Type 0 where
  pub sound : IsSound s
  pub made : HasTimedNew before s.table

-- the least failure moment isn't after the limit
pub record IsDueWithin (limit : Moment) (live : List LiveFact) (m : Moment) : Type 0 where
  pub least : IsLeastFailure live m
  pub within : ¬ (IsEarlier limit m)

-- a line's form: it crosses 0 where it comes to it
abbrev pub is_line : Form → Bool
is_line (Line dx dy off i j) = true
is_line (Turn i j k) = false
is_line (Slope i j k l) = false
is_line (Dist i j k l) = false

-- m is just after the instant at which these facts fail, and not after the limit. None of them holds there; of lines nothing need be known
pub record IsBeyond (scene : Moment → Scene) (due limit : Moment) (given : List Owned) (m : Moment) : Type 0 where
  pub at : due.phase ≡ At
  pub after : m ≡ record { at = due.at; phase = After }
  pub within : ¬ (IsEarlier limit m)
  pub none_holds : All (λ o. is_line o.fact.form ≡ false → ¬ (HoldsAt scene m o.fact)) given

-- where a leap lands: at the moment at which the facts fail, or beyond it
abbrev pub IsLanding : (Moment → Scene) → Moment → Moment → List Owned → Moment → Type 0
IsLanding scene due limit given m = (m ≡ due) ⊎ IsBeyond scene due limit given m

-- the world has settled at a later moment, not before the one that was due and not after the limit
pub record HasLanded (due limit : Moment) (s t : Stage) : Type 0 where
  pub later : IsEarlier s.moment t.moment
  pub past : ¬ (IsEarlier t.moment due)
  pub within : ¬ (IsEarlier limit t.moment)
  pub settled : HasSettled s.table t

-- a number may take this motion up now: it is where the number is
pub record MayTakeUp (number : ℕ) (motion : Course) (s : Stage) : Type 0 where
  pub before : Course
  pub had : motion_of s.motions number ≡ Some before
  pub at : s.moment.phase ≡ At
  pub turns : TurnsTo s.moment.at motion.u motion.v before motion
  pub slow : IsSlow motion

-- it has taken it up: every certificate stays, and failure moments were made for those about the number
pub record HasTakenUp (number : ℕ) (motion : Course) (s t : Stage) : Type 0 where
  pub state : t ≡ record s { motions = slice_set s.motions number (Some motion); table = t.table }
  pub sound : IsSound t
  pub same_sight : sight t ≡ sight s
  pub stay : (c : Certificate) → Contains (certificates_of t.table.live) c ↔ Contains (certificates_of s.table.live) c
  pub count : length t.table.live ≡ length s.table.live
  pub made : t.table.made ≡ min (s.table.made + count_by (is_about number) (certificates_of s.table.live)) (2 ^ 64 - 1)
