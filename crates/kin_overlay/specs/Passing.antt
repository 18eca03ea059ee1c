-- How the records of a list are passed one after another while a sketch is drawn.
use Rattle.std.specs.Prelude.{◌≡◌, ℕ, ◌+◌, ◌<◌, Bool, false, nat_eq, List, ◌++◌, length, drop, slice_get, Option, Some, None, Contains}
use Rattle.kin_motion.specs.declared.fact.Fact.{Fact}
use Rattle.kin_motion.specs.declared.form.Form.{Form}
use Rattle.kin_motion.specs.declared.form.Form.TheVariants.{Line, Turn, Slope, Dist}
use Rattle.kin_motion.specs.Merges.{IsInterleaving}
use Rattle.kin_motion.specs.Numbers.{is_in}
use Rattle.kin_motion.specs.Scene.{Scene}
use Rattle.kin_overlay.specs.declared.draft.Draft.{Draft}
use Rattle.kin_overlay.specs.declared.half.Half.{Half as Side}
use Rattle.kin_overlay.specs.declared.half.Half.TheVariants.{A as SideA, B as SideB}
use Rattle.kin_overlay.specs.declared.record.Record.{Record}
use Rattle.kin_overlay.specs.declared.standing.Standing.{Standing}
use Rattle.kin_overlay.specs.Fingers.{AreLive}
use Rattle.kin_overlay.specs.Remembered.{turn_fact, slope_facts}
use Rattle.kin_overlay.specs.Sketches.{spots, AreFit}
use Rattle.kin_overlay.specs.Sketching.{IsSketched, IsTrace, IsSketchOf}
use Rattle.kin_overlay.specs.Spans.{IsPassed, IsNextOf}
use Rattle.kin_overlay.specs.Standings.{IsUnfailed, StandIn}

-- ---- records that can be drawn as they are
-- whether a turn or a slope form begins with this point
abbrev pub begins_with : Form → ℕ → Bool
begins_with (Line dx dy off i j) x = false
begins_with (Turn i j k) x = nat_eq i x
begins_with (Slope i j k l) x = nat_eq i x
begins_with (Dist i j k l) x = false

-- the numbers that were put into this half
abbrev pub put_of : Side → List ℕ → List ℕ → List ℕ
put_of SideA put_a put_b = put_a
put_of SideB put_a put_b = put_b

-- no fact of the record has failed or names a number that has left, and the right point of its breakpoint wasn't put
pub record IsUntouched (w : Standing) (put_a put_b : List ℕ) (r : Record) : Type 0 where
  pub turn : IsUnfailed w.failed.now w.gone.now (turn_fact r)
  pub slope : (f : Fact) → Contains (slope_facts r) f → IsUnfailed w.failed.now w.gone.now f
  pub unput : is_in r.at.right (put_of r.at.half put_a put_b) ≡ false

-- the record is followed by this one as it remembers, or it is the last and remembers none
abbrev pub IsFollowed : Record → Option Record → Type 0
IsFollowed r None = r.next ≡ None
IsFollowed r (Some e) = IsNextOf r.next r e

-- the same of the record at this place
abbrev pub IsLinkedAt : List Record → ℕ → Type 0
IsLinkedAt rs k = (r : Record) → slice_get rs k ≡ Some r → IsFollowed r (slice_get rs (k + 1))

-- the records are untouched, and from both chains their breakpoints are taken one after another; these are left
pub record AreUntouched (w : Standing) (put_a put_b : List ℕ) (rs : List Record) (first second first' second' : List ℕ) : Type 0 where
  pub passed : IsPassed rs first second first' second'
  pub each : (r : Record) → Contains rs r → IsUntouched w put_a put_b r

-- ---- what is drawn at them
-- the end of a chain, with at least one point
abbrev pub IsEndOf : List ℕ → List ℕ → Type 0
IsEndOf left chain = (n : ℕ) × (n < length chain) × (left ≡ drop n chain)

-- this part is drawn at the first of these records, before the others come, and these are left of both chains
pub record IsDrawnAlong (w : Standing) (put_a put_b : List ℕ) (rs others : List Record) (first second first' second' : List ℕ) (part : List Draft) : Type 0 where
  pub traced : (rest : List Draft) → IsTrace w put_a put_b others first' second' rest → IsTrace w put_a put_b rs first second (part ++ rest)
  pub sketched : (a b : List ℕ) (old : List Draft) → IsSketched w a b first second old → IsSketched w a b first' second' (old ++ part)
  pub a_end : IsEndOf first' first
  pub b_end : IsEndOf second' second

-- this is drawn of both chains before these records come, and these are left of them
pub record IsDrawnBefore (w : Standing) (put_a put_b a b : List ℕ) (rs : List Record) (first second : List ℕ) (out : List Draft) : Type 0 where
  pub traced : (rest : List Draft) → IsTrace w put_a put_b rs first second rest → IsSketchOf w put_a put_b a b (out ++ rest)
  pub sketched : IsSketched w a b first second out

-- all is drawn
pub record IsAllDrawn (w : Standing) (put_a put_b a b : List ℕ) (out : List Draft) : Type 0 where
  pub sketch : IsSketchOf w put_a put_b a b out
  pub interleaved : IsInterleaving a b (spots out)
  pub fit : (s : Scene) → StandIn s w → AreLive s.live a → AreLive s.live b → AreFit s out
