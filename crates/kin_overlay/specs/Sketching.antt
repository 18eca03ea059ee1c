-- How a sketch is drawn: the breakpoints of both given chains, each chain's in its order.
use Rattle.std.specs.Prelude.{◌≡◌, ◌⊎◌, ℕ, ◌<◌, ◌≤◌, true, cond, List, [], ◌∷◌, ◌++◌, length, get_or, drop, Option, Some, None, Contains}
use Rattle.kin_motion.specs.declared.fact.Fact.{Fact}
use Rattle.kin_motion.specs.Numbers.{is_in}
use Rattle.kin_motion.specs.Scene.{Scene}
use Rattle.kin_motion.specs.Merges.{Half.{A, B}, Half, breakpoints_of, own_of}
use Rattle.kin_overlay.specs.declared.draft.Draft.{Draft}
use Rattle.kin_overlay.specs.declared.draft.Across.{Across}
use Rattle.kin_overlay.specs.declared.half.Half.{Half as Side}
use Rattle.kin_overlay.specs.declared.half.Half.TheVariants.{A as SideA, B as SideB}
use Rattle.kin_overlay.specs.declared.record.Record.{Record}
use Rattle.kin_overlay.specs.declared.record.Next.{Next}
use Rattle.kin_overlay.specs.declared.standing.Standing.{Standing}
use Rattle.kin_overlay.specs.Fingers.{AreLive}
use Rattle.kin_overlay.specs.Remembered.{turn_fact, slope_facts}
use Rattle.kin_overlay.specs.Sketches.{spots, is_told, AreFit}
use Rattle.kin_overlay.specs.Resorting.{AreOf}
use Rattle.kin_overlay.specs.Standings.{IsUnfailed, StandIn}

-- breakpoints from the front of a chain of the half are drawn
pub record IsDrawn (w : Standing) (h : Half) (chain left : List ℕ) (old new : List Draft) : Type 0 where
  pub part : List Draft
  pub drawn : new ≡ old ++ part
  pub own : AreOf h part
  pub spots_are : spots part ++ breakpoints_of h left ≡ breakpoints_of h chain
  pub fit : (s : Scene) → StandIn s w → AreLive s.live chain → AreFit s part
  pub stays : (live : List ℕ) → AreLive live chain → AreLive live left

-- what is drawn of both chains, and what is left of them
pub record IsSketched (w : Standing) (a b first second : List ℕ) (out : List Draft) : Type 0 where
  pub of_a : own_of A (spots out) ++ breakpoints_of A first ≡ breakpoints_of A a
  pub of_b : own_of B (spots out) ++ breakpoints_of B second ≡ breakpoints_of B b
  pub fit : (s : Scene) → StandIn s w → AreLive s.live a → AreLive s.live b → AreFit s out
  pub a_stays : (live : List ℕ) → AreLive live a → AreLive live first
  pub b_stays : (live : List ℕ) → AreLive live b → AreLive live second
  pub a_some : 0 < length first
  pub b_some : 0 < length second

-- ---- what exactly is drawn
-- a breakpoint of which nothing is known
abbrev pub blank : Side → ℕ → ℕ → Draft
blank h x y = record { at = record { half = h; left = x; right = y }; across = None; next = None }

-- all breakpoints of a chain, of which nothing is known
abbrev pub blanks : Side → List ℕ → List Draft
blanks h [] = []
blanks h (x ∷ []) = []
blanks h (x ∷ y ∷ xs) = blank h x y ∷ blanks h (y ∷ xs)

-- the first breakpoints of a chain that begin with numbers that were put
abbrev pub put_blanks : Side → List ℕ → List ℕ → List Draft
put_blanks h put [] = []
put_blanks h put (x ∷ []) = []
put_blanks h put (x ∷ y ∷ xs) = cond (is_in x put) (blank h x y ∷ put_blanks h put (y ∷ xs)) []

-- what is left of the chain after them
abbrev pub after_put : List ℕ → List ℕ → List ℕ
after_put put [] = []
after_put put (x ∷ []) = x ∷ []
after_put put (x ∷ y ∷ xs) = cond (is_in x put) (after_put put (y ∷ xs)) (x ∷ y ∷ xs)

-- it is the slope of the record, or the record's slope has failed or names a number that has left
abbrev pub IsSlopeOf : Standing → Record → Option Next → Type 0
IsSlopeOf w r o = (o ≡ r.next) ⊎ ((f : Fact) × Contains (slope_facts r) f × (IsUnfailed w.failed.now w.gone.now f → ⊥))

-- what is known of a breakpoint by a record, where k is the current point of the other half
pub record IsRecalled (w : Standing) (r : Record) (k : ℕ) (d : Draft) : Type 0 where
  pub told : (c : Across) → d.across ≡ Some c → (c.to ≡ k) × (d.at ≡ r.at)
  pub turn : d.at ≡ r.at → r.across ≡ k → IsUnfailed w.failed.now w.gone.now (turn_fact r) → is_told d k ≡ true
  pub slope : d.at ≡ r.at → IsSlopeOf w r d.next

-- the chain has no breakpoint, or doesn't begin where the record does: nothing is drawn
pub record IsMissed (r : Record) (chain left : List ℕ) (part : List Draft) : Type 0 where
  pub begins : 2 ≤ length chain → get_or chain 0 0 ≡ r.at.left → ⊥
  pub left_is : left ≡ chain
  pub part_is : part ≡ []

-- the chain begins where the record does: its first breakpoint is drawn, and those after it that begin with numbers that were put
pub record IsFound (w : Standing) (r : Record) (put chain : List ℕ) (k : ℕ) (left : List ℕ) (part : List Draft) : Type 0 where
  pub two : 2 ≤ length chain
  pub begins : get_or chain 0 0 ≡ r.at.left
  pub draft : Draft
  pub at : draft.at ≡ record { half = r.at.half; left = get_or chain 0 0; right = get_or chain 1 0 }
  pub recalled : IsRecalled w r k draft
  pub left_is : left ≡ after_put put (drop 1 chain)
  pub part_is : part ≡ draft ∷ put_blanks r.at.half put (drop 1 chain)

-- what is drawn of one chain at a record
abbrev pub IsStep : Standing → Record → List ℕ → List ℕ → ℕ → List ℕ → List Draft → Type 0
IsStep w r put chain k left part = IsMissed r chain left part ⊎ IsFound w r put chain k left part

-- what is drawn at a record of this half
abbrev pub IsStepAt : Side → Standing → Record → List ℕ → List ℕ → List ℕ → List ℕ → List ℕ → List ℕ → List Draft → Type 0
IsStepAt SideA w r put_a put_b first second first' second' part = IsStep w r put_a first (get_or second 0 0) first' part × (second' ≡ second)
IsStepAt SideB w r put_a put_b first second first' second' part = IsStep w r put_b second (get_or first 0 0) second' part × (first' ≡ first)

-- what is drawn at the records one after another, and at the end of what is left then
abbrev pub IsTrace : Standing → List ℕ → List ℕ → List Record → List ℕ → List ℕ → List Draft → Type 0
IsTrace w put_a put_b [] first second ds = ds ≡ blanks SideA first ++ blanks SideB second
IsTrace w put_a put_b (r ∷ rs) first second ds =
    (first' second' : List ℕ) × (part rest : List Draft) × (ds ≡ part ++ rest) × IsStepAt r.at.half w r put_a put_b first second first' second' part × IsTrace w put_a put_b rs first' second' rest

-- all that is drawn
pub record IsSketchOf (w : Standing) (put_a put_b a b : List ℕ) (out : List Draft) : Type 0 where
  pub rest : List Draft
  pub drawn : out ≡ put_blanks SideA put_a a ++ (put_blanks SideB put_b b ++ rest)
  pub traced : IsTrace w put_a put_b w.list.now.records (after_put put_a a) (after_put put_b b) rest
