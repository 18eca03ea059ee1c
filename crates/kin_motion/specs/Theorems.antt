-- What is proved of the definitions, as statements.
use Rattle.std.specs.Prelude.{◌≡◌, ◌≢◌, ℕ, ◌+◌, ◌%◌, ℤ, List, Option, Some, count_by, map, slice_get, All, reverse, Contains}
use Rattle.kin_num.specs.declared.instant.Moment.{Moment}
use Rattle.kin_num.specs.Quadratic.{IsSmall}
use Rattle.kin_num.specs.Canonical.{IsCanonical}
use Rattle.kin_motion.specs.declared.form.Form.{Form}
use Rattle.kin_motion.specs.declared.fact.Fact.{Fact}
use Rattle.kin_motion.specs.declared.fact.Placed.{Placed}
use Rattle.kin_motion.specs.declared.keep.Keep.{Keep}
use Rattle.kin_motion.specs.Course.{Course, AreSlow, live_of}
use Rattle.kin_motion.specs.Forms.{IsAskable, polynomial_of}
use Rattle.kin_motion.specs.Mirrored.{mirrored}
use Rattle.kin_motion.specs.Sets.{ListsExactly}
use Rattle.kin_motion.specs.Scene.{Scene, IsReal, scene_at, reflected}
use Rattle.kin_motion.specs.Laws.{HasLineLaws, HasTurnLaws, HasDistanceLaws, HasSlopeLaws}
use Rattle.kin_motion.specs.Kinetics.{AllHold, HaveSameLive}
use Rattle.kin_motion.specs.Orders.{IsOrder, IsOrderFact}
use Rattle.kin_motion.specs.Extremes.{IsExtremePoint, IsExtremeFact}
use Rattle.kin_motion.specs.Chains.{IsUpperChain, IsLowerChain, IsHullCycle}
use Rattle.kin_motion.specs.Agreements.{FitsSize}
use Rattle.kin_motion.specs.Octants.{Octant, octants, is_in_octant, IsCandidate}
use Rattle.kin_motion.specs.ClosestPairs.{Near, IsClosest}
use Rattle.kin_motion.specs.Farthest.{IsFarthest}
use Rattle.kin_motion.specs.Nearest.{IsNearest}
use Rattle.kin_motion.specs.Merges.{Breakpoint}
use Rattle.kin_motion.specs.Sweeps.{IsSweep, sweep_of, IsSwept, cell_pairs}
use Rattle.kin_motion.specs.Live.{Certificate, IsLiveFact, IsSmallKeep}
use Rattle.kin_motion.specs.Moments.{FailsFirst}
use Rattle.kin_motion.specs.Journal.{Setting, Block, IsNextBlock, IsJournal}

-- where motions are slow, the polynomial of each form that may be asked for is within the bounds
abbrev pub PolynomialsAreSmall : Type 0
PolynomialsAreSmall = (ms : List (Option Course)) (f : Form) → AreSlow ms → IsAskable (live_of ms) f → IsSmall (polynomial_of ms f)

-- every live fact may be asked for, where the kept directions are small
abbrev pub LiveFactsAreAskable : Type 0
LiveFactsAreAskable = (size : ℕ) (keeps : List Keep) (s : Scene) (c : Certificate) → All IsSmallKeep keeps → IsLiveFact size keeps s c → IsAskable s.live c.placed.fact.form

-- signs are those of an ordered ring, as far as orders, chains and distances need
pub record HasSignLaws (s : Scene) : Type 0 where
  pub lines : HasLineLaws s
  pub turns : HasTurnLaws s
  pub distances : HasDistanceLaws s
  pub slopes : HasSlopeLaws s

-- in real scenes the laws of signs hold
abbrev pub RealScenesHaveLaws : Type 0
RealScenesHaveLaws = (s : Scene) → IsReal s → HasSignLaws s

-- there is one order at most
abbrev pub OneOrder : Type 0
OneOrder = (s : Scene) (dx dy : ℤ) (xs ys : List ℕ) → IsReal s → IsOrder s dx dy xs → IsOrder s dx dy ys → xs ≡ ys

-- there is one extreme point at most
abbrev pub OneExtreme : Type 0
OneExtreme = (s : Scene) (dx dy : ℤ) (a b : Option ℕ) → IsReal s → IsExtremePoint s dx dy a → IsExtremePoint s dx dy b → a ≡ b

-- a set has one upper chain at most
abbrev pub OneUpperChain : Type 0
OneUpperChain = (s : Scene) (set xs ys : List ℕ) → IsReal s → IsUpperChain s set xs → IsUpperChain s set ys → xs ≡ ys

-- there is one hull cycle at most
abbrev pub OneHullCycle : Type 0
OneHullCycle = (s : Scene) (xs ys : List ℕ) → IsReal s → IsHullCycle s xs → IsHullCycle s ys → xs ≡ ys

-- there is one closest pair at most
abbrev pub OneClosest : Type 0
OneClosest = (s : Scene) (a b : Option (ℕ × ℕ)) → IsReal s → IsClosest s a → IsClosest s b → a ≡ b

-- a point has one nearest other point at most
abbrev pub OneNearest : Type 0
OneNearest = (s : Scene) (i : ℕ) (a b : Option ℕ) → IsReal s → IsNearest s i a → IsNearest s i b → a ≡ b

-- there is one farthest pair at most
abbrev pub OneFarthest : Type 0
OneFarthest = (s : Scene) (a b : Option (ℕ × ℕ)) → IsReal s → IsFarthest s a → IsFarthest s b → a ≡ b

-- the two chains of all live numbers have a sweep, and only one
abbrev pub OneSweep : Type 0
OneSweep = (s : Scene) (upper lower : List ℕ) → IsReal s → IsUpperChain s s.live upper → IsLowerChain s s.live lower
    → IsSweep s upper (reverse lower) (sweep_of s upper (reverse lower))
    × ((es : List Breakpoint) → IsSweep s upper (reverse lower) es → es ≡ sweep_of s upper (reverse lower))

-- no two cells have one slot
abbrev pub SlotsDiffer : Type 0
SlotsDiffer = (s : Scene) (upper lower : List ℕ) (es : List Breakpoint) (m n : Near) → IsReal s → IsSwept s upper lower es
    → Contains (cell_pairs upper (reverse lower) es) m → Contains (cell_pairs upper (reverse lower) es) n → m.slot ≡ n.slot → m ≡ n

-- an apex has one candidate at most in an octant
abbrev pub OneCandidate : Type 0
OneCandidate = (s : Scene) (o : Octant) (p c d : ℕ) → IsReal s → IsCandidate s o p c → IsCandidate s o p d → c ≡ d

-- each other point is in exactly one octant of the apex p
abbrev pub OneOctant : Type 0
OneOctant = (s : Scene) (p q : ℕ) → IsReal s → p ≢ q → count_by (λ b. b) (map (λ o. is_in_octant s o p q) octants) ≡ 1

-- q is in octant w of p exactly where p is in octant w + 4, counted round, of q
abbrev pub OctantsAreOpposite : Type 0
OctantsAreOpposite =
    (s : Scene) (w : ℕ) (here there : Octant) (p q : ℕ) → slice_get octants w ≡ Some here → slice_get octants ((w + 4) % 8) ≡ Some there
    → is_in_octant s here p q ≡ is_in_octant s there q p

-- the reflected scene shows the motions with every y and v negated
abbrev pub ReflectedIsMirrored : Type 0
ReflectedIsMirrored = (ms : List (Option Course)) (m : Moment) (f : Form) → (reflected (scene_at ms m)).sign f ≡ (scene_at (mirrored ms) m).sign f

-- and it is a real scene where the scene is
abbrev pub ReflectedIsReal : Type 0
ReflectedIsReal = (s : Scene) → IsReal s → IsReal (reflected s)

-- where the same numbers are live and all facts of an order hold, it is the order there, and the facts are those of the order there
abbrev pub OrderIsDetermined : Type 0
OrderIsDetermined = (v w : Scene) (dx dy : ℤ) (part : ℕ) (xs : List ℕ) (facts : List Placed) → IsReal w → HaveSameLive v w
    → IsOrder v dx dy xs → ListsExactly facts (IsOrderFact v dx dy part) → AllHold w facts
    → IsOrder w dx dy xs × ListsExactly facts (IsOrderFact w dx dy part)

-- where the same numbers are live, all with slots, and all facts of an extreme point hold, it is the extreme point there, and the facts are those of the extreme point there
abbrev pub ExtremeIsDetermined : Type 0
ExtremeIsDetermined = (size : ℕ) (v w : Scene) (dx dy : ℤ) (point : Option ℕ) (facts : List Placed) → IsReal v → IsReal w → FitsSize size v → HaveSameLive v w
    → IsExtremePoint v dx dy point → ListsExactly facts (IsExtremeFact size v dx dy) → AllHold w facts
    → IsExtremePoint w dx dy point × ListsExactly facts (IsExtremeFact size w dx dy)

-- a fact has one first failure at most
abbrev pub OneFirstFailure : Type 0
OneFirstFailure = (scene : Moment → Scene) (now m n : Moment) (f : Fact) → IsCanonical now.at → FailsFirst scene now m f → FailsFirst scene now n f → m ≡ n

-- there is one next block at most
abbrev pub OneNextBlock : Type 0
OneNextBlock = (t : Setting) (now : Moment) (b c : Block) → IsCanonical now.at → IsNextBlock t now b → IsNextBlock t now c → b ≡ c

-- there is one journal between two moments at most
abbrev pub OneJournal : Type 0
OneJournal = (t : Setting) (now last : Moment) (bs cs : List Block) → IsCanonical now.at → IsCanonical last.at → IsJournal t now last bs → IsJournal t now last cs → bs ≡ cs
