-- What holds of the answers besides their definitions, as statements.
use Rattle.std.specs.Prelude.{◌≡◌, ◌≢◌, ◌⊎◌, ℕ, ◌<◌, ℤ, ◌<ℤ◌, List, [], Option}
use Rattle.kin_algebra.specs.declared.sign.Sign.TheVariants.{Zero, Plus}
use Rattle.kin_num.specs.declared.instant.Moment.{Moment}
use Rattle.kin_num.specs.Canonical.{IsCanonical}
use Rattle.kin_motion.specs.declared.form.Form.TheVariants.{Turn}
use Rattle.kin_motion.specs.declared.fact.Placed.{Placed}
use Rattle.kin_motion.specs.declared.keep.Rect.{Rect}
use Rattle.kin_motion.specs.Course.{Course}
use Rattle.kin_motion.specs.Numbers.{IsIn}
use Rattle.kin_motion.specs.Scene.{Scene, IsReal, x_sign, y_sign}
use Rattle.kin_motion.specs.BoxFacts.{AreBoxes}
use Rattle.kin_motion.specs.Boxes.{points_in}
use Rattle.kin_motion.specs.Chains.{IsUpperChain, IsHullCycle}
use Rattle.kin_motion.specs.Extremes.{along_key, point_slots}
use Rattle.kin_motion.specs.Agreements.{FitsSize}
use Rattle.kin_motion.specs.Contents.{IsSettledList, IsSettledTournament, IsSettledTree, IsSettledHull, IsSettledWedges, IsSettledClosest, IsSettledDiameter, IsSettledRange}

-- a rectangle whose sides are the wrong way round has no point
abbrev pub WrongRectIsEmpty : Type 0
WrongRectIsEmpty = (ms : List (Option Course)) (m : Moment) (r : Rect) → IsCanonical m.at → (r.x2 <ℤ r.x1) ⊎ (r.y2 <ℤ r.y1) → points_in ms m r ≡ []

-- no point of an upper chain is collinear with two points of the set, one to its left and one to its right
abbrev pub ChainIsStrict : Type 0
ChainIsStrict = (s : Scene) (set xs : List ℕ) (p q r : ℕ) → IsUpperChain s set xs → IsIn p xs → IsIn q set → IsIn r set → x_sign s q p ≡ Plus → x_sign s p r ≡ Plus → s.sign (Turn q r p) ≡ Plus

-- a point of an upper chain is the least number at its place
abbrev pub ChainHasLeast : Type 0
ChainHasLeast = (s : Scene) (set xs : List ℕ) (p q : ℕ) → IsUpperChain s set xs → IsIn p xs → IsIn q set → x_sign s p q ≡ Zero → y_sign s p q ≡ Zero → ¬ (q < p)

-- no point of the hull is collinear with two live points, one to its left and one to its right
abbrev pub HullIsStrict : Type 0
HullIsStrict = (s : Scene) (xs : List ℕ) (p q r : ℕ) → IsReal s → IsHullCycle s xs → IsIn p xs → IsIn q s.live → IsIn r s.live → x_sign s q p ≡ Plus → x_sign s p r ≡ Plus → s.sign (Turn q r p) ≢ Zero

-- a point of the hull is the least number at its place
abbrev pub HullHasLeast : Type 0
HullHasLeast = (s : Scene) (xs : List ℕ) (p q : ℕ) → IsReal s → IsHullCycle s xs → IsIn p xs → IsIn q s.live → x_sign s p q ≡ Zero → y_sign s p q ≡ Zero → ¬ (q < p)

-- in every real scene whose numbers have slots each structure can be settled
pub record CanBeSettled (size : ℕ) (s : Scene) : Type 0 where
  pub list : (dx dy : ℤ) → (items : List ℕ) × (facts : List Placed) × IsSettledList s dx dy items facts
  pub tournament : (dx dy : ℤ) → (winner : ℕ → Option ℕ) × (facts : List Placed) × IsSettledTournament s (along_key dx dy) size (point_slots size s.live) winner facts
  pub tree : (top : List ℕ) × (facts : List Placed) × IsSettledTree s size top facts
  pub hull : (cycle : List ℕ) × (facts : List Placed) × IsSettledHull s size cycle facts
  pub wedges : (candidate : ℕ → ℕ → Option ℕ) × (facts : List Placed) × IsSettledWedges s size candidate facts
  pub closest : (pair : Option (ℕ × ℕ)) × (facts : List Placed) × IsSettledClosest s size pair facts
  pub diameter : (pair : Option (ℕ × ℕ)) × (facts : List Placed) × IsSettledDiameter s size pair facts
  pub boxes : (width height : ℤ) → (by_x by_y : List ℕ) × (facts : List Placed) × AreBoxes s width height by_x by_y facts
  pub range : (by_x by_y : List ℕ) × (facts : List Placed) × IsSettledRange s by_x by_y facts

-- the settled states of the definitions exist
abbrev pub SettledStatesExist : Type 0
SettledStatesExist = (size : ℕ) (s : Scene) → IsReal s → FitsSize size s → CanBeSettled size s
