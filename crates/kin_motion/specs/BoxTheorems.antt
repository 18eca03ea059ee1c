-- What holds of boxes, as statements.
use Rattle.std.specs.Prelude.{◌≡◌, ℕ, ℤ, List}
use Rattle.kin_motion.specs.declared.fact.Placed.{Placed}
use Rattle.kin_motion.specs.BoxFacts.{IsBoxFact, AreBoxes, boxes_facts}
use Rattle.kin_motion.specs.Kinetics.{AllHold, HaveSameLive}
use Rattle.kin_motion.specs.Overlaps.{ListsOverlaps, overlaps_of}
use Rattle.kin_motion.specs.Scene.{Scene, IsReal}
use Rattle.kin_motion.specs.Sets.{ListsExactly}

-- `overlaps_of` lists the overlaps
abbrev pub OverlapsAgree : Type 0
OverlapsAgree = (s : Scene) (width height : ℤ) → IsReal s → ListsOverlaps s width height (overlaps_of s width height)

-- there is one list of the overlaps
abbrev pub OneListOfOverlaps : Type 0
OneListOfOverlaps = (s : Scene) (width height : ℤ) (ps qs : List (ℕ × ℕ)) → ListsOverlaps s width height ps → ListsOverlaps s width height qs → ps ≡ qs

-- `boxes_facts` lists exactly the facts of boxes
abbrev pub BoxFactsAgree : Type 0
BoxFactsAgree = (s : Scene) (width height : ℤ) → IsReal s → ListsExactly (boxes_facts s width height) (IsBoxFact s width height)

-- where the same numbers are live and all facts of boxes hold, the orders of the ends are those there, and so are the facts
abbrev pub BoxesAreDetermined : Type 0
BoxesAreDetermined = (v w : Scene) (width height : ℤ) (xs ys : List ℕ) (facts : List Placed) → IsReal v → IsReal w → HaveSameLive v w
    → AreBoxes v width height xs ys facts → AllHold w facts → AreBoxes w width height xs ys facts

-- and the overlaps are those there
abbrev pub OverlapsAreDetermined : Type 0
OverlapsAreDetermined = (v w : Scene) (width height : ℤ) (xs ys : List ℕ) (facts : List Placed) (pairs : List (ℕ × ℕ)) → IsReal v → IsReal w
    → HaveSameLive v w → AreBoxes v width height xs ys facts → AllHold w facts → ListsOverlaps v width height pairs → ListsOverlaps w width height pairs
