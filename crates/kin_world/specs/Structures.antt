-- What is known of a kept structure, whatever its kind.
use Rattle.std.specs.Prelude.{◌≡◌, ℕ, ◌<◌, ◌^◌, false, List, [], Some, slice_get, slice_set, Contains}
use Rattle.kin_motion.specs.declared.fact.Placed.{Placed}
use Rattle.kin_motion.specs.declared.keep.Keep.{Keep}
use Rattle.kin_motion.specs.Agreements.{FitsSize}
use Rattle.kin_motion.specs.Forms.{names}
use Rattle.kin_motion.specs.Deltas.{Change}
use Rattle.kin_motion.specs.Kinetics.{AllHold, HasChanged, HaveSameLive}
use Rattle.kin_motion.specs.Numbers.{HasEntered}
use Rattle.kin_motion.specs.Scene.{Scene, IsReal, Holds}
use Rattle.kin_motion.specs.Sets.{ListsExactly}
use Rattle.kin_motion.specs.Spending.{AreInStep, HasRisenWithin, MayAsk}
use Rattle.kin_hull.specs.Hulls.{Hull as KinHull, IsHullAtRest, IsSettledKinHull}
use Rattle.kin_world.specs.declared.structure.Mark.{Mark}
use Rattle.kin_world.specs.declared.structure.Mark.TheVariants.{Enters, Leaves}
use Rattle.kin_world.specs.declared.structure.Structure.{Structure}
use Rattle.kin_world.specs.declared.structure.Structure.TheVariants.{Order, Extreme, Hull, Closest, Range, Nearest, Diameter, Boxes}
use Rattle.kin_world.specs.Kinds.{placed_facts, IsFor, IsAtRest, HasMembers, IsSettledIn}

-- exactly these facts don't hold
pub record AreFailing (facts : List Placed) (s : Scene) (failed : List Placed) : Type 0 where
  pub listed : ListsExactly failed (λ p. Contains facts p × ¬ (Holds s p.fact))

-- all of these hold that don't name the number
pub record HoldBut (number : ℕ) (facts : List Placed) (s : Scene) : Type 0 where
  pub hold : (p : Placed) → Contains facts p → names p.fact.form number ≡ false → Holds s p.fact

-- the number that enters or leaves
abbrev pub marked : Mark → ℕ
marked (Enters n) = n
marked (Leaves n) = n

-- the live numbers have changed as the mark says
abbrev pub AreLiveAfter : Mark → List ℕ → List ℕ → Type 0
AreLiveAfter (Enters n) before now = HasEntered n before now
AreLiveAfter (Leaves n) before now = HasEntered n now before

-- all of these hold, but for those that name a number that leaves
abbrev pub HoldFor : Mark → List Placed → Scene → Type 0
HoldFor (Enters n) facts s = AllHold s facts
HoldFor (Leaves n) facts s = HoldBut n facts s

-- it is the structure of the keep, at rest and settled in the scene over the live numbers
pub record IsSettledFor (size : ℕ) (keep : Keep) (s : Scene) (st : Structure) : Type 0 where
  pub kind : IsFor size keep st
  pub rest : IsAtRest st
  pub members : HasMembers s.live st
  pub settled : IsSettledIn s st

-- so it is kept in a scene of moving points
pub record IsKept (size : ℕ) (keep : Keep) (s : Scene) (st : Structure) : Type 0 where
  pub real : IsReal s
  pub fits : FitsSize size s
  pub settled : IsSettledFor size keep s st

-- it is the structure of the keep, without members and without facts
pub record IsVacant (size : ℕ) (keep : Keep) (st : Structure) : Type 0 where
  pub kind : IsFor size keep st
  pub rest : IsAtRest st
  pub members : HasMembers [] st
  pub settled : (s : Scene) → s.live ≡ [] → IsSettledIn s st
  pub facts : placed_facts st ≡ []

-- there is one for each keep, without members
abbrev pub AreVacant : ℕ → List Keep → List Structure → Type 0
AreVacant size keeps structures = (j : ℕ) (keep : Keep) (st : Structure) → slice_get keeps j ≡ Some keep → slice_get structures j ≡ Some st → IsVacant size keep st

-- a hull is among these, and each is settled in the scene
pub record HasHull (s : Scene) (others : List Structure) : Type 0 where
  pub some : (n : ℕ) × (hull : KinHull) × (slice_get others n ≡ Some (Hull hull))
  pub settled : (n : ℕ) (hull : KinHull) → slice_get others n ≡ Some (Hull hull) → IsHullAtRest hull × IsSettledKinHull hull s

-- what a structure is made of is among those before it: a farthest pair is made of a hull, the others of nothing
abbrev pub HasNeeds : Scene → List Structure → Structure → Type 0
HasNeeds s before (Order k) = Unit {0}
HasNeeds s before (Extreme t) = Unit {0}
HasNeeds s before (Hull k) = Unit {0}
HasNeeds s before (Closest k) = Unit {0}
HasNeeds s before (Range r) = Unit {0}
HasNeeds s before (Nearest k) = Unit {0}
HasNeeds s before (Diameter k) = HasHull s before
HasNeeds s before (Boxes b) = Unit {0}

-- it may settle in the scene: it was settled in one before with the same live numbers, and these of its facts don't hold now
pub record MaySettle (s : Scene) (before : List Structure) (st : Structure) (failed : List Placed) : Type 0 where
  pub rest : IsAtRest st
  pub members : HasMembers s.live st
  pub was : (v : Scene) × IsReal v × IsSettledIn v st × HaveSameLive v s
  pub needs : HasNeeds s before st
  pub failing : AreFailing (placed_facts st) s failed

-- it may carry a mark out: it was settled in a scene before, of which the live numbers have changed as the mark says, and no fact has failed
pub record MayCarryOut (mark : Mark) (s : Scene) (before : List Structure) (st : Structure) : Type 0 where
  pub rest : IsAtRest st
  pub room : (size : ℕ) × (keep : Keep) × IsFor size keep st × (marked mark < 2 ^ size)
  pub was : (v : Scene) × HasMembers v.live st × IsSettledIn v st × AreLiveAfter mark v.live s.live
  pub needs : HasNeeds s before st
  pub hold : HoldFor mark (placed_facts st) s

-- it has become another one, which is settled in the scene, and was reported; from each scene before with such live numbers it asked no more than its keep may
pub record HasBecome (may : List ℕ → Type 0) (s : Scene) (st after : Structure) (before now : Change) (count count' : ℕ) : Type 0 where
  pub kind : (size : ℕ) (keep : Keep) → IsFor size keep st → IsFor size keep after
  pub rest : IsAtRest after
  pub members : HasMembers s.live after
  pub settled : IsSettledIn s after
  pub delta : HasChanged (placed_facts st) (placed_facts after) before now
  pub within : (size : ℕ) (keep : Keep) (v : Scene) → IsFor size keep st → AreInStep size keep v s → IsSettledIn v st → HasMembers v.live st → may v.live → HasRisenWithin (MayAsk size keep v s) count count'

-- so has the one at this place, and the others are as they were
pub record HasChangedAt (place : ℕ) (may : List ℕ → Type 0) (s : Scene) (old new : List Structure) (before now : Change) (count count' : ℕ) : Type 0 where
  pub was : Structure
  pub here : slice_get old place ≡ Some was
  pub after : Structure
  pub written : new ≡ slice_set old place after
  pub become : HasBecome may s was after before now count count'
