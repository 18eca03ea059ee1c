-- What a kinetic hull means to its callers.
use Rattle.std.specs.Prelude.{◌≡◌, ℕ, ◌^◌, ◌<◌, ◌≤◌, ◌++◌, Bool, List, map, IsTrue}
use Rattle.kin_motion.specs.declared.fact.Placed.{Placed}
use Rattle.kin_motion.specs.declared.keep.Keep.{Keep}
use Rattle.kin_motion.specs.declared.keep.Keep.TheVariants as keep
use Rattle.kin_motion.specs.Chains.{round}
use Rattle.kin_motion.specs.Contents.{IsSettledHull}
use Rattle.kin_motion.specs.Deltas.{Change}
use Rattle.kin_motion.specs.Numbers.{is_in}
use Rattle.kin_motion.specs.Scene.{Scene}
use Rattle.kin_env.specs.Joints.{ArePaid}
use Rattle.kin_env.specs.Trees.{ChainsKeepOrder, Envelope, IsEnvelopeAtRest, IsSettledEnvelope, chain_of_slot, top_of}
use Rattle.kin_env.specs.Walks.{slot_in}
use Rattle.kin_hull.specs.declared.side.Side.TheVariants.{Upper, Lower}
use Rattle.kin_hull.specs.Sides.{outward, seen_from}

-- the tree of upper chains, that of upper chains of the points reflected in the x axis, and false after want of memory
pub record Hull : Type 0 where
  pub upper : Envelope
  pub lower : Envelope
  pub whole : Bool

-- the facts of both trees, each in its part of the hull
abbrev pub facts_of : Hull → List Placed
facts_of k = map (outward Upper) k.upper.facts ++ map (outward Lower) k.lower.facts

-- both chains, one after the other
abbrev pub cycle_told : Hull → List ℕ
cycle_told k = round (top_of k.lower) (top_of k.upper)

-- the cycle and the facts are the definition's, and so is what they are read off: a tree of upper chains here and one for the points reflected in the x axis
pub record IsSettledKinHull (k : Hull) (s : Scene) : Type 0 where
  pub hull : IsSettledHull s k.upper.size (cycle_told k) (facts_of k)
  pub upper : IsSettledEnvelope k.upper (seen_from Upper s)
  pub lower : IsSettledEnvelope k.lower (seen_from Lower s)
  pub size : k.lower.size ≡ k.upper.size

-- no mark waits
pub record IsHullAtRest (k : Hull) : Type 0 where
  pub upper : IsEnvelopeAtRest k.upper
  pub lower : IsEnvelopeAtRest k.lower
  pub whole : IsTrue k.whole

-- its members are these numbers, once its mark is carried out
pub record HasMembers (k : Hull) (set : List ℕ) : Type 0 where
  pub members : (i : ℕ) → is_in i set ≡ slot_in k.upper.slots i
  pub whole : IsTrue k.whole

-- the members as they will be are the live numbers
abbrev pub IsReadyHull : Hull → Scene → Type 0
IsReadyHull k s = HasMembers k s.live

-- at each node of both trees, the numbers that its chain has before and after are in the same order in both
pub record HullsKeepOrder (old new : Hull) : Type 0 where
  pub upper : ChainsKeepOrder old.upper new.upper
  pub lower : ChainsKeepOrder old.lower new.lower

-- what is true between two calls: both trees have the same slots and have seen the same marks, and they were settled in one scene
pub record ArePaired (upper lower : Envelope) : Type 0 where
  pub size : lower.size ≡ upper.size
  pub small : upper.size ≤ 12
  pub slots : lower.slots ≡ upper.slots
  pub leaves : (i : ℕ) → i < 2 ^ upper.size → chain_of_slot lower i ≡ chain_of_slot upper i
  pub upper_whole : IsTrue upper.whole
  pub lower_whole : IsTrue lower.whole
  pub seen : Scene
  pub settled : IsSettledKinHull (record { upper = upper; lower = lower; whole = upper.whole }) seen

-- ---- as the structure of a keep
-- the hull is kept
abbrev pub IsHullKeep : Keep → Type 0
IsHullKeep keep.Hull = Unit {0}
IsHullKeep _ = ⊥

-- it is for the numbers below 2^size
abbrev pub IsHullFor : Hull → ℕ → Keep → Type 0
IsHullFor k size kept = (kept ≡ keep.Hull) × (k.upper.size ≡ size)

-- where the chains keep their order, at most five signs were asked for each fact that was born, and at most one for each that was dropped
abbrev pub SpendsHull : Hull → Hull → List Placed → Change → Change → ℕ → ℕ → Type 0
SpendsHull old new failed out out' before after = HullsKeepOrder old new → ArePaid out out' before after

-- its chains and its facts are still those of the scene, and its members are these numbers, once its mark is carried out
pub record FollowsHull (k : Hull) (s : Scene) (live : List ℕ) : Type 0 where
  pub settled : IsSettledKinHull k s
  pub members : HasMembers k live

-- it is for as many numbers, and they are the same
abbrev pub StaysHull : Hull → Hull → Type 0
StaysHull old new = (new.upper.size ≡ old.upper.size) × (new.upper.slots ≡ old.upper.slots)
