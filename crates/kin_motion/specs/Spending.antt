-- What a repair may ask: how many signs each kept structure may ask between a scene before and a scene now, by its keep and the two scenes. It is meant for scenes with the same live numbers, or of which one has one number more (`follows` of `Kept`).
use Rattle.std.specs.Prelude.{◌≡◌, ◌≢◌, ℕ, ◌+◌, ◌*◌, ◌^◌, ◌≤◌, pos, List, [], ◌∷◌, length, reverse, sum_by, Option, Some, slice_get, IsTrue, ◌⊎◌, ℤ}
use Rattle.kin_motion.specs.declared.fact.Placed.{Placed}
use Rattle.kin_motion.specs.declared.keep.Keep.{Keep}
use Rattle.kin_motion.specs.declared.keep.Keep.TheVariants.{Order, Extreme, Hull, Closest, Range, Nearest, Diameter, Boxes}
use Rattle.kin_motion.specs.Agreements.{FitsSize}
use Rattle.kin_motion.specs.BoxFacts.{IsBoxFact, end_order_of}
use Rattle.kin_motion.specs.Records.{moved_pairs}
use Rattle.kin_motion.specs.ClosestFacts.{IsPairFact, near_slots}
use Rattle.kin_motion.specs.ClosestPairs.{Near}
use Rattle.kin_motion.specs.Deltas.{Change}
use Rattle.kin_motion.specs.DiameterFacts.{IsCellFact, IsDiameterFact}
use Rattle.kin_motion.specs.Extremes.{IsExtremeFact}
use Rattle.kin_motion.specs.Forms.{names}
use Rattle.kin_motion.specs.KeptOrder.{KeptHullKeepsOrder}
use Rattle.kin_motion.specs.Merges.{Breakpoint, IsHullFact}
use Rattle.kin_motion.specs.Numbers.{IsIn, HasEntered}
use Rattle.kin_motion.specs.Octants.{Direction, direction, eight_directions}
use Rattle.kin_motion.specs.Orders.{order_of, IsOrderFact}
use Rattle.kin_motion.specs.Scene.{Scene, IsReal, Holds}
use Rattle.kin_motion.specs.Sets.{ListsExactly}
use Rattle.kin_motion.specs.Sweeps.{IsSwept, AreChains, cell_pairs, AreCellSlots}
use Rattle.kin_motion.specs.Tournaments.{item_in}

-- what the bound requires of the two scenes: both are real, the live numbers have slots, and the chains of a kept hull keep their order
pub record AreInStep (size : ℕ) (keep : Keep) (v w : Scene) : Type 0 where
  pub old_real : IsReal v
  pub new_real : IsReal w
  pub old_fits : FitsSize size v
  pub new_fits : FitsSize size w
  pub chains : KeptHullKeepsOrder size keep v w

-- ---- facts
-- dropped are the facts that were there and are not, and born those that are there and were not
pub record AreChanged (old new : Placed → Type 0) (change : Change) : Type 0 where
  pub dropped : ListsExactly change.dropped (λ p. old p × ¬ (new p))
  pub born : ListsExactly change.born (λ p. new p × ¬ (old p))

-- a fact has failed: it was there, it names no number that has left, and it does not hold now
pub record HasFailed (old : Placed → Type 0) (v w : Scene) (p : Placed) : Type 0 where
  pub was : old p
  pub stays : (i : ℕ) → IsTrue (names p.fact.form i) → IsIn i v.live → IsIn i w.live
  pub fails : ¬ (Holds w p.fact)

-- ---- orders
-- a fact of one of the orders along these directions, each in its part
pub record IsFactAlong (ways : List Direction) (s : Scene) (p : Placed) : Type 0 where
  pub way : Direction
  pub known : slice_get ways p.part ≡ Some way
  pub fact : IsOrderFact s way.dx way.dy p.part p

-- how many pairs of numbers change places along a direction
abbrev pub moved_along : Scene → Scene → Direction → ℕ
moved_along v w d = moved_pairs (order_of v d.dx d.dy) (order_of w d.dx d.dy)

-- k signs may be asked to find a place: none, or where a number has entered n others, k with 2^k ≤ 2n + 2
abbrev pub MayBisect : Scene → Scene → ℕ → Type 0
MayBisect v w k = (k ≡ 0) ⊎ ((i : ℕ) × HasEntered i v.live w.live × (2 ^ k ≤ 2 * length v.live + 2))

-- orders may ask 8 signs for each fact dropped or born and for each pair that changes places, and k more for each order where a number enters
pub record MayOrdersAsk (ways : List Direction) (v w : Scene) (asked : ℕ) : Type 0 where
  pub change : Change
  pub changed : AreChanged (IsFactAlong ways v) (IsFactAlong ways w) change
  pub halvings : ℕ
  pub allowed : MayBisect v w halvings
  pub bound : asked ≤ 8 * (length change.dropped + length change.born + sum_by (moved_along v w) ways) + length ways * halvings

-- ---- tournaments
-- n is 0, or it is 1 and one number has entered or left
abbrev pub IsChangeCount : List ℕ → List ℕ → ℕ → Type 0
IsChangeCount before after n = (n ≡ 0) ⊎ ((n ≡ 1) × ((i : ℕ) × (HasEntered i before after ⊎ HasEntered i after before)))

-- an extreme point may ask `size` signs for each failed fact, and for a number that enters or leaves
pub record MayExtremeAsk (size : ℕ) (d : Direction) (v w : Scene) (asked : ℕ) : Type 0 where
  pub failed : List Placed
  pub exactly : ListsExactly failed (HasFailed (IsExtremeFact size v d.dx d.dy) v w)
  pub marks : ℕ
  pub allowed : IsChangeCount v.live w.live marks
  pub bound : asked ≤ size * (length failed + marks)

-- a closest pair may ask what its eight orders may, and size + 3 signs for each slot whose pair changed and for each failed fact of its tournament
pub record MayClosestAsk (size : ℕ) (v w : Scene) (asked : ℕ) : Type 0 where
  pub in_orders : ℕ
  pub orders : MayOrdersAsk eight_directions v w in_orders
  pub slots : List ℕ
  pub other : ListsExactly slots (λ k. slice_get (near_slots size v) k ≢ slice_get (near_slots size w) k)
  pub failed : List Placed
  pub exactly : ListsExactly failed (HasFailed (IsPairFact size v) v w)
  pub bound : asked ≤ in_orders + (size + 3) * (length slots + length failed)

-- ---- hulls
-- a hull may ask 5 signs for each fact born and one for each dropped
pub record MayHullAsk (size : ℕ) (v w : Scene) (asked : ℕ) : Type 0 where
  pub change : Change
  pub changed : AreChanged (IsHullFact size v) (IsHullFact size w) change
  pub bound : asked ≤ 5 * length change.born + length change.dropped

-- ---- farthest pairs
-- the sweep of both chains of a scene, and the pairs of its cells in their slots
pub record AreCells (size : ℕ) (s : Scene) (breakpoints : List Breakpoint) (slots : List (Option Near)) : Type 0 where
  pub upper : List ℕ
  pub lower : List ℕ
  pub swept : IsSwept s upper lower breakpoints
  pub filled : AreCellSlots size (cell_pairs upper (reverse lower) breakpoints) slots

-- a farthest pair may ask one sign for each breakpoint of the sweep now, and size + 1 for each slot whose pair changed and for each failed fact of its
-- tournament; but none where the same numbers are live, both chains are as before, and all its facts hold
pub record MayDiameterAsk (size : ℕ) (v w : Scene) (asked : ℕ) : Type 0 where
  pub breakpoints_before : List Breakpoint
  pub slots_before : List (Option Near)
  pub before : AreCells size v breakpoints_before slots_before
  pub breakpoints : List Breakpoint
  pub slots : List (Option Near)
  pub after : AreCells size w breakpoints slots
  pub changed : List ℕ
  pub other : ListsExactly changed (λ k. item_in slots_before k ≢ item_in slots k)
  pub failed : List Placed
  pub exactly : ListsExactly failed (HasFailed (IsCellFact size v) v w)
  pub bound : asked ≤ length breakpoints + (size + 1) * (length changed + length failed)
  pub quiet : (upper lower : List ℕ) → v.live ≡ w.live → AreChains v upper lower → AreChains w upper lower → ((p : Placed) → IsDiameterFact size v p → Holds w p.fact) → asked ≡ 0

-- ---- boxes
-- how many pairs of ends change places along a direction
abbrev pub moved_ends : Scene → Scene → ℤ → ℤ → ℤ → ℕ
moved_ends v w dx dy size = moved_pairs (end_order_of v dx dy size) (end_order_of w dx dy size)

-- k signs may be asked to find the place of an end: none, or where a box has entered, of n boxes then, k with 2^k ≤ 4n
abbrev pub MayHalveEnds : Scene → Scene → ℕ → Type 0
MayHalveEnds v w k = (k ≡ 0) ⊎ ((i : ℕ) × HasEntered i v.live w.live × (2 ^ k ≤ 4 * length w.live))

-- boxes may ask 8 signs for each fact dropped or born and for each pair of ends that changes places, and k more for each of the four ends of a box that
-- enters, two along x and two along y
pub record MayBoxesAsk (width height : ℤ) (v w : Scene) (asked : ℕ) : Type 0 where
  pub change : Change
  pub changed : AreChanged (IsBoxFact v width height) (IsBoxFact w width height) change
  pub halvings : ℕ
  pub allowed : MayHalveEnds v w halvings
  pub bound : asked ≤ 8 * (length change.dropped + length change.born + moved_ends v w (pos 1) (pos 0) width + moved_ends v w (pos 0) (pos 1) height)
      + 4 * halvings

-- ---- all kinds
-- so many signs a structure may ask, by its kind
abbrev pub MayAsk : ℕ → Keep → Scene → Scene → ℕ → Type 0
MayAsk size (Order dx dy) v w asked = MayOrdersAsk (direction dx dy ∷ []) v w asked
MayAsk size (Extreme dx dy) v w asked = MayExtremeAsk size (direction dx dy) v w asked
MayAsk size Hull v w asked = MayHullAsk size v w asked
MayAsk size Closest v w asked = MayClosestAsk size v w asked
MayAsk size Range v w asked = MayOrdersAsk (direction (pos 1) (pos 0) ∷ direction (pos 0) (pos 1) ∷ []) v w asked
MayAsk size Nearest v w asked = MayOrdersAsk eight_directions v w asked
MayAsk size Diameter v w asked = MayDiameterAsk size v w asked
MayAsk size (Boxes width height) v w asked = MayBoxesAsk width height v w asked

-- the count has risen by at most a number that may be asked
abbrev pub HasRisenWithin : (ℕ → Type 0) → ℕ → ℕ → Type 0
HasRisenWithin may before after = (asked : ℕ) × may asked × (after ≤ before + asked)
