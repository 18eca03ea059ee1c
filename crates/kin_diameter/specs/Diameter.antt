-- What a kinetic farthest pair means to its callers.
use Rattle.std.specs.Prelude.{◌≡◌, ◌≢◌, ℕ, ◌+◌, ◌*◌, ◌^◌, ◌<◌, ◌≤◌, ◌++◌, List, length, filter, map, reverse, Bool, false, Contains, Option, Some, None, IsTrue}
use Rattle.kin_motion.specs.declared.fact.Placed.{Placed}
use Rattle.kin_motion.specs.declared.keep.Keep.{Keep}
use Rattle.kin_motion.specs.declared.keep.Keep.TheVariants as keep
use Rattle.kin_motion.specs.Agreements.{FitsSize}
use Rattle.kin_motion.specs.ClosestPairs.{Near}
use Rattle.kin_motion.specs.Contents.{IsSettledDiameter}
use Rattle.kin_motion.specs.Farthest.{farness_key}
use Rattle.kin_motion.specs.Forms.{names}
use Rattle.kin_motion.specs.Merges.{Breakpoint, slopes_from}
use Rattle.kin_motion.specs.Numbers.{IsIn}
use Rattle.kin_motion.specs.Parts.{moved_by}
use Rattle.kin_motion.specs.Scene.{Scene, placed_at}
use Rattle.kin_motion.specs.Sets.{ListsExactly}
use Rattle.kin_motion.specs.Sweeps.{AreChains, IsSwept, cell_pairs, AreCellSlots, two_in}
use Rattle.kin_motion.specs.Tournaments.{item_in}
use Rattle.kin_tourney.specs.Tournament.{Tournament, IsAtRest, IsSettled, winner_at}
use Rattle.kin_pairs.specs.declared.farness.Farness.{Farness}
use Rattle.kin_pairs.specs.PairKeys.{pair_names}
use Rattle.kin_pairs.specs.Sorting.{is_beyond}
use Rattle.kin_diameter.specs.Seats.{AreSeated}

-- It is for the numbers below 2^size. Both chains as they were given last; the sweep that was settled last and its slopes as facts; the tournament of its cells;
-- the number that leaves; and false after want of memory.
pub record Diameter : Type 0 where
  pub size : ℕ
  pub upper : List ℕ
  pub lower : List ℕ
  pub breakpoints : List Breakpoint
  pub slopes : List Placed
  pub cells : Tournament Farness Near
  pub leaving : Option ℕ
  pub whole : Bool

-- the slopes of the sweep, and after them the facts of the tournament
abbrev pub facts_of : Diameter → List Placed
facts_of k = k.slopes ++ map (moved_by 1) k.cells.facts

-- the best pair of a cell, where it is of two numbers
abbrev pub pair_told : Diameter → Option (ℕ × ℕ)
pair_told k = two_in (winner_at k.cells 1)

-- whether a fact names the number that leaves
abbrev pub names_leaving : Option ℕ → Placed → Bool
names_leaving None p = false
names_leaving (Some i) p = names p.fact.form i

-- the farthest pair and the facts are the definition's, and so is what they are found by: the chains that were given, their sweep, the pairs in the slots and
-- their tournament
pub record IsSettledKinDiameter (k : Diameter) (s : Scene) : Type 0 where
  pub farthest : IsSettledDiameter s k.size (pair_told k) (facts_of k)
  pub fits : FitsSize k.size s
  pub swept : IsSwept s k.upper k.lower k.breakpoints
  pub slopes : k.slopes ≡ map (placed_at s 0) (slopes_from k.breakpoints)
  pub size : k.cells.size ≡ k.size + 1
  pub filled : AreCellSlots k.size (cell_pairs k.upper (reverse k.lower) k.breakpoints) k.cells.slots
  pub cells : IsSettled pair_names farness_key k.cells s

-- no mark waits
pub record IsDiameterAtRest (k : Diameter) : Type 0 where
  pub rest : k.leaving ≡ None
  pub whole : IsTrue k.whole

-- the chains that were given are those of the live numbers
abbrev pub IsGrounded : Diameter → Scene → Type 0
IsGrounded k s = AreChains s k.upper k.lower

-- they are; the live numbers have slots, and the one that leaves isn't live
pub record IsReadyDiameter (k : Diameter) (s : Scene) : Type 0 where
  pub chains : IsGrounded k s
  pub fits : FitsSize k.size s
  pub gone : (i : ℕ) → k.leaving ≡ Some i → ¬ (IsIn i s.live)
  pub whole : IsTrue k.whole

-- what is true between two calls: no slot is marked, these cells are in their slots, and the facts are in their parts
pub record IsSound (size : ℕ) (slopes : List Placed) (tourney : Tournament Farness Near) (cells : List Near) (places : List (Option Near)) : Type 0 where
  pub small : size ≤ 12
  pub levels : tourney.size ≡ size + 1
  pub rest : IsAtRest tourney
  pub seated : AreSeated tourney cells places
  pub first : (p : Placed) → Contains slopes p → p.part < 1
  pub low : (p : Placed) → Contains tourney.facts p → p.part < 2 ^ 15

-- the size and the chains are the same
pub record StaysDiameter (old new : Diameter) : Type 0 where
  pub size : new.size ≡ old.size
  pub upper : new.upper ≡ old.upper
  pub lower : new.lower ≡ old.lower

-- at most one sign for each breakpoint of the sweep, and one a level for each slot that has another pair and for each failed fact of the tournament
pub record AreFewTests (old new : Diameter) (failed : List Placed) (before after : ℕ) : Type 0 where
  pub changed : List ℕ
  pub other : ListsExactly changed (λ i. item_in old.cells.slots i ≢ item_in new.cells.slots i)
  pub bound : after ≤ before + length new.breakpoints + (old.size + 1) * (length changed + length (filter (is_beyond 1) failed))

-- ---- as the structure of a keep
-- it is for the numbers below 2^size
abbrev pub IsDiameterFor : Diameter → ℕ → Keep → Type 0
IsDiameterFor k size kept = (kept ≡ keep.Diameter) × (k.size ≡ size)
