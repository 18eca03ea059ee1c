-- What a merge of two upper chains is given and remembers, and what follows for a scene.
use Rattle.std.specs.Prelude.{◌≡◌, ℕ, ◌<◌, Bool, ◌||◌, List, ◌++◌, map, Contains, ◌↔◌}
use Rattle.kin_motion.specs.declared.form.Form.{Form}
use Rattle.kin_motion.specs.declared.fact.Placed.{Placed}
use Rattle.kin_motion.specs.Numbers.{IsIn, IsChain}
use Rattle.kin_motion.specs.Sets.{ListsExactly}
use Rattle.kin_motion.specs.Scene.{Scene, IsReal, placed_at}
use Rattle.kin_motion.specs.Chains.{IsUpperChain}
use Rattle.kin_motion.specs.Merges.{Breakpoint, is_of, is_placed_before, IsInterleaving, IsBreakpointList, breakpoint_list, forms_of_merge, IsMergeFact}
use Rattle.kin_motion.specs.Cells.{merged_chain}
use Rattle.kin_motion.specs.Kinetics.{AllHold}
use Rattle.kin_motion.specs.Contents.{IsSettledMerge}

-- the two given chains are the upper chains of two sets, and every number of the left set is less than every number of the right one
pub record AreTold (s : Scene) (left right a b : List ℕ) : Type 0 where
  pub a_chain : IsUpperChain s left a
  pub b_chain : IsUpperChain s right b
  pub less : (i j : ℕ) → IsIn i left → IsIn j right → i < j

-- two given chains have a list of breakpoints, and only one
abbrev pub OneBreakpointList : Type 0
OneBreakpointList =
    (s : Scene) (left right a b : List ℕ) → IsReal s → AreTold s left right a b
    → IsBreakpointList s a b (breakpoint_list s a b) × ((es : List Breakpoint) → IsBreakpointList s a b es → es ≡ breakpoint_list s a b)

-- the merged list is the upper chain of both sets
abbrev pub MergeGivesChain : Type 0
MergeGivesChain = (s : Scene) (left right a b : List ℕ) (es : List Breakpoint) → IsReal s → AreTold s left right a b → IsBreakpointList s a b es → IsUpperChain s (left ++ right) (merged_chain s a b es)

-- two neighbours of the list are of one half, or the slope puts the first before the second
abbrev pub is_in_place : Scene → Breakpoint → Breakpoint → Bool
is_in_place s e f = is_of e.half f.half || is_placed_before s e f

-- what was seen of a merge in `old` holds in `now`: the list has the breakpoints of both chains, its neighbours are in place, and each form has its sign
pub record SeenHolds (old now : Scene) (a b : List ℕ) (es : List Breakpoint) : Type 0 where
  pub interleaved : IsInterleaving a b es
  pub in_place : IsChain (is_in_place old) es
  pub signs : (f : Form) → Contains (forms_of_merge old a b es) f → now.sign f ≡ old.sign f

-- the list is the list of breakpoints in `now`, the facts with the signs of `old` are exactly those of the merge in `now`, and the chain read off the signs of `old` is the upper chain of both sets in `now`
pub record IsMergeNow (old now : Scene) (left right a b : List ℕ) (es : List Breakpoint) : Type 0 where
  pub breakpoints : IsBreakpointList now a b es
  pub facts : (part : ℕ) → ListsExactly (map (placed_at old part) (forms_of_merge old a b es)) (IsMergeFact now left right part)
  pub chain : IsUpperChain now (left ++ right) (merged_chain old a b es)

-- the one theorem for both laws: where both given chains are upper chains and what was seen of the merge holds, the merge is right there; nothing is required
-- of `old`
abbrev pub MergeIsRight : Type 0
MergeIsRight = (old now : Scene) (left right a b : List ℕ) (es : List Breakpoint) → IsReal now → AreTold now left right a b → SeenHolds old now a b es → IsMergeNow old now left right a b es

-- the settling law's use: a list whose neighbours are in place now
abbrev pub MergeIsSettled : Type 0
MergeIsSettled = (s : Scene) (left right a b : List ℕ) (es : List Breakpoint) → IsReal s → AreTold s left right a b → IsInterleaving a b es → IsChain (is_in_place s) es → IsMergeNow s s left right a b es

-- the determination law's use: where both given chains are upper chains and all facts of a settled merge hold, it is settled
abbrev pub MergeIsDetermined : Type 0
MergeIsDetermined = (old now : Scene) (a b chain : List ℕ) (part : ℕ) (facts : List Placed) → IsReal old → IsReal now → IsSettledMerge old a b chain part facts
    → IsUpperChain now a a → IsUpperChain now b b → AllHold now facts → IsSettledMerge now a b chain part facts

-- the upper chain of two sets is that of their two chains
abbrev pub ChainOfChains : Type 0
ChainOfChains = (s : Scene) (left right a b xs : List ℕ) → IsReal s → AreTold s left right a b → IsUpperChain s (a ++ b) xs ↔ IsUpperChain s (left ++ right) xs

-- and the facts of a merge of two sets are those of their two chains
abbrev pub FactsOfChains : Type 0
FactsOfChains = (s : Scene) (left right a b : List ℕ) (part : ℕ) (p : Placed) → IsReal s → AreTold s left right a b → IsMergeFact s a b part p ↔ IsMergeFact s left right part p
