-- The sweep of an upper and a lower chain: two parallel supports, one on each, turn from steep to flat. The literature calls them rotating calipers.
use Rattle.std.specs.Prelude.{◌≡◌, ◌≢◌, ℕ, ◌+◌, ◌*◌, ◌^◌, nat_eq, nat_lt, cond, List, [], ◌∷◌, map, length, reverse, Contains, Option, Some, None, MatchOption, slice_get}
use Rattle.kin_motion.specs.Numbers.{IsChain, numbers_from}
use Rattle.kin_motion.specs.Scene.{Scene}
use Rattle.kin_motion.specs.Chains.{IsUpperChain, IsLowerChain}
use Rattle.kin_motion.specs.ClosestPairs.{Near}
use Rattle.kin_motion.specs.ClosestFacts.{near}
use Rattle.kin_motion.specs.Merges.{Half.{A, B}, Breakpoint, is_of, breakpoints_of, own_of, is_placed_before, merged}

-- The upper chain is listed from left to right and the lower one from right to left. The breakpoints of the upper chain are those of half A, and those of the
-- lower chain those of half B.

-- the breakpoints of a chain that is listed from right to left
abbrev pub breakpoints_back : List ℕ → List Breakpoint
breakpoints_back [] = []
breakpoints_back (j ∷ []) = []
breakpoints_back (j ∷ i ∷ ps) = record { half = B; left = i; right = j } ∷ breakpoints_back (i ∷ ps)

-- the breakpoints of both chains in one list, by falling slope, with those of the upper chain first where slopes are equal
pub record IsSweep (s : Scene) (upper lower : List ℕ) (es : List Breakpoint) : Type 0 where
  pub of_upper : own_of A es ≡ breakpoints_of A upper
  pub of_lower : own_of B es ≡ breakpoints_back lower
  pub falling : IsChain (is_placed_before s) es

-- the same by computation
abbrev pub sweep_of : Scene → List ℕ → List ℕ → List Breakpoint
sweep_of s upper lower = merged s (breakpoints_of A upper) (breakpoints_back lower)

-- both chains, each from left to right, are those of all live numbers
abbrev pub AreChains : Scene → List ℕ → List ℕ → Type 0
AreChains s upper lower = IsUpperChain s s.live upper × IsLowerChain s s.live lower

-- the upper and the lower chain of all live numbers, both from left to right, and their sweep
pub record IsSwept (s : Scene) (upper lower : List ℕ) (es : List Breakpoint) : Type 0 where
  pub upper_chain : IsUpperChain s s.live upper
  pub lower_chain : IsLowerChain s s.live lower
  pub sweep : IsSweep s upper (reverse lower) es

-- the pairs of the points that are current in the cells: in the one before these breakpoints, with the upper point p and the lower point q, and in those after
-- each of them; after one of the upper chain its right point is current, after one of the lower chain its left point
abbrev pub cell_pairs_from : ℕ → ℕ → ℕ → List Breakpoint → List Near
cell_pairs_from slot p q [] = near slot p q ∷ []
cell_pairs_from slot p q (e ∷ es) =
    near slot p q
    ∷ cond (is_of A e.half) (cell_pairs_from (2 * e.right) e.right q es) (cell_pairs_from (2 * e.left + 1) p e.left es)

-- the pairs of all cells; in the first one the first points of both lists are current
abbrev pub cell_pairs : List ℕ → List ℕ → List Breakpoint → List Near
cell_pairs [] lower es = []
cell_pairs (p ∷ ps) [] es = []
cell_pairs (p ∷ ps) (q ∷ qs) es = cell_pairs_from (2 * p) p q es

-- what a slot holds: the pair of the cell that has it
abbrev pub HoldsCell : List Near → ℕ → Option Near → Type 0
HoldsCell cells slot held = MatchOption held ((n : Near) → Contains cells n → n.slot ≢ slot) (λ n. Contains cells n × (n.slot ≡ slot))

-- two slots for each number: one for cells that an upper point begins, and one for those that a lower point begins
pub record AreCellSlots (size : ℕ) (cells : List Near) (slots : List (Option Near)) : Type 0 where
  pub count : length slots ≡ 2 ^ (size + 1)
  pub each : (slot : ℕ) (held : Option Near) → slice_get slots slot ≡ Some held → HoldsCell cells slot held

-- the first pair of a slot
abbrev pub cell_in : ℕ → List Near → Option Near
cell_in slot [] = None
cell_in slot (n ∷ ns) = cond (nat_eq n.slot slot) (Some n) (cell_in slot ns)

-- all slots by computation
abbrev pub cell_slots : ℕ → List Near → List (Option Near)
cell_slots size cells = map (λ slot. cell_in slot cells) (numbers_from 0 (2 ^ (size + 1)))

-- the two numbers of a pair, where they differ
abbrev pub two_in : Option Near → Option (ℕ × ℕ)
two_in None = None
two_in (Some n) = cond (nat_lt n.i n.j) (Some (n.i, n.j)) None
