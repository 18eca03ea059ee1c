-- The cells of a merge, and the chain that is read off them.
use Rattle.std.specs.Prelude.{ℕ, Bool, false, not, ◌&&◌, cond, nat_eq, List, [], ◌∷◌, ◌++◌, flat_map, Option, Some, None}
use Rattle.kin_algebra.specs.declared.sign.Sign.{Sign}
use Rattle.kin_algebra.specs.declared.sign.Sign.TheVariants.{Minus, Zero, Plus}
use Rattle.kin_algebra.specs.Signs.{opposite_of, first_of}
use Rattle.kin_motion.specs.declared.form.Form.TheVariants.{Turn}
use Rattle.kin_motion.specs.Scene.{Scene, x_sign, y_sign}
use Rattle.kin_motion.specs.Chains.{is_zero}
use Rattle.kin_motion.specs.Merges.{Half, Breakpoint, is_of, slope_form, current_after}

-- The ends are the left outer end, the breakpoints of the list in their order, and the right outer end.
-- A cell lies between two ends that are neighbours. At each end the sign is + where A is above, - where B is above, and 0 where neither is.

-- a cell: the current points of both halves, the signs of its ends, and whether it is narrow: between breakpoints of different halves with equal slopes
pub record Cell : Type 0 where
  pub a : ℕ
  pub b : ℕ
  pub left : Sign
  pub right : Sign
  pub narrow : Bool

-- which half is above at a breakpoint, by the current points a and b there
abbrev pub above_at : Scene → ℕ → ℕ → Breakpoint → Sign
above_at s a b e = cond (is_of Half.A e.half) (opposite_of (s.sign (Turn e.left e.right b))) (s.sign (Turn e.left e.right a))

-- at the left outer end, by the first points: which is farther left, and where x is equal, which is higher
abbrev pub above_left : Scene → ℕ → ℕ → Sign
above_left s a b = first_of (x_sign s a b) (opposite_of (y_sign s a b))

-- at the right outer end, by the last points: which is farther right, and where x is equal, which is higher
abbrev pub above_right : Scene → ℕ → ℕ → Sign
above_right s a b = first_of (opposite_of (x_sign s a b)) (opposite_of (y_sign s a b))

-- whether the cell between an end and a breakpoint is narrow; there is no breakpoint at the left outer end
abbrev pub is_narrow : Scene → Option Breakpoint → Breakpoint → Bool
is_narrow s None e = false
is_narrow s (Some d) e = not (is_of d.half e.half) && is_zero (s.sign (slope_form d e))

-- the cells from an end on, with the breakpoint there, the sign there, and the points that are current after it
abbrev pub cells_from : Scene → Option Breakpoint → Sign → ℕ → ℕ → List Breakpoint → List Cell
cells_from s before left a b [] = record { a = a; b = b; left = left; right = above_right s a b; narrow = false } ∷ []
cells_from s before left a b (e ∷ es) =
    record { a = a; b = b; left = left; right = above_at s a b e; narrow = is_narrow s before e }
    ∷ cells_from s (Some e) (above_at s a b e) (current_after Half.A e a) (current_after Half.B e b) es

-- all cells of the merge of two chains with the first points a and b
abbrev pub cells_of : Scene → ℕ → ℕ → List Breakpoint → List Cell
cells_of s a b es = cells_from s None (above_left s a b) a b es

-- the point that is above at an end of this sign
abbrev pub above_of : Sign → ℕ → ℕ → List ℕ
above_of Plus a b = a ∷ []
above_of Zero a b = []
above_of Minus a b = b ∷ []

-- what a cell gives: what is above at its left end, then what is above at its right end; where neither half is above at both ends, the point of A, unless the cell is narrow
abbrev pub given_by : Cell → List ℕ
given_by c = above_of c.left c.a c.b ++ above_of c.right c.a c.b ++ cond (is_zero c.left && is_zero c.right && not c.narrow) (c.a ∷ []) []

-- whether the number was the last one
abbrev pub is_last : Option ℕ → ℕ → Bool
is_last None p = false
is_last (Some q) p = nat_eq q p

-- the numbers that don't repeat the one before, where `last` comes before the list
abbrev pub changes_of : Option ℕ → List ℕ → List ℕ
changes_of last [] = []
changes_of last (p ∷ ps) = cond (is_last last p) (changes_of last ps) (p ∷ changes_of (Some p) ps)

-- the merged chain: what the cells give from left to right, without repetitions; where a chain is empty, the other one
abbrev pub merged_chain : Scene → List ℕ → List ℕ → List Breakpoint → List ℕ
merged_chain s [] b es = b
merged_chain s (a ∷ as') [] es = a ∷ as'
merged_chain s (a ∷ as') (b ∷ bs) es = changes_of None (flat_map given_by (cells_of s a b es))
