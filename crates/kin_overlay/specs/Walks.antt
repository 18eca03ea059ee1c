-- The walk along the cells of a merge, by what is remembered.
use Rattle.std.specs.Prelude.{◌≡◌, ℕ, Bool, false, not, ◌&&◌, cond, List, [], ◌∷◌, ◌++◌, Option, Some, None, unwrap_or}
use Rattle.kin_algebra.specs.declared.sign.Sign.{Sign}
use Rattle.kin_algebra.specs.declared.sign.Sign.TheVariants.{Zero}
use Rattle.kin_algebra.specs.Signs.{opposite_of, first_of}
use Rattle.kin_motion.specs.Chains.{is_zero}
use Rattle.kin_motion.specs.Merges.{Half.{A, B}, is_of, current_after}
use Rattle.kin_motion.specs.Cells.{Cell, above_of, given_by, changes_of}
use Rattle.kin_overlay.specs.declared.record.Record.{Record}
use Rattle.kin_overlay.specs.declared.record.Next.{Next}
use Rattle.kin_overlay.specs.declared.end.End.{End}
use Rattle.kin_overlay.specs.declared.walk.Cell.{Cell as Step}
use Rattle.kin_overlay.specs.Remembered.{Remembered, place_of}

-- which half is above at a breakpoint
abbrev pub above_by : Record → Sign
above_by r = cond (is_of A (place_of r).half) (opposite_of r.turn) r.turn

-- whether the slopes of a breakpoint and its next one are equal
abbrev pub is_narrow_to : Option Next → Bool
is_narrow_to None = false
is_narrow_to (Some n) = is_zero n.slope

-- whether the cell after a breakpoint is narrow
abbrev pub is_before_narrow : Record → Bool
is_before_narrow r = is_narrow_to r.next

-- which of two points is higher, where it was asked
abbrev pub higher_by : Option Sign → Sign
higher_by None = Zero
higher_by (Some t) = opposite_of t

-- which half is higher at an end
abbrev pub higher : End → Sign
higher e = higher_by e.y

-- which half is above at a left outer end
abbrev pub left_above : End → Sign
left_above e = first_of e.x (higher e)

-- which half is above at a right outer end
abbrev pub right_above : End → Sign
right_above e = first_of (opposite_of e.x) (higher e)

-- the last number of a list
abbrev pub last_item : List ℕ → Option ℕ
last_item [] = None
last_item (x ∷ []) = Some x
last_item (x ∷ y ∷ ys) = last_item (y ∷ ys)

-- the cell as the definitions have it
abbrev pub seen_cell : Step → Cell
seen_cell c = record { a = c.a; b = c.b; left = c.left; right = c.right; narrow = c.is_narrow }

-- the point of A, where neither half is above at either end and the cell has a width
abbrev pub shared_by : Step → List ℕ
shared_by c = cond (is_zero c.left && is_zero c.right && not c.is_narrow) (c.a ∷ []) []

-- the cell after a breakpoint, before its right end is known
abbrev pub cell_behind : Step → Record → Step
cell_behind c r = record { a = current_after A (place_of r) c.a; b = current_after B (place_of r) c.b; left = above_by r; right = Zero; is_narrow = is_before_narrow r }

-- ---- the chain by what is remembered alone
-- the cell at the left outer end
abbrev pub first_cell : End → Step
first_cell e = record { a = e.a; b = e.b; left = left_above e; right = Zero; is_narrow = false }

-- what the cells before these breakpoints give
abbrev pub gifts_before : Step → List Record → List ℕ
gifts_before c [] = []
gifts_before c (r ∷ rs) = given_by (seen_cell (record c { right = above_by r })) ++ gifts_before (cell_behind c r) rs

-- the cell after them
abbrev pub cell_after : Step → List Record → Step
cell_after c [] = c
cell_after c (r ∷ rs) = cell_after (cell_behind c r) rs

-- what the last cell gives
abbrev pub last_gifts : Step → Sign → List ℕ
last_gifts c right = given_by (seen_cell (record c { right = right }))

-- what all cells from this one on give, with this sign at the right outer end
abbrev pub gifts : Step → List Record → Sign → List ℕ
gifts c rs right = gifts_before c rs ++ last_gifts (cell_after c rs) right

-- the chain read off a list with this left end: none where there is none; without a right end, both ends are one
abbrev pub chain_from : Option End → Remembered → List ℕ
chain_from None m = []
chain_from (Some e) m = changes_of None (gifts (first_cell e) m.records (right_above (unwrap_or m.right e)))

-- the chain read off a list, from its own left end
abbrev pub chain_read : Remembered → List ℕ
chain_read m = chain_from m.left m

-- ---- the current points, as a record has them
-- the current point of A before the breakpoint
abbrev pub a_before : Record → ℕ
a_before r = cond (is_of A (place_of r).half) r.at.left r.across

-- the current point of B before it
abbrev pub b_before : Record → ℕ
b_before r = cond (is_of A (place_of r).half) r.across r.at.left

-- the one that is above there
abbrev pub upper_before : Record → List ℕ
upper_before r = above_of (above_by r) (a_before r) (b_before r)

-- the cell after the breakpoint, by its record alone; where the records are threaded, it is `cell_behind`
abbrev pub cell_by : Record → Step
cell_by r = record { a = cond (is_of A (place_of r).half) r.at.right r.across; b = cond (is_of A (place_of r).half) r.across r.at.right; left = above_by r; right = Zero; is_narrow = is_before_narrow r }

-- the records have the current points of the cells
abbrev pub IsThreaded : Step → List Record → Type 0
IsThreaded c [] = Unit {0}
IsThreaded c (r ∷ rs) = (c.a ≡ a_before r) × (c.b ≡ b_before r) × IsThreaded (cell_behind c r) rs
