-- On which sides of a point another one lies, by the four orders that bound the octants.
use Rattle.std.specs.Prelude.{◌≡◌, ℕ, ◌+◌, ◌%◌, ◌<◌, true, false, cond, nat_eq, List, length, Option, Some, slice_get, slice_index_or, MatchOption}
use Rattle.kin_motion.specs.Records.{stands_before}
use Rattle.kin_motion.specs.Numbers.{is_in}
use Rattle.kin_motion.specs.Octants.{Octant, Reading, octants}
use Rattle.kin_wedge.specs.declared.sides.Sides.{Sides}
use Rattle.kin_wedge.specs.declared.sides.Spot.{Spot}
use Rattle.kin_wedge.specs.Rows.{row_of, is_in_wedge}

-- for each of the first four orders, whether q comes after p in it
pub record AreSides (rows : List (List ℕ)) (p q : ℕ) (s : Sides) : Type 0 where
  pub y : s.y ≡ stands_before (row_of rows 0) p q
  pub difference : s.difference ≡ stands_before (row_of rows 1) p q
  pub x : s.x ≡ stands_before (row_of rows 2) p q
  pub sum : s.sum ≡ stands_before (row_of rows 3) p q

-- the place of a number in a list, if it is there
abbrev pub IsPlace : List ℕ → ℕ → Option ℕ → Type 0
IsPlace row who place = MatchOption place (is_in who row ≡ false) (λ p. slice_get row p ≡ Some who)

-- the places of a member in the first four orders
pub record IsSpot (rows : List (List ℕ)) (who : ℕ) (s : Spot) : Type 0 where
  pub y : slice_get (row_of rows 0) s.y ≡ Some who
  pub difference : slice_get (row_of rows 1) s.difference ≡ Some who
  pub x : slice_get (row_of rows 2) s.x ≡ Some who
  pub sum : slice_get (row_of rows 3) s.sum ≡ Some who

-- the places of a member in the last four orders
pub record AreRanks (rows : List (List ℕ)) (who : ℕ) (ranks : List ℕ) : Type 0 where
  pub count : length ranks ≡ 4
  pub each : (k : ℕ) → k < 4 → slice_get (row_of rows (k + 4)) (slice_index_or ranks k 0) ≡ Some who

-- the octant in which q then lies, if it lies in one
abbrev pub octant_by : Sides → ℕ
octant_by s = cond s.y (cond s.difference 0 (cond s.x 1 (cond s.sum 2 3))) (cond s.difference (cond s.x (cond s.sum 7 6) 5) 4)

-- a number that lies in an octant lies in the one that its sides decide
abbrev pub AreParted : List (List ℕ) → Type 0
AreParted rows = (w p q : ℕ) (o : Octant) (s : Sides) → slice_get octants w ≡ Some o → AreSides rows p q s → is_in_wedge rows o p q ≡ true → octant_by s ≡ w

-- the octant of which an order as it is read is the first bound, and the one of which it is the second
abbrev pub bounded_first : Reading → ℕ
bounded_first r = cond r.from_end (cond (nat_eq r.part 0) 4 r.part) (cond (nat_eq r.part 0) 0 (r.part + 4))

abbrev pub bounded_second : Reading → ℕ
bounded_second r = (r.part + 3) % 4 + cond r.from_end 4 0
