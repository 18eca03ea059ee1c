-- The eight orders as lists, and what is in an octant by them.
use Rattle.std.specs.Prelude.{◌≡◌, ℕ, suc, ◌+◌, ◌*◌, ◌∷◌, Some, slice_get, Bool, true, false, ◌&&◌, ◌<◌, cond, List, [], length, MatchOption, Option, slice_index_or, ◌⊎◌}
use Rattle.kin_motion.specs.Numbers.{is_in}
use Rattle.kin_motion.specs.Sets.{AreDistinct}
use Rattle.kin_list.specs.Rows.{exchange}
use Rattle.kin_motion.specs.Records.{stands_before}
use Rattle.kin_motion.specs.Orders.{IsOrder}
use Rattle.kin_motion.specs.Scene.{Scene}
use Rattle.kin_motion.specs.Octants.{Octant, Reading, octants, direction_of}

-- the list of a part
abbrev pub row_of : List (List ℕ) → ℕ → List ℕ
row_of rows part = slice_index_or rows part []

-- q comes after p in the list as it is read
abbrev pub stands_after : List (List ℕ) → Reading → ℕ → ℕ → Bool
stands_after rows r p q = cond r.from_end (stands_before (row_of rows r.part) q p) (stands_before (row_of rows r.part) p q)

-- q is in the octant of p by the lists
abbrev pub is_in_wedge : List (List ℕ) → Octant → ℕ → ℕ → Bool
is_in_wedge rows o p q = stands_after rows o.first p q && stands_after rows o.second p q

-- the member of the octant that comes first in the third list
pub record IsFirst (rows : List (List ℕ)) (o : Octant) (p c : ℕ) : Type 0 where
  pub member : is_in_wedge rows o p c ≡ true
  pub first : (q : ℕ) → is_in_wedge rows o p q ≡ true → (q ≡ c) ⊎ (stands_after rows o.third c q ≡ true)

-- it, or none where the octant is empty
abbrev pub IsFirstAnswer : List (List ℕ) → Octant → ℕ → Option ℕ → Type 0
IsFirstAnswer rows o p answer = MatchOption answer ((q : ℕ) → is_in_wedge rows o p q ≡ false) (IsFirst rows o p)

-- the lists are the eight orders of the scene
pub record AreOrders (s : Scene) (rows : List (List ℕ)) : Type 0 where
  pub count : length rows ≡ 8
  pub order : (part : ℕ) → part < 8 → IsOrder s (direction_of part).dx (direction_of part).dy (row_of rows part)

-- the eight lists have the same members
abbrev pub AreAlike : List (List ℕ) → Type 0
AreAlike rows = (part i : ℕ) → part < 8 → is_in i (row_of rows part) ≡ is_in i (row_of rows 0)

-- eight lists, in none of which a number is twice
pub record AreRows (rows : List (List ℕ)) : Type 0 where
  pub count : length rows ≡ 8
  pub apart : (part : ℕ) → AreDistinct (row_of rows part)

-- a and b were exchanged with each other in the course of these exchanges
abbrev pub WereExchanged : List ℕ → List ℕ → ℕ → ℕ → Type 0
WereExchanged [] xs a b = ⊥
WereExchanged (p ∷ ps) xs a b = ((slice_get xs p ≡ Some a) × (slice_get xs (suc p) ≡ Some b)) ⊎ WereExchanged ps (exchange p xs) a b

-- in the third list a member of an octant comes after the apex, and of two members one comes before the other
pub record AreRanked (rows : List (List ℕ)) : Type 0 where
  pub behind : (w p q : ℕ) (o : Octant) → slice_get octants w ≡ Some o → is_in_wedge rows o p q ≡ true → stands_after rows o.third p q ≡ true
  pub ranked : (w p a b : ℕ) (o : Octant) → slice_get octants w ≡ Some o → is_in_wedge rows o p a ≡ true → is_in_wedge rows o p b ≡ true → (a ≡ b) ⊎ ((stands_after rows o.third a b ≡ true) ⊎ (stands_after rows o.third b a ≡ true))

-- all members have eight slots among n
abbrev pub HaveSlots : List (List ℕ) → ℕ → Type 0
HaveSlots rows n = (part x : ℕ) → is_in x (row_of rows part) ≡ true → 8 * x + 7 < n
