-- Which numbers of a set come first.
use Rattle.std.specs.Prelude.{ℕ, ◌<◌, List, Option, Some, None, cond, nat_lt, slice_index_or}
use Rattle.kin_rank.specs.declared.leaders.Leaders.{Leaders}

-- the leaders of one number
abbrev pub sole : ℕ → Leaders
sole x = record { last_in_g = x; first_in_t = x }

-- the place of a number
abbrev pub place_in : List ℕ → ℕ → ℕ
place_in places x = slice_index_or places x 0

-- which of two numbers has the greater place
abbrev pub later : List ℕ → ℕ → ℕ → ℕ
later places a b = cond (nat_lt (place_in places a) (place_in places b)) b a

-- which of two numbers has the lesser place
abbrev pub earlier : List ℕ → ℕ → ℕ → ℕ
earlier places a b = cond (nat_lt (place_in places b) (place_in places a)) b a

-- the leaders of two sets together, by the places in G and T
abbrev pub joined : List ℕ → List ℕ → Option Leaders → Option Leaders → Option Leaders
joined g t None b = b
joined g t (Some a) None = Some a
joined g t (Some a) (Some b) = Some (record { last_in_g = later g a.last_in_g b.last_in_g; first_in_t = earlier t a.first_in_t b.first_in_t })

-- the leaders are numbers below the bound
abbrev pub IsKnown : ℕ → Option Leaders → Type 0
IsKnown room None = Unit {0}
IsKnown room (Some a) = (a.last_in_g < room) × (a.first_in_t < room)
