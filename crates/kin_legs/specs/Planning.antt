-- Planned legs, as a list.
use Rattle.std.specs.Prelude.{ℕ, Bool, ◌&&◌, ◌||◌, not, nat_eq, nat_lt, List, [], ◌∷◌, filter, Option, Some, None}
use Rattle.kin_motion.specs.Numbers.{IsChain}
use Rattle.kin_legs.specs.declared.leg.Leg.{Leg}

-- the legs of all points, whose numbers are below 2^size
pub record Planning : Type 0 where
  pub size : ℕ
  pub legs : List Leg

-- it begins earlier, or at the same instant with the lesser number
abbrev pub is_earlier : Leg → Leg → Bool
is_earlier a b = nat_lt a.at b.at || (nat_eq a.at b.at && nat_lt a.no b.no)

-- ordered by instant and number, and no such pair twice
abbrev pub IsRising : List Leg → Type 0
IsRising ls = IsChain is_earlier ls

-- the leg is of this number
abbrev pub is_of : ℕ → Leg → Bool
is_of i l = nat_eq l.no i

-- the legs of a number
abbrev pub legs_of : ℕ → List Leg → List Leg
legs_of i ls = filter (is_of i) ls

-- the legs of all others
abbrev pub without : ℕ → List Leg → List Leg
without i ls = filter (λ l. not (is_of i l)) ls

-- the last one, if there is one
abbrev pub last : List Leg → Option Leg
last [] = None
last (l ∷ []) = Some l
last (l ∷ m ∷ ls) = last (m ∷ ls)
