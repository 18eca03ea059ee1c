-- Which of some numbers comes first in T.
use Rattle.std.specs.Prelude.{◌≡◌, ℕ, ◌<◌, ◌≤◌, ◌⊎◌, ◌&&◌, Bool, not, nat_lt, List, Option, Some, slice_get}
use Rattle.kin_rank.specs.Leading.{place_in}

-- a number was found, and its place isn't greater than that of this number
pub record IsNoLater (t : List ℕ) (result : Option ℕ) (y : ℕ) : Type 0 where
  pub number : ℕ
  pub is : result ≡ Some number
  pub before : place_in t number ≤ place_in t y

-- of the best number so far and of some others, the first
pub record IsFirstOf (t : List ℕ) (best : Option ℕ) (others : ℕ → Type 0) (result : Option ℕ) : Type 0 where
  pub from : (x : ℕ) → result ≡ Some x → (best ≡ Some x) ⊎ others x
  pub not_after_best : (y : ℕ) → best ≡ Some y → IsNoLater t result y
  pub not_after : (y : ℕ) → others y → IsNoLater t result y

-- the number is a number below the bound, if there is one
abbrev pub IsBelow : ℕ → Option ℕ → Type 0
IsBelow room best = (x : ℕ) → best ≡ Some x → x < room

-- the number's places in F and G are greater than these
pub record IsBeyond (f g : List ℕ) (f_above g_above x : ℕ) : Type 0 where
  pub place : ℕ
  pub at : slice_get f place ≡ Some x
  pub f_after : f_above < place
  pub g_after : g_above < place_in g x

-- whether the number's place is in a half-open range
abbrev pub is_within : List ℕ → ℕ × ℕ → ℕ → Bool
is_within places range x = not (nat_lt (place_in places x) range.0) && nat_lt (place_in places x) range.1
