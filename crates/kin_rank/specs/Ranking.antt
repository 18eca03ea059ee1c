-- Three lists of the same numbers, and what is asked of them.
use Rattle.std.specs.Prelude.{◌≡◌, ℕ, zero, suc, ◌+◌, ◌^◌, ◌&&◌, Bool, not, nat_eq, List, [], ◌∷◌, Option, Some, drop, filter, slice_get}
use Rattle.std.specs.List.{between, find, list_any}

-- three lists of the same numbers, each below 2^size and once in each list
pub record Ranking : Type 0 where
  pub f : List ℕ
  pub g : List ℕ
  pub t : List ℕ
  pub size : ℕ

-- whether the list has the number
abbrev pub has : List ℕ → ℕ → Bool
has xs x = list_any (nat_eq x) xs

-- the list without the number
abbrev pub without : ℕ → List ℕ → List ℕ
without x xs = filter (λ y. not (nat_eq x y)) xs

-- n numbers from a on
abbrev pub numbers_from : ℕ → ℕ → List ℕ
numbers_from a zero = []
numbers_from a (suc n) = a ∷ numbers_from (a + 1) n

-- the first number in T whose places in F and G are greater than these
abbrev pub first_in : Ranking → ℕ → ℕ → Option ℕ
first_in r f_above g_above = find (λ x. has (drop (f_above + 1) r.f) x && has (drop (g_above + 1) r.g) x) r.t

-- the numbers whose places in F and G lie in these half-open ranges, rising
abbrev pub in_ranges : Ranking → ℕ × ℕ → ℕ × ℕ → List ℕ
in_ranges r f g = filter (λ x. has (between f.0 f.1 r.f) x && has (between g.0 g.1 r.g) x) (numbers_from 0 (2 ^ r.size))

-- no number is at two places
abbrev pub AreDistinct : List ℕ → Type 0
AreDistinct xs = (i j x : ℕ) → slice_get xs i ≡ Some x → slice_get xs j ≡ Some x → i ≡ j

-- both lists have the same numbers
abbrev pub AreSame : List ℕ → List ℕ → Type 0
AreSame xs ys = (x : ℕ) → has xs x ≡ has ys x
