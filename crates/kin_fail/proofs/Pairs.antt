-- Of n numbers there are at most n*n - n ordered pairs of two different ones.
use Rattle.std.proofs.Common.{◌≡◌, ◌≢◌, ◌⊎◌, inl, inr, ap, sym, ◌∙◌, subst, arith, List, ◌++◌, ℕ, ◌+◌, ◌*◌, ◌≤◌, map, length}
use Rattle.std.specs.Prelude.{Contains, flat_map}
use Rattle.std.proofs.lemmas.List.{length-append, length-map}
use Rattle.std.proofs.lemmas.List.Elements.{Contains-append_cases}
use Rattle.kin_motion.specs.Sets.{AreDistinct}
use Rattle.kin_motion.proofs.SetLaws.{contains_mapped, contains_map, distinct_append, distinct_mapped}
use Rattle.kin_motion.proofs.SetSizes.{no_longer, contains_joined, length_joined}

abbrev pub Pair : Type 0
Pair = ℕ × ℕ

abbrev pub pair : ℕ → ℕ → Pair
pair i j = (i, j)

-- the pairs of a number with each of the list, and all pairs
abbrev row : List ℕ → ℕ → List Pair
row xs i = map (pair i) xs

abbrev pub square : List ℕ → List Pair
square xs = flat_map (row xs) xs

-- each number with itself
abbrev diagonal : List ℕ → List Pair
diagonal xs = map (λ i. pair i i) xs

pub in_square : (xs : List ℕ) (i j : ℕ) → Contains xs i → Contains xs j → Contains (square xs) (pair i j)
in_square xs i j h k = contains_joined (row xs) xs i (pair i j) h (contains_map (pair i) xs j k)

-- pairs that differ, each of two numbers of the list that differ, are n*n - n at most
pub few_pairs : (xs : List ℕ) (zs : List Pair) → AreDistinct xs → AreDistinct zs
    → ((z : Pair) → Contains zs z → Contains (square xs) z × (z.0 ≢ z.1)) → length zs + length xs ≤ length xs * length xs
few_pairs xs zs once distinct among =
    let distinct_diagonal = distinct_mapped (λ i. pair i i) xs (λ i j e. ap (λ (z : Pair). z.0) e) once in
    let both = no_longer (zs ++ diagonal xs) (square xs) (distinct_append zs (diagonal xs) distinct distinct_diagonal apart) all in
    let sum = length-append zs (diagonal xs) in
    let same = length-map xs (λ i. pair i i) in
    let most = length_joined (row xs) (length xs) xs (λ i h. let e : length (row xs i) ≡ length xs = length-map xs (pair i) in omega (arith, e)) in
    omega (arith, both, sum, same, most)
  where
    apart : (z : Pair) → Contains zs z → Contains (diagonal xs) z → ⊥
    apart z h k = let i = contains_mapped (λ i. pair i i) xs z k in (among z h).1 (ap (λ (y : Pair). y.0) i.2 ∙ sym (ap (λ (y : Pair). y.1) i.2))

    all : (z : Pair) → Contains (zs ++ diagonal xs) z → Contains (square xs) z
    all z h = at (Contains-append_cases zs (diagonal xs) z h)
      where
        at : Contains zs z ⊎ Contains (diagonal xs) z → Contains (square xs) z
        at (inl k) = (among z k).0
        at (inr k) = let i = contains_mapped (λ i. pair i i) xs z k in subst (λ (y : Pair). Contains (square xs) y) (sym i.2) (in_square xs i.0 i.0 i.1 i.1)
