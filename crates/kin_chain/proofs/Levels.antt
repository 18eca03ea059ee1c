-- The slots under the two halves of a node.
use Rattle.std.proofs.Common.{◌≡◌, ◌⊎◌, inl, inr, refl, ap, arith, ℕ, zero, suc, ◌+◌, ◌*◌, ◌/◌, ◌^◌, ◌<◌, ◌≤◌, true, nat_eq}
use Rattle.std.proofs.lemmas.Bool.{or_cases}
use Rattle.std.proofs.lemmas.Bool.Decides.{nat_tests}
use Rattle.std.proofs.lemmas.Nat.{pow-add}
use Rattle.kin_motion.specs.Tournaments.{comes_to, is_under}
use Rattle.kin_motion.proofs.NodeLaws.{not_above}

-- two nodes of one level, which has 2^m nodes
record IsOnLevel (m u : ℕ) : Type 0 where
  pub low : 2 ^ m ≤ u
  pub high : u < 2 * 2 ^ m

one_more : (m : ℕ) → 2 ^ suc m ≡ 2 * 2 ^ m
one_more m = let p = pow-add 2 m 1 in let q : 2 ^ suc m ≡ 2 ^ (m + 1) = ap (λ (k : ℕ). 2 ^ k) (let r : suc m ≡ m + 1 = omega arith in r) in omega arith

level_up : (m u : ℕ) → IsOnLevel (suc m) u → IsOnLevel m (u / 2)
level_up m u l = let p = one_more m in record { low = omega (arith, l.low, l.high); high = omega (arith, l.low, l.high) }

-- on one level those that come to 2v are less than those that come to 2v + 1
apart : (m h u w v : ℕ) → 0 < v → IsOnLevel m u → IsOnLevel m w → comes_to h u (2 * v) ≡ true → comes_to h w (2 * v + 1) ≡ true → u < w
apart m zero u w v some a b e f = let p : u ≡ 2 * v = grind (arith, nat_tests, e) in let q : w ≡ 2 * v + 1 = grind (arith, nat_tests, f) in omega arith
apart zero (suc h) u w v some a b e f = at (or_cases (nat_eq w (2 * v + 1)) (comes_to h (w / 2) (2 * v + 1)) f)
  where
    at : (nat_eq w (2 * v + 1) ≡ true) ⊎ (comes_to h (w / 2) (2 * v + 1) ≡ true) → u < w
    at (inl k) = let q : w ≡ 2 * v + 1 = grind (arith, nat_tests, k) in let one : 2 ^ 0 ≡ 1 = refl in absurd (omega (arith, b.high))
    at (inr k) = let q = not_above h (w / 2) (2 * v + 1) k in let one : 2 ^ 0 ≡ 1 = refl in absurd (omega (arith, b.high))
apart (suc m) (suc h) u w v some a b e f = at (or_cases (nat_eq u (2 * v)) (comes_to h (u / 2) (2 * v)) e) (or_cases (nat_eq w (2 * v + 1)) (comes_to h (w / 2) (2 * v + 1)) f) (apart m h (u / 2) (w / 2) v some (level_up m u a) (level_up m w b))
  where
    at : (nat_eq u (2 * v) ≡ true) ⊎ (comes_to h (u / 2) (2 * v) ≡ true) → (nat_eq w (2 * v + 1) ≡ true) ⊎ (comes_to h (w / 2) (2 * v + 1) ≡ true) → (comes_to h (u / 2) (2 * v) ≡ true → comes_to h (w / 2) (2 * v + 1) ≡ true → u / 2 < w / 2) → u < w
    at (inl k) (inl j) rest = let p : u ≡ 2 * v = grind (arith, nat_tests, k) in let q : w ≡ 2 * v + 1 = grind (arith, nat_tests, j) in omega arith
    at (inl k) (inr j) rest = let p : u ≡ 2 * v = grind (arith, nat_tests, k) in let q = not_above h (w / 2) (2 * v + 1) j in omega arith
    at (inr k) (inl j) rest =
        let p = not_above h (u / 2) (2 * v) k in
        let q : w ≡ 2 * v + 1 = grind (arith, nat_tests, j) in
        let r = one_more m in
        absurd (omega (arith, a.high, b.low))
    at (inr k) (inr j) rest = let r = rest k j in omega arith

-- a slot under the left half of a node has a lesser number than one under the right half
pub halves_apart : (size v i j : ℕ) → 0 < v → (i < 2 ^ size) × (is_under size (2 * v) i ≡ true) → (j < 2 ^ size) × (is_under size (2 * v + 1) j ≡ true) → i < j
halves_apart size v i j some a b =
    let low = apart size size (2 ^ size + i) (2 ^ size + j) v some (record { low = omega arith; high = omega (arith, a.0) }) (record { low = omega arith; high = omega (arith, b.0) }) a.1 b.1 in
    omega arith
