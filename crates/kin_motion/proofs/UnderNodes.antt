-- Which slots are under a node.
use Rattle.std.proofs.Common.{refl, ◌≡◌, ◌≢◌, ◌⊎◌, inl, inr, sym, ◌∙◌, arith, ℕ, zero, suc, ◌+◌, ◌*◌, ◌/◌, ◌^◌, ◌<◌, ◌≤◌, Bool, true, false, nat_eq}
use Rattle.std.proofs.lemmas.Bool.Decides.{nat_tests}
use Rattle.std.proofs.lemmas.Nat.{pow-add}
use Rattle.std.proofs.Math.Pow.{pow_pos}
use Rattle.std.proofs.lemmas.Bool.{or_cases, or_left, or_right, eq-eqb}
use Rattle.std.proofs.Math.Nat.{pow-succ'}
use Rattle.kin_motion.specs.Tournaments.{comes_to, is_under}
use Rattle.kin_motion.proofs.TournamentLaws.{is_under-halves}
use Rattle.kin_motion.proofs.NodeLaws.{not_above, not_both_halves}

-- below twice a node only the node itself comes to it
comes_to-own : (h u v : ℕ) → u < 2 * v → comes_to h u v ≡ true → u ≡ v
comes_to-own zero u v low e = grind (arith, nat_tests, e)
comes_to-own (suc h) u v low e = at (or_cases (nat_eq u v) (comes_to h (u / 2) v) e)
  where
    at : (nat_eq u v ≡ true) ⊎ (comes_to h (u / 2) v ≡ true) → u ≡ v
    at (inl f) = grind (arith, nat_tests, f)
    at (inr f) = let k = not_above h (u / 2) v f in absurd (omega arith)

comes_to-itself : (h u : ℕ) → comes_to h u u ≡ true
comes_to-itself zero u = eq-eqb u u refl
comes_to-itself (suc h) u = or_left (nat_eq u u) (comes_to h (u / 2) u) (eq-eqb u u refl)

never_none : (h u : ℕ) → 2 ^ h ≤ u → comes_to h u 0 ≡ true → ⊥
never_none zero u big e = let same : u ≡ 0 = grind (arith, nat_tests, e) in absurd (omega arith)
never_none (suc h) u big e = at (or_cases (nat_eq u 0) (comes_to h (u / 2) 0) e) (never_none h (u / 2) (let p = pow-succ' 2 h in omega arith))
  where
    at : (nat_eq u 0 ≡ true) ⊎ (comes_to h (u / 2) 0 ≡ true) → (comes_to h (u / 2) 0 ≡ true → ⊥) → ⊥
    at (inl f) rest = let same : u ≡ 0 = grind (arith, nat_tests, f) in absurd (let p = pow-succ' 2 h in omega (arith, pow_pos h))
    at (inr f) rest = rest f

-- a slot is under its own leaf
pub is_under-leaf : (size i : ℕ) → is_under size (2 ^ size + i) i ≡ true
is_under-leaf size i = comes_to-itself size (2 ^ size + i)

-- and no other slot is
pub is_under-leaf_alone : (size i j : ℕ) → i < 2 ^ size → is_under size (2 ^ size + j) i ≡ true → i ≡ j
is_under-leaf_alone size i j low e = let k = comes_to-own size (2 ^ size + i) (2 ^ size + j) (omega arith) e in omega arith

-- no slot is under node 0
pub is_under-none : (size i : ℕ) → is_under size 0 i ≡ true → ⊥
is_under-none size i e = never_none size (2 ^ size + i) (omega arith) e

-- a node has a number below those of its leaves
pub is_under-le : (size v i : ℕ) → is_under size v i ≡ true → v ≤ 2 ^ size + i
is_under-le size v i e = not_above size (2 ^ size + i) v e

-- no slot is under both halves of a node
pub is_under-one_half : (size v i : ℕ) → 0 < v → is_under size (2 * v) i ≡ true → is_under size (2 * v + 1) i ≡ true → ⊥
is_under-one_half size v i = not_both_halves size (2 ^ size + i) v

pub is_under-left : (size v i : ℕ) → 0 < v → v < 2 ^ size → i < 2 ^ size → is_under size (2 * v) i ≡ true → is_under size v i ≡ true
is_under-left size v i some inner low e = is_under-halves size v i some inner low ∙ or_left (is_under size (2 * v) i) (is_under size (2 * v + 1) i) e

pub is_under-right : (size v i : ℕ) → 0 < v → v < 2 ^ size → i < 2 ^ size → is_under size (2 * v + 1) i ≡ true → is_under size v i ≡ true
is_under-right size v i some inner low e = is_under-halves size v i some inner low ∙ or_right (is_under size (2 * v) i) (is_under size (2 * v + 1) i) e

pub is_under-cases : (size v i : ℕ) → 0 < v → v < 2 ^ size → i < 2 ^ size → is_under size v i ≡ true → (is_under size (2 * v) i ≡ true) ⊎ (is_under size (2 * v + 1) i ≡ true)
is_under-cases size v i some inner low e = or_cases (is_under size (2 * v) i) (is_under size (2 * v + 1) i) (sym (is_under-halves size v i some inner low) ∙ e)

-- ---- the root
comes_to-root : (h u : ℕ) → 1 ≤ u → u < 2 * 2 ^ h → comes_to h u 1 ≡ true
comes_to-root zero u some low = let same : u ≡ 1 = omega arith in grind (arith, nat_tests, same)
comes_to-root (suc h) u some low = at (nat_eq u 1) refl (λ l. comes_to-root h (u / 2) l (let p = pow-succ' 2 h in omega arith))
  where
    at : (b : Bool) → nat_eq u 1 ≡ b → (1 ≤ u / 2 → comes_to h (u / 2) 1 ≡ true) → comes_to (suc h) u 1 ≡ true
    at true e rest = or_left (nat_eq u 1) (comes_to h (u / 2) 1) e
    at false e rest = let n : u ≢ 1 = grind (arith, nat_tests, e) in or_right (nat_eq u 1) (comes_to h (u / 2) 1) (rest (omega arith))

-- every slot is under the root
pub under_root : (size i : ℕ) → i < 2 ^ size → is_under size 1 i ≡ true
under_root size i low = comes_to-root size (2 ^ size + i) (omega (arith, pow_pos size)) (omega arith)

-- the root is a node
pub root_low : (size : ℕ) → 1 < 2 ^ (size + 1)
root_low size = let p = pow-add 2 size 1 in omega (arith, p, pow_pos size)
