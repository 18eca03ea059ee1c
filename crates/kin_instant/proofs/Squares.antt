-- What squares leave when they are divided.
use Rattle.std.proofs.Common.{◌≡◌, ◌⊎◌, inl, inr, ℕ, zero, suc, ◌*◌, ◌%◌, ◌<◌, Bool, true, false, arith, refl, ap, sym, ◌∙◌, subst}
use Rattle.std.proofs.lemmas.Nat.{mul-mod}
use Rattle.std.proofs.Math.Nat.{mod-lt}

abbrev both : Bool → Bool → Bool
both true b = b
both false b = false

-- what the squares of all numbers below m leave at n passes the test
abbrev pub all_pass : (ℕ → Bool) → ℕ → ℕ → Bool
all_pass test n zero = true
all_pass test n (suc k) = both (test (k * k % n)) (all_pass test n k)

parts : (b d : Bool) → both b d ≡ true → (b ≡ true) × (d ≡ true)
parts true d e = (refl, e)
parts false d e = absurd (let f : false ≡ true = e in cc)

below : (test : ℕ → Bool) (n m : ℕ) → all_pass test n m ≡ true → (k : ℕ) → k < m → test (k * k % n) ≡ true
below test n zero e k l = absurd (omega (arith, l))
below test n (suc m) e k l =
    let p = parts (test (m * m % n)) (all_pass test n m) e in
    elim (place k m l) [
      | inl h ↦ below test n m p.1 k h
      | inr h ↦ subst (λ (x : ℕ). test (x * x % n) ≡ true) (sym h) p.0
    ]
  where
    place : (k m : ℕ) → k < suc m → (k < m) ⊎ (k ≡ m)
    place k m l = grind (arith, l)

-- and so does what all squares leave
pub squares_pass : (test : ℕ → Bool) (n : ℕ) → 0 < n → all_pass test n n ≡ true → (k : ℕ) → test (k * k % n) ≡ true
squares_pass test n h e k = ap test (mul-mod k k n) ∙ below test n n e (k % n) (mod-lt k h)
