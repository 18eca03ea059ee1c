-- A whole number between two neighbouring squares is radical.
use Rattle.std.proofs.Common.{◌≡◌, ℕ, zero, suc, Bool, true, false, ◌+◌, ◌*◌, ◌<◌, ◌≤◌, ℤ, pos, ◌*ℤ◌, unsigned_abs, sym, refl, ap, ◌∙◌, arith}
use Rattle.std.specs.Prelude.{nat_le}
use Rattle.std.proofs.lemmas.Int.{ints, unsigned_abs-mul}
use Rattle.std.proofs.lemmas.Bool.Decides.{nat_tests}
use Rattle.kin_algebra.proofs.Magnitudes.{zero_from_size}
use Rattle.kin_algebra.specs.Signs.{norm_of}
use Rattle.kin_algebra.proofs.IntegerSigns.{sign_of-pos}
use Rattle.kin_algebra.proofs.Radicals.{Radical}
use Rattle.kin_algebra.proofs.Descent.{none}

zero_square : (n : ℕ) → n * n ≡ 0 → n ≡ 0
zero_square zero e = refl
zero_square (suc n) e = absurd (omega (arith, e))

radical_from_root : (r E : ℕ) → 0 < E → E ≤ 2 * r → (u v : ℤ) → norm_of u v (pos (r * r + E)) ≡ pos 0 → (u ≡ pos 0) × (v ≡ pos 0)
radical_from_root r E p q u v e =
    let s : u *ℤ u ≡ (v *ℤ v) *ℤ pos (r * r + E) = omega (arith, ints, e) in
    let t : unsigned_abs u * unsigned_abs u ≡ (unsigned_abs v * unsigned_abs v) * (r * r + E) =
    sym (unsigned_abs-mul u u) ∙ ap unsigned_abs s ∙ unsigned_abs-mul (v *ℤ v) (pos (r * r + E)) ∙ ap (λ k. k * (r * r + E)) (unsigned_abs-mul v v) in
    let zv : unsigned_abs v ≡ 0 = none r E p q (suc (unsigned_abs v)) (unsigned_abs u) (unsigned_abs v) (omega arith) (omega (arith, t)) in
    let zu : unsigned_abs u * unsigned_abs u ≡ 0 = t ∙ ap (λ k. (k * k) * (r * r + E)) zv ∙ omega arith in
    (zero_from_size u (zero_square (unsigned_abs u) zu), zero_from_size v zv)

pub radical_between : (r E : ℕ) → 0 < E → E ≤ 2 * r → Radical (pos (r * r + E))
radical_between r E p q = record { positive = sign_of-pos (r * r + E) (omega arith); alone = radical_from_root r E p q }

-- ---- the greatest square below a number
-- a test that turns from false to true turns at some place
turning_at : (f : ℕ → Bool) (k : ℕ) (t : Bool) → f k ≡ t → f (suc k) ≡ true → (f k ≡ true → (n : ℕ) × (f n ≡ false) × (f (suc n) ≡ true)) → (n : ℕ) × (f n ≡ false) × (f (suc n) ≡ true)
turning_at f k true e b earlier = earlier e
turning_at f k false e b earlier = (k, e, b)

pub turning : (f : ℕ → Bool) (k : ℕ) → f 0 ≡ false → f (suc k) ≡ true → (n : ℕ) × (f n ≡ false) × (f (suc n) ≡ true)
turning f zero a b = (0, a, b)
turning f (suc k) a b = turning_at f (suc k) (f (suc k)) refl b (turning f k a)

pub square_below : (d : ℕ) → 0 < d → (r : ℕ) × (r * r < d) × (d ≤ (r + 1) * (r + 1))
square_below d some =
    let t = turning (λ k. nat_le d (k * k)) d (grind (arith, nat_tests)) (long d) in
    (t.0, not_yet d t.0 t.1, by_then d t.0 t.2)
  where
    long : (d : ℕ) → nat_le d (suc d * suc d) ≡ true
    long d = grind (arith, nat_tests)

    not_yet : (d r : ℕ) → nat_le d (r * r) ≡ false → r * r < d
    not_yet d r e = grind (arith, nat_tests, e)

    by_then : (d r : ℕ) → nat_le d (suc r * suc r) ≡ true → d ≤ (r + 1) * (r + 1)
    by_then d r e = grind (arith, nat_tests, e)
