-- The whole numbers as a commutative ring.
use Rattle.std.proofs.Common.{◌≡◌, ℕ, ◌*◌, arith, ap, refl}
use Rattle.std.specs.Prelude.{ℤ, pos, ◌+ℤ◌, ◌*ℤ◌}
use lib.IntN.{neg_ℤ, +ℤ_assoc, +ℤ_comm, +ℤ_idr, +ℤ_invr, *ℤ_comm, *ℤ-one}
use lib.IntN as IntN
use borrow.Author.Differences.{up, down, same_in, product_is, sum_is_lem}
use Rattle.kin_algebra.proofs.Rings.{CommutativeRing}

pub times_assoc_ℤ : (a b c : ℤ) → (a *ℤ b) *ℤ c ≡ a *ℤ (b *ℤ c)
times_assoc_ℤ a b c =
    let ab = product_is a b in
    let bc = product_is b c in
    same_in _ _
    (omega (
      arith,
      product_is (a *ℤ b) c,
      product_is a (b *ℤ c),
      by (up c) ab.0,
      by (down c) ab.1,
      by (down c) ab.0,
      by (up c) ab.1,
      by (up a) bc.0,
      by (down a) bc.1,
      by (down a) bc.0,
      by (up a) bc.1,
    ))
  where
    by : {m n : ℕ} (k : ℕ) → m ≡ n → m * k ≡ n * k
    by k e = ap (λ x. x * k) e

pub times_plus_ℤ : (a b c : ℤ) → a *ℤ (b +ℤ c) ≡ a *ℤ b +ℤ a *ℤ c
times_plus_ℤ a b c =
    let bc = sum_is_lem b c in
    same_in _ _
    (omega (
      arith,
      product_is a (b +ℤ c),
      product_is a b,
      product_is a c,
      sum_is_lem (a *ℤ b) (a *ℤ c),
      ap (λ x. x * up a) bc,
      ap (λ x. x * down a) bc,
    ))

pub times_one_ℤ : (a : ℤ) → a *ℤ pos 1 ≡ a
unfolding IntN.one
times_one_ℤ a = *ℤ-one a

abbrev pub integers : CommutativeRing ℤ
integers = record {
  whole = λ n. n;
  plus = ◌+ℤ◌;
  times = ◌*ℤ◌;
  negative = neg_ℤ;
  plus_assoc = +ℤ_assoc;
  plus_comm = +ℤ_comm;
  plus_zero = +ℤ_idr;
  plus_negative = +ℤ_invr;
  times_assoc = times_assoc_ℤ;
  times_comm = *ℤ_comm;
  times_one = times_one_ℤ;
  times_plus = times_plus_ℤ;
  whole_plus = λ m n. refl;
  whole_times = λ m n. refl;
}
