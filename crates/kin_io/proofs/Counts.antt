use Rattle.std.proofs.Common.{ℕ, ◌+◌, ◌-◌, ◌^◌, min, arith, inl, inr}
use Rattle.std.proofs.lemmas.Bool.{cases_lt}
use Rattle.kin_io.specs.Causes.{Rose}

-- one more, up to the end of 64 bits
pub rose_by_one : (n : ℕ) → Rose n (min (n + 1) (2 ^ 64 - 1))
rose_by_one n = elim (cases_lt n (2 ^ 64 - 1)) [ inl below ↦ inl (omega arith) | inr above ↦ inr (omega arith) ]
