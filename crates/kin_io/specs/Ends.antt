-- What one read or write says of the end, and what a write of several pieces appends.
use Rattle.std.specs.Prelude.{◌<◌, ℕ, zero, suc, Bool, true, false, List, Option, Result, Ok, Err, IfOk, take}
use Rattle.std.specs.Io.KnownBytes.{Appends}

-- whether the end was found last, after a read into a buffer of this length
abbrev pub ends_after : {E : Type 0} → Bool → Result ℕ E → ℕ → Bool
ends_after before result zero = before
ends_after before (Ok zero) (suc n) = true
ends_after before (Ok (suc k)) (suc n) = false
ends_after before (Err e) (suc n) = false

-- a write that doesn't fail takes at least one byte of a nonempty piece
abbrev pub WritesSome : {E : Type 0} → Result ℕ E → ℕ → Type 0
WritesSome result n = IfOk result (λ k. 0 < n → 0 < k)

-- a prefix of the bytes was appended
abbrev pub AppendsFront : Option (List ℕ) → Option (List ℕ) → List ℕ → Type 0
AppendsFront old new bytes = (k : ℕ) × Appends old new (take k bytes)
