-- What the arguments ask for.
use Rattle.std.specs.Prelude.{ℕ, ◌≤◌, ◌^◌, List, [], ◌∷◌, Option, Some, None, string_bytes, codes, String, if◌then◌else◌}
use Rattle.std.specs.Global.{Global}
use Rattle.std.specs.Str.{bytes_eq}
use Rattle.kin_script.specs.Numbers.{◌>>=◌, numeral_of, up_to, at_least}
use Rattle.kin_status.specs.declared.words.Asked.{Asked}
use Rattle.kin_status.specs.declared.words.Asked.TheVariants as asked

-- a seed and a count, each in one or more digits: the seed is at most 2^32 - 1, and the count is in 1..1024
abbrev pub demo_of : List ℕ → List ℕ → Option Asked
demo_of seed count = up_to 4294967295 (numeral_of seed) >>= λ s. at_least 1 (up_to 1024 (numeral_of count)) >>= λ n. Some (asked.Demo s n)

-- the one argument run; or the one argument check; or the argument demo, a seed and a count
abbrev pub asked_of : List (String Global) → Option Asked
asked_of [] = None
asked_of (word ∷ []) =
    if bytes_eq (string_bytes word) (codes "run") then Some asked.Run
    else (if bytes_eq (string_bytes word) (codes "check") then Some asked.Check else None)
asked_of (word ∷ seed ∷ []) = None
asked_of (word ∷ seed ∷ count ∷ []) = if bytes_eq (string_bytes word) (codes "demo") then demo_of (string_bytes seed) (string_bytes count) else None
asked_of (word ∷ seed ∷ count ∷ more ∷ words) = None

-- a generated script has this count
abbrev pub IsAskable : Asked → Type 0
IsAskable asked.Run = Unit {0}
IsAskable asked.Check = Unit {0}
IsAskable (asked.Demo seed count) = (1 ≤ count) × (count ≤ 2 ^ 10)
