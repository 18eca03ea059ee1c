-- What holds of the bounds on cost. It is promised by the function of the module `laws`.
use Rattle.std.specs.Prelude.{ℕ, ◌+◌, ◌*◌, ◌^◌, ◌≤◌}
use Rattle.kin_cert.specs.Cost.{IsEnough}

-- for each number of facts there is a greatest r with 2^r ≤ (n + 1)^2, and it is enough
abbrev pub MostComparisonsExist : Type 0
MostComparisonsExist = (n : ℕ) → (r : ℕ) × (2 ^ r ≤ (n + 1) * (n + 1)) × IsEnough n r
