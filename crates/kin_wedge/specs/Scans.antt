-- A scan of a list from a place on, forwards or back.
use Rattle.std.specs.Prelude.{ℕ, ◌+◌, ◌-◌, ◌≤◌, Bool, true, false}

-- place t is at least k + 1 steps after the place of the apex, as the list is read
abbrev pub IsAhead : Bool → ℕ → ℕ → ℕ → Type 0
IsAhead true place k t = t + k + 1 ≤ place
IsAhead false place k t = place + k + 1 ≤ t

-- the place that is k + 1 steps after the apex
abbrev pub step_to : Bool → ℕ → ℕ → ℕ
step_to true place k = place - 1 - k
step_to false place k = place + 1 + k

-- how many places are after the apex
abbrev pub steps_in : Bool → ℕ → ℕ → ℕ
steps_in true place len = place
steps_in false place len = len - place - 1
