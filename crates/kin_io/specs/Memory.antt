-- The source and the sink in memory, as a caller sees them.
use Rattle.std.specs.Prelude.{◌+◌, ◌-◌, ◌^◌, ℕ, Bool, min, List, Option, None, Some, IsSomeAnd, Contains, nat_lt, if◌then◌else◌}

-- Which calls fail. The calls are numbered from 0 by 64 bits; one past the last number has none.
pub record Schedule : Type 0 where
  pub number : Option ℕ  -- of the next call
  pub failing : List ℕ  -- the numbers of the calls that fail
  pub faults : ℕ  -- how many calls have failed, at most 2^64 - 1

-- the next call's number is among those that fail
abbrev pub IsDue : Schedule → Type 0
IsDue s = IsSomeAnd s.number (Contains s.failing)

-- the number after a number
abbrev pub number_after : Option ℕ → Option ℕ
number_after None = None
number_after (Some n) = if nat_lt (n + 1) (2 ^ 64) then Some (n + 1) else None

-- the schedule after one more call
abbrev pub after_call : Schedule → Bool → Schedule
after_call s failed = record {
  number = number_after s.number;
  failing = s.failing;
  faults = if failed then min (s.faults + 1) (2 ^ 64 - 1) else s.faults;
}

-- a source in memory
pub record Supply : Type 0 where
  pub left : List ℕ  -- the bytes that it has still to give
  pub piece : ℕ  -- the most bytes that one call gives
  pub ended : Bool  -- whether the end was found last
  pub schedule : Schedule

-- a sink in memory
pub record Store : Type 0 where
  pub held : List ℕ  -- the bytes that it has taken
  pub room : ℕ  -- the most bytes that it takes in all
  pub schedule : Schedule
