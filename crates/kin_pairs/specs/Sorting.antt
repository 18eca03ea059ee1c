-- Facts in the first n parts, and facts of a tournament, which are n parts further on.
use Rattle.std.specs.Prelude.{◌≡◌, ◌≢◌, ℕ, ◌-◌, Bool, nat_lt, not, List, [], filter, map}
use Rattle.kin_motion.specs.declared.fact.Placed.{Placed}

-- whether a fact is in one of the first n parts
abbrev pub is_before : ℕ → Placed → Bool
is_before n p = nat_lt p.part n

-- whether it is in a later part
abbrev pub is_beyond : ℕ → Placed → Bool
is_beyond n p = not (nat_lt p.part n)

-- a fact of the tournament in its own part
abbrev pub taken_back : ℕ → Placed → Placed
taken_back n p = record { part = p.part - n; fact = p.fact }

-- the failed facts of the first parts, where they are kept, and those of the tournament
pub record Letters : Type 0 where
  pub others : List Placed
  pub pairs : List Placed

-- failed facts are sorted: the second list holds those of the tournament, and where there are some, the first holds the others
pub record IsSortedMail (n : ℕ) (failed : List Placed) (sorted : Letters) : Type 0 where
  pub pairs : sorted.pairs ≡ map (taken_back n) (filter (is_beyond n) failed)
  pub others : sorted.pairs ≢ [] → sorted.others ≡ filter (is_before n) failed
  pub all : sorted.pairs ≡ [] → filter (is_before n) failed ≡ failed
