-- What the calls of a table cost.
use Rattle.std.specs.Prelude.{ℕ, ◌+◌, ◌*◌, ◌^◌, ◌≤◌, Bool, not, ◌&&◌, List, length, count_by}
use Rattle.std.specs.List.{list_any}
use Rattle.std.specs.Ordering.{int_eq}
use lib.Pointwise.{pointwise}
use Rattle.kin_motion.specs.declared.fact.Placed.{Placed}
use Rattle.kin_motion.specs.Deltas.{Change}
use Rattle.kin_cert.specs.Facts.{LiveFact}
use Rattle.kin_fail.specs.Rank.{padded_rank}

-- no call of a queue of at most n entries compares moments more than r times; the least such r is the greatest with 2^r ≤ (n + 1)^2
abbrev pub IsEnough : ℕ → ℕ → Type 0
IsEnough n r = (c : ℕ) → 2 ^ c ≤ (n + 1) * (n + 1) → c ≤ r

-- the count rose at most by this cost, for an r that is enough for n facts
abbrev pub TakesAtMost : ℕ → (ℕ → ℕ) → ℕ → ℕ → Type 0
TakesAtMost n cost old new = (r : ℕ) → IsEnough n r → new ≤ old + cost r

-- whether the live fact has the rank of this one, and so its owner and form
abbrev pub is_of : ℕ → Placed → LiveFact → Bool
is_of structure p l = pointwise int_eq (padded_rank l.certificate.structure l.certificate.placed.part l.certificate.placed.fact.form) (padded_rank structure p.part p.fact.form)

-- whether the fact is live and wasn't given
abbrev pub is_ungiven : ℕ → List LiveFact → Placed → Bool
is_ungiven structure live p = list_any (λ l. not l.waits && is_of structure p l) live

-- how many of these facts weren't given
abbrev pub ungiven : ℕ → List LiveFact → List Placed → ℕ
ungiven structure live ps = count_by (is_ungiven structure live) ps

-- r for each dropped fact that wasn't given, and one more than r for each born one
abbrev pub change_cost : ℕ → Change → List LiveFact → ℕ → ℕ
change_cost structure change live r = ungiven structure live change.dropped * r + length change.born * (r + 1)

-- how many facts were given and wait
abbrev pub waiting_count : List LiveFact → ℕ
waiting_count live = count_by (λ l. l.waits) live
