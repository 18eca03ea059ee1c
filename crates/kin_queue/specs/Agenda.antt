-- What a queue means.
use Rattle.std.specs.Prelude.{◌≡◌, ℕ, Option, Some, None, refl}
use Rattle.std.specs.Ordering.{nat_cmp}
use Rattle.std.specs.FinMap as map
use Rattle.std.specs.FinMap.{FinMap, get, empty, remove}
use Rattle.std.specs.Coded.{Coded, code_by, coded×, coded_ℕ, coded_option}
use Rattle.kin_num.specs.declared.instant.Moment.{Moment}
use Rattle.kin_num.specs.contracts.instant.Moment as moment
use Rattle.kin_num.specs.Order.{IsEarlier}

-- the moment of each id, and the entry that comes next
pub record Agenda : Type 0 where
  pub moments : FinMap nat_cmp Moment
  pub next : Option (ℕ × Moment)

abbrev pub agenda_code : Coded Agenda
agenda_code =
    code_by
    (FinMap nat_cmp Moment × Option (ℕ × Moment))
    (coded× (map.code coded_ℕ moment.the_row.coded) (coded_option (coded× coded_ℕ moment.the_row.coded)))
    (λ a. (a.moments, a.next))
    (λ p. record { moments = p.0; next = p.1 })
    (λ _. refl)

-- an entry, and no other is at an earlier moment
pub record IsLeast (moments : FinMap nat_cmp Moment) (entry : ℕ × Moment) : Type 0 where
  pub there : get moments entry.0 ≡ Some entry.1
  pub least : (id : ℕ) (at : Moment) → get moments id ≡ Some at → ¬ (IsEarlier at entry.1)

-- an entry of least moment, or nothing exactly where there is none
abbrev pub IsNext : FinMap nat_cmp Moment → Option (ℕ × Moment) → Type 0
IsNext moments None = moments ≡ empty
IsNext moments (Some entry) = IsLeast moments entry

-- the map after the entry is taken out
abbrev pub without : FinMap nat_cmp Moment → Option (ℕ × Moment) → FinMap nat_cmp Moment
without moments None = moments
without moments (Some entry) = remove moments entry.0
