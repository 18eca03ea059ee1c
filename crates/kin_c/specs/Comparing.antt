-- Which of two moments comes first.
use Rattle.std.specs.Prelude.{◌≡◌, ◌⊎◌, ℕ}
use Rattle.kin_num.specs.declared.instant.Moment.{Moment}
use Rattle.kin_num.specs.Order.{IsEarlier}
use Rattle.kin_c.specs.declared.moment.KinMoment.{KinMoment}
use Rattle.kin_c.specs.declared.status.Status.{Status}
use Rattle.kin_c.specs.declared.status.Status.TheVariants.{Done}
use Rattle.kin_c.specs.Calls.{Reads}
use Rattle.kin_c.specs.Moments.{IsNoMoment, Names}

-- 1 where the first comes before the second, and 0 where it doesn't
abbrev pub IsEarlierNumber : Moment → Moment → ℕ → Type 0
IsEarlierNumber m n number = ((number ≡ 1) × IsEarlier m n) ⊎ ((number ≡ 0) × ¬ (IsEarlier m n))

-- a moment with one that is given as numbers
abbrev pub ComparesWith : Moment → KinMoment → ℕ → ℕ → Status → Type 0
ComparesWith m other before after = Reads (Names other) (IsNoMoment other) (after ≡ before) (λ n status. (status ≡ Done) × IsEarlierNumber m n after)

-- two that are given as numbers
abbrev pub Compares : KinMoment → KinMoment → ℕ → ℕ → Status → Type 0
Compares one other before after = Reads (Names one) (IsNoMoment one) (after ≡ before) (λ m. ComparesWith m other before after)
