-- The order of instants and of moments.
use Rattle.std.specs.Prelude.{◌≡◌, ◌≢◌, ◌⊎◌, ℤ, pos, ◌<ℤ◌}
use Rattle.kin_algebra.specs.declared.sign.Sign.TheVariants.{Plus}
use Rattle.kin_num.specs.declared.instant.Shape.{Shape}
use Rattle.kin_num.specs.declared.instant.Phase.TheVariants.{At, After}
use Rattle.kin_num.specs.declared.instant.Moment.{Moment}
use Rattle.kin_num.specs.Instants.{sign_at_instant, line}

-- the fraction n/d lies at or after v, and before w
pub record Separates (v w : Shape) (n d : ℤ) : Type 0 where
  pub proper : pos 0 <ℤ d
  pub first : sign_at_instant (line n d) v ≢ Plus
  pub second : sign_at_instant (line n d) w ≡ Plus

-- some fraction separates the two instants
abbrev pub IsLess : Shape → Shape → Type 0
IsLess v w = (n d : ℤ) × Separates v w n d

-- neither is less
abbrev pub AreLevel : Shape → Shape → Type 0
AreLevel v w = ¬ (IsLess v w) × ¬ (IsLess w v)

-- the instant is earlier, or the instants are level and the first moment is at it, the second just after it
abbrev pub IsEarlier : Moment → Moment → Type 0
IsEarlier m n = IsLess m.at n.at ⊎ (AreLevel m.at n.at × (m.phase ≡ At) × (n.phase ≡ After))
