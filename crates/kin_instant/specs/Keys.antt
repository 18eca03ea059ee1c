-- The key of a moment: a whole number that grows with the time, and what else of the moment is known.
use Rattle.std.specs.Prelude.{◌≡◌, ◌≢◌, ◌⊎◌, ℕ, ◌+◌, ◌/◌, ◌<◌, ◌≤◌, ◌^◌, Bool, true, false, ℤ, pos, ◌+ℤ◌, ◌-ℤ◌, ◌*ℤ◌, ◌<ℤ◌}
use lib.IntN.{neg_ℤ}
use Rattle.kin_algebra.specs.declared.sign.Sign.TheVariants.{Minus}
use Rattle.kin_num.specs.declared.instant.Shape.{Shape}
use Rattle.kin_num.specs.declared.instant.Shape.TheVariants.{Ratio, Root}
use Rattle.kin_num.specs.declared.instant.Moment.{Moment}
use Rattle.kin_num.specs.Instants.{sign_at_instant, line}
use Rattle.kin_instant.specs.declared.key.Key.{Key}

-- the whole part of 2^32 times the instant, or 0 where the instant is before 0
pub record IsSpanOf (s : ℕ) (w : Shape) : Type 0 where
  pub before_end : sign_at_instant (line (pos (s + 1)) (pos (2 ^ 32))) w ≡ Minus
  pub from_start : 0 < s → sign_at_instant (line (pos s) (pos (2 ^ 32))) w ≢ Minus

-- a fraction from 0 on whose denominator is at most 2^16
abbrev pub IsCoarse : Shape → Type 0
IsCoarse (Ratio n d) = (m e : ℕ) × (n ≡ pos m) × (d ≡ pos e) × (e ≤ 2 ^ 16)
IsCoarse (Root a b c upper) = ⊥

-- the key has the moment's span and phase, and isn't vague only where the instant is a coarse fraction
pub record IsKeyOf (k : Key) (m : Moment) : Type 0 where
  pub span : IsSpanOf k.span m.at
  pub phase : k.phase ≡ m.phase
  pub exact : (k.is_vague ≡ true) ⊎ IsCoarse m.at

-- ---- inside the crate: no public clause cites what follows

-- half of 2^32 times -b and r more, or more than r less, down to a whole number
abbrev pub half_numerator_of : ℤ → ℕ → Bool → ℤ
half_numerator_of b r true = pos (2 ^ 31) *ℤ neg_ℤ b +ℤ pos (r / 2)
half_numerator_of b r false = pos (2 ^ 31) *ℤ neg_ℤ b -ℤ pos (r / 2 + 1)

-- a whole number, or 0 for a negative one
abbrev pub IsCutOff : ℕ → ℤ → Type 0
IsCutOff n z = (pos n ≡ z) ⊎ ((n ≡ 0) × (z <ℤ pos 0))
