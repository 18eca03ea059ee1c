-- Motions and moments, as numbers give them.
use Rattle.std.specs.Prelude.{◌≡◌, Bool, ℤ, Some, None}
use Rattle.kin_num.specs.declared.instant.Moment.{Moment}
use Rattle.kin_num.specs.declared.instant.Phase.TheVariants.{At}
use Rattle.kin_num.specs.Canonical.{IsCanonical}
use Rattle.kin_num.specs.Quadratic.{IsSmall, quadratic}
use Rattle.kin_motion.specs.Course.{Course, IsSlow}
use Rattle.kin_instant.specs.Roots.{IsFraction}
use Rattle.kin_instant.specs.Sides.{IsRootOn}
use Rattle.kin_tracker.specs.declared.refusal.Refusal.{Refusal}
use Rattle.kin_tracker.specs.declared.refusal.Refusal.TheVariants.{BadNumber, NoRoot}
use Rattle.kin_tracker.specs.Ranges.{IsFractionInRange}

-- why there is no such motion
abbrev pub IsRefusedMotion : Course → Refusal → Type 0
IsRefusedMotion motion BadNumber = ¬ (IsSlow motion)
IsRefusedMotion motion _ = ⊥

-- at the instant n/d
pub record IsAtFraction (n d : ℤ) (m : Moment) : Type 0 where
  pub canonical : IsCanonical m.at
  pub fraction : IsFraction n d m.at
  pub at : m.phase ≡ At

-- why there is no such fraction
abbrev pub IsRefusedFraction : ℤ → ℤ → Refusal → Type 0
IsRefusedFraction n d BadNumber = ¬ (IsFractionInRange n d)
IsRefusedFraction n d _ = ⊥

-- at the greater or the lesser root
pub record IsAtRoot (a b c : ℤ) (upper : Bool) (m : Moment) : Type 0 where
  pub root : IsRootOn (quadratic a b c) upper (Some m.at)
  pub at : m.phase ≡ At

-- why there is no such root
abbrev pub IsRefusedRoot : ℤ → ℤ → ℤ → Bool → Refusal → Type 0
IsRefusedRoot a b c upper BadNumber = ¬ (IsSmall (quadratic a b c))
IsRefusedRoot a b c upper NoRoot = IsSmall (quadratic a b c) × IsRootOn (quadratic a b c) upper None
IsRefusedRoot a b c upper _ = ⊥
