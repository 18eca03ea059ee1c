-- Moments as plain numbers.
use Rattle.std.specs.Prelude.{◌≡◌, ◌⊎◌, ℕ, ◌<◌, ◌≤◌, ℤ, pos, Bool, true, false, Option, Some, None}
use Rattle.kin_num.specs.declared.instant.Moment.{Moment}
use Rattle.kin_num.specs.declared.instant.Phase.{Phase}
use Rattle.kin_num.specs.declared.instant.Phase.TheVariants.{At, After}
use Rattle.kin_num.specs.declared.instant.Shape.{Shape}
use Rattle.kin_num.specs.declared.instant.Shape.TheVariants.{Ratio, Root}
use Rattle.kin_num.specs.Canonical.{IsCanonical, IsLowest, IsSmallRatio}
use Rattle.kin_num.specs.Quadratic.{IsSmall, quadratic}
use Rattle.kin_instant.specs.Roots.{IsFraction}
use Rattle.kin_instant.specs.Sides.{IsRootOn}
use Rattle.kin_tracker.specs.declared.refusal.Refusal.{Refusal}
use Rattle.kin_tracker.specs.declared.refusal.Refusal.TheVariants.{BadNumber, NoRoot}
use Rattle.kin_tracker.specs.Ranges.{IsFractionInRange}
use Rattle.kin_c.specs.declared.moment.KinMoment.{KinMoment}

-- ---- a moment that goes out

-- 0 at an instant, and 1 just after it
abbrev pub phase_number : Phase → ℕ
phase_number At = 0
phase_number After = 1

-- the kind of a root
abbrev pub root_kind : Bool → ℕ
root_kind false = 1
root_kind true = 2

-- an instant and a phase, as numbers
abbrev pub instant_numbers : Shape → ℕ → KinMoment
instant_numbers (Ratio n d) after = record { kind = 0; a = n; b = d; c = pos 0; after = after }
instant_numbers (Root a b c upper) after = record { kind = root_kind upper; a = a; b = b; c = c; after = after }

-- a moment as numbers
abbrev pub moment_numbers : Moment → KinMoment
moment_numbers m = instant_numbers m.at (phase_number m.phase)

-- equal numbers are those of one moment
abbrev pub OneMoment : Type 0
OneMoment = (m n : Moment) → moment_numbers m ≡ moment_numbers n → m ≡ n

-- the moment, if there is one, and whether there is
abbrev pub IsMaybe : Option Moment → KinMoment → KinMoment → ℕ → Type 0
IsMaybe None before after len = (after ≡ before) × (len ≡ 0)
IsMaybe (Some m) before after len = (after ≡ moment_numbers m) × (len ≡ 1)

-- ---- a moment that comes in

-- in lowest terms and small, or smaller and in any terms
abbrev pub IsFractionGiven : ℤ → ℤ → Type 0
IsFractionGiven n d = (IsLowest n d × IsSmallRatio n d) ⊎ IsFractionInRange n d

-- the numbers are in their ranges
pub record IsInRange (k : KinMoment) : Type 0 where
  pub kind : k.kind ≤ 2
  pub after : k.after ≤ 1
  pub fraction : k.kind ≡ 0 → IsFractionGiven k.a k.b
  pub root : 0 < k.kind → IsSmall (quadratic k.a k.b k.c)

-- of kind 0 the fraction a/b, of kind 1 the lesser root of a*t^2 + b*t + c, and of kind 2 the greater one
pub record IsInstant (k : KinMoment) (at : Shape) : Type 0 where
  pub fraction : k.kind ≡ 0 → IsCanonical at × IsFraction k.a k.b at
  pub lesser : k.kind ≡ 1 → IsRootOn (quadratic k.a k.b k.c) false (Some at)
  pub greater : k.kind ≡ 2 → IsRootOn (quadratic k.a k.b k.c) true (Some at)

-- the numbers name the moment
pub record Names (k : KinMoment) (m : Moment) : Type 0 where
  pub range : IsInRange k
  pub instant : IsInstant k m.at
  pub phase : k.after ≡ phase_number m.phase

-- there is no such root
pub record IsNoInstant (k : KinMoment) : Type 0 where
  pub root : 0 < k.kind
  pub lesser : k.kind ≡ 1 → IsRootOn (quadratic k.a k.b k.c) false None
  pub greater : k.kind ≡ 2 → IsRootOn (quadratic k.a k.b k.c) true None

-- why the numbers name no moment
abbrev pub IsNoMoment : KinMoment → Refusal → Type 0
IsNoMoment k BadNumber = ¬ (IsInRange k)
IsNoMoment k NoRoot = IsInRange k × IsNoInstant k
IsNoMoment k _ = ⊥
