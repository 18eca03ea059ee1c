-- The real roots of a quadratic, as instants.
use Rattle.std.specs.Prelude.{◌≡◌, ◌⊎◌, ◌↔◌, Option, Some, None, ℕ, ℤ, ◌*ℤ◌}
use Rattle.kin_algebra.specs.declared.sign.Sign.{Sign}
use Rattle.kin_algebra.specs.declared.sign.Sign.TheVariants.{Minus, Zero, Plus}
use Rattle.kin_algebra.specs.Signs.{sign_of}
use Rattle.kin_num.specs.declared.instant.Shape.{Shape}
use Rattle.kin_num.specs.declared.instant.Shape.TheVariants.{Ratio, Root}
use Rattle.kin_num.specs.Quadratic.{Quadratic}
pub use Rattle.kin_num.specs.Quadratic.{quadratic}
use Rattle.kin_num.specs.Canonical.{IsCanonical, IsCanonicalForm, IsLowest, IsSmallRatio, discriminant}
use Rattle.kin_num.specs.Instants.{sign_at_instant}
use Rattle.kin_num.specs.Order.{IsLess}
use Rattle.kin_instant.specs.declared.roots.Roots.{Roots}
use Rattle.kin_instant.specs.declared.roots.Roots.TheVariants.{Nowhere, One, Two, All}

-- the instant is the fraction n/d
abbrev pub IsFraction : ℤ → ℤ → Shape → Type 0
IsFraction n d (Ratio m e) = m *ℤ d ≡ n *ℤ e
IsFraction n d (Root a b c upper) = ⊥

-- the answer has the instant
abbrev pub HasRoot : Roots → Shape → Type 0
HasRoot Nowhere w = ⊥
HasRoot (One r) w = w ≡ r
HasRoot (Two r s) w = (w ≡ r) ⊎ (w ≡ s)
HasRoot All w = Unit {0}

-- each single instant in the answer is canonical
abbrev pub AreCanonical : Roots → Type 0
AreCanonical Nowhere = Unit {0}
AreCanonical (One r) = IsCanonical r
AreCanonical (Two r s) = IsCanonical r × IsCanonical s
AreCanonical All = Unit {0}

-- of two roots the first is the lesser one
abbrev pub IsRising : Roots → Type 0
IsRising Nowhere = Unit {0}
IsRising (One r) = Unit {0}
IsRising (Two r s) = IsLess r s
IsRising All = Unit {0}

-- how many roots the answer has, if not all instants
abbrev pub count_of : Roots → Option ℕ
count_of Nowhere = Some 0
count_of (One r) = Some 1
count_of (Two r s) = Some 2
count_of All = None

-- the number of real roots by the signs of the coefficients and of the discriminant: `None` where all instants are roots
abbrev pub count_by_signs : Sign → Sign → Sign → Sign → Option ℕ
count_by_signs Zero Zero Zero d = None
count_by_signs Zero Zero Minus d = Some 0
count_by_signs Zero Zero Plus d = Some 0
count_by_signs Zero Minus c d = Some 1
count_by_signs Zero Plus c d = Some 1
count_by_signs Minus b c Minus = Some 0
count_by_signs Minus b c Zero = Some 1
count_by_signs Minus b c Plus = Some 2
count_by_signs Plus b c Minus = Some 0
count_by_signs Plus b c Zero = Some 1
count_by_signs Plus b c Plus = Some 2

-- the number of real roots of a quadratic
abbrev pub root_count : Quadratic → Option ℕ
root_count p = count_by_signs (sign_of p.a) (sign_of p.b) (sign_of p.c) (sign_of (discriminant p.a p.b p.c))

-- the answer lists, by rising time, exactly the canonical forms of the real roots
pub record AreRootsOf (p : Quadratic) (answer : Roots) : Type 0 where
  pub canonical : AreCanonical answer
  pub exact : (w : Shape) → IsCanonicalForm w → (sign_at_instant p w ≡ Zero) ↔ HasRoot answer w
  pub rising : IsRising answer
  pub number : count_of answer ≡ root_count p

-- ---- inside the crate: no public clause cites what follows

-- in lowest terms n/d is within the bounds of an instant
abbrev pub IsSmallInLowestTerms : ℤ → ℤ → Type 0
IsSmallInLowestTerms n d = (m e : ℤ) → IsLowest m e → IsFraction n d (Ratio m e) → IsSmallRatio m e
