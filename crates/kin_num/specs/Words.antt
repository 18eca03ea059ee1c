-- An instant as it lies in memory. No public clause cites this module.
use Rattle.std.proofs.Common.{◌≡◌, ℕ, zero, suc, true, false, ℤ, pos, cond}
use Rattle.kin_num.specs.declared.instant.Shape.{Shape}
use Rattle.kin_num.specs.declared.instant.Shape.TheVariants.{Ratio, Root}
use Rattle.kin_num.specs.Canonical.{IsCanonical}

-- a kind, and the numbers of a shape
pub record Words : Type 0 where
  pub kind : ℕ
  pub first : ℤ
  pub second : ℤ
  pub third : ℤ

-- of kind 0 a fraction, of kind 1 the lesser root of a quadratic, of any other kind the greater one
abbrev pub shape_of_kind : ℕ → ℤ → ℤ → ℤ → Shape
shape_of_kind zero x y z = Ratio x y
shape_of_kind (suc zero) x y z = Root x y z false
shape_of_kind (suc (suc k)) x y z = Root x y z true

abbrev pub shape_in : Words → Shape
shape_in w = shape_of_kind w.kind w.first w.second w.third

abbrev pub words_of : Shape → Words
words_of (Ratio n d) = record { kind = 0; first = n; second = d; third = pos 0 }
words_of (Root a b c upper) = record { kind = cond upper 2 1; first = a; second = b; third = c }

-- the shape is canonical, and these are its words
pub record AreWords (w : Words) : Type 0 where
  pub canonical : IsCanonical (shape_in w)
  pub known : words_of (shape_in w) ≡ w
