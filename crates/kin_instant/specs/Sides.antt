-- The lesser and the greater root.
use Rattle.std.specs.Prelude.{◌≡◌, Bool, true, false, Option, Some, None}
use Rattle.kin_num.specs.declared.instant.Shape.{Shape}
use Rattle.kin_num.specs.Quadratic.{Quadratic}
use Rattle.kin_instant.specs.declared.roots.Roots.{Roots}
use Rattle.kin_instant.specs.declared.roots.Roots.TheVariants.{Nowhere, One, Two, All}
use Rattle.kin_instant.specs.Roots.{AreRootsOf}

-- of two roots the greater one or the lesser one, and of one that one
abbrev pub root_on : Bool → Roots → Option Shape
root_on upper Nowhere = None
root_on upper (One r) = Some r
root_on true (Two r s) = Some s
root_on false (Two r s) = Some r
root_on upper All = None

-- the greater or the lesser real root of the polynomial, or none where it has none
pub record IsRootOn (p : Quadratic) (upper : Bool) (root : Option Shape) : Type 0 where
  pub answer : Roots
  pub roots : AreRootsOf p answer
  pub same : root ≡ root_on upper answer
