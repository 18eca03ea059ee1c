-- What holds of roots. Each is promised by a function of the module `laws`.
use Rattle.std.specs.Prelude.{Option, MatchOption, ◌⊎◌}
use Rattle.kin_num.specs.declared.instant.Shape.{Shape}
use Rattle.kin_num.specs.Quadratic.{Quadratic, IsSmall}
use Rattle.kin_num.specs.Canonical.{IsCanonicalForm}
use Rattle.kin_instant.specs.declared.roots.Roots.{Roots}
use Rattle.kin_instant.specs.Roots.{AreRootsOf}
use Rattle.kin_instant.specs.Places.{IsZeroPolynomial, IsNextRoot, HasNoRootAfter, KeepsSign}

-- every polynomial within the bounds has its real roots, each as a canonical instant
abbrev pub RootsExist : Type 0
RootsExist = (p : Quadratic) → IsSmall p → (answer : Roots) × AreRootsOf p answer

-- the least root later than w, or none where there is none; until then the sign stays
pub record IsNext (p : Quadratic) (w : Shape) (next : Option Shape) : Type 0 where
  pub found : MatchOption next (IsZeroPolynomial p ⊎ HasNoRootAfter p w) (IsNextRoot p w)
  pub kept : KeepsSign p w next

-- from every instant on there is such a root, or none
abbrev pub NextRootsExist : Type 0
NextRootsExist = (p : Quadratic) (w : Shape) → IsSmall p → IsCanonicalForm w → (next : Option Shape) × IsNext p w next
