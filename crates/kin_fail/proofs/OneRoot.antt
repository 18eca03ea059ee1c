-- A line that isn't 0 everywhere has one root at most.
use Rattle.std.proofs.Common.{◌≡◌, ap, sym, ◌∙◌, refl, Some, None, pos}
use Rattle.kin_algebra.specs.declared.sign.Sign.{Sign}
use Rattle.kin_algebra.specs.declared.sign.Sign.TheVariants.{Minus, Zero, Plus}
use Rattle.kin_algebra.specs.Signs.{sign_of}
use Rattle.kin_algebra.proofs.IntegerSigns.{zero_of}
use Rattle.kin_num.specs.declared.instant.Shape.{Shape}
use Rattle.kin_num.specs.Quadratic.{Quadratic, IsSmall}
use Rattle.kin_num.specs.Canonical.{IsCanonicalForm, discriminant}
use Rattle.kin_num.specs.Instants.{sign_at_instant}
use Rattle.kin_instant.specs.declared.roots.Roots.{Roots}
use Rattle.kin_instant.specs.declared.roots.Roots.TheVariants.{Nowhere, One, Two, All}
use Rattle.kin_instant.specs.Roots.{AreRootsOf, count_by_signs, root_count}
use Rattle.kin_instant.specs.Places.{IsZeroPolynomial}
use Rattle.kin_instant.proofs.Existence.{roots_exist}

never_two : (s t d : Sign) → Some 2 ≡ count_by_signs Zero s t d → ⊥
never_two Minus t d e = cc
never_two Zero Minus d e = cc
never_two Zero Zero d e = cc
never_two Zero Plus d e = cc
never_two Plus t d e = cc

all_zero : (s t d : Sign) → None ≡ count_by_signs Zero s t d → (s ≡ Zero) × (t ≡ Zero)
all_zero Minus t d e = absurd cc
all_zero Zero Minus d e = absurd cc
all_zero Zero Zero d e = (refl, refl)
all_zero Zero Plus d e = absurd cc
all_zero Plus t d e = absurd cc

pub lines_have_one_root : (p : Quadratic) → IsSmall p → p.a ≡ pos 0 → ¬ (IsZeroPolynomial p)
    → (v w : Shape) → IsCanonicalForm v → IsCanonicalForm w
    → sign_at_instant p v ≡ Zero → sign_at_instant p w ≡ Zero → v ≡ w
lines_have_one_root p small flat some v w fv fw at_v at_w = let r = roots_exist p small in by_roots r.0 r.1
  where
    count : root_count p ≡ count_by_signs Zero (sign_of p.b) (sign_of p.c) (sign_of (discriminant p.a p.b p.c))
    count = ap (λ (s : Sign). count_by_signs s (sign_of p.b) (sign_of p.c) (sign_of (discriminant p.a p.b p.c))) (ap sign_of flat)

    by_roots : (answer : Roots) → AreRootsOf p answer → v ≡ w
    by_roots Nowhere k = absurd ((k.exact v fv).0 at_v)
    by_roots (One r) k = (k.exact v fv).0 at_v ∙ sym ((k.exact w fw).0 at_w)
    by_roots (Two r s) k = absurd (never_two (sign_of p.b) (sign_of p.c) _ (k.number ∙ count))
    by_roots All k =
        let z = all_zero (sign_of p.b) (sign_of p.c) _ (k.number ∙ count) in
        absurd (some (record { a_zero = flat; b_zero = zero_of p.b z.0; c_zero = zero_of p.c z.1 }))
