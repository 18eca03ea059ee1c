-- Which constant part a coordinate has after its speed has changed at an instant.
use Rattle.std.proofs.Common.{◌≡◌, ◌≢◌, refl, sym, ap, ◌∙◌, subst, Bool}
use Rattle.std.specs.Prelude.{ℤ, pos, ◌-ℤ◌, ◌*ℤ◌, ◌<ℤ◌, Option, Some, None, MatchOption}
use Rattle.kin_algebra.proofs.Magnitudes.{difference-turned, difference_of_same}
use Rattle.kin_algebra.proofs.Rings.{zero_times}
use Rattle.kin_algebra.proofs.Integers.{integers}
use Rattle.kin_algebra.specs.declared.sign.Sign.TheVariants.{Zero, Plus}
use Rattle.kin_algebra.specs.Signs.{sign_of}
use Rattle.kin_algebra.proofs.IntegerSigns.{sign_in, zero_of}
use Rattle.kin_num.specs.declared.instant.Shape.{Shape}
use Rattle.kin_num.specs.declared.instant.Shape.TheVariants.{Ratio, Root}
use Rattle.kin_num.specs.Quadratic.{Quadratic, linear}
use Rattle.kin_num.specs.Canonical.{IsCanonicalForm, IsIrreducible}
use Rattle.kin_num.specs.Instants.{sign_at_instant, line}
use Rattle.kin_num.proofs.Constants.{constant_sign}
use Rattle.kin_num.proofs.FractionOrder.{on_line}
use Rattle.kin_num.proofs.RootZeros.{sign_zero_at_root}
use Rattle.kin_num.proofs.RootSigns.{times_positive}
use Rattle.kin_instant.proofs.Zeros.{line-zero_at}
use Rattle.kin_motion.specs.Turning.{IsNewStart}

-- the same speed keeps the constant part
pub same_speed : (x u v : ℤ) (w : Shape) → IsCanonicalForm w → u -ℤ v ≡ pos 0 → IsNewStart x u v w x
same_speed x u v w form e = subst (λ s. sign_at_instant (linear s (x -ℤ x)) w ≡ Zero) (sym e) (subst (λ c. sign_at_instant (linear (pos 0) c) w ≡ Zero) (sym (difference_of_same x x refl)) (constant_sign (pos 0) w form))

as_line : (s x k : ℤ) → linear s (x -ℤ k) ≡ line (k -ℤ x) s
as_line s x k = ap (λ c. linear s c) (difference-turned x k)

-- at a fraction n/d, with the change s of the speed: what is gained, s*n, is d times what the constant part gains
pub at_ratio : (s x k n d : ℤ) → n *ℤ s ≡ (k -ℤ x) *ℤ d → sign_at_instant (linear s (x -ℤ k)) (Ratio n d) ≡ Zero
at_ratio s x k n d e = ap (λ (p : Quadratic). sign_at_instant p (Ratio n d)) (as_line s x k) ∙ line-zero_at (k -ℤ x) s n d e

pub from_ratio : (s x k n d : ℤ) → pos 0 <ℤ d → sign_at_instant (linear s (x -ℤ k)) (Ratio n d) ≡ Zero → n *ℤ s ≡ (k -ℤ x) *ℤ d
from_ratio s x k n d some e = on_line (k -ℤ x) s n d some (ap (λ (p : Quadratic). sign_at_instant p (Ratio n d)) (sym (as_line s x k)) ∙ e)

-- at an irrational root only the same speed has a constant part
pub at_root : (x u v k a b c : ℤ) (upper : Bool) → IsIrreducible a b c → IsNewStart x u v (Root a b c upper) k → u -ℤ v ≡ pos 0
at_root x u v k a b c upper i e =
    let multiple = sign_zero_at_root (linear (u -ℤ v) (x -ℤ k)) a b c i upper e in
    slope_nothing a (u -ℤ v) b i.positive multiple.0
  where
    slope_nothing : (a s b : ℤ) → pos 0 <ℤ a → a *ℤ s ≡ pos 0 *ℤ b → s ≡ pos 0
    slope_nothing a s b some e = zero_of s (sym (times_positive a s (sign_in Plus a some)) ∙ ap sign_of (e ∙ zero_times integers b))

-- what is found at a fraction is the constant part, where it is whole
pub found_at_ratio : (x u v n d : ℤ) (w : Shape) → Ratio n d ≡ w → pos 0 <ℤ d → (found : Option ℤ)
    → MatchOption found ((k : ℤ) → n *ℤ (u -ℤ v) ≢ (k -ℤ x) *ℤ d) (λ k. n *ℤ (u -ℤ v) ≡ (k -ℤ x) *ℤ d)
    → MatchOption found ((k : ℤ) → ¬ (IsNewStart x u v w k)) (λ k. IsNewStart x u v w k)
found_at_ratio x u v n d w is some (Some k) h = subst (λ w. IsNewStart x u v w k) is (at_ratio (u -ℤ v) x k n d h)
found_at_ratio x u v n d w is some None h = λ k new. h k (from_ratio (u -ℤ v) x k n d some (subst (λ w. IsNewStart x u v w k) (sym is) new))
