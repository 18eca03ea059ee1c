-- There is a motion to turn to, or there is none.
use Rattle.std.proofs.Common.{◌≡◌, ◌≢◌, ◌⊎◌, inl, inr, refl, sym, ap, ◌∙◌, [], ◌∷◌}
use Rattle.std.specs.Prelude.{ℤ, pos, ◌+ℤ◌, ◌-ℤ◌, ◌*ℤ◌}
use Rattle.std.specs.Int.RustNames.{int_div, int_rem}
use Rattle.std.proofs.lemmas.Int.{quot-rem, rem_below}
use Rattle.kin_algebra.proofs.Magnitudes.{size-some, zero_or_not}
use Rattle.kin_algebra.proofs.Ring.{by_ring, quotes}
use Rattle.kin_num.specs.declared.instant.Shape.{Shape}
use Rattle.kin_num.specs.declared.instant.Shape.TheVariants.{Ratio, Root}
use Rattle.kin_num.specs.Canonical.{IsCanonicalForm}
use Rattle.kin_motion.specs.Course.{Course}
use Rattle.kin_motion.specs.Turning.{IsNewStart, TurnsTo}
use Rattle.kin_turn.proofs.Quotients.{remainder_of_multiple}
use Rattle.kin_turn.proofs.Starts.{same_speed, at_ratio, from_ratio, at_root}

-- ---- one coordinate
abbrev HasStart : ℤ → ℤ → ℤ → Shape → Type 0
HasStart x u v w = ((k : ℤ) × IsNewStart x u v w k) ⊎ ((k : ℤ) → ¬ (IsNewStart x u v w k))

whole_gain : (x q d r z : ℤ) → q *ℤ d +ℤ r ≡ z → r ≡ pos 0 → z ≡ ((x +ℤ q) -ℤ x) *ℤ d
whole_gain x q d r z e none = sym e ∙ ap (λ y. q *ℤ d +ℤ y) none ∙ gained x q d
  where
    gained : (x q d : ℤ) → q *ℤ d +ℤ pos 0 ≡ ((x +ℤ q) -ℤ x) *ℤ d
    gained x q d = by_ring (x ∷ q ∷ d ∷ []) _ _ (search quotes depth 20) (search quotes depth 20) refl

start_or_none : (x u v : ℤ) (w : Shape) → IsCanonicalForm w → HasStart x u v w
start_or_none x u v (Ratio n d) form = by_rest (zero_or_not (int_rem gain d))
  where
    gain : ℤ
    gain = n *ℤ (u -ℤ v)

    by_rest : (int_rem gain d ≡ pos 0) ⊎ (int_rem gain d ≢ pos 0) → HasStart x u v (Ratio n d)
    by_rest (inl none) = inl (x +ℤ int_div gain d, at_ratio (u -ℤ v) x (x +ℤ int_div gain d) n d (whole_gain x (int_div gain d) d (int_rem gain d) gain (quot-rem gain d) none))
    by_rest (inr some) = inr (λ k new. some (remainder_of_multiple gain (k -ℤ x) d (int_div gain d) (int_rem gain d) (from_ratio (u -ℤ v) x k n d form.positive new) (quot-rem gain d) (rem_below gain d (size-some d form.positive))))
start_or_none x u v (Root a b c upper) form = by_slope (zero_or_not (u -ℤ v))
  where
    by_slope : (u -ℤ v ≡ pos 0) ⊎ (u -ℤ v ≢ pos 0) → HasStart x u v (Root a b c upper)
    by_slope (inl level) = inl (x, same_speed x u v (Root a b c upper) form level)
    by_slope (inr some) = inr (λ k new. some (at_root x u v k a b c upper form new))

-- ---- both
pub turn_or_none : (w : Shape) (u v : ℤ) (old : Course) → IsCanonicalForm w → ((new : Course) × TurnsTo w u v old new) ⊎ ((new : Course) → ¬ (TurnsTo w u v old new))
turn_or_none w u v old form = both (start_or_none old.x old.u u w form) (start_or_none old.y old.v v w form)
  where
    both : HasStart old.x old.u u w → HasStart old.y old.v v w → ((new : Course) × TurnsTo w u v old new) ⊎ ((new : Course) → ¬ (TurnsTo w u v old new))
    both (inl x) (inl y) = inl (record { x = x.0; y = y.0; u = u; v = v }, record { x_start = x.1; y_start = y.1; u_is = refl; v_is = refl })
    both (inr none) y = inr (λ new turns. none new.x turns.x_start)
    both x (inr none) = inr (λ new turns. none new.y turns.y_start)
