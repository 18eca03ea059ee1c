-- The order laws that hold for all instants with a sound radicand and a positive divisor.
use Rattle.std.proofs.Common.{◌≡◌, ◌≢◌, ◌⊎◌, inl, inr, [], ◌∷◌, refl, sym, ap, ap₂, ◌∙◌, subst, arith}
use Rattle.std.specs.Prelude.{ℤ, pos, ◌-ℤ◌, ◌*ℤ◌, ◌<ℤ◌, ◌≤ℤ◌}
use Rattle.std.proofs.lemmas.Int.{ints}
use Rattle.kin_algebra.proofs.Magnitudes.{difference-turned}
use Rattle.kin_algebra.specs.declared.sign.Sign.{Sign}
use Rattle.kin_algebra.specs.declared.sign.Sign.TheVariants.{Minus, Zero, Plus}
use Rattle.kin_algebra.specs.Signs.{sign_of, opposite_of, product_of}
use Rattle.kin_algebra.proofs.Ring.{by_ring, quotes}
use Rattle.kin_algebra.proofs.Signs.{AtLeast, product-Plus}
use Rattle.kin_algebra.proofs.OrderedRings.{scale, positive_sum, positive_cancel}
use Rattle.kin_algebra.proofs.IntegerSigns.{sign_of-negative, sign_of-times, sign_in}
use Rattle.kin_algebra.proofs.Pairs.{Pair, pair, pair_plus, pair_times, ordered, sign_over, sign_over-whole}
use Rattle.kin_num.specs.declared.instant.Shape.{Shape}
use Rattle.kin_num.specs.Canonical.{IsCanonicalForm}
use Rattle.kin_num.specs.Instants.{Number, number_of, sign_at_instant, line}
use Rattle.kin_num.specs.Order.{Separates, IsLess}
use Rattle.kin_num.proofs.Values.{canonical-sound}
use Rattle.kin_num.proofs.NumberRing.{flat, at_least_in}
use Rattle.kin_num.proofs.Near.{past, line_sign}
use Rattle.kin_num.proofs.RootZeros.{divisor-positive}

module _ (w : Shape) (form : IsCanonicalForm w) where
  abbrev x : Number
  x = number_of w

  lower-as : (n d m e whole root radicand divisor : ℤ) →
      pair_times radicand (flat e) (pair (d *ℤ whole -ℤ n *ℤ divisor) (d *ℤ root))
      ≡ pair_plus (pair_times radicand (flat d) (pair (e *ℤ whole -ℤ m *ℤ divisor) (e *ℤ root))) (flat ((m *ℤ d -ℤ n *ℤ e) *ℤ divisor))
  lower-as n d m e whole root radicand divisor =
      ap₂ pair
      (by_ring (n ∷ d ∷ m ∷ e ∷ whole ∷ root ∷ radicand ∷ divisor ∷ []) _ _ (search quotes depth 30 fits 40000) (search quotes depth 30 fits 40000) refl)
      (by_ring (n ∷ d ∷ m ∷ e ∷ whole ∷ root ∷ radicand ∷ divisor ∷ []) _ _ (search quotes depth 30 fits 40000) (search quotes depth 30 fits 40000) refl)

  module _ (n d m e : ℤ) (d_positive : pos 0 <ℤ d) (e_positive : pos 0 <ℤ e) where
    -- how far w is past m/e, and how far m/e is past n/d, both times some divisors
    abbrev rest : Pair
    rest = pair_times x.radicand (flat d) (past x m e)

    abbrev step : Pair
    step = flat ((m *ℤ d -ℤ n *ℤ e) *ℤ x.divisor)

    step_sign : sign_over x.radicand step ≡ sign_of (m *ℤ d -ℤ n *ℤ e)
    step_sign =
        sign_over-whole x.radicand (canonical-sound w form) ((m *ℤ d -ℤ n *ℤ e) *ℤ x.divisor) ∙ sign_of-times (m *ℤ d -ℤ n *ℤ e) x.divisor
        ∙ ap (product_of (sign_of (m *ℤ d -ℤ n *ℤ e))) (divisor-positive w form) ∙ product-Plus (sign_of (m *ℤ d -ℤ n *ℤ e))

    rest_sign : sign_over x.radicand rest ≡ sign_at_instant (line m e) w
    unfolding sign_at_instant
    rest_sign =
        scale (ordered x.radicand (canonical-sound w form)) {a = flat d} (past x m e) (sign_over-whole x.radicand (canonical-sound w form) d ∙ sign_in Plus d d_positive)
        ∙ sym (line_sign x (canonical-sound w form) (divisor-positive w form) m e)

    by_steps : sign_over x.radicand (pair_plus rest step) ≡ Plus → sign_at_instant (line n d) w ≡ Plus
    unfolding sign_at_instant
    by_steps h =
        let s = canonical-sound w form in
        line_sign x s (divisor-positive w form) n d
        ∙ positive_cancel (ordered x.radicand s) {a = flat e} {b = past x n d} (sign_over-whole x.radicand s e ∙ sign_in Plus e e_positive)
        (ap (sign_over x.radicand) (lower-as n d m e x.whole x.root x.radicand x.divisor) ∙ h)

    -- a fraction lies before w where one that is at least it does
    pub lower_fraction : AtLeast (sign_of (m *ℤ d -ℤ n *ℤ e)) → sign_at_instant (line m e) w ≡ Plus → sign_at_instant (line n d) w ≡ Plus
    lower_fraction most p = by_steps (positive_sum (ordered x.radicand (canonical-sound w form)) {a = rest} {b = step} (rest_sign ∙ p) (subst AtLeast (sym step_sign) most))

    -- and where a greater one isn't after w
    pub strictly_lower : sign_of (m *ℤ d -ℤ n *ℤ e) ≡ Plus → AtLeast (sign_at_instant (line m e) w) → sign_at_instant (line n d) w ≡ Plus
    strictly_lower more p =
        let o = ordered x.radicand (canonical-sound w form) in
        by_steps (ap o.sign (o.ring.plus_comm rest step) ∙ positive_sum o {a = step} {b = rest} (step_sign ∙ more) (subst AtLeast (sym rest_sign) p))

-- n/d lies before v, and m/e at or after v and before w: so n/d lies before w
lower_of_two : (v w : Shape) → IsCanonicalForm v → IsCanonicalForm w → (n d m e : ℤ) → pos 0 <ℤ d → pos 0 <ℤ e
    → sign_at_instant (line n d) v ≡ Plus → sign_at_instant (line m e) v ≢ Plus → sign_at_instant (line m e) w ≡ Plus
    → (s : Sign) → sign_of (m *ℤ d -ℤ n *ℤ e) ≡ s → sign_at_instant (line n d) w ≡ Plus
lower_of_two v w fv fw n d m e dp ep a b c Plus k = lower_fraction w fw n d m e dp ep (inl k) c
lower_of_two v w fv fw n d m e dp ep a b c Zero k = lower_fraction w fw n d m e dp ep (inr k) c
lower_of_two v w fv fw n d m e dp ep a b c Minus k =
    absurd (b (lower_fraction v fv m e n d ep dp (inl (ap sign_of (difference-turned (n *ℤ e) (m *ℤ d)) ∙ sign_of-negative (m *ℤ d -ℤ n *ℤ e) ∙ ap opposite_of k)) a))

pub not_less_itself : (w : Shape) → ¬ (IsLess w w)
not_less_itself w l = l.2.first l.2.second

pub less_trans : (u v w : Shape) → IsCanonicalForm v → IsCanonicalForm w → IsLess u v → IsLess v w → IsLess u w
less_trans u v w fv fw p q = (
  p.0,
  p.1,
  record {
    proper = p.2.proper;
    first = p.2.first;
    second = lower_of_two v w fv fw p.0 p.1 q.0 q.1 p.2.proper q.2.proper p.2.second q.2.first q.2.second _ refl;
  },
)

pub less_asym : (v w : Shape) → IsCanonicalForm v → IsCanonicalForm w → IsLess v w → ¬ (IsLess w v)
less_asym v w fv fw p q = not_less_itself v (less_trans v w v fw fv p q)

-- ---- the least fraction of one denominator that isn't before v
pub same_denominator : (m n t : ℤ) → m *ℤ t -ℤ n *ℤ t ≡ (m -ℤ n) *ℤ t
same_denominator m n t = by_ring (m ∷ n ∷ t ∷ []) _ _ (search quotes depth 20) (search quotes depth 20) refl

pub lower_numerator : (w : Shape) → IsCanonicalForm w → (n m t : ℤ) → pos 0 <ℤ t → n ≤ℤ m → sign_at_instant (line m t) w ≡ Plus → sign_at_instant (line n t) w ≡ Plus
lower_numerator w form n m t p h =
    lower_fraction w form n t m t p p
    (subst AtLeast (sym (ap sign_of (same_denominator m n t) ∙ sign_of-times (m -ℤ n) t ∙ ap (product_of (sign_of (m -ℤ n))) (sign_in Plus t p) ∙ product-Plus (sign_of (m -ℤ n)))) (at_least_in (m -ℤ n) (omega (arith, ints))))

pub least_separates : (v w : Shape) → IsCanonicalForm v → IsCanonicalForm w → (n k t : ℤ) → sign_at_instant (line (k -ℤ pos 1) t) v ≡ Plus → sign_at_instant (line k t) v ≢ Plus → Separates v w n t → Separates v w k t
least_separates v w fv fw n k t after not_after s = record {
  proper = s.proper;
  first = not_after;
  second = at (either n k);
}
  where
    either : (n k : ℤ) → (n ≤ℤ (k -ℤ pos 1)) ⊎ (k ≤ℤ n)
    either n k = grind (arith, ints)

    at : (n ≤ℤ (k -ℤ pos 1)) ⊎ (k ≤ℤ n) → sign_at_instant (line k t) w ≡ Plus
    at (inl h) = absurd (s.first (lower_numerator v fv n (k -ℤ pos 1) t s.proper h after))
    at (inr h) = lower_numerator w fw k n t s.proper h s.second
