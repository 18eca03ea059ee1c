-- Moments in the order of their keys.
use Rattle.std.proofs.Common.{◌≡◌, ◌≢◌, ◌⊎◌, inl, inr, ℕ, zero, suc, ◌+◌, ◌*◌, ◌<◌, ◌≤◌, ◌^◌, refl, sym, ap, ap₂, ◌∙◌, subst, arith, mul-le-mul, true, false}
use Rattle.std.specs.Prelude.{ℤ, pos, ◌-ℤ◌, ◌*ℤ◌, ◌<ℤ◌}
use Rattle.std.proofs.lemmas.Int.{ints}
use Rattle.std.proofs.lemmas.Bool.{cases_lt}
use Rattle.std.proofs.Math.Nat.{eq-or-lt_of_le}
use Rattle.kin_algebra.proofs.Magnitudes.{difference-turned}
use Rattle.kin_algebra.specs.declared.sign.Sign.{Sign}
use Rattle.kin_algebra.specs.declared.sign.Sign.TheVariants.{Minus, Zero, Plus}
use Rattle.kin_algebra.specs.Signs.{sign_of, opposite_of, product_of}
use Rattle.kin_algebra.proofs.Signs.{code, AtLeast, at_least_of, not_minus}
use Rattle.kin_algebra.proofs.IntegerSigns.{sign_of-negative, sign_of-times, sign_in, sign_out, sign_of-pos}
use Rattle.kin_num.specs.declared.instant.Shape.{Shape}
use Rattle.kin_num.specs.declared.instant.Shape.TheVariants.{Ratio, Root}
use Rattle.kin_num.specs.Canonical.{IsCanonicalForm}
use Rattle.kin_num.specs.Instants.{sign_at_instant, line}
use Rattle.kin_num.specs.Order.{IsLess}
use Rattle.kin_num.proofs.Divisors.{same_lowest}
use Rattle.kin_num.proofs.FractionOrder.{line_at_fraction}
use Rattle.kin_num.proofs.LowerFractions.{lower_fraction, strictly_lower, same_denominator}
use Rattle.kin_num.proofs.InstantOrder.{total}
use Rattle.kin_num.specs.declared.instant.Moment.{Moment}
use Rattle.kin_instant.specs.declared.key.Key.{Key}
use Rattle.kin_instant.specs.Keys.{IsSpanOf, IsCoarse, IsKeyOf}

-- ---- fractions of one denominator
abbrev unit : ℤ
unit = pos (2 ^ 32)

module _ (w : Shape) (form : IsCanonicalForm w) where
  apart : (s t : ℕ) → s < t → sign_of (pos t *ℤ unit -ℤ pos s *ℤ unit) ≡ Plus
  apart s t h = ap sign_of (same_denominator (pos t) (pos s) unit) ∙ sign_of-times (pos t -ℤ pos s) unit ∙ ap (λ (k : Sign). product_of k Plus) (sign_in Plus (pos t -ℤ pos s) (omega (arith, ints)))

  reached : (s t : ℕ) → s ≤ t → AtLeast (sign_at_instant (line (pos t) unit) w) → AtLeast (sign_at_instant (line (pos s) unit) w)
  reached s t h p = at (eq-or-lt_of_le h)
    where
      at : (s ≡ t) ⊎ (s < t) → AtLeast (sign_at_instant (line (pos s) unit) w)
      at (inl e) = subst (λ (k : ℕ). AtLeast (sign_at_instant (line (pos k) unit) w)) (sym e) p
      at (inr l) = inl (strictly_lower w form (pos s) unit (pos t) unit (omega (arith, ints)) (omega (arith, ints)) (apart s t l) p)

-- a lesser span lies before
pub lesser_span : (v w : Shape) → IsCanonicalForm v → IsCanonicalForm w → (s t : ℕ) → IsSpanOf s v → IsSpanOf t w → s < t → IsLess v w
lesser_span v w fv fw s t a b h = at (total v w fv fw)
  where
    there : AtLeast (sign_at_instant (line (pos (s + 1)) unit) w)
    there = reached w fw (s + 1) t (omega arith) (at_least_of (sign_at_instant (line (pos t) unit) w) (b.from_start (omega arith)))

    -- a fraction that isn't before w isn't before v either
    not_between : (n d : ℤ) → pos 0 <ℤ d → sign_at_instant (line n d) w ≢ Plus → sign_at_instant (line n d) v ≡ Plus → (k : Sign) → sign_of (pos (s + 1) *ℤ d -ℤ n *ℤ unit) ≡ k → ⊥
    not_between n d p first second Plus e = first (strictly_lower w fw n d (pos (s + 1)) unit p (omega (arith, ints)) e there)
    not_between n d p first second Zero e =
        code (sym a.before_end ∙ lower_fraction v fv (pos (s + 1)) unit n d (omega (arith, ints)) p (inr (ap sign_of (difference-turned (n *ℤ unit) (pos (s + 1) *ℤ d)) ∙ sign_of-negative (pos (s + 1) *ℤ d -ℤ n *ℤ unit) ∙ ap opposite_of e)) second)
    not_between n d p first second Minus e =
        code (sym a.before_end ∙ lower_fraction v fv (pos (s + 1)) unit n d (omega (arith, ints)) p (inl (ap sign_of (difference-turned (n *ℤ unit) (pos (s + 1) *ℤ d)) ∙ sign_of-negative (pos (s + 1) *ℤ d -ℤ n *ℤ unit) ∙ ap opposite_of e)) second)

    at : IsLess v w ⊎ (IsLess w v ⊎ (v ≡ w)) → IsLess v w
    at (inl l) = l
    at (inr (inl l)) = absurd (not_between l.0 l.1 l.2.proper l.2.first l.2.second (sign_of (pos (s + 1) *ℤ l.1 -ℤ l.0 *ℤ unit)) refl)
    at (inr (inr e)) = absurd (not_minus _ there (subst (λ (z : Shape). sign_at_instant (line (pos (s + 1)) unit) z ≡ Minus) e a.before_end))

-- ---- coarse fractions of one span
-- two multiples of a 2^-32th part that lie less than one part apart are one
record IsPart (s m e : ℕ) : Type 0 where
  below : 2 ^ 32 * m < (s + 1) * e
  from : s * e ≤ 2 ^ 32 * m
  coarse : e ≤ 2 ^ 16

not_more : (s m e m' e' : ℕ) → 0 < e' → IsPart s m e → IsPart s m' e' → m * e' ≤ m' * e
not_more s m e m' e' some p q =
    let a : (2 ^ 32 * m + 1) * e' ≤ ((s + 1) * e) * e' = mul-le-mul (let b = p.below in omega arith) (omega arith) in
    let b : (s * e') * e ≤ (2 ^ 32 * m') * e = mul-le-mul q.from (omega arith) in
    let c : e * e' ≤ 2 ^ 16 * 2 ^ 16 = mul-le-mul p.coarse q.coarse in
    omega arith

part_of : (s m e : ℕ) → 0 < e → IsSpanOf s (Ratio (pos m) (pos e)) → e ≤ 2 ^ 16 → IsPart s m e
part_of s m e some h coarse = record {
  below = under (2 ^ 32 * m) ((s + 1) * e) (sign_out Minus _ (sym (line_at_fraction (pos m) (pos e) (pos (s + 1)) unit (sign_of-pos e some)) ∙ h.before_end));
  from = over s refl;
  coarse = coarse;
}
  where
    under : (x y : ℕ) → (pos x -ℤ pos y) <ℤ pos 0 → x < y
    under x y h = omega (arith, ints)

    not_under : (x y : ℕ) → sign_of (pos x -ℤ pos y) ≢ Minus → y ≤ x
    not_under x y n = elim (cases_lt x y) [ inl l ↦ absurd (n (sign_in Minus (pos x -ℤ pos y) (omega (arith, ints)))) | inr l ↦ l ]

    over : (k : ℕ) → s ≡ k → s * e ≤ 2 ^ 32 * m
    over zero r = rw r (omega arith)
    over (suc k) r = not_under (2 ^ 32 * m) (s * e) (λ b. h.from_start (omega arith) (line_at_fraction (pos m) (pos e) (pos s) unit (sign_of-pos e some) ∙ b))

pub same_coarse : (v w : Shape) → IsCanonicalForm v → IsCanonicalForm w → IsCoarse v → IsCoarse w → (s : ℕ) → IsSpanOf s v → IsSpanOf s w → v ≡ w
same_coarse (Ratio n d) (Ratio n' d') i j a b s p q =
    let some = positive d a.1 i.positive a.3 in
    let some' = positive d' b.1 j.positive b.3 in
    let one = part_of s a.0 a.1 some (subst (IsSpanOf s) (ap₂ Ratio a.2 a.3) p) a.4 in
    let two = part_of s b.0 b.1 some' (subst (IsSpanOf s) (ap₂ Ratio b.2 b.3) q) b.4 in
    let cross : a.0 * b.1 ≡ b.0 * a.1 = let l = not_more s a.0 a.1 b.0 b.1 some' one two in let m = not_more s b.0 b.1 a.0 a.1 some two one in omega arith in
    let same = same_lowest n d n' d' i j (ap₂ (λ (x y : ℤ). x *ℤ y) a.2 b.3 ∙ ap pos cross ∙ sym (ap₂ (λ (x y : ℤ). x *ℤ y) b.2 a.3)) in
    ap₂ Ratio same.0 same.1
  where
    positive : (d : ℤ) (e : ℕ) → pos 0 <ℤ d → d ≡ pos e → 0 < e
    positive d e h f = omega (arith, ints, f)
same_coarse (Ratio n d) (Root a b c u) i j p q s x y = absurd q
same_coarse (Root a b c u) w i j p q s x y = absurd p

-- a moment whose key isn't vague is at a coarse fraction
pub clear_at : (k : Key) (m : Moment) → IsKeyOf k m → k.is_vague ≡ false → IsCoarse m.at
clear_at k m h e = at h.exact
  where
    at : (k.is_vague ≡ true) ⊎ IsCoarse m.at → IsCoarse m.at
    at (inl f) = absurd (let both : true ≡ false = sym f ∙ e in cc)
    at (inr q) = q
