-- The spans of fractions and of roots.
use Rattle.std.proofs.Common.{◌≡◌, ◌≢◌, inl, inr, ℕ, zero, suc, Bool, true, false, ◌+◌, ◌*◌, ◌/◌, ◌<◌, ◌≤◌, ◌^◌, refl, sym, ap, ap₂, ◌∙◌, subst, arith, mul-le-mul}
use Rattle.std.specs.Prelude.{ℤ, pos, negsuc, ◌+ℤ◌, ◌-ℤ◌, ◌*ℤ◌, ◌<ℤ◌, ◌≤ℤ◌, unsigned_abs}
use Rattle.std.proofs.lemmas.Int.{ints}
use lib.IntN.{neg_ℤ}
use Rattle.kin_algebra.specs.declared.sign.Sign.{Sign}
use Rattle.kin_algebra.specs.declared.sign.Sign.TheVariants.{Minus, Zero, Plus}
use Rattle.kin_algebra.specs.Signs.{sign_of, opposite_of, sum_sign_of, norm_of}
use Rattle.kin_algebra.proofs.Signs.{code, minus_left}
use Rattle.kin_algebra.proofs.IntegerSigns.{sign_in, sign_out, sign_of-pos}
use Rattle.kin_num.specs.declared.instant.Shape.TheVariants.{Ratio, Root}
use Rattle.kin_num.specs.Canonical.{IsIrreducible, discriminant}
use Rattle.kin_num.specs.Instants.{number_of, sign_at_instant, line}
use Rattle.kin_num.specs.Roots.{IsWholeRoot}
use Rattle.kin_num.proofs.Values.{canonical-sound}
use Rattle.kin_num.proofs.Near.{line_sign}
use Rattle.kin_num.proofs.RootZeros.{divisor-positive}
use Rattle.kin_num.proofs.FractionOrder.{line_at_fraction, line_at_root}
use Rattle.kin_num.proofs.RootSigns.{pair_sign-positive}
use Rattle.kin_instant.specs.Keys.{IsSpanOf, half_numerator_of, IsCutOff}

abbrev unit : ℤ
unit = pos (2 ^ 32)

abbrev half : ℤ
half = pos (2 ^ 31)

one_at_least : (s m : ℕ) → 0 < s → 0 < m → 1 ≤ s * m
one_at_least zero m h k = absurd (omega arith)
one_at_least (suc s) zero h k = absurd (omega arith)
one_at_least (suc s) (suc m) h k = omega arith

-- ---- at a fraction
-- before 0 or at 0
pub early_span : (n d : ℤ) → pos 0 <ℤ d → n ≤ℤ pos 0 → IsSpanOf 0 (Ratio n d)
early_span n d h k = record {
  before_end = line_at_fraction n d (pos 1) unit (sign_in Plus d h) ∙ sign_in Minus (unit *ℤ n -ℤ pos 1 *ℤ d) (below n d h k);
  from_start = λ l. absurd (omega arith);
}
  where
    below : (n d : ℤ) → pos 0 <ℤ d → n ≤ℤ pos 0 → (unit *ℤ n -ℤ pos 1 *ℤ d) <ℤ pos 0
    below n d h k = omega (arith, ints)

pub span_of_fraction : (m e s : ℕ) → 0 < e → 2 ^ 32 * m < (s + 1) * e → s * e ≤ 2 ^ 32 * m → IsSpanOf s (Ratio (pos m) (pos e))
span_of_fraction m e s some below from = record {
  before_end = line_at_fraction (pos m) (pos e) (pos (s + 1)) unit (sign_of-pos e some) ∙ sign_in Minus _ (under (2 ^ 32 * m) ((s + 1) * e) below);
  from_start = λ h n. not_under (2 ^ 32 * m) (s * e) from (sign_out Minus (pos (2 ^ 32 * m) -ℤ pos (s * e)) (sym (line_at_fraction (pos m) (pos e) (pos s) unit (sign_of-pos e some)) ∙ n));
}
  where
    under : (x y : ℕ) → x < y → (pos x -ℤ pos y) <ℤ pos 0
    under x y h = omega (arith, ints)

    not_under : (x y : ℕ) → y ≤ x → (pos x -ℤ pos y) <ℤ pos 0 → ⊥
    not_under x y h k = omega (arith, ints)

-- ---- at a root, by the whole root r of 2^64 times the discriminant d
module _ (d r : ℕ) (some : 0 < d) (root : IsWholeRoot (d * 2 ^ 64) r) where
  more : (u : ℕ) → r < u → d * 2 ^ 64 < u * u
  more u h = let m : (r + 1) * (r + 1) ≤ u * u = mul-le-mul (omega arith) (omega arith) in let g = root.greatest in omega arith

  less : (u : ℕ) → u ≤ r → u * u ≤ d * 2 ^ 64
  less u h = let m : u * u ≤ r * r = mul-le-mul h h in let g = root.at_most in omega arith

  norm_plus : (u : ℕ) → r < u → sign_of (pos (u * u) -ℤ pos (2 ^ 64 * d)) ≡ Plus
  norm_plus u h = sign_in Plus _ (above (u * u) (2 ^ 64 * d) (let m = more u h in omega arith))
    where
      above : (x y : ℕ) → y < x → pos 0 <ℤ (pos x -ℤ pos y)
      above x y h = omega (arith, ints)

  norm_not_plus : (u : ℕ) → u ≤ r → sign_of (pos (u * u) -ℤ pos (2 ^ 64 * d)) ≢ Plus
  norm_not_plus u h e = not_above (u * u) (2 ^ 64 * d) (let m = less u h in omega arith) (sign_out Plus _ e)
    where
      not_above : (x y : ℕ) → x ≤ y → pos 0 <ℤ (pos x -ℤ pos y) → ⊥
      not_above x y h k = omega (arith, ints)

  -- the sign of u + 2^32 * sqrt(d)
  abbrev raised_sign : ℤ → Sign
  raised_sign u = sum_sign_of (sign_of u) Plus (sign_of (norm_of u unit (pos d)))

  -- the sign of u - 2^32 * sqrt(d)
  abbrev lowered_sign : ℤ → Sign
  lowered_sign u = sum_sign_of (sign_of u) Minus (sign_of (norm_of u (negsuc 4294967295) (pos d)))

  raised_minus : (u : ℤ) → (u +ℤ pos r) <ℤ pos 0 → raised_sign u ≡ Minus
  raised_minus (pos n) h = absurd (omega (arith, ints))
  raised_minus (negsuc n) h = ap opposite_of (norm_plus (suc n) (omega (arith, ints)))

  turned_plus : (s : Sign) → opposite_of s ≡ Minus → s ≡ Plus
  turned_plus Minus e = absurd (code e)
  turned_plus Zero e = absurd (code e)
  turned_plus Plus e = refl

  raised_not_minus : (u : ℤ) → pos 0 ≤ℤ (u +ℤ pos r) → raised_sign u ≢ Minus
  raised_not_minus (pos zero) h e = code e
  raised_not_minus (pos (suc n)) h e = code e
  raised_not_minus (negsuc n) h e = norm_not_plus (suc n) (omega (arith, ints)) (turned_plus _ e)

  lowered_minus : (u : ℤ) → u <ℤ pos (r + 1) → lowered_sign u ≢ Zero → lowered_sign u ≡ Minus
  lowered_minus (pos zero) h some = refl
  lowered_minus (pos (suc n)) h some = minus_left _ some (norm_not_plus (suc n) (omega (arith, ints)))
  lowered_minus (negsuc n) h some = refl

  lowered_not_minus : (u : ℤ) → pos (r + 1) ≤ℤ u → lowered_sign u ≢ Minus
  lowered_not_minus (pos zero) h e = absurd (omega (arith, ints))
  lowered_not_minus (pos (suc n)) h e = code (sym (norm_plus (suc n) (omega (arith, ints))) ∙ e)
  lowered_not_minus (negsuc n) h e = absurd (omega (arith, ints))

  -- a number less than the numerator, or not, by half of both
  module _ (b : ℤ) (m l s : ℕ) (positive : 0 < m) (from : s * m ≤ l) (below : l < (s + 1) * m) where
    abbrev distance : ℕ → ℤ
    distance k = unit *ℤ neg_ℤ b -ℤ pos (k * (2 * m))

    cut_below : (x : ℤ) (n : ℕ) → IsCutOff l x → l < n → (x -ℤ pos n) <ℤ pos 0
    cut_below x n (inl e) h = omega (arith, ints, e)
    cut_below x n (inr e) h = let f = e.1 in omega (arith, ints)

    cut_from : (x : ℤ) → IsCutOff l x → 0 < s → pos 0 ≤ℤ (x -ℤ pos (s * m))
    cut_from x (inl e) h = whole x (s * m) e from
      where
        whole : (x : ℤ) (n : ℕ) → pos l ≡ x → n ≤ l → pos 0 ≤ℤ (x -ℤ pos n)
        whole x n e h = omega (arith, ints, e)
    cut_from x (inr e) h = absurd (let z = one_at_least s m h positive in let f = e.0 in omega arith)

    at_half : (k : ℕ) → distance k ≡ unit *ℤ neg_ℤ b -ℤ pos (2 * (k * m))
    at_half k = ap (λ (n : ℕ). unit *ℤ neg_ℤ b -ℤ pos n) (twice k m)
      where
        twice : (k m : ℕ) → k * (2 * m) ≡ 2 * (k * m)
        twice k m = omega arith

    upper_end : IsCutOff l (half_numerator_of b r true) → (distance (s + 1) +ℤ pos r) <ℤ pos 0
    upper_end c = rw (at_half (s + 1)) (whole (neg_ℤ b) ((s + 1) * m) (cut_below (half_numerator_of b r true) ((s + 1) * m) c below))
      where
        whole : (y : ℤ) (n : ℕ) → ((half *ℤ y +ℤ pos (r / 2)) -ℤ pos n) <ℤ pos 0 → ((unit *ℤ y -ℤ pos (2 * n)) +ℤ pos r) <ℤ pos 0
        whole y n h = omega (arith, ints)

    upper_start : IsCutOff l (half_numerator_of b r true) → 0 < s → pos 0 ≤ℤ (distance s +ℤ pos r)
    upper_start c h = rw (at_half s) (whole (neg_ℤ b) (s * m) (cut_from (half_numerator_of b r true) c h))
      where
        whole : (y : ℤ) (n : ℕ) → pos 0 ≤ℤ ((half *ℤ y +ℤ pos (r / 2)) -ℤ pos n) → pos 0 ≤ℤ ((unit *ℤ y -ℤ pos (2 * n)) +ℤ pos r)
        whole y n h = omega (arith, ints)

    lower_end : IsCutOff l (half_numerator_of b r false) → distance (s + 1) <ℤ pos (r + 1)
    lower_end c = rw (at_half (s + 1)) (whole (neg_ℤ b) ((s + 1) * m) (cut_below (half_numerator_of b r false) ((s + 1) * m) c below))
      where
        whole : (y : ℤ) (n : ℕ) → ((half *ℤ y -ℤ pos (r / 2 + 1)) -ℤ pos n) <ℤ pos 0 → (unit *ℤ y -ℤ pos (2 * n)) <ℤ pos (r + 1)
        whole y n h = omega (arith, ints)

    lower_start : IsCutOff l (half_numerator_of b r false) → 0 < s → pos (r + 1) ≤ℤ distance s
    lower_start c h = rw (at_half s) (whole (neg_ℤ b) (s * m) (cut_from (half_numerator_of b r false) c h))
      where
        whole : (y : ℤ) (n : ℕ) → pos 0 ≤ℤ ((half *ℤ y -ℤ pos (r / 2 + 1)) -ℤ pos n) → pos (r + 1) ≤ℤ (unit *ℤ y -ℤ pos (2 * n))
        whole y n h = omega (arith, ints)

-- the line 2^32*t - k at a root, by its whole part and the norm
module _ (m d : ℕ) (b c : ℤ) (i : IsIrreducible (pos m) b c) (is : pos d ≡ discriminant (pos m) b c) where
  some : 0 < d
  some = let h = i.real in positive (discriminant (pos m) b c) is h
    where
      positive : (x : ℤ) → pos d ≡ x → pos 0 <ℤ x → 0 < d
      positive x e h = omega (arith, ints, e)

  at_upper : (r : ℕ) (root : IsWholeRoot (d * 2 ^ 64) r) (k : ℕ) → sign_at_instant (line (pos k) unit) (Root (pos m) b c true) ≡ raised_sign d r some root (unit *ℤ neg_ℤ b -ℤ pos (k * (2 * m)))
  unfolding sign_at_instant
  at_upper r root k =
      line_sign (number_of (Root (pos m) b c true)) (canonical-sound (Root (pos m) b c true) i) (divisor-positive (Root (pos m) b c true) i) (pos k) unit
      ∙ pair_sign-positive (unit *ℤ neg_ℤ b -ℤ pos (k * (2 * m))) unit (discriminant (pos m) b c) i.real
      ∙ ap (λ (x : ℤ). sum_sign_of (sign_of (unit *ℤ neg_ℤ b -ℤ pos (k * (2 * m)))) Plus (sign_of (norm_of (unit *ℤ neg_ℤ b -ℤ pos (k * (2 * m))) unit x))) (sym is)

  at_lower : (r : ℕ) (root : IsWholeRoot (d * 2 ^ 64) r) (k : ℕ) → sign_at_instant (line (pos k) unit) (Root (pos m) b c false) ≡ lowered_sign d r some root (unit *ℤ neg_ℤ b -ℤ pos (k * (2 * m)))
  unfolding sign_at_instant
  at_lower r root k =
      line_sign (number_of (Root (pos m) b c false)) (canonical-sound (Root (pos m) b c false) i) (divisor-positive (Root (pos m) b c false) i) (pos k) unit
      ∙ pair_sign-positive (unit *ℤ neg_ℤ b -ℤ pos (k * (2 * m))) (negsuc 4294967295) (discriminant (pos m) b c) i.real
      ∙ ap (λ (x : ℤ). sum_sign_of (sign_of (unit *ℤ neg_ℤ b -ℤ pos (k * (2 * m)))) Minus (sign_of (norm_of (unit *ℤ neg_ℤ b -ℤ pos (k * (2 * m))) (negsuc 4294967295) x))) (sym is)

  above : 0 < m
  above = at i.positive
    where
      at : pos 0 <ℤ pos m → 0 < m
      at h = omega (arith, ints)

  pub span_of_root : (upper : Bool) (r l s : ℕ) → IsWholeRoot (d * 2 ^ 64) r → IsCutOff l (half_numerator_of b r upper) → s * m ≤ l → l < (s + 1) * m → IsSpanOf s (Root (pos m) b c upper)
  span_of_root true r l s root cut from below = record {
    before_end = at_upper r root (s + 1) ∙ raised_minus d r some root (unit *ℤ neg_ℤ b -ℤ pos ((s + 1) * (2 * m))) (upper_end d r some root b m l s above from below cut);
    from_start = λ h e. raised_not_minus d r some root (unit *ℤ neg_ℤ b -ℤ pos (s * (2 * m))) (upper_start d r some root b m l s above from below cut h) (sym (at_upper r root s) ∙ e);
  }
  span_of_root false r l s root cut from below = record {
    before_end = at_lower r root (s + 1) ∙ lowered_minus d r some root (unit *ℤ neg_ℤ b -ℤ pos ((s + 1) * (2 * m))) (lower_end d r some root b m l s above from below cut) (λ z. line_at_root (pos m) b c i false (pos (s + 1)) unit refl (at_lower r root (s + 1) ∙ z));
    from_start = λ h e. lowered_not_minus d r some root (unit *ℤ neg_ℤ b -ℤ pos (s * (2 * m))) (lower_start d r some root b m l s above from below cut h) (sym (at_lower r root s) ∙ e);
  }

-- ---- as the code has them
whole : (d : ℤ) (v : ℕ) → pos 0 <ℤ d → v ≡ unsigned_abs d → pos v ≡ d
whole d v h e = omega (arith, ints, e)

pub span_of_ratio : (n d : ℤ) (u v : ℕ) → pos 0 <ℤ n → pos 0 <ℤ d → u ≡ unsigned_abs n → v ≡ unsigned_abs d → IsSpanOf (u * 2 ^ 32 / v) (Ratio n d)
span_of_ratio n d u v h k e f =
    let some : 0 < v = positive d v k f in
    subst (IsSpanOf (u * 2 ^ 32 / v)) (ap₂ Ratio (whole n u h e) (whole d v k f)) (span_of_fraction u v (u * 2 ^ 32 / v) some (omega arith) (omega arith))
  where
    positive : (d : ℤ) (v : ℕ) → pos 0 <ℤ d → v ≡ unsigned_abs d → 0 < v
    positive d v h e = omega (arith, ints, e)

pub span_at_root : (a b c : ℤ) (m d r l : ℕ) (upper : Bool) → IsIrreducible a b c → m ≡ unsigned_abs a → pos d ≡ discriminant a b c → IsWholeRoot (d * 2 ^ 64) r
    → IsCutOff l (half_numerator_of b r upper) → IsSpanOf (l / m) (Root a b c upper)
span_at_root a b c m d r l upper i e f root cut =
    let same : pos m ≡ a = whole a m i.positive e in
    let j : IsIrreducible (pos m) b c = subst (λ (x : ℤ). IsIrreducible x b c) (sym same) i in
    let some : 0 < m = positive m j.positive in
    subst (λ (x : ℤ). IsSpanOf (l / m) (Root x b c upper)) same
    (span_of_root m d b c j (f ∙ ap (λ (x : ℤ). discriminant x b c) (sym same)) upper r l (l / m) root cut (from l m) (below l m some))
  where
    positive : (m : ℕ) → pos 0 <ℤ pos m → 0 < m
    positive m h = omega (arith, ints)

    from : (l k : ℕ) → (l / k) * k ≤ l
    from l k = omega arith

    below : (l k : ℕ) → 0 < k → l < (l / k + 1) * k
    below l k h = omega arith
