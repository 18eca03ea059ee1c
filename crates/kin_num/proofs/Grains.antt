-- The number of moments left falls from moment to moment.
use Rattle.std.proofs.Common.{◌≡◌, ◌≢◌, ◌⊎◌, inl, inr, ℕ, suc, true, refl, sym, ap, ◌∙◌, subst, ◌+◌, ◌-◌, ◌*◌, ◌<◌, ◌≤◌, ◌^◌, arith}
use Rattle.std.specs.Prelude.{ℤ, pos, negsuc, ◌+ℤ◌, ◌-ℤ◌, ◌*ℤ◌, ◌<ℤ◌, ◌≤ℤ◌}
use Rattle.std.proofs.lemmas.Int.{ints}
use lib.IntN.{neg_ℤ}
use Rattle.kin_algebra.specs.declared.sign.Sign.{Sign}
use Rattle.kin_algebra.specs.declared.sign.Sign.TheVariants.{Minus, Zero, Plus}
use Rattle.kin_algebra.specs.Signs.{opposite_of}
use Rattle.kin_algebra.proofs.Signs.{AtLeast, code}
use Rattle.kin_num.specs.declared.instant.Shape.{Shape}
use Rattle.kin_num.specs.declared.instant.Phase.{Phase}
use Rattle.kin_num.specs.declared.instant.Phase.TheVariants.{At, After}
use Rattle.kin_num.specs.Canonical.{IsCanonical, IsCanonicalForm}
use Rattle.kin_num.specs.Instants.{number_of, sign_at_instant, line}
use Rattle.kin_num.specs.Order.{IsLess}
use Rattle.kin_num.specs.Laws.{IsLessByGrain}
use Rattle.kin_num.specs.Grains.{count_below, is_no_plus, is_grain_left, grains_left, phases_left, moments_left, MomentsRunOut}
use Rattle.kin_num.proofs.Values.{canonical-sound}
use Rattle.kin_num.proofs.RootZeros.{divisor-positive}
use Rattle.kin_num.proofs.Near.{HasSize, line_sign, start, end}
use Rattle.kin_num.proofs.Sizes.{small_size}
use Rattle.kin_num.proofs.LowerFractions.{not_less_itself, less_asym, lower_numerator}
use Rattle.kin_num.proofs.InstantOrder.{level_same}
use Rattle.kin_num.proofs.Counts.{count_less}
use Rattle.kin_num.proofs.LawProofs.{some_grain, apart}

-- ---- the test
no_plus : (s : Sign) → is_no_plus s ≡ true → s ≢ Plus
no_plus Minus e = λ f. code f
no_plus Zero e = λ f. code f
no_plus Plus e = absurd cc

test_no_plus : (s : Sign) → s ≢ Plus → is_no_plus s ≡ true
test_no_plus Minus n = refl
test_no_plus Zero n = refl
test_no_plus Plus n = absurd (n refl)

no_opposite : (s : Sign) → AtLeast (opposite_of s) → s ≢ Plus
no_opposite Minus h = λ e. code e
no_opposite Zero h = λ e. code e
no_opposite Plus (inl e) = absurd (code e)
no_opposite Plus (inr e) = absurd (code e)

-- ---- all instants of a size lie within a range of fractions
module _ (w : Shape) (form : IsCanonicalForm w) (m t : ℕ) (size : HasSize (number_of w) m) (some : 0 < t) where
  first_before : sign_at_instant (line (neg_ℤ (pos t *ℤ pos m +ℤ pos 1)) (pos t)) w ≡ Plus
  unfolding sign_at_instant
  first_before = line_sign (number_of w) (canonical-sound w form) (divisor-positive w form) (neg_ℤ (pos t *ℤ pos m +ℤ pos 1)) (pos t) ∙ start (number_of w) m t size some

  last_not_before : sign_at_instant (line (pos t *ℤ pos m) (pos t)) w ≢ Plus
  unfolding sign_at_instant
  last_not_before e = no_opposite _ (end (number_of w) m t size some) (sym (line_sign (number_of w) (canonical-sound w form) (divisor-positive w form) (pos t *ℤ pos m) (pos t)) ∙ e)

  t_positive : pos 0 <ℤ pos t
  t_positive = omega (arith, ints, some)

  -- a fraction at or after the instant isn't before the range
  from_first : (k : ℤ) → sign_at_instant (line k (pos t)) w ≢ Plus → neg_ℤ (pos t *ℤ pos m +ℤ pos 1) <ℤ k
  from_first k n = at (either k (neg_ℤ (pos t *ℤ pos m +ℤ pos 1)))
    where
      either : (k c : ℤ) → (k ≤ℤ c) ⊎ (c <ℤ k)
      either k c = grind (arith, ints)

      at : (k ≤ℤ neg_ℤ (pos t *ℤ pos m +ℤ pos 1)) ⊎ (neg_ℤ (pos t *ℤ pos m +ℤ pos 1) <ℤ k) → neg_ℤ (pos t *ℤ pos m +ℤ pos 1) <ℤ k
      at (inl h) = absurd (n (lower_numerator w form k (neg_ℤ (pos t *ℤ pos m +ℤ pos 1)) (pos t) t_positive h first_before))
      at (inr h) = h

  -- one before the instant isn't after the range
  to_last : (k : ℤ) → sign_at_instant (line k (pos t)) w ≡ Plus → k <ℤ (pos t *ℤ pos m)
  to_last k e = at (either k (pos t *ℤ pos m))
    where
      either : (k c : ℤ) → (c ≤ℤ k) ⊎ (k <ℤ c)
      either k c = grind (arith, ints)

      at : ((pos t *ℤ pos m) ≤ℤ k) ⊎ (k <ℤ (pos t *ℤ pos m)) → k <ℤ (pos t *ℤ pos m)
      at (inl h) = absurd (last_not_before (lower_numerator w form (pos t *ℤ pos m) k (pos t) t_positive h e))
      at (inr h) = h

-- ---- the range holds the numerator
taken : (n o : ℕ) → suc n ≤ o → (j : ℕ) × (j < o) × (pos j -ℤ pos o ≡ negsuc n)
taken n o h = (o - suc n, omega (arith, h), let e : o - suc n + suc n ≡ o = omega (arith, h) in subst (λ z. pos (o - suc n) -ℤ pos z ≡ negsuc n) e (less (o - suc n) n))
  where
    less : (j n : ℕ) → pos j -ℤ pos (j + suc n) ≡ negsuc n
    less j n = omega (arith, ints)

placed : (k : ℤ) (t m o : ℕ) → t * m < o → neg_ℤ (pos t *ℤ pos m +ℤ pos 1) <ℤ k → k <ℤ (pos t *ℤ pos m) → (j : ℕ) × (j < o + o) × (pos j -ℤ pos o ≡ k)
placed (pos n) t m o h a b = (n + o, omega (arith, ints, h, b), omega (arith, ints))
placed (negsuc n) t m o h a b = let p = taken n o (omega (arith, ints, h, a)) in (p.0, omega (arith, p.1), p.2)

grain_positive : pos 0 <ℤ pos (2 ^ 200)
grain_positive = omega (arith, ints)

range_holds : 2 ^ 200 * 2 ^ 33 < 2 ^ 234
range_holds = omega arith

range_end : 2 ^ 234 + 2 ^ 234 ≡ 2 ^ 235
range_end = omega arith

-- ---- the grain that separates is left of the earlier instant alone
module _ (v w : Shape) (cv : IsCanonical v) (cw : IsCanonical w) where
  -- what lies at or after the later instant lies after the earlier one
  still_left : IsLess v w → (j : ℕ) → is_grain_left w j ≡ true → is_grain_left v j ≡ true
  still_left l j e = test_no_plus _ (λ p. less_asym v w cv.form cw.form l (pos j -ℤ pos (2 ^ 234), pos (2 ^ 200), record { proper = grain_positive; first = no_plus _ e; second = p }))

  fewer_grains : IsLess v w → grains_left w < grains_left v
  unfolding grains_left
  fewer_grains l = at (apart v w cv cw (λ e. not_less_itself w (subst (λ z. IsLess z w) e l)))
    where
      by : IsLessByGrain v w → count_below (is_grain_left w) (2 ^ 235) < count_below (is_grain_left v) (2 ^ 235)
      by g =
          let p = placed g.n (2 ^ 200) (2 ^ 33) (2 ^ 234) range_holds
          (from_first v cv.form (2 ^ 33) (2 ^ 200) (small_size v cv.form cv.small) some_grain g.n g.separates.first)
          (to_last w cw.form (2 ^ 33) (2 ^ 200) (small_size w cw.form cw.small) some_grain g.n g.separates.second) in
          count_less (is_grain_left w) (is_grain_left v) (still_left l) p.0
          (ap (λ k. is_no_plus (sign_at_instant (line k (pos (2 ^ 200))) w)) p.2 ∙ ap is_no_plus g.separates.second)
          (ap (λ k. is_no_plus (sign_at_instant (line k (pos (2 ^ 200))) v)) p.2 ∙ test_no_plus _ g.separates.first)
          (2 ^ 235)
          (subst (λ n. p.0 < n) range_end p.1)

      at : IsLessByGrain v w ⊎ IsLessByGrain w v → count_below (is_grain_left w) (2 ^ 235) < count_below (is_grain_left v) (2 ^ 235)
      at (inl g) = by g
      at (inr g) = absurd (less_asym v w cv.form cw.form l (g.n, pos (2 ^ 200), g.separates))

-- ---- moments
left_most : (f : Phase) → phases_left f ≤ 1
left_most At = omega arith
left_most After = omega arith

pub moments_run_out : MomentsRunOut
unfolding moments_left
moments_run_out m n cm cn (inl l) = less (grains_left n.at) (grains_left m.at) (phases_left n.phase) (phases_left m.phase) (fewer_grains m.at n.at cm cn l) (left_most n.phase)
  where
    less : (x y a b : ℕ) → x < y → a ≤ 1 → 2 * x + a < 2 * y + b
    less x y a b h k = omega (arith, h, k)
moments_run_out m n cm cn (inr k) = less (grains_left n.at) (grains_left m.at) (phases_left n.phase) (phases_left m.phase) (ap grains_left (sym (level_same m.at n.at cm.form cn.form k.0))) (ap phases_left k.1) (ap phases_left k.2)
  where
    less : (x y a b : ℕ) → x ≡ y → b ≡ 1 → a ≡ 0 → 2 * x + a < 2 * y + b
    less x y a b e f g = omega (arith, e, f, g)
