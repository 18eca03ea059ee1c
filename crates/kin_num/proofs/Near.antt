-- A fraction k/t close to a number, and polynomials there: what has a sign at the number has it at the fraction.
use Rattle.std.proofs.Common.{◌≡◌, ◌≢◌, inl, inr, ℕ, zero, suc, Bool, true, false, [], ◌∷◌, refl, sym, ap, ap₂, ◌∙◌, subst, ◌+◌, ◌*◌, ◌≤◌, ◌<◌, arith, unsigned_abs}
use Rattle.std.specs.Prelude.{ℤ, pos, negsuc, ◌+ℤ◌, ◌-ℤ◌, ◌*ℤ◌, ◌≤ℤ◌}
use Rattle.std.proofs.lemmas.Int.{ints, unsigned_abs-mul}
use lib.IntN.{neg_ℤ}
use Rattle.kin_algebra.specs.declared.sign.Sign.{Sign}
use Rattle.kin_algebra.specs.declared.sign.Sign.TheVariants.{Minus, Zero, Plus}
use Rattle.kin_algebra.specs.Signs.{sign_of, opposite_of}
use Rattle.kin_algebra.proofs.Ring.{by_ring, quotes}
use Rattle.kin_algebra.proofs.Signs.{code, AtLeast}
use Rattle.kin_algebra.proofs.OrderedRings.{OrderedRing, scale}
use Rattle.kin_algebra.proofs.Bounds.{Between}
use Rattle.kin_algebra.proofs.Squares.{turning}
use Rattle.kin_algebra.proofs.Pairs.{Pair, pair, pair_plus, pair_times, pair_negative, Sound, sign_over, sign_over-whole, sign_over-negative}
use Rattle.kin_num.specs.Quadratic.{Quadratic}
use Rattle.kin_num.specs.Instants.{Number, sign_at_number, line}
use Rattle.kin_num.proofs.Values.{value}
use Rattle.kin_num.proofs.Nearness.{value_in, apart_in, fine, far_left, far_right, right_close, left_close}
use Rattle.kin_num.proofs.NumberRing.{flat, conjugate, ring_over, flat_some, flat_between, pair_between}

-- t*t times the value at k/t
abbrev pub at_fraction : Quadratic → ℤ → ℤ → ℤ
at_fraction p t k = p.a *ℤ (k *ℤ k) +ℤ p.b *ℤ (t *ℤ k) +ℤ p.c *ℤ (t *ℤ t)

pub size_negative : (z : ℤ) → unsigned_abs (neg_ℤ z) ≡ unsigned_abs z
size_negative (pos zero) = refl
size_negative (pos (suc n)) = refl
size_negative (negsuc n) = refl

pub size_double : (z : ℤ) → unsigned_abs (pos 2 *ℤ z) ≡ 2 * unsigned_abs z
size_double z = unsigned_abs-mul (pos 2) z

-- the coefficients are at most h in size
pub record HasHeight (p : Quadratic) (h : ℕ) : Type 0 where
  pub a_most : unsigned_abs p.a ≤ h
  pub b_most : unsigned_abs p.b ≤ h
  pub c_most : unsigned_abs p.c ≤ h

-- the divisor is positive and at most w, and so is the size of the whole part and the root part together
pub record HasSize (x : Number) (w : ℕ) : Type 0 where
  pub sound : Sound x.radicand
  pub positive : sign_of x.divisor ≡ Plus
  pub divisor_most : unsigned_abs x.divisor ≤ w
  -- at least the square root of the radicand
  pub root_bound : ℕ
  pub radicand_most : pos 0 ≤ℤ (pos (root_bound * root_bound) -ℤ x.radicand)
  pub point_most : unsigned_abs x.whole + unsigned_abs x.root * root_bound ≤ w

-- fractions of the denominator t are fine enough for these sizes
abbrev pub IsFine : ℕ → ℕ → ℕ → Type 0
IsFine h w t = 12 * (h * h) * ((w * w) * (w * w)) < t

-- a denominator that is fine enough for them
abbrev pub grain : ℕ → ℕ → ℕ
grain h w = 12 * (h * h) * ((w * w) * (w * w)) + 1

pub grain-fine : (h w : ℕ) → IsFine h w (grain h w)
grain-fine h w = more (12 * (h * h) * ((w * w) * (w * w)))
  where
    more : (n : ℕ) → n < n + 1
    more n = omega arith

module _ (x : Number) where
  abbrev pub d : ℤ
  d = x.radicand

  abbrev pub Z : Pair
  Z = pair x.whole x.root

  pub value-in : (s : Sound d) (p : Quadratic) → value p x ≡ value_in (ring_over d s) (flat p.a) (flat p.b) (flat p.c) (flat x.divisor) Z
  value-in s p =
      ap₂ pair
      (by_ring (p.a ∷ p.b ∷ p.c ∷ x.whole ∷ x.root ∷ x.radicand ∷ x.divisor ∷ []) _ _ (search quotes depth 30 fits 40000) (search quotes depth 30 fits 40000) refl)
      (by_ring (p.a ∷ p.b ∷ p.c ∷ x.whole ∷ x.root ∷ x.radicand ∷ x.divisor ∷ []) _ _ (search quotes depth 30 fits 40000) (search quotes depth 30 fits 40000) refl)

  pub conjugate-in : (s : Sound d) (p : Quadratic) →
      conjugate (value_in (ring_over d s) (flat p.a) (flat p.b) (flat p.c) (flat x.divisor) Z) ≡ value_in (ring_over d s) (flat p.a) (flat p.b) (flat p.c) (flat x.divisor) (conjugate Z)
  conjugate-in s p =
      ap₂ pair
      (by_ring (p.a ∷ p.b ∷ p.c ∷ x.whole ∷ x.root ∷ x.radicand ∷ x.divisor ∷ []) _ _ (search quotes depth 30 fits 40000) (search quotes depth 30 fits 40000) refl)
      (by_ring (p.a ∷ p.b ∷ p.c ∷ x.whole ∷ x.root ∷ x.radicand ∷ x.divisor ∷ []) _ _ (search quotes depth 30 fits 40000) (search quotes depth 30 fits 40000) refl)

  pub fraction-in : (s : Sound d) (p : Quadratic) (t k : ℤ) → value_in (ring_over d s) (flat p.a) (flat p.b) (flat p.c) (flat t) (flat k) ≡ flat (at_fraction p t k)
  fraction-in s p t k =
      ap₂ pair
      (by_ring (p.a ∷ p.b ∷ p.c ∷ t ∷ k ∷ x.radicand ∷ []) _ _ (search quotes depth 30 fits 40000) (search quotes depth 30 fits 40000) refl)
      (by_ring (p.a ∷ p.b ∷ p.c ∷ t ∷ k ∷ x.radicand ∷ []) _ _ (search quotes depth 30 fits 40000) (search quotes depth 30 fits 40000) refl)

  pub fine-in : (s : Sound d) (h w : ℤ) → fine (ring_over d s) (flat h) (flat w) ≡ flat (pos 12 *ℤ (h *ℤ h) *ℤ ((w *ℤ w) *ℤ (w *ℤ w)))
  fine-in s h w =
      ap₂ pair
      (by_ring (h ∷ w ∷ x.radicand ∷ []) _ _ (search quotes depth 30 fits 40000) (search quotes depth 30 fits 40000) refl)
      (by_ring (h ∷ w ∷ x.radicand ∷ []) _ _ (search quotes depth 30 fits 40000) (search quotes depth 30 fits 40000) refl)

  -- the line t*T - k at the number, times the divisor
  abbrev pub past : ℤ → ℤ → Pair
  past k t = pair (t *ℤ x.whole -ℤ k *ℤ x.divisor) (t *ℤ x.root)

  line-in : (k t : ℤ) → value (line k t) x ≡ pair_times d (flat x.divisor) (past k t)
  line-in k t =
      ap₂ pair
      (by_ring (k ∷ t ∷ x.whole ∷ x.root ∷ x.radicand ∷ x.divisor ∷ []) _ _ (search quotes depth 30 fits 40000) (search quotes depth 30 fits 40000) refl)
      (by_ring (k ∷ t ∷ x.whole ∷ x.root ∷ x.divisor ∷ []) _ _ (search quotes depth 30 fits 40000) (search quotes depth 30 fits 40000) refl)

  pub line_sign : Sound d → sign_of x.divisor ≡ Plus → (k t : ℤ) → sign_at_number (line k t) x ≡ sign_over d (past k t)
  line_sign s q k t = ap (sign_over d) (line-in k t) ∙ scale (ring_over d s) {a = flat x.divisor} (past k t) (sign_over-whole d s x.divisor ∙ q)

-- ---- a fraction on each side
not_plus_test : Sign → Bool
not_plus_test Minus = true
not_plus_test Zero = true
not_plus_test Plus = false

not_plus : (s : Sign) → not_plus_test s ≡ true → s ≢ Plus
unfolding not_plus_test
not_plus Minus e = λ f. code f
not_plus Zero e = λ f. code f
not_plus Plus e = absurd cc

plus : (s : Sign) → not_plus_test s ≡ false → s ≡ Plus
unfolding not_plus_test
plus Minus e = absurd cc
plus Zero e = absurd cc
plus Plus e = refl

test_of_plus : (s : Sign) → s ≡ Plus → not_plus_test s ≡ false
unfolding not_plus_test
test_of_plus s e = ap not_plus_test e

test_of_opposite : (s : Sign) → AtLeast (opposite_of s) → not_plus_test s ≡ true
unfolding not_plus_test
test_of_opposite Minus h = refl
test_of_opposite Zero h = refl
test_of_opposite Plus (inl e) = absurd (code e)
test_of_opposite Plus (inr e) = absurd (code e)

opposite_at_least : (s : Sign) → s ≢ Plus → AtLeast (opposite_of s)
opposite_at_least Minus n = inl refl
opposite_at_least Zero n = inr refl
opposite_at_least Plus n = absurd (n refl)

-- the number lies after (k - 1)/t, and not after k/t
pub record Bracket (x : Number) (t : ℤ) : Type 0 where
  pub k : ℤ
  pub after : sign_over x.radicand (past x (k -ℤ pos 1) t) ≡ Plus
  pub not_after : sign_over x.radicand (past x k t) ≢ Plus

module _ (x : Number) (w t : ℕ) (size : HasSize x w) (some : 0 < t) where
  abbrev pub s : Sound x.radicand
  s = size.sound

  abbrev pub o : OrderedRing Pair
  o = ring_over x.radicand s

  abbrev pub W : Pair
  W = flat (pos w)

  abbrev pub T : Pair
  T = flat (pos t)

  abbrev pub Q : Pair
  Q = flat x.divisor

  pub point_size : Between o W (pair x.whole x.root)
  point_size = pair_between x.radicand s size.root_bound size.radicand_most w x.whole x.root size.point_most

  pub divisor_size : Between o W Q
  divisor_size = flat_between x.radicand s w x.divisor size.divisor_most

  pub Q_positive : sign_over x.radicand Q ≡ Plus
  Q_positive = sign_over-whole x.radicand s x.divisor ∙ size.positive

  W_some : AtLeast (sign_over x.radicand W)
  W_some = flat_some x.radicand s (pos w) (omega (arith, ints))

  T_some : AtLeast (sign_over x.radicand T)
  T_some = flat_some x.radicand s (pos t) (omega (arith, ints))

  Q_less_one : AtLeast (sign_over x.radicand (flat (x.divisor -ℤ pos 1)))
  Q_less_one = flat_some x.radicand s (x.divisor -ℤ pos 1) (at x.divisor size.positive)
    where
      at : (q : ℤ) → sign_of q ≡ Plus → pos 0 ≤ℤ (q -ℤ pos 1)
      at (pos zero) e = absurd (code e)
      at (pos (suc n)) e = omega (arith, ints)
      at (negsuc n) e = absurd (code e)

  -- far to the left
  start-as : (w t n m q d : ℤ) → pair (t *ℤ n -ℤ neg_ℤ (t *ℤ w +ℤ pos 1) *ℤ q) (t *ℤ m)
      ≡ pair_plus (flat q) (pair_plus (pair_times d (flat t) (pair_plus (flat w) (pair n m))) (pair_times d (pair_times d (flat t) (flat w)) (flat (q -ℤ pos 1))))
  start-as w t n m q d =
      ap₂ pair
      (by_ring (w ∷ t ∷ n ∷ m ∷ q ∷ d ∷ []) _ _ (search quotes depth 30 fits 40000) (search quotes depth 30 fits 40000) refl)
      (by_ring (w ∷ t ∷ n ∷ m ∷ q ∷ d ∷ []) _ _ (search quotes depth 30 fits 40000) (search quotes depth 30 fits 40000) refl)

  pub start : sign_over x.radicand (past x (neg_ℤ (pos t *ℤ pos w +ℤ pos 1)) (pos t)) ≡ Plus
  start =
      ap (sign_over x.radicand) (start-as (pos w) (pos t) x.whole x.root x.divisor x.radicand)
      ∙ far_left o T W (pair x.whole x.root) Q (flat (x.divisor -ℤ pos 1)) T_some W_some point_size Q_less_one Q_positive

  -- far to the right
  end-as : (w t n m q d : ℤ) → pair_negative (pair (t *ℤ n -ℤ (t *ℤ w) *ℤ q) (t *ℤ m))
      ≡ pair_plus (pair_times d (flat t) (pair_plus (flat w) (pair_negative (pair n m)))) (pair_times d (pair_times d (flat t) (flat w)) (flat (q -ℤ pos 1)))
  end-as w t n m q d =
      ap₂ pair
      (by_ring (w ∷ t ∷ n ∷ m ∷ q ∷ d ∷ []) _ _ (search quotes depth 30 fits 40000) (search quotes depth 30 fits 40000) refl)
      (by_ring (w ∷ t ∷ n ∷ m ∷ q ∷ d ∷ []) _ _ (search quotes depth 30 fits 40000) (search quotes depth 30 fits 40000) refl)

  pub end : AtLeast (opposite_of (sign_over x.radicand (past x (pos t *ℤ pos w) (pos t))))
  end =
      subst AtLeast
      (sym (ap (sign_over x.radicand) (end-as (pos w) (pos t) x.whole x.root x.divisor x.radicand)) ∙ sign_over-negative x.radicand s (past x (pos t *ℤ pos w) (pos t)))
      (far_right o T W (pair x.whole x.root) (flat (x.divisor -ℤ pos 1)) T_some W_some point_size Q_less_one)

  abbrev numerator : ℕ → ℤ
  numerator j = pos j -ℤ (pos t *ℤ pos w +ℤ pos 1)

  reached : ℕ → Bool
  reached j = not_plus_test (sign_over x.radicand (past x (numerator j) (pos t)))

  pub bracket : Bracket x (pos t)
  unfolding reached
  bracket =
      let turn = turning reached (t * w + t * w) (at_start (numerator 0) (negative_of (t * w))) (at_end (numerator (suc (t * w + t * w))) (whole_of (t * w))) in
      record {
        k = numerator (suc turn.0);
        after = plus _ (ap (λ k. not_plus_test (sign_over x.radicand (past x k (pos t)))) (one_less turn.0 (pos t *ℤ pos w +ℤ pos 1)) ∙ turn.1);
        not_after = not_plus _ turn.2;
      }
    where
      negative_of : (n : ℕ) → pos 0 -ℤ (pos n +ℤ pos 1) ≡ neg_ℤ (pos n +ℤ pos 1)
      negative_of n = omega (arith, ints)

      whole_of : (n : ℕ) → pos (suc (n + n)) -ℤ (pos n +ℤ pos 1) ≡ pos n
      whole_of n = omega (arith, ints)

      one_less : (j : ℕ) (c : ℤ) → (pos (suc j) -ℤ c) -ℤ pos 1 ≡ pos j -ℤ c
      one_less j c = omega (arith, ints)

      at_start : (k : ℤ) → k ≡ neg_ℤ (pos t *ℤ pos w +ℤ pos 1) → not_plus_test (sign_over x.radicand (past x k (pos t))) ≡ false
      at_start k e = test_of_plus _ (ap (λ k. sign_over x.radicand (past x k (pos t))) e ∙ start)

      at_end : (k : ℤ) → k ≡ pos t *ℤ pos w → not_plus_test (sign_over x.radicand (past x k (pos t))) ≡ true
      at_end k e = test_of_opposite _ (subst (λ k. AtLeast (opposite_of (sign_over x.radicand (past x k (pos t))))) (sym e) end)

  -- ---- the two fractions lie close
  abbrev pub E : ℤ → Pair
  E k = apart_in o Q (pair x.whole x.root) T (flat k)

  turned_past : (k t n m q d : ℤ) → pair_negative (pair (t *ℤ n -ℤ k *ℤ q) (t *ℤ m)) ≡ pair_plus (pair_times d (flat q) (flat k)) (pair_negative (pair_times d (flat t) (pair n m)))
  turned_past k t n m q d =
      ap₂ pair
      (by_ring (k ∷ t ∷ n ∷ m ∷ q ∷ d ∷ []) _ _ (search quotes depth 30 fits 40000) (search quotes depth 30 fits 40000) refl)
      (by_ring (k ∷ t ∷ n ∷ m ∷ q ∷ d ∷ []) _ _ (search quotes depth 30 fits 40000) (search quotes depth 30 fits 40000) refl)

  whole_step : (k t n m q d : ℤ) → pair_plus (pair_plus (pair_times d (flat q) (flat k)) (pair_negative (pair_times d (flat t) (pair n m)))) (pair (t *ℤ n -ℤ (k -ℤ pos 1) *ℤ q) (t *ℤ m)) ≡ flat q
  whole_step k t n m q d =
      ap₂ pair
      (by_ring (k ∷ t ∷ n ∷ m ∷ q ∷ d ∷ []) _ _ (search quotes depth 30 fits 40000) (search quotes depth 30 fits 40000) refl)
      (by_ring (k ∷ t ∷ n ∷ m ∷ q ∷ d ∷ []) _ _ (search quotes depth 30 fits 40000) (search quotes depth 30 fits 40000) refl)

  module _ (b : Bracket x (pos t)) where
    right_some : AtLeast (sign_over x.radicand (E b.k))
    right_some =
        subst AtLeast
        (sym (sign_over-negative x.radicand s (past x b.k (pos t))) ∙ ap (sign_over x.radicand) (turned_past b.k (pos t) x.whole x.root x.divisor x.radicand))
        (opposite_at_least _ b.not_after)

    pub right_between : Between o W (E b.k)
    right_between = right_close o W Q (E b.k) (past x (b.k -ℤ pos 1) (pos t)) (whole_step b.k (pos t) x.whole x.root x.divisor x.radicand) divisor_size W_some right_some (inl b.after)

    pub left_between : Between o W (E (b.k -ℤ pos 1))
    left_between =
        subst (Between o W) (turned_past (b.k -ℤ pos 1) (pos t) x.whole x.root x.divisor x.radicand)
        (left_close o W Q (E b.k) (past x (b.k -ℤ pos 1) (pos t)) (whole_step b.k (pos t) x.whole x.root x.divisor x.radicand) divisor_size W_some right_some (inl b.after))
