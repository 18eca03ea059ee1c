-- Where lines and quadratics are zero, and the sign of a quadratic by its discriminant.
use Rattle.std.proofs.Common.{◌≡◌, ◌⊎◌, inl, inr, refl, ap, ap₂, sym, ◌∙◌, Bool, true, false, zero, suc, [], ◌∷◌, arith, ℤ, pos, negsuc, ◌+ℤ◌, ◌-ℤ◌, ◌*ℤ◌}
use Rattle.std.specs.Prelude.{◌<ℤ◌}
use Rattle.std.proofs.lemmas.Int.{ints}
use lib.IntN.{neg_ℤ}
use Rattle.kin_algebra.proofs.Magnitudes.{difference_of_same}
use Rattle.kin_algebra.specs.declared.sign.Sign.TheVariants.{Minus, Zero, Plus}
use Rattle.kin_algebra.specs.Signs.{sign_of, opposite_of, product_of, pair_sign_of}
use Rattle.kin_algebra.proofs.Rings.{times_zero}
use Rattle.kin_algebra.proofs.Integers.{integers}
use Rattle.kin_algebra.proofs.Ring.{by_ring, quotes}
use Rattle.kin_algebra.proofs.Signs.{square_none}
use Rattle.kin_algebra.proofs.IntegerSigns.{sign_of-negative, sign_in, sign_out, zero_of, sign_of-times}
use Rattle.kin_algebra.proofs.OrderedRings.{scale, positive_sum, positive_cancel, sign_square}
use Rattle.kin_algebra.proofs.Pairs.{pair, pair_times, Sound, sign_over, sign_over-whole, sign_over-times, ordered}
use Rattle.kin_num.specs.declared.instant.Shape.{Shape}
use Rattle.kin_num.specs.declared.instant.Shape.TheVariants.{Ratio, Root}
use Rattle.kin_num.specs.Quadratic.{Quadratic}
use Rattle.kin_num.specs.Canonical.{IsCanonicalForm, IsLowest, IsIrreducible, discriminant}
use Rattle.kin_num.specs.Instants.{Number, number_of, sign_at_number, sign_at_instant, derivative, line}
use Rattle.kin_num.proofs.Values.{value, canonical-sound}
use Rattle.kin_instant.specs.Roots.{quadratic}
use Rattle.kin_num.proofs.Divisors.{cancel_factor, same_lowest}
use Rattle.kin_num.proofs.FractionOrder.{on_line, line_at_root}
use Rattle.kin_num.proofs.RootZeros.{divisor-positive as divisor_sign, completed_square, root_itself}
use Rattle.kin_num.proofs.NumberRing.{flat}

pub doubled_positive : (a : ℤ) → pos 0 <ℤ a → pos 0 <ℤ (pos 2 *ℤ a)
doubled_positive a h = omega (arith, ints)

pub positive_product : (a b : ℤ) → pos 0 <ℤ a → pos 0 <ℤ b → pos 0 <ℤ (a *ℤ b)
positive_product a b h k = sign_out Plus (a *ℤ b) (sign_of-times a b ∙ ap₂ product_of (sign_in Plus a h) (sign_in Plus b k))

-- ---- at any number whose radicand is sound and whose divisor is positive
module _ (x : Number) (s : Sound x.radicand) (h : pos 0 <ℤ x.divisor) where
  open x use {whole as N, root as M, radicand as R, divisor as Q}

  abbrev fourth : ℤ
  fourth = (Q *ℤ Q) *ℤ (Q *ℤ Q)

  fourth_positive : pos 0 <ℤ fourth
  fourth_positive = positive_product (Q *ℤ Q) (Q *ℤ Q) (positive_product Q Q h h) (positive_product Q Q h h)

  scaled_value : (k a b c : ℤ) → pair_times R (pair k (pos 0)) (value (quadratic a b c) x) ≡ value (quadratic (k *ℤ a) (k *ℤ b) (k *ℤ c)) x
  scaled_value k a b c = ap₂ pair
      (by_ring (k ∷ a ∷ b ∷ c ∷ N ∷ M ∷ R ∷ Q ∷ []) _ _ (search quotes depth 30 fits 40000) (search quotes depth 30 fits 40000) refl)
      (by_ring (k ∷ a ∷ b ∷ c ∷ N ∷ M ∷ R ∷ Q ∷ []) _ _ (search quotes depth 30 fits 40000) (search quotes depth 30 fits 40000) refl)

  -- a positive factor changes no sign
  pub number-scaled : (k a b c : ℤ) → pos 0 <ℤ k → sign_at_number (quadratic (k *ℤ a) (k *ℤ b) (k *ℤ c)) x ≡ sign_at_number (quadratic a b c) x
  number-scaled k a b c p = sym (ap (sign_over R) (scaled_value k a b c)) ∙ scale (ordered R s) {a = pair k (pos 0)} (value (quadratic a b c) x) (sign_over-whole R s k ∙ sign_in Plus k p)

  module _ (a b c : ℤ) where
    abbrev K : ℤ
    K = (pos 4 *ℤ a) *ℤ (Q *ℤ Q)

    K_positive : pos 0 <ℤ a → pos 0 <ℤ K
    K_positive p = positive_product (pos 4 *ℤ a) (Q *ℤ Q) (omega (arith, ints)) (positive_product Q Q h h)

    pub number-negative : pos 0 <ℤ a → discriminant a b c <ℤ pos 0 → sign_at_number (quadratic a b c) x ≡ Plus
    number-negative p q =
        let o = ordered R s in
        let v = value (derivative (quadratic a b c)) x in
        let rest = flat (neg_ℤ (discriminant a b c *ℤ fourth)) in
        let more : sign_over R rest ≡ Plus =
        sign_over-whole R s _ ∙ sign_of-negative (discriminant a b c *ℤ fourth) ∙ ap opposite_of (sign_of-times (discriminant a b c) fourth ∙ ap₂ product_of (sign_in Minus _ q) (sign_in Plus fourth fourth_positive)) in
        positive_cancel o {a = pair K (pos 0)} (sign_over-whole R s K ∙ sign_in Plus K (K_positive p))
        (ap (sign_over R) (completed_square a b c x) ∙ positive_sum o {a = rest} {b = pair_times R v v} more (sign_square o v))

    -- a square discriminant: the sign is the product of the signs of two lines
    module _ (r : ℤ) (e : r *ℤ r ≡ discriminant a b c) where
      fourfold : pos 4 *ℤ a *ℤ c ≡ b *ℤ b -ℤ r *ℤ r
      fourfold = moved (r *ℤ r) (b *ℤ b) (pos 4 *ℤ a *ℤ c) e
        where
          moved : (x y z : ℤ) → x ≡ y -ℤ z → z ≡ y -ℤ x
          moved x y z e = omega (arith, ints, e)

      abbrev upper : Quadratic
      upper = line (r -ℤ b) (pos 2 *ℤ a)

      abbrev lower : Quadratic
      lower = line (neg_ℤ r -ℤ b) (pos 2 *ℤ a)

      split_units : (pair_times R (pair K (pos 0)) (value (quadratic a b c) x)).units ≡ (pair_times R (value lower x) (value upper x)).units
      split_units =
          by_ring (a ∷ b ∷ c ∷ N ∷ M ∷ R ∷ Q ∷ [])
          (pair_times R (pair K (pos 0)) (value (quadratic a b c) x)).units
          ((pos 4 *ℤ a) *ℤ (Q *ℤ Q) *ℤ (a *ℤ (N *ℤ N +ℤ M *ℤ M *ℤ R) +ℤ b *ℤ N *ℤ Q) +ℤ (pos 4 *ℤ a *ℤ c) *ℤ fourth)
          (search quotes depth 40 fits 100000) (search quotes depth 40 fits 100000) refl
          ∙ ap (λ (z : ℤ). (pos 4 *ℤ a) *ℤ (Q *ℤ Q) *ℤ (a *ℤ (N *ℤ N +ℤ M *ℤ M *ℤ R) +ℤ b *ℤ N *ℤ Q) +ℤ z *ℤ fourth) fourfold
          ∙ by_ring (a ∷ b ∷ r ∷ N ∷ M ∷ R ∷ Q ∷ []) _ _ (search quotes depth 40 fits 100000) (search quotes depth 40 fits 100000) refl

      split_roots : (pair_times R (pair K (pos 0)) (value (quadratic a b c) x)).roots ≡ (pair_times R (value lower x) (value upper x)).roots
      split_roots = by_ring (a ∷ b ∷ c ∷ r ∷ N ∷ M ∷ R ∷ Q ∷ []) _ _ (search quotes depth 40 fits 100000) (search quotes depth 40 fits 100000) refl

      pub number-split : pos 0 <ℤ a → sign_at_number (quadratic a b c) x ≡ product_of (sign_at_number lower x) (sign_at_number upper x)
      number-split p =
          sym (scale (ordered R s) {a = pair K (pos 0)} (value (quadratic a b c) x) (sign_over-whole R s K ∙ sign_in Plus K (K_positive p)))
          ∙ ap (sign_over R) (ap₂ pair split_units split_roots)
          ∙ sign_over-times R s (value lower x) (value upper x)

-- ---- at a canonical instant
pub divisor-positive : (w : Shape) → IsCanonicalForm w → pos 0 <ℤ (number_of w).divisor
divisor-positive w i = sign_out Plus _ (divisor_sign w i)

pub instant-scaled : (w : Shape) → IsCanonicalForm w → (k a b c : ℤ) → pos 0 <ℤ k → sign_at_instant (quadratic (k *ℤ a) (k *ℤ b) (k *ℤ c)) w ≡ sign_at_instant (quadratic a b c) w
unfolding sign_at_instant
instant-scaled w i k a b c p = number-scaled (number_of w) (canonical-sound w i) (divisor-positive w i) k a b c p

pub instant-negative : (w : Shape) → IsCanonicalForm w → (a b c : ℤ) → pos 0 <ℤ a → discriminant a b c <ℤ pos 0 → sign_at_instant (quadratic a b c) w ≡ Plus
unfolding sign_at_instant
instant-negative w i a b c p q = number-negative (number_of w) (canonical-sound w i) (divisor-positive w i) a b c p q

pub instant-split : (w : Shape) → IsCanonicalForm w → (a b c r : ℤ) → pos 0 <ℤ a → r *ℤ r ≡ discriminant a b c →
    sign_at_instant (quadratic a b c) w ≡ product_of (sign_at_instant (line (neg_ℤ r -ℤ b) (pos 2 *ℤ a)) w) (sign_at_instant (line (r -ℤ b) (pos 2 *ℤ a)) w)
unfolding sign_at_instant
instant-split w i a b c r p e = number-split (number_of w) (canonical-sound w i) (divisor-positive w i) a b c r e p

-- a square that is 0
pub square_zero : (z : ℤ) → z *ℤ z ≡ pos 0 → z ≡ pos 0
square_zero z e = zero_of z (square_none (sign_of z) (sym (sign_of-times z z) ∙ ap sign_of e))

-- ---- lines
-- a line through n/d is zero at the form of n/d in lowest terms
pub ratio_on_line : (n d m e : ℤ) → pos 0 *ℤ (m *ℤ m +ℤ pos 0 *ℤ pos 0 *ℤ pos 0) +ℤ d *ℤ m *ℤ e +ℤ neg_ℤ n *ℤ e *ℤ e ≡ e *ℤ (m *ℤ d -ℤ n *ℤ e)
ratio_on_line n d m e = by_ring (n ∷ d ∷ m ∷ e ∷ []) _ _ (search quotes depth 20) (search quotes depth 20) refl

pub line-zero_at : (n d m e : ℤ) → m *ℤ d ≡ n *ℤ e → sign_at_instant (line n d) (Ratio m e) ≡ Zero
unfolding sign_at_instant
line-zero_at n d m e h = ap sign_of (ratio_on_line n d m e ∙ ap (λ (z : ℤ). e *ℤ z) (difference_of_same (m *ℤ d) (n *ℤ e) h) ∙ times_zero integers e)

-- m * d' = n' * e from m / e = n / d = n' / d'
chained : (n d m e n' d' : ℤ) → pos 0 <ℤ d → m *ℤ d ≡ n *ℤ e → n' *ℤ d ≡ n *ℤ d' → m *ℤ d' ≡ n' *ℤ e
chained n d m e n' d' h p q =
    cancel_factor d (m *ℤ d') (n' *ℤ e) h
    (by_ring (m ∷ d' ∷ d ∷ []) (d *ℤ (m *ℤ d')) ((m *ℤ d) *ℤ d') (search quotes depth 16) (search quotes depth 16) refl
    ∙ ap (λ (z : ℤ). z *ℤ d') p
    ∙ by_ring (n ∷ e ∷ d' ∷ []) (n *ℤ e *ℤ d') ((n *ℤ d') *ℤ e) (search quotes depth 16) (search quotes depth 16) refl
    ∙ ap (λ (z : ℤ). z *ℤ e) (sym q)
    ∙ by_ring (n' ∷ d ∷ e ∷ []) ((n' *ℤ d) *ℤ e) (d *ℤ (n' *ℤ e)) (search quotes depth 16) (search quotes depth 16) refl)

pub line-zero : (w : Shape) → IsCanonicalForm w → (n d n' d' : ℤ) → pos 0 <ℤ d → IsLowest n' d' → n' *ℤ d ≡ n *ℤ d' → sign_at_instant (line n d) w ≡ Zero → w ≡ Ratio n' d'
line-zero (Ratio m e) i n d n' d' h j q z = let same = same_lowest m e n' d' i j (chained n d m e n' d' h (on_line n d m e i.positive z) q) in ap₂ Ratio same.0 same.1
line-zero (Root a b c upper) i n d n' d' h j q z = absurd (line_at_root a b c i upper n d (sign_in Plus d h) z)

-- ---- irreducible quadratics
on_itself : (a b c m : ℤ) → m *ℤ m ≡ pos 1 → a *ℤ (neg_ℤ b *ℤ neg_ℤ b +ℤ m *ℤ m *ℤ (b *ℤ b -ℤ pos 4 *ℤ a *ℤ c)) +ℤ b *ℤ neg_ℤ b *ℤ (pos 2 *ℤ a) +ℤ c *ℤ (pos 2 *ℤ a) *ℤ (pos 2 *ℤ a) ≡ pos 0
on_itself a b c m e =
    ap (λ (k : ℤ). a *ℤ (neg_ℤ b *ℤ neg_ℤ b +ℤ k *ℤ (b *ℤ b -ℤ pos 4 *ℤ a *ℤ c)) +ℤ b *ℤ neg_ℤ b *ℤ (pos 2 *ℤ a) +ℤ c *ℤ (pos 2 *ℤ a) *ℤ (pos 2 *ℤ a)) e
    ∙ by_ring (a ∷ b ∷ c ∷ []) _ _ (search quotes depth 24 fits 40000) (search quotes depth 24 fits 40000) refl

on_itself_surd : (a b m : ℤ) → pos 2 *ℤ a *ℤ neg_ℤ b *ℤ m +ℤ b *ℤ m *ℤ (pos 2 *ℤ a) ≡ pos 0
on_itself_surd a b m = by_ring (a ∷ b ∷ m ∷ []) _ _ (search quotes depth 24) (search quotes depth 24) refl

nothing_pair : (d : ℤ) → pair_sign_of (pos 0) (pos 0) d ≡ Zero
nothing_pair (pos zero) = refl
nothing_pair (pos (suc n)) = refl
nothing_pair (negsuc n) = refl

pub root-zero_at : (a b c : ℤ) (upper : Bool) → sign_at_instant (quadratic a b c) (Root a b c upper) ≡ Zero
unfolding sign_at_instant
root-zero_at a b c true = ap₂ (λ (u v : ℤ). pair_sign_of u v (discriminant a b c)) (on_itself a b c (pos 1) refl) (on_itself_surd a b (pos 1)) ∙ nothing_pair (discriminant a b c)
root-zero_at a b c false = ap₂ (λ (u v : ℤ). pair_sign_of u v (discriminant a b c)) (on_itself a b c (negsuc 0) refl) (on_itself_surd a b (negsuc 0)) ∙ nothing_pair (discriminant a b c)

pub quadratic-zero : (w : Shape) → IsCanonicalForm w → (a b c : ℤ) → IsIrreducible a b c → sign_at_instant (quadratic a b c) w ≡ Zero → (w ≡ Root a b c false) ⊎ (w ≡ Root a b c true)
quadratic-zero w i a b c j z = which (root_itself a b c j w i z)
  where
    which : (upper : Bool) × (w ≡ Root a b c upper) → (w ≡ Root a b c false) ⊎ (w ≡ Root a b c true)
    which (true, e) = inr e
    which (false, e) = inl e
