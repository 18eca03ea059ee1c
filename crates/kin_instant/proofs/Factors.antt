-- A quadratic with a rational root is a product of two lines; one with an irrational root is a multiple of its quadratic.
use Rattle.std.proofs.Common.{◌≡◌, refl, ap, ap₂, sym, ◌∙◌, Bool, [], ◌∷◌, arith, ℤ, pos, ◌+ℤ◌, ◌*ℤ◌}
use Rattle.std.specs.Prelude.{◌<ℤ◌}
use Rattle.std.proofs.lemmas.Int.{ints}
use lib.IntN.{neg_ℤ}
use Rattle.kin_algebra.specs.declared.sign.Sign.TheVariants.{Zero, Plus}
use Rattle.kin_algebra.specs.Signs.{product_of, SumMayBe}
use Rattle.kin_algebra.proofs.Rings.{times_zero}
use Rattle.kin_algebra.proofs.Integers.{integers}
use Rattle.kin_algebra.proofs.Ring.{by_ring, quotes}
use Rattle.kin_algebra.proofs.Signs.{by_signs}
use Rattle.kin_algebra.proofs.IntegerSigns.{sign_in, zero_of}
use Rattle.kin_algebra.proofs.OrderedRings.{scale, sum_may_be}
use Rattle.kin_algebra.proofs.Pairs.{pair, pair_plus, pair_times, Sound, sign_over, sign_over-whole, sign_over-times, ordered}
use Rattle.kin_num.specs.declared.instant.Shape.{Shape}
use Rattle.kin_num.specs.declared.instant.Shape.TheVariants.{Ratio, Root}
use Rattle.kin_num.specs.Quadratic.{Quadratic}
use Rattle.kin_num.specs.Canonical.{IsCanonicalForm, IsIrreducible}
use Rattle.kin_num.specs.Instants.{Number, number_of, sign_at_number, sign_at_instant, derivative, line}
use Rattle.kin_num.proofs.Values.{value, canonical-sound}
use Rattle.kin_num.proofs.RootZeros.{sign_zero_at_root}
use Rattle.kin_instant.specs.Roots.{quadratic}
use Rattle.kin_instant.proofs.Zeros.{divisor-positive, instant-scaled, positive_product}

-- the line that is left after division by d*t - n
abbrev pub cofactor : ℤ → ℤ → ℤ → ℤ → Quadratic
cofactor a b n d = line (neg_ℤ (a *ℤ n +ℤ b *ℤ d)) (a *ℤ d)

module _ (x : Number) (s : Sound x.radicand) (h : pos 0 <ℤ x.divisor) (a b c n d : ℤ) (k : pos 0 <ℤ d) (on : a *ℤ (n *ℤ n) +ℤ b *ℤ n *ℤ d +ℤ c *ℤ d *ℤ d ≡ pos 0) where
  open x use {whole as N, root as M, radicand as R, divisor as Q}

  abbrev first : Quadratic
  first = line n d

  abbrev second : Quadratic
  second = cofactor a b n d

  last_is : c *ℤ d *ℤ d ≡ neg_ℤ (a *ℤ (n *ℤ n) +ℤ b *ℤ n *ℤ d)
  last_is = moved (a *ℤ (n *ℤ n) +ℤ b *ℤ n *ℤ d) (c *ℤ d *ℤ d) on
    where
      moved : (x y : ℤ) → x +ℤ y ≡ pos 0 → y ≡ neg_ℤ x
      moved x y e = omega (arith, ints, e)

  units : (pair_times R (pair ((d *ℤ d) *ℤ (Q *ℤ Q)) (pos 0)) (value (quadratic a b c) x)).units ≡ (pair_times R (value first x) (value second x)).units
  units =
      by_ring (a ∷ b ∷ c ∷ n ∷ d ∷ N ∷ M ∷ R ∷ Q ∷ [])
      (pair_times R (pair ((d *ℤ d) *ℤ (Q *ℤ Q)) (pos 0)) (value (quadratic a b c) x)).units
      ((d *ℤ d) *ℤ (Q *ℤ Q) *ℤ (a *ℤ (N *ℤ N +ℤ M *ℤ M *ℤ R) +ℤ b *ℤ N *ℤ Q) +ℤ (c *ℤ d *ℤ d) *ℤ ((Q *ℤ Q) *ℤ (Q *ℤ Q)))
      (search quotes depth 40 fits 100000) (search quotes depth 40 fits 100000) refl
      ∙ ap (λ (z : ℤ). (d *ℤ d) *ℤ (Q *ℤ Q) *ℤ (a *ℤ (N *ℤ N +ℤ M *ℤ M *ℤ R) +ℤ b *ℤ N *ℤ Q) +ℤ z *ℤ ((Q *ℤ Q) *ℤ (Q *ℤ Q))) last_is
      ∙ by_ring (a ∷ b ∷ n ∷ d ∷ N ∷ M ∷ R ∷ Q ∷ []) _ _ (search quotes depth 40 fits 100000) (search quotes depth 40 fits 100000) refl

  roots : (pair_times R (pair ((d *ℤ d) *ℤ (Q *ℤ Q)) (pos 0)) (value (quadratic a b c) x)).roots ≡ (pair_times R (value first x) (value second x)).roots
  roots = by_ring (a ∷ b ∷ c ∷ n ∷ d ∷ N ∷ M ∷ R ∷ Q ∷ []) _ _ (search quotes depth 40 fits 100000) (search quotes depth 40 fits 100000) refl

  pub number-factors : sign_at_number (quadratic a b c) x ≡ product_of (sign_at_number first x) (sign_at_number second x)
  number-factors =
      sym (scale (ordered R s) {a = pair ((d *ℤ d) *ℤ (Q *ℤ Q)) (pos 0)} (value (quadratic a b c) x) (sign_over-whole R s ((d *ℤ d) *ℤ (Q *ℤ Q)) ∙ sign_in Plus _ (positive_product (d *ℤ d) (Q *ℤ Q) (positive_product d d k k) (positive_product Q Q h h))))
      ∙ ap (sign_over R) (ap₂ pair units roots)
      ∙ sign_over-times R s (value first x) (value second x)

  slope_sum : pair_times R (pair (d *ℤ d) (pos 0)) (value (derivative (quadratic a b c)) x) ≡ pair_plus (pair_times R (pair d (pos 0)) (value second x)) (pair_times R (pair (a *ℤ d) (pos 0)) (value first x))
  slope_sum = ap₂ pair
      (by_ring (a ∷ b ∷ n ∷ d ∷ N ∷ M ∷ R ∷ Q ∷ []) _ _ (search quotes depth 40 fits 100000) (search quotes depth 40 fits 100000) refl)
      (by_ring (a ∷ b ∷ n ∷ d ∷ N ∷ M ∷ R ∷ Q ∷ []) _ _ (search quotes depth 40 fits 100000) (search quotes depth 40 fits 100000) refl)

  pub number-slope : pos 0 <ℤ a → SumMayBe (sign_at_number second x) (sign_at_number first x) (sign_at_number (derivative (quadratic a b c)) x)
  number-slope p =
      let o = ordered R s in
      let d_plus = sign_over-whole R s d ∙ sign_in Plus d k in
      let ad_plus = sign_over-whole R s (a *ℤ d) ∙ sign_in Plus _ (positive_product a d p k) in
      let dd_plus = sign_over-whole R s (d *ℤ d) ∙ sign_in Plus _ (positive_product d d k k) in
      let may = sum_may_be o (pair_times R (pair d (pos 0)) (value second x)) (pair_times R (pair (a *ℤ d) (pos 0)) (value first x)) in
      by_signs
      (sym (scale o {a = pair d (pos 0)} (value second x) d_plus))
      (sym (scale o {a = pair (a *ℤ d) (pos 0)} (value first x) ad_plus))
      (sym (scale o {a = pair (d *ℤ d) (pos 0)} (value (derivative (quadratic a b c)) x) dd_plus) ∙ ap (sign_over R) slope_sum)
      may

-- ---- at a canonical instant, for a rational root n/d
root_equation : (a b c n d : ℤ) → a *ℤ (n *ℤ n +ℤ pos 0 *ℤ pos 0 *ℤ pos 0) +ℤ b *ℤ n *ℤ d +ℤ c *ℤ d *ℤ d ≡ a *ℤ (n *ℤ n) +ℤ b *ℤ n *ℤ d +ℤ c *ℤ d *ℤ d
root_equation a b c n d = by_ring (a ∷ b ∷ c ∷ n ∷ d ∷ []) _ _ (search quotes depth 24) (search quotes depth 24) refl

pub on_root : (a b c n d : ℤ) → sign_at_instant (quadratic a b c) (Ratio n d) ≡ Zero → a *ℤ (n *ℤ n) +ℤ b *ℤ n *ℤ d +ℤ c *ℤ d *ℤ d ≡ pos 0
unfolding sign_at_instant
on_root a b c n d z = sym (root_equation a b c n d) ∙ zero_of _ z

module _ (w : Shape) (i : IsCanonicalForm w) (a b c n d : ℤ) (k : pos 0 <ℤ d) (z : sign_at_instant (quadratic a b c) (Ratio n d) ≡ Zero) where
  pub instant-factors : sign_at_instant (quadratic a b c) w ≡ product_of (sign_at_instant (line n d) w) (sign_at_instant (cofactor a b n d) w)
  unfolding sign_at_instant
  instant-factors = number-factors (number_of w) (canonical-sound w i) (divisor-positive w i) a b c n d k (on_root a b c n d z)

  pub instant-slope : pos 0 <ℤ a → SumMayBe (sign_at_instant (cofactor a b n d) w) (sign_at_instant (line n d) w) (sign_at_instant (derivative (quadratic a b c)) w)
  unfolding sign_at_instant
  instant-slope p = number-slope (number_of w) (canonical-sound w i) (divisor-positive w i) a b c n d k (on_root a b c n d z) p

-- ---- for an irrational root
module _ (p : Quadratic) (a b c : ℤ) (i : IsIrreducible a b c) (upper : Bool) (z : sign_at_instant p (Root a b c upper) ≡ Zero) (k : pos 0 <ℤ p.a) where
  multiple : quadratic (a *ℤ p.a) (a *ℤ p.b) (a *ℤ p.c) ≡ quadratic (p.a *ℤ a) (p.a *ℤ b) (p.a *ℤ c)
  multiple =
      let m = sign_zero_at_root p a b c i upper z in
      ap (λ (x : ℤ). quadratic x (a *ℤ p.b) (a *ℤ p.c)) (integers.times_comm a p.a) ∙ ap (λ (y : ℤ). quadratic (p.a *ℤ a) y (a *ℤ p.c)) m.0 ∙ ap (quadratic (p.a *ℤ a) (p.a *ℤ b)) m.1

  -- the polynomial has the signs of the root's quadratic
  pub same_value : (w : Shape) → IsCanonicalForm w → sign_at_instant p w ≡ sign_at_instant (quadratic a b c) w
  same_value w j = sym (instant-scaled w j a p.a p.b p.c i.positive) ∙ ap (λ (q : Quadratic). sign_at_instant q w) multiple ∙ instant-scaled w j p.a a b c k

  slopes : quadratic (a *ℤ pos 0) (a *ℤ (pos 2 *ℤ p.a)) (a *ℤ p.b) ≡ quadratic (p.a *ℤ pos 0) (p.a *ℤ (pos 2 *ℤ a)) (p.a *ℤ b)
  slopes =
      let m = sign_zero_at_root p a b c i upper z in
      ap (λ (x : ℤ). quadratic x (a *ℤ (pos 2 *ℤ p.a)) (a *ℤ p.b)) (times_zero integers a ∙ sym (times_zero integers p.a)) ∙ ap (λ (y : ℤ). quadratic (p.a *ℤ pos 0) y (a *ℤ p.b)) (turned a p.a) ∙ ap (quadratic (p.a *ℤ pos 0) (p.a *ℤ (pos 2 *ℤ a))) m.0
    where
      turned : (x y : ℤ) → x *ℤ (pos 2 *ℤ y) ≡ y *ℤ (pos 2 *ℤ x)
      turned x y = by_ring (x ∷ y ∷ []) _ _ (search quotes depth 16) (search quotes depth 16) refl

  pub same_slope : (w : Shape) → IsCanonicalForm w → sign_at_instant (derivative p) w ≡ sign_at_instant (derivative (quadratic a b c)) w
  same_slope w j = sym (instant-scaled w j a (pos 0) (pos 2 *ℤ p.a) p.b i.positive) ∙ ap (λ (q : Quadratic). sign_at_instant q w) slopes ∙ instant-scaled w j p.a (pos 0) (pos 2 *ℤ a) b k
