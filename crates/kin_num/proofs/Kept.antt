-- What a polynomial's sign at a number says of its signs at the fractions around it.
use Rattle.std.proofs.Common.{◌≡◌, ◌≢◌, ℕ, zero, suc, [], ◌∷◌, refl, sym, ap, ◌∙◌, subst, ◌+◌, ◌*◌, ◌≤◌, ◌<◌, arith, unsigned_abs}
use Rattle.std.specs.Prelude.{ℤ, pos, negsuc, ◌-ℤ◌}
use Rattle.std.proofs.lemmas.Int.{ints}
use lib.IntN.{neg_ℤ}
use Rattle.kin_algebra.specs.declared.sign.Sign.{Sign}
use Rattle.kin_algebra.specs.declared.sign.Sign.TheVariants.{Minus, Zero, Plus}
use Rattle.kin_algebra.specs.Signs.{sign_of, opposite_of}
use Rattle.kin_algebra.proofs.Ring.{by_ring, quotes}
use Rattle.kin_algebra.proofs.Signs.{code, opposite-opposite}
use Rattle.kin_algebra.proofs.OrderedRings.{OrderedRing}
use Rattle.kin_algebra.proofs.Bounds.{Between, IsApart}
use Rattle.kin_algebra.proofs.IntegerSigns.{sign_of-pos, sign_of-negative, sign_in}
use Rattle.kin_algebra.proofs.Pairs.{Pair, pair, pair_plus, pair_negative, Sound, sign_over, sign_over-whole, sign_over-negative}
use Rattle.kin_num.specs.Quadratic.{Quadratic}
use Rattle.kin_num.specs.Instants.{Number, sign_at_number}
use Rattle.kin_num.proofs.Values.{value, negated, value-negated}
use Rattle.kin_num.proofs.Nearness.{value_in, fine, AreBounded, near}
use Rattle.kin_num.proofs.NumberRing.{flat, conjugate, ring_over, flat_some, flat_between, pair_between, positive_apart}
use Rattle.kin_num.proofs.Near.{size_negative, HasHeight, HasSize, IsFine, at_fraction, value-in, conjugate-in, fraction-in, fine-in, E, point_size, Q_positive, Bracket, right_between, left_between}

fine_left : (m t : ℕ) → m < t → sign_of (pos t -ℤ pos m) ≡ Plus
fine_left m t h = sign_in Plus (pos t -ℤ pos m) (omega (arith, ints))

pub height-negated : (p : Quadratic) (h : ℕ) → HasHeight p h → HasHeight (negated p) h
height-negated p h k = record {
  a_most = subst (λ n. n ≤ h) (sym (size_negative p.a)) k.a_most;
  b_most = subst (λ n. n ≤ h) (sym (size_negative p.b)) k.b_most;
  c_most = subst (λ n. n ≤ h) (sym (size_negative p.c)) k.c_most;
}

at_fraction-negated : (p : Quadratic) (t k : ℤ) → at_fraction (negated p) t k ≡ neg_ℤ (at_fraction p t k)
at_fraction-negated p t k = by_ring (p.a ∷ p.b ∷ p.c ∷ t ∷ k ∷ []) _ _ (search quotes depth 20) (search quotes depth 20) refl

module _ (x : Number) (w t h : ℕ) (size : HasSize x w) (h_some : 0 < h) (enough : IsFine h w t) where
  pub t_some : 0 < t
  t_some = omega arith

  abbrev pub s : Sound x.radicand
  s = size.sound

  abbrev pub d : ℤ
  d = x.radicand

  abbrev pub o : OrderedRing Pair
  o = ring_over d s

  abbrev pub H : Pair
  H = flat (pos h)

  abbrev pub X : Pair
  X = pair x.whole x.root

  pub w_some : 0 < w
  w_some = at x.divisor size.positive size.divisor_most
    where
      at : (q : ℤ) → sign_of q ≡ Plus → unsigned_abs q ≤ w → 0 < w
      at (pos zero) e k = absurd (code e)
      at (pos (suc n)) e k = omega (arith, k)
      at (negsuc n) e k = absurd (code e)

  pub flat_positive : (n : ℕ) → 0 < n → sign_over d (flat (pos n)) ≡ Plus
  flat_positive n h = sign_over-whole d s (pos n) ∙ sign_of-pos n h

  pub bounds : (p : Quadratic) → HasHeight p h → AreBounded o (flat p.a) (flat p.b) (flat p.c) (flat x.divisor) H (flat (pos w))
  bounds p k = record {
    a_most = flat_between d s h p.a k.a_most;
    b_most = flat_between d s h p.b k.b_most;
    c_most = flat_between d s h p.c k.c_most;
    divisor_most = flat_between d s w x.divisor size.divisor_most;
    H_positive = flat_positive h h_some;
    W_positive = flat_positive w w_some;
  }

  pub conjugate_size : Between o (flat (pos w)) (conjugate X)
  conjugate_size = pair_between d s size.root_bound size.radicand_most w x.whole (neg_ℤ x.root) (subst (λ n. unsigned_abs x.whole + n * size.root_bound ≤ w) (sym (size_negative x.root)) size.point_most)

  pub fine_here : sign_over d (pair_plus (flat (pos t)) (pair_negative (fine o H (flat (pos w))))) ≡ Plus
  fine_here =
      ap (λ a. sign_over d (pair_plus (flat (pos t)) (pair_negative a))) (fine-in x s (pos h) (pos w))
      ∙ sign_over-whole d s (pos t -ℤ pos (12 * (h * h) * ((w * w) * (w * w))))
      ∙ fine_left (12 * (h * h) * ((w * w) * (w * w))) t enough

  kept_plus : (p : Quadratic) → HasHeight p h → sign_at_number p x ≡ Plus → (k : ℤ) → Between o (flat (pos w)) (E x w t size t_some k) → sign_of (at_fraction p (pos t) k) ≡ Plus
  kept_plus p height e k close =
      let A = value_in o (flat p.a) (flat p.b) (flat p.c) (flat x.divisor) in
      let positive : sign_over d (A X) ≡ Plus = sym (ap (sign_over d) (value-in x s p)) ∙ e in
      let apart : IsApart o (A X) (A (conjugate X)) = subst (IsApart o (A X)) (conjugate-in x s p) (positive_apart d s (A X) positive) in
      sym (ap (sign_over d) (fraction-in x s p (pos t) k) ∙ sign_over-whole d s (at_fraction p (pos t) k))
      ∙ near o (flat p.a) (flat p.b) (flat p.c) (flat x.divisor) H (flat (pos w)) (flat (pos t)) (flat k) X
      (bounds p height) (conjugate X) (point_size x w t size t_some) conjugate_size apart positive (Q_positive x w t size t_some)
      (flat_positive t t_some) (flat_some d s (pos t -ℤ pos 1) (omega (arith, ints, t_some))) fine_here close

  -- a sign that isn't 0 is kept
  pub kept : (p : Quadratic) → HasHeight p h → (σ : Sign) → σ ≢ Zero → sign_at_number p x ≡ σ → (k : ℤ) → Between o (flat (pos w)) (E x w t size t_some k) → sign_of (at_fraction p (pos t) k) ≡ σ
  kept p height Plus n e k close = kept_plus p height e k close
  kept p height Zero n e k close = absurd (n refl)
  kept p height Minus n e k close =
      let turned : sign_at_number (negated p) x ≡ Plus = ap (sign_over d) (value-negated p x) ∙ sign_over-negative d s (value p x) ∙ ap opposite_of e in
      let there = kept_plus (negated p) (height-negated p h height) turned k close in
      sym (opposite-opposite (sign_of (at_fraction p (pos t) k))) ∙ ap opposite_of (sym (sign_of-negative (at_fraction p (pos t) k)) ∙ ap sign_of (sym (at_fraction-negated p (pos t) k)) ∙ there)

  module _ (b : Bracket x (pos t)) (p : Quadratic) (height : HasHeight p h) (σ : Sign) (some : σ ≢ Zero) (e : sign_at_number p x ≡ σ) where
    pub kept_right : sign_of (at_fraction p (pos t) b.k) ≡ σ
    kept_right = kept p height σ some e b.k (right_between x w t size t_some b)

    pub kept_left : sign_of (at_fraction p (pos t) (b.k -ℤ pos 1)) ≡ σ
    kept_left = kept p height σ some e (b.k -ℤ pos 1) (left_between x w t size t_some b)
