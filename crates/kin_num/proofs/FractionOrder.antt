-- A canonical instant against a fraction: the sign there of the fraction's line decides.
use Rattle.std.proofs.Common.{◌≡◌, ◌≢◌, inl, inr, ℕ, Bool, true, false, [], ◌∷◌, refl, sym, ap, ap₂, ◌∙◌, ◌<◌}
use Rattle.std.specs.Prelude.{ℤ, pos, negsuc, ◌-ℤ◌, ◌*ℤ◌, ◌<ℤ◌}
use lib.IntN.{neg_ℤ}
use Rattle.kin_algebra.proofs.Magnitudes.{same_from_difference, pos-some}
use Rattle.kin_algebra.specs.declared.sign.Sign.{Sign}
use Rattle.kin_algebra.specs.declared.sign.Sign.TheVariants.{Minus, Zero, Plus}
use Rattle.kin_algebra.specs.Signs.{sign_of, opposite_of, pair_sign_of}
use Rattle.kin_algebra.proofs.Integers.{integers}
use Rattle.kin_algebra.proofs.Ring.{by_ring, quotes}
use Rattle.kin_algebra.proofs.Signs.{code, opposite-opposite}
use Rattle.kin_algebra.proofs.IntegerSigns.{sign_of-pos, sign_of-negative, sign_in, zero_of}
use Rattle.kin_algebra.proofs.Radicals.{pair_of_zero}
use Rattle.kin_num.specs.declared.instant.Shape.{Shape}
use Rattle.kin_num.specs.declared.instant.Shape.TheVariants.{Ratio, Root}
use Rattle.kin_num.specs.Canonical.{IsCanonicalForm, IsLowest, IsIrreducible, discriminant}
use Rattle.kin_num.specs.Instants.{number_of, sign_at_instant, line}
use Rattle.kin_num.proofs.Values.{canonical-sound, irreducible-radical}
use Rattle.kin_num.proofs.Near.{HasHeight, HasSize, IsFine, Bracket, bracket, at_fraction, line_sign}
use Rattle.kin_num.proofs.Kept.{kept_left, kept_right, t_some}
use Rattle.kin_num.proofs.Divisors.{same_lowest}
use Rattle.kin_num.proofs.RootSigns.{pair_sign-positive, times_positive}
use Rattle.kin_num.proofs.RootZeros.{divisor-positive}
use Rattle.kin_num.proofs.RootOrder.{SeparatedAt, Compared}

without_root : (k d n t : ℤ) → pair_sign_of (t *ℤ n -ℤ k *ℤ d) (t *ℤ pos 0) (pos 0) ≡ sign_of (t *ℤ n -ℤ k *ℤ d)
without_root k d n t = refl

-- the line t*T - k at the fraction n/d
pub line_at_fraction : (n d k t : ℤ) → sign_of d ≡ Plus → sign_at_instant (line k t) (Ratio n d) ≡ sign_of (t *ℤ n -ℤ k *ℤ d)
unfolding sign_at_instant
line_at_fraction n d k t e = line_sign (number_of (Ratio n d)) (inl refl) e k t ∙ without_root k d n t

turned : (n d k t : ℤ) → at_fraction (line n d) t k ≡ t *ℤ neg_ℤ (t *ℤ n -ℤ k *ℤ d)
turned n d k t = by_ring (n ∷ d ∷ k ∷ t ∷ []) _ _ (search quotes depth 20) (search quotes depth 20) refl

-- the same, by the fraction's own line at k/t
line_across : (n d k t : ℤ) → sign_of d ≡ Plus → sign_of t ≡ Plus → sign_at_instant (line k t) (Ratio n d) ≡ opposite_of (sign_of (at_fraction (line n d) t k))
line_across n d k t e f =
    line_at_fraction n d k t e
    ∙ sym (opposite-opposite (sign_of (t *ℤ n -ℤ k *ℤ d)))
    ∙ ap opposite_of (sym (sign_of-negative (t *ℤ n -ℤ k *ℤ d)) ∙ sym (times_positive t (neg_ℤ (t *ℤ n -ℤ k *ℤ d)) f) ∙ ap sign_of (sym (turned n d k t)))

-- ---- a line of sign 0
pub on_line : (n d n' d' : ℤ) → pos 0 <ℤ d' → sign_at_instant (line n d) (Ratio n' d') ≡ Zero → n' *ℤ d ≡ n *ℤ d'
on_line n d n' d' h e = integers.times_comm n' d ∙ same_from_difference (d *ℤ n') (n *ℤ d') (zero_of _ (sym (line_at_fraction n' d' n d (sign_in Plus d' h)) ∙ e))

level_fractions : (n d n' d' : ℤ) → IsLowest n d → IsLowest n' d' → sign_at_instant (line n d) (Ratio n' d') ≡ Zero → Ratio n' d' ≡ Ratio n d
level_fractions n d n' d' i i' e = let same = same_lowest n' d' n d i' i (on_line n d n' d' i'.positive e) in ap₂ Ratio same.0 same.1

-- no line with a slope has sign 0 at an irrational root
pub line_at_root : (a b c : ℤ) → IsIrreducible a b c → (upper : Bool) (n d : ℤ) → sign_of d ≡ Plus → sign_at_instant (line n d) (Root a b c upper) ≢ Zero
unfolding sign_at_instant
line_at_root a b c i true n d e z =
    let x = number_of (Root a b c true) in
    let nothing = pair_of_zero (discriminant a b c) (irreducible-radical a b c i) (d *ℤ x.whole -ℤ n *ℤ x.divisor) (d *ℤ pos 1)
    (sym (pair_sign-positive _ (d *ℤ pos 1) (discriminant a b c) i.real) ∙ sym (line_sign x (canonical-sound (Root a b c true) i) (divisor-positive (Root a b c true) i) n d) ∙ z) in
    code (sym (times_positive d (pos 1) e) ∙ ap sign_of nothing.1)
line_at_root a b c i false n d e z =
    let x = number_of (Root a b c false) in
    let nothing = pair_of_zero (discriminant a b c) (irreducible-radical a b c i) (d *ℤ x.whole -ℤ n *ℤ x.divisor) (d *ℤ negsuc 0)
    (sym (pair_sign-positive _ (d *ℤ negsuc 0) (discriminant a b c) i.real) ∙ sym (line_sign x (canonical-sound (Root a b c false) i) (divisor-positive (Root a b c false) i) n d) ∙ z) in
    code (sym (times_positive d (negsuc 0) e) ∙ ap sign_of nothing.1)

-- a canonical instant at which the line of a fraction has sign 0 is that fraction
pub fraction_itself : (n d : ℤ) → IsLowest n d → (w : Shape) → IsCanonicalForm w → sign_at_instant (line n d) w ≡ Zero → w ≡ Ratio n d
fraction_itself n d i (Ratio n' d') k e = level_fractions n d n' d' i k e
fraction_itself n d i (Root a b c upper) k e = absurd (line_at_root a b c k upper n d (sign_in Plus d i.positive) e)

module _ (n d : ℤ) (i : IsLowest n d) (w : Shape) (form : IsCanonicalForm w) (m t h : ℕ) (size : HasSize (number_of w) m) (some : 0 < h) (fine : IsFine h m t)
    (height : HasHeight (line n d) h) where
  room : 0 < t
  room = t_some (number_of w) m t h size some fine

  near : Bracket (number_of w) (pos t)
  near = bracket (number_of w) m t size room

  across : (k : ℤ) → sign_at_instant (line k (pos t)) (Ratio n d) ≡ opposite_of (sign_of (at_fraction (line n d) (pos t) k))
  across k = line_across n d k (pos t) (sign_in Plus d i.positive) (sign_of-pos t room)

  pub above_fraction : sign_at_instant (line n d) w ≡ Plus → SeparatedAt t (Ratio n d) w
  unfolding sign_at_instant
  above_fraction e = (
    near.k -ℤ pos 1,
    record {
      proper = pos-some t room;
      first = λ p. code (sym (across (near.k -ℤ pos 1) ∙ ap opposite_of (kept_left (number_of w) m t h size some fine near (line n d) height Plus (λ z. code z) e)) ∙ p);
      second = line_sign (number_of w) size.sound (divisor-positive w form) (near.k -ℤ pos 1) (pos t) ∙ near.after;
    },
  )

  pub below_fraction : sign_at_instant (line n d) w ≡ Minus → SeparatedAt t w (Ratio n d)
  unfolding sign_at_instant
  below_fraction e = (
    near.k,
    record {
      proper = pos-some t room;
      first = λ p. near.not_after (sym (line_sign (number_of w) size.sound (divisor-positive w form) near.k (pos t)) ∙ p);
      second = across near.k ∙ ap opposite_of (kept_right (number_of w) m t h size some fine near (line n d) height Minus (λ z. code z) e);
    },
  )

  -- in all cases one is less, or they are one
  pub fraction_order : Compared t w (Ratio n d)
  fraction_order = at (sign_at_instant (line n d) w) refl
    where
      at : (s : Sign) → sign_at_instant (line n d) w ≡ s → Compared t w (Ratio n d)
      at Minus e = inl (below_fraction e)
      at Zero e = inr (inr (fraction_itself n d i w form e))
      at Plus e = inr (inl (above_fraction e))
