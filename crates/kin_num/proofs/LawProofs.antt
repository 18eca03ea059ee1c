-- The laws, from the lemmas on signs and on the order.
use Rattle.std.proofs.Common.{◌≡◌, ◌⊎◌, inl, inr, [], ◌∷◌, refl, sym, ap, ap₂, ◌∙◌, subst, ◌<◌, ◌^◌, arith}
use Rattle.std.specs.Prelude.{ℤ, pos, ◌+ℤ◌, ◌-ℤ◌, ◌*ℤ◌}
use Rattle.kin_algebra.specs.declared.sign.Sign.TheVariants.{Plus}
use Rattle.kin_algebra.proofs.Ring.{by_ring, quotes}
use Rattle.kin_algebra.proofs.OrderedRings.{scale, sum_may_be}
use Rattle.kin_algebra.proofs.IntegerSigns.{sign_in}
use Rattle.kin_algebra.proofs.Pairs.{pair, Sound, ordered, sign_over, sign_over-whole, sign_over-negative, sign_over-times}
use Rattle.kin_num.specs.declared.instant.Shape.{Shape}
use Rattle.kin_num.specs.declared.instant.Phase.{Phase}
use Rattle.kin_num.specs.declared.instant.Phase.TheVariants.{At, After}
use Rattle.kin_num.specs.declared.instant.Moment.{Moment}
use Rattle.kin_num.specs.Canonical.{IsCanonical, IsCanonicalForm}
use Rattle.kin_num.specs.Instants.{number_of, sign_at_instant, seat_of, line}
use Rattle.kin_num.specs.Laws.{IsRadicand, PairSignsAreOrdered, SignsAddAndMultiply, SignsAreOrdered, InstantsAreOrdered, MomentsAreOrdered, IsLessByGrain, InstantsLieApart}
use Rattle.kin_num.proofs.Values.{radical_of, canonical-sound}
use Rattle.kin_num.proofs.NumberRing.{flat}
use Rattle.kin_num.proofs.Near.{Bracket, bracket, line_sign}
use Rattle.kin_num.proofs.RootZeros.{divisor-positive}
use Rattle.kin_num.proofs.RootOrder.{SeparatedAt, Compared}
use Rattle.kin_num.proofs.LowerFractions.{not_less_itself, less_trans, less_asym, least_separates}
use Rattle.kin_num.proofs.Sizes.{small_size}
use Rattle.kin_num.proofs.InstantOrder.{total, level_same, same_level, small_compared}
use Rattle.kin_num.proofs.MomentOrder.{not_earlier_itself, earlier_trans, earlier_total}
use Rattle.kin_num.proofs.SignLaws.{sign_at-neg}
use Rattle.kin_num.proofs.InstantLaws.{sign_at-sum-form}
use Rattle.kin_num.proofs.Products.{sign_at-product}
use Rattle.kin_num.proofs.Seat.{seat}

-- ---- pairs
scaled-as : (k u v d : ℤ) → pair (k *ℤ u) (k *ℤ v) ≡ pair (k *ℤ u +ℤ d *ℤ (pos 0 *ℤ v)) (k *ℤ v +ℤ pos 0 *ℤ u)
scaled-as k u v d =
    ap₂ pair
    (by_ring (k ∷ u ∷ v ∷ d ∷ []) _ _ (search quotes depth 20) (search quotes depth 20) refl)
    (by_ring (k ∷ u ∷ v ∷ []) _ _ (search quotes depth 20) (search quotes depth 20) refl)

product-as : (u v x y d : ℤ) → pair (u *ℤ x +ℤ v *ℤ y *ℤ d) (u *ℤ y +ℤ v *ℤ x) ≡ pair (u *ℤ x +ℤ d *ℤ (v *ℤ y)) (u *ℤ y +ℤ v *ℤ x)
product-as u v x y d = ap (λ w. pair w (u *ℤ y +ℤ v *ℤ x)) (by_ring (u ∷ v ∷ x ∷ y ∷ d ∷ []) _ _ (search quotes depth 20) (search quotes depth 20) refl)

sound_pairs : (d : ℤ) → Sound d → PairSignsAreOrdered d
sound_pairs d s = record {
  whole = sign_over-whole d s;
  negative = λ u v. sign_over-negative d s (pair u v);
  scaled = λ k u v h. ap (sign_over d) (scaled-as k u v d) ∙ scale (ordered d s) {a = flat k} (pair u v) (sign_over-whole d s k ∙ sign_in Plus k h);
  sum = λ u v x y. sum_may_be (ordered d s) (pair u v) (pair x y);
  product = λ u v x y. ap (sign_over d) (product-as u v x y d) ∙ sign_over-times d s (pair u v) (pair x y);
}

pub pair_signs : (d : ℤ) → IsRadicand d → PairSignsAreOrdered d
pair_signs d (inl e) = sound_pairs d (inl e)
pair_signs d (inr k) = sound_pairs d (inr (radical_of d k.0 k.1))

-- ---- signs at a moment
same_radicand : (w : Shape) (f : Phase) → (number_of w).radicand ≡ (seat_of w f).radicand
same_radicand w At = refl
same_radicand w After = refl

pub signs : (m : Moment) → IsCanonical m.at → SignsAreOrdered m
signs m c = record {
  at_seat = λ p k. seat p k m c;
  ordered = subst PairSignsAreOrdered (same_radicand m.at m.phase) (sound_pairs (number_of m.at).radicand (canonical-sound m.at c.form));
}

pub sums_and_products : (m : Moment) → IsCanonicalForm m.at → SignsAddAndMultiply m
sums_and_products m form = record {
  negative = λ p. sign_at-neg p m;
  sum = λ p q. sign_at-sum-form p q m form;
  product = sign_at-product m form;
}

-- ---- the order
pub instants : InstantsAreOrdered
instants = record {
  irreflexive = not_less_itself;
  asymmetric = less_asym;
  transitive = λ u v w fu fv fw p q. less_trans u v w fv fw p q;
  total = total;
  level = λ v w fv fw. (level_same v w fv fw, same_level v w);
}

pub moments : MomentsAreOrdered
moments = record {
  irreflexive = not_earlier_itself;
  asymmetric = λ m n fm fn p q. not_earlier_itself m (earlier_trans m n m fm fn fm p q);
  transitive = earlier_trans;
  total = earlier_total;
}

pub some_grain : 0 < 2 ^ 200
some_grain = omega arith

by_grain : (v w : Shape) → IsCanonical v → IsCanonical w → SeparatedAt (2 ^ 200) v w → IsLessByGrain v w
unfolding sign_at_instant
by_grain v w cv cw s =
    let b : Bracket (number_of v) (pos (2 ^ 200)) = bracket (number_of v) (2 ^ 33) (2 ^ 200) (small_size v cv.form cv.small) some_grain in
    let signed = line_sign (number_of v) (canonical-sound v cv.form) (divisor-positive v cv.form) in
    let after : sign_at_instant (line (b.k -ℤ pos 1) (pos (2 ^ 200))) v ≡ Plus = signed (b.k -ℤ pos 1) (pos (2 ^ 200)) ∙ b.after in
    record {
      n = b.k;
      separates = least_separates v w cv.form cw.form s.0 b.k (pos (2 ^ 200)) after (λ p. b.not_after (sym (signed b.k (pos (2 ^ 200))) ∙ p)) s.1;
      least = after;
    }

pub apart : InstantsLieApart
apart v w cv cw different = at (small_compared v w cv cw)
  where
    at : Compared (2 ^ 200) v w → IsLessByGrain v w ⊎ IsLessByGrain w v
    at (inl s) = inl (by_grain v w cv cw s)
    at (inr (inl s)) = inr (by_grain w v cw cv s)
    at (inr (inr e)) = absurd (different e)
