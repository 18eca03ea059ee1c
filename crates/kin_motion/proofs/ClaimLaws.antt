-- Rectangles the wrong way round, and what a hull leaves out.
use Rattle.std.proofs.Common.{◌≡◌, ◌⊎◌, inl, inr, refl, sym, ap, ap₂, ◌∙◌, arith, List, [], ◌∷◌, ℕ, Bool, true, false, cond, not, ◌&&◌, nat_lt}
use Rattle.std.specs.Prelude.{ℤ, pos, negsuc, ◌+ℤ◌, ◌-ℤ◌, ◌*ℤ◌, ◌<ℤ◌, filter}
use Rattle.std.specs.List.{list_any}
use Rattle.std.proofs.lemmas.Bool.Decides.{nat_tests}
use Rattle.std.proofs.lemmas.Int.{ints}
use Rattle.std.proofs.lemmas.Bool.{and_parts, not-true}
use lib.IntN.{neg_ℤ}
use Rattle.kin_algebra.proofs.Tests.{three_parts}
use Rattle.kin_algebra.proofs.Ring.{by_ring, quotes}
use Rattle.kin_algebra.proofs.IntegerSigns.{sign_in}
use Rattle.kin_algebra.specs.declared.sign.Sign.{Sign}
use Rattle.kin_algebra.specs.declared.sign.Sign.TheVariants.{Minus, Zero, Plus}
use Rattle.kin_algebra.specs.Signs.{sign_of, first_of, SumMayBe}
use Rattle.kin_num.specs.declared.instant.Phase.{Phase}
use Rattle.kin_num.specs.declared.instant.Phase.TheVariants.{At, After}
use Rattle.kin_num.specs.declared.instant.Moment.{Moment}
use Rattle.kin_num.specs.Quadratic.{Quadratic, quadratic_sum, linear}
use Rattle.kin_num.specs.Canonical.{IsCanonical}
use Rattle.kin_num.specs.Instants.{sign_at, sign_at_instant, sign_at_phase, derivative}
use Rattle.kin_num.proofs.InstantLaws.{sign_at-sum}
use Rattle.kin_motion.specs.declared.form.Form.TheVariants.{Turn}
use Rattle.kin_motion.specs.Forms.{along, x_of, y_of}
use Rattle.kin_motion.specs.Numbers.{is_in, IsIn, filled_from}
use Rattle.kin_motion.specs.Scene.{Scene, x_sign, y_sign}
use Rattle.kin_motion.specs.Boxes.{is_not_minus, is_at_least, is_inside}
use Rattle.kin_motion.specs.Chains.{is_plus, is_zero, is_left, is_double, is_above, is_under_segment, is_bare, IsUpperChain}
use Rattle.kin_motion.specs.Claims.{WrongRectIsEmpty, ChainIsStrict, ChainHasLeast}
use Rattle.kin_motion.proofs.MergeLaws.{plus_again}
use Rattle.kin_num.proofs.Constants.{constant_sign}
use Rattle.kin_motion.proofs.AgreementLaws.{none_passes}

-- ---- rectangles
below_nothing : (p : Quadratic) (m : Moment) (c : ℤ) → IsCanonical m.at → p ≡ linear (pos 0) c → sign_of c ≡ Minus → sign_at p m ≡ Minus
unfolding sign_at
below_nothing p m c canonical is minus = by_phase m.phase
  where
    here : sign_at_instant p m.at ≡ Minus
    here = ap (λ (q : Quadratic). sign_at_instant q m.at) is ∙ constant_sign c m.at canonical.form ∙ minus

    by_phase : (f : Phase) → sign_at_phase p m.at f ≡ Minus
    by_phase At = here
    by_phase After = ap (λ t. first_of t (first_of (sign_at_instant (derivative p) m.at) (sign_at_instant (derivative (derivative p)) m.at))) here

not_both : (s t r : Sign) → SumMayBe s t r → r ≡ Minus → is_not_minus s && is_not_minus t ≡ false
not_both Minus t r h e = refl
not_both Zero Minus r h e = refl
not_both Zero Zero r h e = absurd (let clash : Minus ≡ Zero = sym e ∙ h in cc)
not_both Zero Plus r h e = absurd (let clash : Minus ≡ Plus = sym e ∙ h in cc)
not_both Plus Minus r h e = refl
not_both Plus Zero r h e = absurd (let clash : Minus ≡ Plus = sym e ∙ h in cc)
not_both Plus Plus r h e = absurd (let clash : Minus ≡ Plus = sym e ∙ h in cc)

x_slopes : (u v : ℤ) → (pos 1 *ℤ u +ℤ pos 0 *ℤ v) +ℤ (negsuc 0 *ℤ u +ℤ pos 0 *ℤ v) ≡ pos 0
x_slopes u v = by_ring (u ∷ v ∷ []) _ _ (search quotes depth 20) (search quotes depth 20) refl

x_starts : (x y low high : ℤ) → (pos 1 *ℤ x +ℤ pos 0 *ℤ y +ℤ neg_ℤ low) +ℤ (negsuc 0 *ℤ x +ℤ pos 0 *ℤ y +ℤ high) ≡ high -ℤ low
x_starts x y low high = by_ring (x ∷ y ∷ low ∷ high ∷ []) _ _ (search quotes depth 20) (search quotes depth 20) refl

y_slopes : (u v : ℤ) → (pos 0 *ℤ u +ℤ pos 1 *ℤ v) +ℤ (pos 0 *ℤ u +ℤ negsuc 0 *ℤ v) ≡ pos 0
y_slopes u v = by_ring (u ∷ v ∷ []) _ _ (search quotes depth 20) (search quotes depth 20) refl

y_starts : (x y low high : ℤ) → (pos 0 *ℤ x +ℤ pos 1 *ℤ y +ℤ neg_ℤ low) +ℤ (pos 0 *ℤ x +ℤ negsuc 0 *ℤ y +ℤ high) ≡ high -ℤ low
y_starts x y low high = by_ring (x ∷ y ∷ low ∷ high ∷ []) _ _ (search quotes depth 20) (search quotes depth 20) refl

less_is_minus : (high low : ℤ) → high <ℤ low → sign_of (high -ℤ low) ≡ Minus
less_is_minus high low h = sign_in Minus (high -ℤ low) (omega (arith, ints, h))

-- no test of four passes where two of them can't both
fails_first : (a b c d : Bool) → a && b ≡ false → a && b && c && d ≡ false
fails_first true true c d e = absurd cc
fails_first true false c d e = refl
fails_first false b c d e = refl

fails_last : (a b c d : Bool) → c && d ≡ false → a && b && c && d ≡ false
fails_last true true c d e = e
fails_last true false c d e = refl
fails_last false b c d e = refl

none_left : (test : ℕ → Bool) (xs : List ℕ) → ((i : ℕ) → test i ≡ false) → filter test xs ≡ []
none_left test [] f = refl
none_left test (x ∷ xs) f = ap (λ t. cond t (x ∷ filter test xs) (filter test xs)) (f x) ∙ none_left test xs f

pub wrong_rect_is_empty : WrongRectIsEmpty
wrong_rect_is_empty ms m r canonical wrong = none_left (is_inside ms m r) (filled_from 0 ms) (λ i. at i wrong)
  where
    both : (p q : Quadratic) (c : ℤ) → quadratic_sum p q ≡ linear (pos 0) c → sign_of c ≡ Minus → is_not_minus (sign_at p m) && is_not_minus (sign_at q m) ≡ false
    both p q c is minus = not_both (sign_at p m) (sign_at q m) (sign_at (quadratic_sum p q) m) (sign_at-sum p q m canonical) (below_nothing (quadratic_sum p q) m c canonical is minus)

    at : (i : ℕ) → (r.x2 <ℤ r.x1) ⊎ (r.y2 <ℤ r.y1) → is_inside ms m r i ≡ false
    at i (inl h) =
        let b = x_slopes (x_of ms i).slope (y_of ms i).slope in
        let c = x_starts (x_of ms i).start (y_of ms i).start r.x1 r.x2 in
        fails_first
        (is_at_least ms m (pos 1) (pos 0) (neg_ℤ r.x1) i) (is_at_least ms m (negsuc 0) (pos 0) r.x2 i)
        (is_at_least ms m (pos 0) (pos 1) (neg_ℤ r.y1) i) (is_at_least ms m (pos 0) (negsuc 0) r.y2 i)
        (both (along (pos 1) (pos 0) (neg_ℤ r.x1) (x_of ms i) (y_of ms i)) (along (negsuc 0) (pos 0) r.x2 (x_of ms i) (y_of ms i)) (r.x2 -ℤ r.x1) (λ t. record { a = pos 0; b = b t; c = c t }) (less_is_minus r.x2 r.x1 h))
    at i (inr h) =
        let b = y_slopes (x_of ms i).slope (y_of ms i).slope in
        let c = y_starts (x_of ms i).start (y_of ms i).start r.y1 r.y2 in
        fails_last
        (is_at_least ms m (pos 1) (pos 0) (neg_ℤ r.x1) i) (is_at_least ms m (negsuc 0) (pos 0) r.x2 i)
        (is_at_least ms m (pos 0) (pos 1) (neg_ℤ r.y1) i) (is_at_least ms m (pos 0) (negsuc 0) r.y2 i)
        (both (along (pos 0) (pos 1) (neg_ℤ r.y1) (x_of ms i) (y_of ms i)) (along (pos 0) (negsuc 0) r.y2 (x_of ms i) (y_of ms i)) (r.y2 -ℤ r.y1) (λ t. record { a = pos 0; b = b t; c = c t }) (less_is_minus r.y2 r.y1 h))

-- ---- chains
bare_of : (s : Scene) (set xs : List ℕ) (p : ℕ) → IsUpperChain s set xs → IsIn p xs → is_bare s set p ≡ true
bare_of s set xs p u h = (and_parts (is_in p set) (is_bare s set p) (sym (u.members p) ∙ h)).1

left_by : (s : Scene) (p q : ℕ) → x_sign s p q ≡ Plus → is_left s p q ≡ true
left_by s p q e = ap is_plus e

pub chain_is_strict : ChainIsStrict
chain_is_strict s set xs p q r u there qs rs left right =
    let bare = three_parts (not (list_any (is_double s p) set)) (not (list_any (is_above s p) set)) (not (list_any (λ q. list_any (is_under_segment s p q) set) set)) (bare_of s set xs p u there) in
    let none = not-true (list_any (λ q. list_any (is_under_segment s p q) set) set) bare.2 in
    let inner = none_passes (λ q. list_any (is_under_segment s p q) set) set q none qs in
    let last = none_passes (is_under_segment s p q) set r inner rs in
    plus_again (s.sign (Turn q r p)) (sym (ap₂ (λ a b. a && b && not (is_plus (s.sign (Turn q r p)))) (left_by s q p left) (left_by s p r right)) ∙ last)

pub chain_has_least : ChainHasLeast
chain_has_least s set xs p q u there qs same_x same_y less =
    let bare = three_parts (not (list_any (is_double s p) set)) (not (list_any (is_above s p) set)) (not (list_any (λ q. list_any (is_under_segment s p q) set) set)) (bare_of s set xs p u there) in
    let none = none_passes (is_double s p) set q (not-true (list_any (is_double s p) set) bare.0) qs in
    let lesser : nat_lt q p ≡ true = grind (arith, nat_tests, less) in
    let clash : true ≡ false = sym (double same_x same_y lesser) ∙ none in cc
  where
    double : x_sign s p q ≡ Zero → y_sign s p q ≡ Zero → nat_lt q p ≡ true → is_double s p q ≡ true
    double e f g = λ t. is_zero (e t) && is_zero (f t) && g t
