-- A turn leaves all that is seen at its instant, and there is one motion to turn to at most.
use Rattle.std.proofs.Common.{◌≡◌, refl, sym, ap, ◌∙◌, subst, arith, List, [], ◌∷◌, ℕ, zero, suc, ◌+◌, ◌<◌, Bool, true, false, length, nat_eq}
use Rattle.std.specs.Prelude.{ℤ, pos, ◌+ℤ◌, ◌-ℤ◌, Option, Some, None, slice_index_or, slice_set}
use Rattle.std.proofs.lemmas.Bool.Decides.{nat_tests}
use Rattle.std.proofs.lemmas.List.{get_or-set_same, get_or-set_other}
use lib.IntN.{neg_ℤ}
use Rattle.kin_algebra.proofs.Magnitudes.{difference_of_same}
use Rattle.kin_algebra.proofs.Ring.{by_ring, quotes}
use Rattle.kin_algebra.proofs.IntegerSigns.{zero_of}
use Rattle.kin_algebra.specs.declared.sign.Sign.TheVariants.{Zero}
use Rattle.kin_algebra.specs.Signs.{opposite_of}
use Rattle.kin_num.specs.declared.instant.Shape.{Shape}
use Rattle.kin_num.specs.Quadratic.{Quadratic, quadratic_sum, negated, linear}
use Rattle.kin_num.specs.Canonical.{IsCanonicalForm}
use Rattle.kin_num.specs.Instants.{sign_at_instant}
use Rattle.kin_num.proofs.Constants.{constant_sign}
use Rattle.kin_num.proofs.SignLaws.{sign_at_instant-neg}
use Rattle.kin_num.proofs.InstantLaws.{instant_sum}
use Rattle.kin_motion.specs.Course.{Course, motion_of}
use Rattle.kin_motion.specs.Forms.{Linear, x_of_course, y_of_course}
use Rattle.kin_motion.specs.Numbers.{filled_from}
use Rattle.kin_motion.specs.Turning.{AreEqualAt, HaveSamePlaces, TurnKeepsScene, OneTurn}
use Rattle.kin_motion.proofs.PlaceLaws.{sum_of_zeros, scene_is_by_places}

-- ---- one turn
between_starts : (x k l : ℤ) → (x -ℤ k) +ℤ neg_ℤ (x -ℤ l) ≡ l -ℤ k
between_starts x k l = by_ring (x ∷ k ∷ l ∷ []) _ _ (search quotes depth 20) (search quotes depth 20) refl

cancelled : (s : ℤ) → s +ℤ neg_ℤ s ≡ pos 0
cancelled s = by_ring (s ∷ []) _ _ (search quotes depth 20) (search quotes depth 20) refl

back_again : (k l : ℤ) → k ≡ l -ℤ (l -ℤ k)
back_again k l = by_ring (k ∷ l ∷ []) _ _ (search quotes depth 20) (search quotes depth 20) refl

same_start : (s x k l : ℤ) (w : Shape) → IsCanonicalForm w → sign_at_instant (linear s (x -ℤ k)) w ≡ Zero → sign_at_instant (linear s (x -ℤ l)) w ≡ Zero → k ≡ l
same_start s x k l w form e f =
    let p = linear s (x -ℤ k) in
    let q = linear s (x -ℤ l) in
    let b = cancelled s in
    let c = between_starts x k l in
    let is : quadratic_sum p (negated q) ≡ linear (pos 0) (l -ℤ k) = λ t. linear (b t) (c t) in
    let none : sign_at_instant (quadratic_sum p (negated q)) w ≡ Zero = sum_of_zeros _ _ _ e (sign_at_instant-neg q w ∙ ap opposite_of f) (instant_sum p (negated q) w form) in
    let level : l -ℤ k ≡ pos 0 = zero_of (l -ℤ k) (sym (constant_sign (l -ℤ k) w form) ∙ ap (λ (r : Quadratic). sign_at_instant r w) (sym is) ∙ none) in
    back_again k l ∙ ap (λ d. l -ℤ d) level ∙ nothing_less l
  where
    nothing_less : (l : ℤ) → l -ℤ pos 0 ≡ l
    nothing_less l = by_ring (l ∷ []) _ _ (search quotes depth 20) (search quotes depth 20) refl

pub one_turn : OneTurn
one_turn w u v old a b canonical ta tb =
    let x = same_start (old.u -ℤ u) old.x a.x b.x w canonical.form ta.x_start tb.x_start in
    let y = same_start (old.v -ℤ v) old.y a.y b.y w canonical.form ta.y_start tb.y_start in
    let p = ta.u_is ∙ sym tb.u_is in
    let q = ta.v_is ∙ sym tb.v_is in
    λ t. record { x = x t; y = y t; u = p t; v = q t }

-- ---- what is seen
equal_itself : (w : Shape) (p q : Linear) → IsCanonicalForm w → p ≡ q → AreEqualAt w p q
equal_itself w p q form e =
    let b = difference_of_same p.slope p.slope refl in
    let c = difference_of_same p.start p.start refl in
    subst (AreEqualAt w p) e (ap (λ (r : Quadratic). sign_at_instant r w) (λ t. linear (b t) (c t)) ∙ constant_sign (pos 0) w form)

same_filled : {A : Type 0} (k n : ℕ) (cs : List (Option A)) (old new : A) → slice_index_or cs n None ≡ Some old → filled_from k cs ≡ filled_from k (slice_set cs n (Some new))
same_filled {A} k n [] old new e = refl
same_filled {A} k zero (Some c ∷ cs) old new e = refl
same_filled {A} k zero (None ∷ cs) old new e = absurd cc
same_filled {A} k (suc n) (Some c ∷ cs) old new e = ap (λ is. k ∷ is) (same_filled (k + 1) n cs old new e)
same_filled {A} k (suc n) (None ∷ cs) old new e = same_filled (k + 1) n cs old new e

within_length : {A : Type 0} (cs : List (Option A)) (n : ℕ) (c : A) → slice_index_or cs n None ≡ Some c → n < length cs
within_length {A} [] n c e = absurd cc
within_length {A} (x ∷ cs) zero c e = omega arith
within_length {A} (x ∷ cs) (suc n) c e = let h = within_length cs n c e in omega (arith, h)

pub turn_keeps_scene : TurnKeepsScene
turn_keeps_scene ms n u v old new w canonical is turn = sym (scene_is_by_places w ms (slice_set ms n (Some new)) canonical (same_filled 0 n ms old new is) places)
  where
    low : n < length ms
    low = within_length ms n old is

    there : motion_of (slice_set ms n (Some new)) n ≡ Some new
    there = get_or-set_same ms n (Some new) None low

    turned_x : AreEqualAt w (x_of_course (Some old)) (x_of_course (Some new))
    turned_x = subst (λ s. sign_at_instant (linear (old.u -ℤ s) (old.x -ℤ new.x)) w ≡ Zero) (sym turn.u_is) turn.x_start

    turned_y : AreEqualAt w (y_of_course (Some old)) (y_of_course (Some new))
    turned_y = subst (λ s. sign_at_instant (linear (old.v -ℤ s) (old.y -ℤ new.y)) w ≡ Zero) (sym turn.v_is) turn.y_start

    at : (of_course : Option Course → Linear) → AreEqualAt w (of_course (Some old)) (of_course (Some new)) → (i : ℕ) (t : Bool) → nat_eq i n ≡ t → AreEqualAt w (of_course (motion_of ms i)) (of_course (motion_of (slice_set ms n (Some new)) i))
    at of_course h i true e =
        let same : i ≡ n = grind (arith, nat_tests, e) in
        subst (λ j. AreEqualAt w (of_course (motion_of ms j)) (of_course (motion_of (slice_set ms n (Some new)) j))) (sym same)
        (subst (λ (c : Option Course). AreEqualAt w (of_course c) (of_course (motion_of (slice_set ms n (Some new)) n))) (sym is) (subst (λ (c : Option Course). AreEqualAt w (of_course (Some old)) (of_course c)) (sym there) h))
    at of_course h i false e = equal_itself w _ _ canonical.form (ap of_course (sym (get_or-set_other ms n i (Some new) None (grind (arith, nat_tests, e)))))

    places : HaveSamePlaces w ms (slice_set ms n (Some new))
    places = record { x = λ i. at x_of_course turned_x i (nat_eq i n) refl; y = λ i. at y_of_course turned_y i (nat_eq i n) refl }
