-- The motions of live numbers stay slow.
use Rattle.std.proofs.Common.{◌≡◌, refl, sym, subst, ◌∙◌, List, [], ◌∷◌, ℕ, zero, suc, ◌⊎◌, inl, inr}
use Rattle.std.specs.Prelude.{Option, Some, None, slice_index_or, slice_set}
use Rattle.kin_motion.specs.Course.{Course, IsSlow, AreSlow, motion_of}

-- a slot after one slot was written holds what was written, or what it held
pub written : {A : Type 0} (xs : List A) (n i : ℕ) (x z : A) → (slice_index_or (slice_set xs n x) i z ≡ x) ⊎ (slice_index_or (slice_set xs n x) i z ≡ slice_index_or xs i z)
written {A} [] n i x z = inr refl
written {A} (y ∷ ys) zero zero x z = inl refl
written {A} (y ∷ ys) zero (suc i) x z = inr refl
written {A} (y ∷ ys) (suc n) zero x z = inr refl
written {A} (y ∷ ys) (suc n) (suc i) x z = written ys n i x z

pub none_is_not_some : (c : Course) {A : Type 0} → None ≡ Some c → A
none_is_not_some c e = cc

same_course : (c d : Course) → Some c ≡ Some d → c ≡ d
same_course c d e = cc

pub slow-set : (ms : List (Option Course)) (n : ℕ) (c : Course) → AreSlow ms → IsSlow c → AreSlow (slice_set ms n (Some c))
slow-set ms n c slow own = record { each = λ i d e. one i d e (written ms n i (Some c) None) }
  where
    one : (i : ℕ) (d : Course) → motion_of (slice_set ms n (Some c)) i ≡ Some d → (motion_of (slice_set ms n (Some c)) i ≡ Some c) ⊎ (motion_of (slice_set ms n (Some c)) i ≡ motion_of ms i) → IsSlow d
    one i d e (inl w) = subst IsSlow (same_course c d (sym w ∙ e)) own
    one i d e (inr w) = slow.each i d (sym w ∙ e)

pub slow-clear : (ms : List (Option Course)) (n : ℕ) → AreSlow ms → AreSlow (slice_set ms n None)
slow-clear ms n slow = record { each = λ i d e. one i d e (written ms n i None None) }
  where
    one : (i : ℕ) (d : Course) → motion_of (slice_set ms n None) i ≡ Some d → (motion_of (slice_set ms n None) i ≡ None) ⊎ (motion_of (slice_set ms n None) i ≡ motion_of ms i) → IsSlow d
    one i d e (inl w) = none_is_not_some d (sym w ∙ e)
    one i d e (inr w) = slow.each i d (sym w ∙ e)
