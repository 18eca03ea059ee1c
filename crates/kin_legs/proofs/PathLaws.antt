-- Plans that are paths.
use Rattle.std.proofs.Common.{◌≡◌, ◌⊎◌, inl, inr, refl, sym, ◌∙◌, ℕ, zero, suc, List, slice_set}
use Rattle.std.specs.Prelude.{Option, Some, None, replicate}
use Rattle.std.proofs.lemmas.List.Elements.{All-nil}
use Rattle.kin_motion.specs.Course.{Course, IsSlow}
use Rattle.kin_motion.specs.Plans.{Plan}
use Rattle.kin_motion.proofs.MotionLaws.{written}
use Rattle.kin_legs.specs.Paths.{IsFair, IsPath, ArePaths, lasting, plan_of}

-- a motion for ever is a path
pub lasting_path : (c : Course) → IsSlow c → IsPath (lasting c)
lasting_path c slow = record { slow = slow; fair = All-nil IsFair; rising = tt; unbroken = tt }

-- where no number is live
pub none_planned : (n i : ℕ) → plan_of (replicate n None) i ≡ None
none_planned zero i = refl
none_planned (suc n) zero = refl
none_planned (suc n) (suc i) = none_planned n i

pub none_paths : (n : ℕ) → ArePaths (replicate n None)
none_paths n = record { each = λ i plan is. absurd (let clash : None ≡ Some plan = sym (none_planned n i) ∙ is in cc) }

-- where one number has a path or none then
pub paths_set : (plans : List (Option Plan)) (n : ℕ) (p : Option Plan) → ArePaths plans → ((plan : Plan) → p ≡ Some plan → IsPath plan) → ArePaths (slice_set plans n p)
paths_set plans n p paths own = record { each = λ i plan is. one i plan is (written plans n i p None) }
  where
    one : (i : ℕ) (plan : Plan) → plan_of (slice_set plans n p) i ≡ Some plan → (plan_of (slice_set plans n p) i ≡ p) ⊎ (plan_of (slice_set plans n p) i ≡ plan_of plans i) → IsPath plan
    one i plan is (inl w) = own plan (sym w ∙ is)
    one i plan is (inr w) = paths.each i plan (sym w ∙ is)
