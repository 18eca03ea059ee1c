-- What may be kept, with one structure more.
use Rattle.std.proofs.Common.{◌≡◌, sym, subst, inl, inr, ◌⊎◌, ℕ, List, [], ◌∷◌, ◌++◌, length, Some}
use Rattle.std.specs.Prelude.{slice_get, IsTrue}
use Rattle.kin_algebra.proofs.Places.{get_last, get-push_cases}
use Rattle.kin_motion.specs.declared.keep.Keep.{Keep}
use Rattle.kin_motion.specs.Keeps.{may_keep}
use Rattle.kin_motion.specs.Live.{IsSmallKeep}
use Rattle.kin_world.specs.Worlds.{AreKeepable}

pub one_more : (keeps : List Keep) (keep : Keep) → AreKeepable keeps → IsSmallKeep keep → IsTrue (may_keep (keeps ++ keep ∷ [])) → AreKeepable (keeps ++ keep ∷ [])
one_more keeps keep before small may = record { few = may; small = λ j other e. at other (get-push_cases keeps keep j other e) }
  where
    at : {j : ℕ} (other : Keep) → (slice_get keeps j ≡ Some other) ⊎ ((j ≡ length keeps) × (other ≡ keep)) → IsSmallKeep other
    at {j} other (inl e) = before.small j other e
    at other (inr e) = subst IsSmallKeep (sym e.1) small

pub last_is_small : (keeps : List Keep) (keep : Keep) → AreKeepable (keeps ++ keep ∷ []) → IsSmallKeep keep
last_is_small keeps keep all = all.small (length keeps) keep (get_last keeps keep)
