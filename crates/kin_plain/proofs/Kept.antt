-- The facts of a structure, by its kind.
use Rattle.std.proofs.Common.{◌≡◌, sym, subst, ap, ◌∙◌, List, ◌++◌, ℕ, ℤ, w32, to_z, of_z}
use Rattle.kin_motion.specs.declared.fact.Placed.{Placed}
use Rattle.kin_motion.specs.declared.keep.Keep.{Keep}
use Rattle.kin_motion.specs.declared.keep.Keep.TheVariants.{Extreme}
use Rattle.kin_motion.specs.Extremes.{extreme_facts}
use Rattle.kin_motion.specs.Live.{keep_facts, IsSmallDirection, IsSmallKeep}
use Rattle.kin_motion.specs.Scene.{Scene}
use Rattle.kin_plain.proofs.Wedges.{small_read}

-- those of an extreme point
pub extreme_kept : (size : ℕ) (s : Scene) (keep : Keep) (dx dy : ℤ) (old new : List Placed) → keep ≡ Extreme dx dy → IsSmallKeep keep
    → new ≡ old ++ extreme_facts size s (to_z w32 (of_z w32 dx)) (to_z w32 (of_z w32 dy)) → new ≡ old ++ keep_facts size s keep
extreme_kept size s keep dx dy old new is small put =
    let both : IsSmallDirection dx dy = subst IsSmallKeep is small in
    put ∙ ap (λ (x : ℤ). old ++ extreme_facts size s x (to_z w32 (of_z w32 dy))) (small_read dx both.0) ∙ ap (λ (y : ℤ). old ++ extreme_facts size s dx y) (small_read dy both.1)
    ∙ ap (λ (k : Keep). old ++ keep_facts size s k) (sym is)
