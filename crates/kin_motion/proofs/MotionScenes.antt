-- What motions show at a canonical moment is a real scene, and its live numbers have slots.
use Rattle.std.proofs.Common.{◌≡◌, refl, sym, ◌∙◌, subst, arith, ℕ, zero, suc, ◌<◌, ◌^◌, true, List, [], ◌∷◌, Option, None, length, get_or}
use Rattle.std.specs.Prelude.{is_some}
use Rattle.kin_num.specs.declared.instant.Moment.{Moment}
use Rattle.kin_num.specs.Canonical.{IsCanonical}
use Rattle.kin_motion.specs.Agreements.{FitsSize}
use Rattle.kin_motion.specs.Course.{Course}
use Rattle.kin_motion.specs.Scene.{IsReal, scene_at}
use Rattle.kin_motion.proofs.LiveLaws.{live-members}

pub real_at : (ms : List (Option Course)) (m : Moment) → IsCanonical m.at → IsReal (scene_at ms m)
real_at ms m canonical = record { motions = ms; moment = m; canonical = canonical; live = refl; sign = λ f. refl }

some_within : {A : Type 0} (xs : List (Option A)) (i : ℕ) → is_some (get_or xs i None) ≡ true → i < length xs
some_within {A} [] i h = absurd cc
some_within {A} (x ∷ xs) zero h = omega arith
some_within {A} (x ∷ xs) (suc i) h = let low : i < length xs = some_within xs i h in omega (arith, low)

pub live_fits : (size : ℕ) (motions : List (Option Course)) (m : Moment) → length motions ≡ 2 ^ size → FitsSize size (scene_at motions m)
live_fits size motions m room i live = subst (λ n. i < n) room (some_within motions i (sym (live-members motions i) ∙ live))
