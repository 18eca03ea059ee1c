-- Motions that go on for ever.
use Rattle.std.proofs.Common.{refl, ap, List, [], ◌∷◌}
use Rattle.std.specs.Prelude.{Option, Some, None}
use Rattle.kin_motion.specs.Course.{Course}
use Rattle.kin_legs.specs.Paths.{LastingMotionsStay}

-- ---- motions that go on for ever
pub lasting_motions_stay : LastingMotionsStay
lasting_motions_stay [] m = refl
lasting_motions_stay (None ∷ ms) m = ap (λ (cs : List (Option Course)). None ∷ cs) (lasting_motions_stay ms m)
lasting_motions_stay (Some c ∷ ms) m = ap (λ (cs : List (Option Course)). Some c ∷ cs) (lasting_motions_stay ms m)
