-- The winner at the root of a tournament of points is the extreme point.
use Rattle.std.proofs.Common.{subst, arith, ℕ}
use Rattle.kin_motion.specs.Agreements.{FitsSize}
use Rattle.kin_motion.specs.Contents.{IsWinner}
use Rattle.kin_motion.specs.Extremes.{IsExtremePoint, along_key}
use Rattle.kin_motion.specs.Scene.{Scene, IsReal}
use Rattle.kin_motion.proofs.DeterminedExtremes.{root_is_extreme}
use Rattle.kin_motion.proofs.UnderNodes.{root_low}
use Rattle.kin_tourney.specs.declared.along.Along.{Along}
use Rattle.kin_tourney.specs.Points.{HasPoints, IsSettledAlong}
use Rattle.kin_tourney.specs.Tournament.{Tournament, winner_at}

pub extreme_point : (t : Tournament Along ℕ) (s : Scene) → IsReal s → FitsSize t.size s → HasPoints t s.live → IsSettledAlong t s → IsExtremePoint s t.key.dx t.key.dy (winner_at t 1)
extreme_point t s real fits has settled =
    root_is_extreme s real t.key.dx t.key.dy t.size fits (winner_at t 1)
    (subst (λ slots. IsWinner s (along_key t.key.dx t.key.dy) t.size slots 1 (winner_at t 1)) has.slots (settled.tournament.winners 1 (omega arith) (root_low t.size)))
