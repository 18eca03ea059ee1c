-- An extreme point has fewer facts than live numbers.
use Rattle.std.proofs.Common.{sym, subst, arith, ℕ, ◌-◌, ◌^◌, ◌≤◌, length, ℤ}
use Rattle.kin_motion.specs.Numbers.{IsIn}
use Rattle.kin_motion.specs.Scene.{Scene}
use Rattle.kin_motion.specs.Extremes.{along_key, point_slots, extreme_facts}
use Rattle.kin_motion.proofs.Members.{contains_from_in}
use Rattle.kin_motion.proofs.PointSlots.{slot_holds}
use Rattle.kin_motion.proofs.ExtremeFactLaws.{slot_count}
use Rattle.kin_motion.proofs.TournamentCounts.{tournament_count}

pub extreme_count : (size : ℕ) (s : Scene) (dx dy : ℤ) → length (extreme_facts size s dx dy) ≤ length s.live - 1
extreme_count size s dx dy =
    tournament_count s (along_key dx dy) size (point_slots size s.live) (let n = slot_count s.live 0 (2 ^ size) in omega (arith, n)) s.live
    (λ i a e. let r = slot_holds size s.live i a e in contains_from_in s.live i (subst (λ j. IsIn j s.live) (sym r.0) r.1))
