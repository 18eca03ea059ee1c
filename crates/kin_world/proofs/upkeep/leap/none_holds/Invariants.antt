use Rattle.kin_world.proofs.Vocabulary.{◌≡◌, false, take, All, Holds, scene_at, is_line}
use Rattle.kin_world.proofs.upkeep.leap.none_holds.Given as goal

abbrev pub invariant-loop-owned : goal.invariant-loop-owned
invariant-loop-owned g l = All (λ o. is_line o.fact.form ≡ false → ¬ (Holds (scene_at l.now.motions.now l.now.moment.now) o.fact)) (take l.owned-index l.given)
