use Rattle.kin_motion.proofs.PlaceLaws.{scene_is_by_places}
use Rattle.kin_motion.proofs.TurningLaws.{turn_keeps_scene, one_turn}
use Rattle.kin_motion.proofs.laws.turns_keep_the_scene.Goals as goal

pub returns-clause-places : goal.returns-clause-places
returns-clause-places c = scene_is_by_places

pub returns-clause-turn : goal.returns-clause-turn
returns-clause-turn c = turn_keeps_scene

pub returns-clause-one : goal.returns-clause-one
returns-clause-one c = one_turn
