use Rattle.kin_legs.proofs.SceneLaws.{legs_keep_scene}
use Rattle.kin_legs.proofs.laws.legs_keep_the_scene.Goals as goal

pub returns : goal.returns
returns c = legs_keep_scene
