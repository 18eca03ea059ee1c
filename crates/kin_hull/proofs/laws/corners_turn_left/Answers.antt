use Rattle.kin_hull.proofs.Corners.{corners_turn_left, neighbours_turn_left}
use Rattle.kin_hull.proofs.laws.corners_turn_left.Goals as goal

pub returns : goal.returns
returns c = record { order = corners_turn_left; around = neighbours_turn_left }
