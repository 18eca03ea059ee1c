use Rattle.kin_hull.proofs.Corners.{corners_end_verticals, two_have_one_x}
use Rattle.kin_hull.proofs.laws.corners_end_verticals.Goals as goal

pub returns : goal.returns
returns c = record { ends = corners_end_verticals; two = two_have_one_x }
