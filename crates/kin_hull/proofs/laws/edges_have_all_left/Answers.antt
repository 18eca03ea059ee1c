use Rattle.kin_hull.proofs.Edges.{edges_have_all_left}
use Rattle.kin_hull.proofs.laws.edges_have_all_left.Goals as goal

pub returns : goal.returns
returns c = edges_have_all_left
