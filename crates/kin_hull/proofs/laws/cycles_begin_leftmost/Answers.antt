use Rattle.kin_hull.proofs.Beginning.{cycles_begin_leftmost, cycles_have_corners}
use Rattle.kin_hull.proofs.Corners.{cycles_list_once}
use Rattle.kin_hull.proofs.laws.cycles_begin_leftmost.Goals as goal

pub returns : goal.returns
returns c = record { some = cycles_have_corners; first = cycles_begin_leftmost; once = cycles_list_once }
