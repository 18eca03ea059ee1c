use Rattle.kin_near.proofs.BestPairs.{best_pair_is_closest}
use Rattle.kin_near.proofs.laws.best_pair_is_closest.Goals as goal

pub returns : goal.returns
returns c = best_pair_is_closest
