use Rattle.std.proofs.Common.{rules}
use Rattle.kin_pairs.proofs.distance.DistanceKeyed.left_wins.Goals as goal

pub returns-in-Plus : goal.returns-in-Plus
returns-in-Plus c = search rules

pub returns-in-Zero : goal.returns-in-Zero
returns-in-Zero c = search rules

pub returns-in-Minus : goal.returns-in-Minus
returns-in-Minus c = search rules
