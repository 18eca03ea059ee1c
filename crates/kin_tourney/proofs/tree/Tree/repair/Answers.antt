use Rattle.std.proofs.Common.{arith}
use Rattle.kin_motion.proofs.ChangeLaws.{nothing_changed}
use Rattle.kin_tourney.specs.Standings.{placed_facts}
use Rattle.kin_tourney.proofs.Doubts.{count_top}
use Rattle.kin_tourney.proofs.Trees.{all_clear}
use Rattle.kin_tourney.proofs.tree.Tree.repair.Goals as goal

pub returns-then-is_untouched-clause-clear : goal.returns-then-is_untouched-clause-clear
returns-then-is_untouched-clause-clear g c = all_clear c.args.self.now.doubts c.requires.doubtful.tree.closed (c.is_untouched.ensures.0 c.if-is_untouched.true)

pub returns-then-is_untouched-clause-delta : goal.returns-then-is_untouched-clause-delta
returns-then-is_untouched-clause-delta g c = nothing_changed (placed_facts c.args.self.now) c.args.out.now

pub returns-then-is_untouched-clause-cost : goal.returns-then-is_untouched-clause-cost
returns-then-is_untouched-clause-cost g c = let n = count_top c.args.self.now.doubts c.requires.doubtful.tree.closed.top in omega (arith, n)
