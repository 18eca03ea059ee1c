use Rattle.kin_tourney.proofs.Trees.{some_inner}
use Rattle.kin_tourney.proofs.tree.Tree.is_untouched.Goals as goal

pub is_clear-requires-clause-inner : goal.is_clear-requires-clause-inner
is_clear-requires-clause-inner g c = some_inner c.args.self.now c.requires.tree c.requires.some
