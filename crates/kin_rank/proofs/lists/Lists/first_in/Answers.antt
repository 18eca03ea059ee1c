use Rattle.kin_rank.proofs.Asking.{first_is_first_in}
use Rattle.kin_rank.proofs.lists.Lists.first_in.Goals as goal

pub returns-then-is_there : goal.returns-then-is_there
returns-then-is_there c = first_is_first_in c.args.self.now c.requires c.args.f_above c.args.g_above c.first_by_tree.result c.first_by_tree.ensures

pub returns-else-is_there : goal.returns-else-is_there
returns-else-is_there c = first_is_first_in c.args.self.now c.requires c.args.f_above c.args.g_above c.first_by_scan.result c.first_by_scan.ensures
