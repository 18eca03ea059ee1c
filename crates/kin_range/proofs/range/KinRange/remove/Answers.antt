use Rattle.kin_list.specs.declared.mark.Mark.TheVariants.{Leaves}
use Rattle.kin_range.proofs.Settling.{joined_marked}
use Rattle.kin_range.proofs.range.KinRange.remove.Goals as goal

pub invariant_of-self : goal.invariant_of-self
invariant_of-self c = λ whole. joined_marked (Leaves c.args.no) c.self.inside.by_x c.self.inside.by_y c.remove.new.self c.remove-2.new.self (c.self.invariant whole) c.remove.ensures c.remove-2.ensures
