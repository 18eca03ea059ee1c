use Rattle.std.proofs.Common.{sym, subst}
use Rattle.std.specs.Prelude.{IsTrue}
use Rattle.kin_list.specs.declared.mark.Mark.TheVariants.{Enters}
use Rattle.kin_range.specs.Ranging.{Ranging}
use Rattle.kin_range.proofs.Settling.{joined_marked}
use Rattle.kin_range.proofs.range.KinRange.insert.Goals as goal

pub invariant_of-self-2 : goal.invariant_of-self-2
invariant_of-self-2 c =
    let known = c.self.invariant (subst (λ (r : Ranging). IsTrue r.whole) (sym c.self.view_is) c.requires.rest.whole) in
    λ whole. joined_marked (Enters c.args.no) c.self.inside.by_x c.self.inside.by_y c.insert.new.self c.insert-2.new.self known c.in_ok-insert.ensures.ok c.in_ok-insert-2.ensures.ok
