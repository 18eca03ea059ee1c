use Rattle.std.proofs.Common.{refl, sym, ◌∙◌, subst}
use Rattle.kin_list.specs.declared.mark.Mark.TheVariants.{Rest}
use Rattle.kin_wedge.specs.Wedging.{Wedging}
use Rattle.kin_cases.specs.Octants.{AreFollowed}
use Rattle.kin_cases.proofs.Members.{none_live}
use Rattle.kin_cases.proofs.octants.Octants.new.Goals as goal

pub invariant_of-result : goal.invariant_of-result
invariant_of-result c =
    subst (λ (k : Wedging). AreFollowed c.args.size c.in_ok-motions.motions Rest k) (sym (c.new-wedges.ensures ∙ c.in_ok-new.ensures))
    (record { small = c.requires.high; slots = c.in_ok-motions.ensures.room; sized = refl; marked = refl; members = none_live c.in_ok-motions.motions c.in_ok-motions.ensures.none })
