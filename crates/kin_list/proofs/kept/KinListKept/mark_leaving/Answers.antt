use Rattle.std.proofs.Common.{sym, ap, ◌∙◌, subst}
use Rattle.kin_list.specs.declared.mark.Mark.{Mark}
use Rattle.kin_list.specs.declared.mark.Mark.TheVariants.{Leaves}
use Rattle.kin_list.specs.Listing.{Listing, HasMarked, names_leaving}
use Rattle.kin_list.proofs.FollowLaws.{follows_marked}
use Rattle.kin_list.proofs.LeavingLaws.{list_left}
use Rattle.kin_list.proofs.kept.KinListKept.mark_leaving.Goals as goal

pub remove-requires-clause-member : goal.remove-requires-clause-member
remove-requires-clause-member c =
    let member = c.requires.member in
    let lists = subst (λ (mark : Mark). HasMarked mark c.args.self.now.items member.0.live) c.requires.rest member.1 in
    lists.same c.args.no ∙ member.3

pub returns-clause-members : goal.returns-clause-members
returns-clause-members c = λ before after has left. list_left c.args.no c.args.self.now c.remove.new.self before after c.requires.rest c.remove.ensures has left

pub returns-clause-spares : goal.returns-clause-spares
returns-clause-spares c = λ p there free. sym (ap (λ (k : Listing). names_leaving k.mark p) c.remove.ensures) ∙ free

pub returns-clause-follows : goal.returns-clause-follows
returns-clause-follows c = λ s after members settled left. follows_marked (Leaves c.args.no) c.args.self.now c.remove.new.self s after c.remove.ensures settled left
