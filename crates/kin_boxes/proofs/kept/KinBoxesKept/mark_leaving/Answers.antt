use Rattle.std.proofs.Common.{◌≡◌, subst, sym, false}
use Rattle.kin_boxes.specs.Boxing.{Boxing, HasMembers, is_spared}
use Rattle.kin_boxes.proofs.Members.{leaves_members, spares_leaving}
use Rattle.kin_boxes.proofs.kept.KinBoxesKept.mark_leaving.Goals as goal

pub returns-clause-members : goal.returns-clause-members
returns-clause-members c = λ before after members entered.
    subst (λ (b : Boxing). HasMembers b after) (sym c.remove.ensures) (leaves_members c.args.self.now c.args.no c.requires.rest before after members entered)

pub returns-clause-spares : goal.returns-clause-spares
returns-clause-spares c = λ p there spared. spares_leaving c.args.self.now c.args.no p (subst (λ (b : Boxing). is_spared b p ≡ false) c.remove.ensures spared)
