-- The members without one that leaves.
use Rattle.std.proofs.Common.{◌≡◌, sym, subst, List, [], ℕ}
use Rattle.std.specs.Prelude.{pos}
use Rattle.kin_motion.specs.Numbers.{HasEntered}
use Rattle.kin_list.specs.declared.mark.Mark.TheVariants.{Leaves}
use Rattle.kin_list.specs.Listing.{Listing}
use Rattle.kin_list.proofs.LeavingLaws.{list_left}
use Rattle.kin_wedge.specs.Wedging.{Wedging, members_of}
use Rattle.kin_closest.specs.Closing.{Closing, IsClosingAtRest, HasMembers}

-- a list with the members and the mark of the octants
as_list : Wedging → Listing
as_list k = record { dx = pos 0; dy = pos 0; room = 0; items = members_of k; facts = []; swaps = []; mark = k.mark }

pub closing_left : (who : ℕ) (k new : Closing) (before after : List ℕ) → IsClosingAtRest k → new ≡ record k { wedges = record k.wedges { mark = Leaves who } } → HasMembers k before → HasEntered who after before → HasMembers new after
unfolding as_list
closing_left who k new before after rest marked has left =
    subst (λ (c : Closing). HasMembers c after) (sym marked)
    (record { members = list_left who (as_list k.wedges) (record (as_list k.wedges) { mark = Leaves who }) before after rest.rest (λ t. record (as_list k.wedges) { mark = Leaves who }) has.members left; whole = has.whole })
