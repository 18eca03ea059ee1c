-- The members without one that leaves.
use Rattle.std.proofs.Common.{◌≡◌, sym, subst, List, [], ℕ}
use Rattle.std.specs.Prelude.{pos}
use Rattle.kin_motion.specs.Numbers.{HasEntered}
use Rattle.kin_list.specs.declared.mark.Mark.TheVariants.{Leaves}
use Rattle.kin_list.specs.Listing.{Listing}
use Rattle.kin_list.proofs.LeavingLaws.{list_left}
use Rattle.kin_wedge.specs.Wedging.{Wedging, members_of, IsWedgingAtRest}
use Rattle.kin_nearest.specs.Nearing.{HasMembers}

-- a list with the members and the mark of the octants
as_list : Wedging → Listing
as_list k = record { dx = pos 0; dy = pos 0; room = 0; items = members_of k; facts = []; swaps = []; mark = k.mark }

pub nearing_left : (leaving : ℕ) (k new : Wedging) (before after : List ℕ) → IsWedgingAtRest k → new ≡ record k { mark = Leaves leaving } → HasMembers k before → HasEntered leaving after before → HasMembers new after
unfolding as_list
nearing_left leaving k new before after rest marked has left =
    subst (λ (w : Wedging). HasMembers w after) (sym marked) (list_left leaving (as_list k) (record (as_list k) { mark = Leaves leaving }) before after rest (λ t. record (as_list k) { mark = Leaves leaving }) has left)
