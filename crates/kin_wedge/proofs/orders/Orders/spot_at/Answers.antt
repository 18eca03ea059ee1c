use Rattle.std.proofs.Common.{◌∙◌, arith}
use Rattle.kin_list.proofs.RowLaws.{is_in_from_get}
use Rattle.kin_wedge.proofs.orders.Orders.spot_at.Goals as goal

pub place_of_member-requires-clause-member : goal.place_of_member-requires-clause-member
place_of_member-requires-clause-member c = c.requires.alike 1 c.args.no (omega arith) ∙ is_in_from_get _ c.args.y c.args.no c.requires.place

pub place_of_member-requires-2-clause-member : goal.place_of_member-requires-2-clause-member
place_of_member-requires-2-clause-member c = c.requires.alike 2 c.args.no (omega arith) ∙ is_in_from_get _ c.args.y c.args.no c.requires.place

pub place_of_member-requires-3-clause-member : goal.place_of_member-requires-3-clause-member
place_of_member-requires-3-clause-member c = c.requires.alike 3 c.args.no (omega arith) ∙ is_in_from_get _ c.args.y c.args.no c.requires.place
