use Rattle.std.proofs.Common.{sym, ◌∙◌, arith}
use Rattle.kin_wedge.specs.Seen.{rows_of}
use Rattle.kin_wedge.proofs.Passing.{in_each, none_across, only_here, only_across}
use Rattle.kin_wedge.proofs.Places.{first_is_in, second_is_in}
use Rattle.kin_wedge.proofs.touch.Touches.offer_within.Goals as goal

pub returns-in_default-clause-second : goal.returns-in_default-clause-second
returns-in_default-clause-second c = λ w o e bound h.
    none_across (rows_of c.args.orders.now.lists.items) c.args.first c.args.second c.args.part (λ v r f b k. sym c.in_default.is ∙ c.octant_behind.ensures.told v r f b k) w o e bound h.0

pub place_of_member-rank-requires-clause-member : goal.place_of_member-rank-requires-clause-member
place_of_member-rank-requires-clause-member c =
    in_each (rows_of c.args.orders.now.lists.items) c.requires.alike c.args.part c.args.second (let l = c.requires.part in omega (arith, l)) (second_is_in _ c.args.first c.args.second c.requires.behind) _ (omega arith)

pub offer-requires-clause-there : goal.offer-requires-clause-there
offer-requires-clause-there c = only_here (rows_of c.args.orders.now.lists.items) c.args.first c.args.second c.requires.parted c.in-Some.w c.in-Some.ensures.small c.in-Some.ensures.within

pub offer-requires-clause-slot : goal.offer-requires-clause-slot
offer-requires-clause-slot c = c.requires.members c.args.part c.args.first (first_is_in _ c.args.first c.args.second c.requires.behind)

pub place_of_member-rank-requires-2-clause-member : goal.place_of_member-rank-requires-2-clause-member
place_of_member-rank-requires-2-clause-member c =
    in_each (rows_of c.args.orders.now.lists.items) c.requires.alike c.args.part c.args.first (let l = c.requires.part in omega (arith, l)) (first_is_in _ c.args.first c.args.second c.requires.behind) _ (omega arith)

pub offer-requires-2-clause-there : goal.offer-requires-2-clause-there
offer-requires-2-clause-there c = only_across (rows_of c.args.orders.now.lists.items) c.args.first c.args.second c.requires.parted c.in-Some.w c.in-Some.ensures.small c.in-Some.ensures.within

pub offer-requires-2-clause-slot : goal.offer-requires-2-clause-slot
offer-requires-2-clause-slot c = c.requires.members c.args.part c.args.second (second_is_in _ c.args.first c.args.second c.requires.behind)
