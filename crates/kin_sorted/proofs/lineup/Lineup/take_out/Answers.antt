use Rattle.std.proofs.Common.{ap, arith, length}
use Rattle.std.proofs.lemmas.Option.{slice_get_within}
use Rattle.std.proofs.lemmas.List.Edits.{length-remove}
use Rattle.kin_sorted.proofs.LeaveLaws.{taken_first, taken_later}
use Rattle.kin_sorted.proofs.lineup.Lineup.take_out.Goals as goal

pub returns-then-place-eq0-clause-taken : goal.returns-then-place-eq0-clause-taken
returns-then-place-eq0-clause-taken c = taken_first c.args.slot c.place_of_member-place.result c.args.self.now.row.items _ c.args.self.now.touched.items _ c.place_of_member-place.ensures.apart c.place_of_member-place.ensures.place c.take_out.ensures.items c.if-place-eq0.true c.in_ok-push.ensures.items

pub at-left-requires : goal.at-left-requires
at-left-requires c =
    let l = slice_get_within c.args.self.now.row.items c.place_of_member-place.result c.args.slot c.place_of_member-place.ensures.place in
    let len = length-remove c.args.self.now.row.items c.place_of_member-place.result l in
    let same = ap length c.take_out.ensures.items in
    omega arith

pub take_out-requires : goal.take_out-requires
take_out-requires c = slice_get_within c.args.self.now.row.items c.place_of_member-place.result c.args.slot c.place_of_member-place.ensures.place

pub returns-clause-taken : goal.returns-clause-taken
returns-clause-taken c = taken_later c.args.slot c.place_of_member-place.result c.at-left.result c.args.self.now.row.items c.take_out.new.self.items c.args.self.now.touched.items c.push.new.self.items c.push-2.new.self.items
    c.place_of_member-place.ensures.apart c.place_of_member-place.ensures.place c.take_out.ensures.items c.if-place-eq0.false c.at-left.ensures.item c.in_ok-push.ensures.items c.in_ok-push-2.ensures.items
