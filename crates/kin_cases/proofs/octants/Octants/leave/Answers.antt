use Rattle.std.proofs.Common.{refl, rules, ◌<◌, ◌^◌}
use Rattle.kin_cases.proofs.Followed.{at_rest, is_member, followed_leaving}
use Rattle.kin_cases.proofs.octants.Octants.leave.Goals as goal

pub remove-requires-clause-rest : goal.remove-requires-clause-rest
remove-requires-clause-rest c =
    let o = c.self.inside in
    at_rest o.size o.motions o.mark o.wedges c.self.invariant (c.is_rest.ensures c.if-not-is_rest.false)

pub remove-requires-clause-member : goal.remove-requires-clause-member
remove-requires-clause-member c =
    let o = c.self.inside in
    is_member o.size o.motions o.mark o.wedges c.self.invariant (c.is_rest.ensures c.if-not-is_rest.false) c.args.no (c.if-not-is_live.ensures.0 refl)

pub invariant_of-self : goal.invariant_of-self
invariant_of-self c =
    let o = c.self.inside in
    let low : c.args.no < 2 ^ o.size = search rules in
    followed_leaving o.size o.motions o.mark o.wedges c.self.invariant (c.is_rest.ensures c.if-not-is_rest.false) c.args.no c.clear.new.self c.remove.new.self low c.clear.ensures c.remove.ensures
