use Rattle.std.proofs.Common.{sym, ap}
use Rattle.kin_list.specs.Listing.{names_leaving}
use Rattle.kin_cases.proofs.Followed.{ready_followed, followed_settled}
use Rattle.kin_cases.proofs.octants.Octants.go.Goals as goal

pub settle-requires-clause-ready : goal.settle-requires-clause-ready
settle-requires-clause-ready g c =
    let o = c.self.inside in
    ready_followed o.size o.motions c.args.moment.now o.mark o.wedges c.self.invariant

pub settle-requires-clause-spares : goal.settle-requires-clause-spares
settle-requires-clause-spares g c = λ p. ap (λ mark. names_leaving mark p) (sym c.self.invariant.marked)

pub invariant_of-result : goal.invariant_of-result
invariant_of-result g c =
    let o = c.self.inside in
    let s = c.in_ok-wedges.ensures in
    followed_settled o.size o.motions c.args.moment.now o.mark o.wedges c.in_ok-wedges.wedges c.self.invariant s.stays s.rest s.settled
