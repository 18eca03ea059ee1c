use Rattle.std.proofs.Common.{sym, subst, List, ℕ}
use Rattle.kin_env.specs.Trees.{top_of}
use Rattle.kin_hull.specs.Hulls.{Hull, IsHullAtRest}
use Rattle.kin_hull.specs.Meetings.{MeetAtEnds}
use Rattle.kin_hull.proofs.Meetings.{meet_at_ends}
use Rattle.kin_hull.proofs.hull.KinHull.cycle.Goals as goal

pub go_round-requires : goal.go_round-requires
go_round-requires c =
    let rest = subst (λ (k : Hull). IsHullAtRest k) (sym c.self.view_is) c.requires.rest in
    let known = c.self.invariant rest.whole in
    let upper = top_of c.self.inside.upper in
    let lower = top_of c.self.inside.lower in
    let met = meet_at_ends known.seen known.seen.live lower upper known.settled.lower.tree.chain known.settled.upper.tree.chain in
    subst (λ (xs : List ℕ). MeetAtEnds xs c.top-2.result.now) (sym c.top.ensures) (subst (λ (xs : List ℕ). MeetAtEnds (top_of c.self.inside.lower) xs) (sym c.top-2.ensures) met)
