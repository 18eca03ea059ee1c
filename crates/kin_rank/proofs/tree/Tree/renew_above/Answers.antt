use Rattle.std.proofs.Common.{◌≡◌, ap, ◌∙◌, arith}
use Rattle.kin_rank.specs.Trees.{up, IsAbove, NoNode}
use Rattle.kin_rank.proofs.Climbing.{less_spoilt, up_none}
use Rattle.kin_rank.proofs.tree.Tree.renew_above.Goals as goal

pub returns-clause-joins : goal.returns-clause-joins
returns-clause-joins c = less_spoilt c.args.g.now c.args.t.now c.loop-high.self.nodes.items (IsAbove c.loop-high.low c.loop-high.high) NoNode c.loop-high.invariant.spoilt (λ v some a.
    let top : c.loop-high.high ≡ 0 = let e = c.loop-high-test.false in omega arith in
    let none : up a.levels c.loop-high.high ≡ 0 = ap (up a.levels) top ∙ up_none a.levels in
    let high = a.high in
    omega (arith, some, none, high))
