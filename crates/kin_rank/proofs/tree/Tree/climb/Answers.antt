use Rattle.std.proofs.Common.{◌≡◌, refl, sym, subst, arith, ◌/◌, length, List, Option}
use Rattle.kin_rank.specs.declared.leaders.Leaders.{Leaders}
use Rattle.kin_rank.specs.Trees.{AreSameLeaves, IsJoinedBut}
use Rattle.kin_rank.proofs.Climbing.{renewed, leaves-set}
use Rattle.kin_rank.proofs.tree.Tree.climb.Goals as goal

pub loop-node-preserved : goal.loop-node-preserved
loop-node-preserved c =
    let g = c.args.g.now in
    let nodes = c.loop-node.self.nodes.items in
    let i = c.loop-node.invariant in
    record {
      inner = let n = i.inner in omega arith;
      spoilt = subst (λ (ns : List (Option Leaders)). IsJoinedBut g c.args.t.now ns (λ v. v ≡ c.loop-node.node / 2)) (sym c.renew.ensures.nodes)
          (renewed g c.args.t.now nodes (λ v. v ≡ c.loop-node.node) i.spoilt (λ v. v ≡ c.loop-node.node / 2) c.loop-node.node i.inner refl (λ u some n e. absurd (n e)));
      leaves = subst (AreSameLeaves (length g) c.args.self.now.nodes.items) (sym c.renew.ensures.nodes) (leaves-set (length g) c.args.self.now.nodes.items nodes c.loop-node.node _ i.inner i.leaves);
    }
