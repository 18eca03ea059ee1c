use Rattle.std.proofs.Common.{sym, ap, ◌∙◌, subst, arith, ◌<◌, length}
use Rattle.std.specs.Prelude.{Option}
use Rattle.std.proofs.Math.Pow.{pow_pos}
use Rattle.kin_env.specs.declared.branches.Branches.{Branches}
use Rattle.kin_env.specs.declared.node.Node.{Node}
use Rattle.kin_overlay.specs.Overlays.{Merge}
use Rattle.kin_env.specs.Joints.{IsRestingWith}
use Rattle.kin_env.specs.Nodes.{chain_with, merge_from, passed_from}
use Rattle.kin_env.specs.Walks.{IsShaped}
use Rattle.kin_env.proofs.Hearing.{read_there}
use Rattle.kin_env.proofs.Works.{resting_at}
use Rattle.kin_env.proofs.branches.Branches.top.Goals as goal

inside : (t : Branches) → IsShaped t → 1 < length t.nodes.items
inside t h = omega (arith, h.nodes_room, pow_pos t.size)

pub index-requires : goal.index-requires
index-requires c = omega (arith, inside c.args.self.now c.requires.sound.shape, c.args.self.now.nodes.ok.0)

pub chain-requires : goal.chain-requires
chain-requires c =
    let t = c.args.self.now in
    let there = read_there t.nodes.items 1 c.index.result.now (inside t c.requires.sound.shape) c.index.ensures in
    record { rest = subst (λ (m : Option Merge). IsRestingWith m) (ap merge_from there) (resting_at t.size t.nodes.items c.requires.sound.joined 1 (omega arith)) }

pub returns : goal.returns
returns c =
    let t = c.args.self.now in
    let there = read_there t.nodes.items 1 c.index.result.now (inside t c.requires.sound.shape) c.index.ensures in
    c.chain.ensures ∙ sym (ap (λ (o : Option Node). chain_with (merge_from o) (passed_from o)) there)
