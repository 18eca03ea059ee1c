use Rattle.std.proofs.Common.{refl, sym, subst, arith, ◌+◌, ◌<◌, ◌≤◌, ◌/◌, length, List, Option, ℕ, zero, suc, inl, inr}
use Rattle.std.specs.Prelude.{◌⊎◌}
use Rattle.kin_rank.specs.declared.leaders.Leaders.{Leaders}
use Rattle.kin_rank.specs.Trees.{up, AreSameLeaves, IsAbove, IsJoinedBut}
use Rattle.kin_rank.proofs.Climbing.{renewed, less_spoilt, leaves-set, up_half}
use Rattle.kin_rank.proofs.tree.Tree.renew_all.Goals as goal

-- a node above is one of them, or above the next level
parted : (a b v : ℕ) → IsAbove a b v → ((a ≤ v) × (v ≤ b)) ⊎ IsAbove (a / 2) (b / 2) v
parted a b v r = at r.levels r.low r.high
  where
    at : (h : ℕ) → up h a ≤ v → v ≤ up h b → ((a ≤ v) × (v ≤ b)) ⊎ IsAbove (a / 2) (b / 2) v
    at zero l m = inl (l, m)
    at (suc h) l m = inr (record { levels = h; low = subst (λ n. n ≤ v) (sym (up_half h a)) l; high = subst (λ n. v ≤ n) (sym (up_half h b)) m })

pub loop-node-init : goal.loop-node-init
loop-node-init c = record {
  spoilt = less_spoilt c.args.g.now c.args.t.now c.args.self.now.nodes.items (IsAbove c.args.from c.args.to) _ c.requires.spoilt (λ v some a. parted c.args.from c.args.to v a);
  leaves = λ v l. refl;
}

pub loop-node-preserved : goal.loop-node-preserved
loop-node-preserved c =
    let g = c.args.g.now in
    let t = c.args.t.now in
    let nodes = c.loop-node.self.nodes.items in
    let v = c.loop-node.node in
    let i = c.loop-node.invariant in
    let inner : v < length g = let e = c.loop-node-test.true in let n = c.requires.inner in omega arith in
    let above : IsAbove (c.args.from / 2) (c.args.to / 2) (v / 2) = let e = c.loop-node-test.true in let l = c.loop-node.auto.node
    in record { levels = zero; low = omega arith; high = omega arith } in
    record {
      spoilt = subst (λ (ns : List (Option Leaders)). IsJoinedBut g t ns (λ u. ((v + 1 ≤ u) × (u ≤ c.args.to)) ⊎ IsAbove (c.args.from / 2) (c.args.to / 2) u)) (sym c.renew.ensures.nodes)
          (renewed g t nodes (λ u. ((v ≤ u) × (u ≤ c.args.to)) ⊎ IsAbove (c.args.from / 2) (c.args.to / 2) u) i.spoilt
          (λ u. ((v + 1 ≤ u) × (u ≤ c.args.to)) ⊎ IsAbove (c.args.from / 2) (c.args.to / 2) u) v inner (inr above)
          (λ u some n e. elim e [
            | inl a ↦ inl (let l = a.0 in omega (arith, l, n), a.1)
            | inr b ↦ inr b
          ]));
      leaves = subst (AreSameLeaves (length g) c.args.self.now.nodes.items) (sym c.renew.ensures.nodes) (leaves-set (length g) c.args.self.now.nodes.items nodes v _ inner i.leaves);
    }
