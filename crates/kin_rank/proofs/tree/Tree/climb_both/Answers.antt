use Rattle.std.proofs.Common.{◌≡◌, refl, sym, subst, arith, ◌/◌, length, List, Option, inl, inr}
use Rattle.std.specs.Prelude.{◌⊎◌}
use Rattle.kin_rank.specs.declared.leaders.Leaders.{Leaders}
use Rattle.kin_rank.specs.Trees.{AreSameLeaves, IsJoinedBut}
use Rattle.kin_rank.proofs.Climbing.{renewed, leaves-set}
use Rattle.kin_rank.proofs.tree.Tree.climb_both.Goals as goal

pub loop-left-preserved : goal.loop-left-preserved
loop-left-preserved c =
    let g = c.args.g.now in
    let t = c.args.t.now in
    let nodes = c.loop-left.self.nodes.items in
    let middle = c.renew.new.self.nodes.items in
    let left = c.loop-left.left in
    let right = c.loop-left.right in
    let i = c.loop-left.invariant in
    let half : IsJoinedBut g t middle (λ v. (v ≡ left / 2) ⊎ (v ≡ right)) =
    subst (λ (ns : List (Option Leaders)). IsJoinedBut g t ns (λ v. (v ≡ left / 2) ⊎ (v ≡ right))) (sym c.renew.ensures.nodes)
    (renewed g t nodes (λ v. (v ≡ left) ⊎ (v ≡ right)) i.spoilt (λ v. (v ≡ left / 2) ⊎ (v ≡ right)) left i.left (inl refl)
    (λ u some n e. elim e [
      | inl a ↦ absurd (n a)
      | inr b ↦ inr b
    ])) in
    let leaves = subst (AreSameLeaves (length g) c.args.self.now.nodes.items) (sym c.renew.ensures.nodes) (leaves-set (length g) c.args.self.now.nodes.items nodes left _ i.left i.leaves) in
    record {
      left = let n = i.left in omega arith;
      right = let n = i.right in omega arith;
      spoilt = subst (λ (ns : List (Option Leaders)). IsJoinedBut g t ns (λ v. (v ≡ left / 2) ⊎ (v ≡ right / 2))) (sym c.renew-in-loop-left.ensures.nodes)
          (renewed g t middle (λ v. (v ≡ left / 2) ⊎ (v ≡ right)) half (λ v. (v ≡ left / 2) ⊎ (v ≡ right / 2)) right i.right (inr refl)
          (λ u some n e. elim e [
            | inl a ↦ inl a
            | inr b ↦ absurd (n b)
          ]));
      leaves = subst (AreSameLeaves (length g) c.args.self.now.nodes.items) (sym c.renew-in-loop-left.ensures.nodes)
          (leaves-set (length g) c.args.self.now.nodes.items middle right _ i.right leaves);
    }
