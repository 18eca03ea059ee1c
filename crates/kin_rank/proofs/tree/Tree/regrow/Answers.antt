use Rattle.std.proofs.Common.{sym, ap, ◌∙◌, subst, arith, ◌+◌, ◌-◌, ◌<◌, ◌/◌, length, set, None, ℕ, zero, inl, inr}
use Rattle.std.proofs.lemmas.Bool.{cases_eq}
use Rattle.std.proofs.lemmas.List.{get_or-set_same, get_or-set_other}
use Rattle.kin_rank.specs.Leading.{IsKnown}
use Rattle.kin_rank.specs.Trees.{at_node, leaf, IsAbove}
use Rattle.kin_rank.proofs.Climbing.{put, known_leaf}
use Rattle.kin_rank.proofs.tree.Tree.regrow.Goals as goal

pub loop-p-preserved : goal.loop-p-preserved
loop-p-preserved c =
    let g = c.args.g.now in
    let t = c.args.t.now in
    let room = length g in
    let nodes = c.loop-p.self.nodes.items in
    let p = c.loop-p.p in
    let i = c.loop-p.invariant in
    let count = i.spoilt.count in
    let within : p < room = let e = c.loop-p-test.true in let n = c.requires.room in omega arith in
    let above : IsAbove ((room + c.args.from) / 2) ((room + c.args.end - 1) / 2) ((room + p) / 2) = let e = c.loop-p-test.true in let l = c.loop-p.auto.p
    in record { levels = zero; low = omega arith; high = omega arith } in
    let known : IsKnown room c.leaf.result = subst (IsKnown room) (sym c.leaf.ensures) (known_leaf c.args.items.now room p c.requires.within) in
    record {
      leaves = λ q l. elim (cases_eq q p) [
        | inl e ↦ inl (ap (λ (n : ℕ). at_node (set nodes (room + p) c.leaf.result) (room + n)) e ∙ get_or-set_same nodes (room + p) c.leaf.result None (omega arith) ∙ c.leaf.ensures ∙ ap
            (leaf c.args.items.now) (sym e))
        | inr n ↦ elim (i.leaves q l) [
          | inl e ↦ inl (get_or-set_other nodes (room + p) (room + q) c.leaf.result None (λ s. n (omega (arith, s))) ∙ e)
          | inr o ↦ inr (let low = o.0 in omega (arith, low, n), o.1)
        ]
      ];
      spoilt = put g t nodes (IsAbove ((room + c.args.from) / 2) ((room + c.args.end - 1) / 2)) i.spoilt (IsAbove ((room + c.args.from) / 2) ((room + c.args.end - 1) / 2)) (room + p) c.leaf.result
          (omega arith) known above (λ u some n a. a) (λ some l. absurd (omega arith));
    }
