use Rattle.std.proofs.Common.{ap, arith}
use Rattle.kin_motion.specs.declared.fact.Placed.{Placed}
use Rattle.kin_pairs.proofs.Moving.{next_low}
use Rattle.kin_pairs.proofs.sorting.move_from.Goals as goal

pub overflow_add-index_mut : goal.overflow_add-index_mut
overflow_add-index_mut c =
    let d = c.index_mut.result.now in
    let end = c.len-k-end.ensures in
    let len = c.args.facts.now.ok.0 in
    let count = c.loop-k.invariant.count in
    let test = c.loop-k-test.true in
    let few = c.requires.few in
    let low = next_low c.args.parts c.args.from c.args.facts.now.items c.loop-k.facts.items c.loop-k.k d c.requires.low (omega (arith, end, len, count, test)) c.loop-k.invariant in
    let here = ap (λ (p : Placed). p.part) c.index_mut.ensures.value in
    omega (arith, low, here, few)
