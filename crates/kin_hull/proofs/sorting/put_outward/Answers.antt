use Rattle.std.proofs.Common.{sym, arith}
use Rattle.kin_motion.proofs.Gains.{behind_start}
use Rattle.kin_hull.proofs.sorting.put_outward.Goals as goal

pub outward-requires : goal.outward-requires
outward-requires c =
    let here = sym c.index.ensures in
    c.requires.low c.index.result.now (behind_start c.args.facts.now.items c.loop-place.facts.items c.args.from c.loop-place.place c.index.result.now c.loop-place.auto.place c.loop-place.invariant.room c.loop-place-test.true (omega (arith, c.len-place-end.ensures, c.args.facts.now.ok.0)) c.loop-place.invariant.rest here)
