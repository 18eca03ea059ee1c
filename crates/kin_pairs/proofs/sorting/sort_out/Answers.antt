use Rattle.kin_pairs.proofs.Sorted.{sorted_all}
use Rattle.kin_pairs.proofs.sorting.sort_out.Goals as goal

pub returns : goal.returns
returns c = sorted_all c.args.parts c.args.facts.now c.loop-placed.others.items c.loop-placed.pairs.items c.loop-placed.placed-index c.loop-placed-test.false c.loop-placed.invariant.others c.loop-placed.invariant.pairs
