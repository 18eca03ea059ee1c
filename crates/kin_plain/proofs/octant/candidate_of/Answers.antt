use Rattle.std.proofs.Common.{arith, ◌-◌}
use Rattle.kin_plain.proofs.LiveLists.{all_live}
use Rattle.kin_plain.proofs.octant.candidate_of.Goals as goal

pub is_in_octant-requires-clause-q_live : goal.is_in_octant-requires-clause-q_live
is_in_octant-requires-clause-q_live g c =
    let high = c.loop-left-test.true in
    let within = c.loop-left.invariant.within in
    all_live (g.O.Signs.scene c.args.now.now) c.args.live.now c.requires.live (c.loop-left.left - 1) 0 (omega (arith, high, within))

pub earlier_of-first-requires-clause-p_live : goal.earlier_of-first-requires-clause-p_live
earlier_of-first-requires-clause-p_live g c =
    let high = c.loop-left-test.true in
    let within = c.loop-left.invariant.within in
    all_live (g.O.Signs.scene c.args.now.now) c.args.live.now c.requires.live (c.loop-left.left - 1) 0 (omega (arith, high, within))
