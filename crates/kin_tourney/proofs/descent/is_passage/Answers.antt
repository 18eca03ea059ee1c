use Rattle.std.proofs.Common.{arith, ◌/◌}
use Rattle.kin_tourney.proofs.Trees.{right_inside}
use Rattle.kin_tourney.proofs.descent.is_passage.Goals as goal

pub bounds-doubts-other_half : goal.bounds-doubts-other_half
bounds-doubts-other_half c =
    let inside = c.requires.done.inside in
    let right = right_inside c.args.doubts.now c.requires.tree (c.args.node / 2) (omega arith) (omega arith) in
    omega arith
