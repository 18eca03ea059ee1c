use Rattle.kin_diameter.proofs.ListEnds.{between_all, between_first}
use Rattle.kin_diameter.proofs.between.without_front.Goals as goal

pub front-init : goal.front-init
front-init g c = between_all c.args.old.now c.args.new.now

pub front-preserved : goal.front-preserved
front-preserved g c =
    let w = c.in-Some.ensures in
    between_first c.args.old.now c.args.new.now c.front.old_rest.now c.front.new_rest.now c.in-Some.olds.now c.in-Some.news.now w.0 c.front.invariant w.1 w.2
