use Rattle.kin_diameter.proofs.ListEnds.{between_all, between_last}
use Rattle.kin_diameter.proofs.between.before_end.Goals as goal

pub end-init : goal.end-init
end-init g c = between_all c.args.old.now c.args.new.now

pub end-preserved : goal.end-preserved
end-preserved g c =
    let w = c.in-Some.ensures in
    between_last c.args.old.now c.args.new.now c.end.old_rest.now c.end.new_rest.now c.in-Some.olds.now c.in-Some.news.now w.0 c.end.invariant w.1 w.2
