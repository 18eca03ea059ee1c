use Rattle.std.proofs.Common.{subst, map}
use Rattle.kin_motion.specs.Deltas.{Change}
use Rattle.kin_motion.specs.Kinetics.{HasChanged}
use Rattle.kin_diameter.specs.Seen.{slope_fact}
use Rattle.kin_diameter.proofs.ListChanges.{distinct_between, told_between}
use Rattle.kin_diameter.proofs.ListEnds.{between_turned}
use Rattle.kin_diameter.proofs.changes.tell_changes.Goals as goal

pub tell_missing-requires : goal.tell_missing-requires
tell_missing-requires c = let rest = c.between.result in record { once = distinct_between c.args.old.now c.args.new.now rest.0.now rest.1.now c.between.ensures c.requires.old_once }

pub tell_missing-requires-2 : goal.tell_missing-requires-2
tell_missing-requires-2 c =
    let old = c.args.old.now in
    let new = c.args.new.now in
    let olds = c.between.result.0.now in
    let news = c.between.result.1.now in
    record { once = distinct_between new old news olds (between_turned old new olds news c.between.ensures) c.requires.new_once }

pub returns : goal.returns
returns c =
    let old = c.args.old.now in
    let new = c.args.new.now in
    let olds = c.between.result.0.now in
    let news = c.between.result.1.now in
    let told : Change = record { dropped = c.tell_missing.new.told.items; born = c.tell_missing-2.new.told.items } in
    subst (λ (d : Change). HasChanged (map slope_fact old) (map slope_fact new) d told) c.out.view_is
    (told_between old new olds news (record { dropped = c.out.inside.dropped.items; born = c.out.inside.born.items }) told c.between.ensures
    c.requires.old_once c.requires.new_once c.in_ok-tell_missing.ensures c.in_ok-tell_missing-2.ensures)
