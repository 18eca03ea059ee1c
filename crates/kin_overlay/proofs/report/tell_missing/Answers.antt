use Rattle.std.proofs.Common.{subst, map, ◌++◌, Option, Contains}
use Rattle.std.specs.Prelude.{flat_map}
use Rattle.kin_overlay.specs.declared.end.End.{End}
use Rattle.kin_overlay.specs.Remembered.{turn_fact, slope_facts, end_facts, facts_of}
use Rattle.kin_overlay.specs.Reports.{IsTold}
use Rattle.kin_overlay.proofs.HasLaws.{is-left, is-right}
use Rattle.kin_overlay.proofs.ReportLaws.{told-append, all-known}
use Rattle.kin_overlay.proofs.report.tell_missing.Goals as goal

pub returns : goal.returns
returns c =
    let m = c.args.list.now in
    let known = facts_of c.args.other.now in
    let part = c.args.part in
    let turns = map turn_fact m.records in
    let slopes = flat_map slope_facts m.records in
    let start = c.args.told.now.items in
    let inner = told-append part known turns slopes start c.tell_turns.new.told.items c.tell_slopes.new.told.items c.in_ok-tell_turns.ensures c.in_ok-tell_slopes.ensures in
    let left = subst (λ (o : Option End). IsTold part known (end_facts o) c.tell_slopes.new.told.items c.tell_end.new.told.items) c.left.ensures c.in_ok-tell_end.ensures in
    let right = subst (λ (o : Option End). IsTold part known (end_facts o) c.tell_end.new.told.items c.tell_end-2.new.told.items) c.right.ensures c.in_ok-tell_end-2.ensures in
    told-append part known (turns ++ slopes ++ end_facts m.left) (end_facts m.right) start c.tell_end.new.told.items c.tell_end-2.new.told.items
    (told-append part known (turns ++ slopes) (end_facts m.left) start c.tell_slopes.new.told.items c.tell_end.new.told.items inner left) right

pub returns-then-has_same_ends : goal.returns-then-has_same_ends
returns-then-has_same_ends c =
    let m = c.args.list.now in
    let other = c.args.other.now in
    let known = facts_of other in
    let part = c.args.part in
    let turns = map turn_fact m.records in
    let slopes = flat_map slope_facts m.records in
    let start = c.args.told.now.items in
    let end = c.tell_slopes.new.told.items in
    let inner = told-append part known turns slopes start c.tell_turns.new.told.items end c.in_ok-tell_turns.ensures c.in_ok-tell_slopes.ensures in
    let left = all-known part known (end_facts m.left) end (λ f d. is-left other f (subst (λ (o : Option End). Contains (end_facts o) f) (c.has_same_ends.ensures.left c.if-has_same_ends.true) d)) in
    let right = all-known part known (end_facts m.right) end (λ f d. is-right other f (subst (λ (o : Option End). Contains (end_facts o) f) (c.has_same_ends.ensures.right c.if-has_same_ends.true) d)) in
    told-append part known (turns ++ slopes ++ end_facts m.left) (end_facts m.right) start end end (told-append part known (turns ++ slopes) (end_facts m.left) start end end inner left) right
