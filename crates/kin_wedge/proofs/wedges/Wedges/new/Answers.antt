use Rattle.std.proofs.Common.{ap, ◌∙◌}
use Rattle.kin_list.specs.declared.mark.Mark.TheVariants.{Rest}
use Rattle.kin_list.specs.Listing.{Listing}
use Rattle.kin_wedge.proofs.ChangedSlots.{none_changed}
use Rattle.kin_wedge.proofs.Keeping.{kept_first, vacant_rows, vacant_facts}
use Rattle.kin_wedge.specs.Passages.{changed_slots}
use Rattle.kin_wedge.proofs.wedges.Wedges.new.Goals as goal

pub invariant_of-result : goal.invariant_of-result
invariant_of-result c = kept_first c.args.size c.in_ok-new.field-0.lists.items c.in_ok-new-2.field-0.rows.rows.items c.in_ok-new-2.field-0.table c.requires.high c.in_ok-new.ensures c.in_ok-new-2.ensures.rows c.in_ok-new-2.ensures.table

pub returns : goal.returns
returns c =
    let orders = vacant_rows c.args.size c.in_ok-new.field-0.lists.items c.in_ok-new.ensures in
    let facts = vacant_facts 0 c.in_ok-new.field-0.lists.items (λ part l e. ap (λ (x : Listing). x.facts) (c.in_ok-new.ensures.each part l e)) in
    let table = c.in_ok-new-2.ensures.table in
    let changed = ap (changed_slots c.in_ok-new-2.field-0.table) c.in_ok-new-2.ensures.touches ∙ none_changed c.in_ok-new-2.field-0.table in
    λ t. record { size = c.args.size; orders = orders t; facts = facts t; candidates = table t; changed = changed t; mark = Rest }
