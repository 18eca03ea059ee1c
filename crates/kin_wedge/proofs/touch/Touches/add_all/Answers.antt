use Rattle.std.proofs.Common.{ℕ, ◌≤◌, length, ap, subst, ◌∙◌}
use Rattle.std.specs.Prelude.{slice_index_or}
use Rattle.kin_list.proofs.RowLaws.{is_in_from_get}
use Rattle.kin_wedge.specs.Rows.{row_of}
use Rattle.kin_wedge.specs.Seen.{rows_of}
use Rattle.kin_wedge.proofs.LookingUp.{up_to_none, up_to_more, up_to_end, read_up}
use Rattle.kin_wedge.proofs.touch.Touches.add_all.Goals as goal

pub loop-apex-init : goal.loop-apex-init
loop-apex-init c = up_to_none c.args.table.now (row_of (rows_of c.args.orders.now.lists.items) 0) c.args.self.now.all.items

pub add_apex-requires-clause-slot : goal.add_apex-requires-clause-slot
add_apex-requires-clause-slot c =
    let row = row_of (rows_of c.args.orders.now.lists.items) 0 in
    let at = read_up c.items-apex-items.result.now row c.loop-apex.apex-index (c.items-apex-items.ensures ∙ c.list.ensures.row) c.loop-apex-test.true in
    c.requires.members 0 (slice_index_or c.items-apex-items.result.now c.loop-apex.apex-index 0) (is_in_from_get row c.loop-apex.apex-index _ at)

pub loop-apex-preserved : goal.loop-apex-preserved
loop-apex-preserved c =
    let row = row_of (rows_of c.args.orders.now.lists.items) 0 in
    let at = read_up c.items-apex-items.result.now row c.loop-apex.apex-index (c.items-apex-items.ensures ∙ c.list.ensures.row) c.loop-apex-test.true in
    up_to_more c.args.table.now row c.args.self.now.all.items c.loop-apex.self.all.items c.add_apex.new.self.all.items c.loop-apex.apex-index _ at c.loop-apex.invariant c.in_ok-add_apex.ensures.offered c.in_ok-add_apex.ensures.touched

pub returns-clause-all : goal.returns-clause-all
returns-clause-all c =
    let row_is = c.items-apex-items.ensures ∙ c.list.ensures.row in
    let past = subst (λ (n : ℕ). n ≤ c.loop-apex.apex-index) (ap length row_is) c.loop-apex-test.false in
    up_to_end c.args.table.now (row_of (rows_of c.args.orders.now.lists.items) 0) c.args.self.now.all.items c.loop-apex.self.all.items c.loop-apex.apex-index past c.loop-apex.invariant
