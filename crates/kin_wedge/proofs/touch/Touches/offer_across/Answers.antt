use Rattle.std.proofs.Common.{subst}
use Rattle.kin_wedge.specs.declared.octant.Reading.{Reading}
use Rattle.kin_wedge.specs.Seen.{reading_seen, rows_of}
use Rattle.kin_wedge.specs.Touched.{AreLeft}
use Rattle.kin_wedge.proofs.Places.{first_is_in, second_is_in}
use Rattle.kin_wedge.proofs.Touching.{both_within, gone_behind, gone_before}
use Rattle.kin_wedge.proofs.touch.Touches.offer_across.Goals as goal

pub leave_both-requires-clause-slot : goal.leave_both-requires-clause-slot
leave_both-requires-clause-slot c = c.requires.members c.args.part c.args.first (first_is_in _ c.args.first c.args.second c.requires.behind)

pub leave_both-requires-2-clause-slot : goal.leave_both-requires-2-clause-slot
leave_both-requires-2-clause-slot c = c.requires.members c.args.part c.args.second (second_is_in _ c.args.first c.args.second c.requires.behind)

pub returns-clause-offered : goal.returns-clause-offered
returns-clause-offered c =
    let rows = rows_of c.args.orders.now.lists.items in
    let last = c.in_ok-leave_both-2.ensures.touched.keeps in
    let middle = c.in_ok-leave_both.ensures.touched.keeps in
    both_within rows c.args.table.now c.leave_both-2.new.self.all.items c.args.part c.args.first c.args.second c.requires.part
    (λ w o e b m. last _ _ (middle _ _ (c.in_ok-offer_within.ensures.first w o e b m)))
    (λ w o e b m. last _ _ (middle _ _ (c.in_ok-offer_within.ensures.second w o e b m)))
    (λ w o e l h. last _ _ (gone_behind rows c.requires.rows.apart c.args.table.now c.leave_both.new.self.all.items c.args.part c.args.first c.args.second c.requires.behind
    (subst (λ (r : Reading). AreLeft c.args.table.now c.leave_both.new.self.all.items (reading_seen r) c.args.first c.args.second) c.back.ensures c.in_ok-leave_both.ensures.left) w o e l h))
    (gone_before rows c.requires.rows.apart c.args.table.now c.leave_both-2.new.self.all.items c.args.part c.args.first c.args.second c.requires.behind
    (subst (λ (r : Reading). AreLeft c.args.table.now c.leave_both-2.new.self.all.items (reading_seen r) c.args.second c.args.first) c.forward.ensures c.in_ok-leave_both-2.ensures.left))
