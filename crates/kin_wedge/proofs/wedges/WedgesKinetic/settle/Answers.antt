use Rattle.std.proofs.Common.{◌∙◌, sym, subst, ap, length}
use Rattle.std.proofs.lemmas.List.{length-map}
use Rattle.kin_motion.specs.Kinetics.{ListsFailing}
use Rattle.kin_motion.specs.Octants.{ListsChanged}
use Rattle.kin_list.specs.Listing.{names_leaving}
use Rattle.kin_wedge.specs.Costs.{AreFewBelow}
use Rattle.kin_wedge.specs.Passages.{changed_slots}
use Rattle.kin_wedge.specs.Seen.{rows_of}
use Rattle.kin_wedge.specs.Wedging.{Wedging, candidate_at, candidate_told}
use Rattle.kin_wedge.proofs.Resettled.{may_settle, kept, lists_ready, orders, rows_now, ranked_now, parted_now, alike_now, slots_now, passage, wedges_now, kept_now}
use Rattle.kin_wedge.proofs.Told.{changed_told}
use Rattle.kin_wedge.proofs.wedges.WedgesKinetic.settle.Goals as goal

pub settle-requires-clause-ready : goal.settle-requires-clause-ready
settle-requires-clause-ready g c = lists_ready (may_settle c.requires.real c.self.invariant c.self.view_is c.requires.ready)

pub settle-requires-clause-nought : goal.settle-requires-clause-nought
settle-requires-clause-nought g c = λ part l e. ((kept (may_settle c.requires.real c.self.invariant c.self.view_is c.requires.ready)).each part l e).nought

pub settle-requires-clause-marked : goal.settle-requires-clause-marked
settle-requires-clause-marked g c = λ part l e. ((kept (may_settle c.requires.real c.self.invariant c.self.view_is c.requires.ready)).each part l e).marked

pub settle-requires-clause-failing : goal.settle-requires-clause-failing
settle-requires-clause-failing g c = subst (λ (v : Wedging). ListsFailing v.facts (names_leaving v.mark) (g.O.Signs.scene c.args.now.now) c.args.failed.now) (sym c.self.view_is) c.requires.failing

pub follow-requires-clause-rows : goal.follow-requires-clause-rows
follow-requires-clause-rows g c = rows_now (may_settle c.requires.real c.self.invariant c.self.view_is c.requires.ready) c.in_ok-settle.ensures.settled

pub follow-requires-clause-ranked : goal.follow-requires-clause-ranked
follow-requires-clause-ranked g c = ranked_now (may_settle c.requires.real c.self.invariant c.self.view_is c.requires.ready) c.in_ok-settle.ensures.settled

pub follow-requires-clause-parted : goal.follow-requires-clause-parted
follow-requires-clause-parted g c = parted_now (may_settle c.requires.real c.self.invariant c.self.view_is c.requires.ready) c.in_ok-settle.ensures.settled

pub follow-requires-clause-alike : goal.follow-requires-clause-alike
follow-requires-clause-alike g c = alike_now (may_settle c.requires.real c.self.invariant c.self.view_is c.requires.ready) c.in_ok-settle.ensures.settled

pub follow-requires-clause-members : goal.follow-requires-clause-members
follow-requires-clause-members g c = slots_now (may_settle c.requires.real c.self.invariant c.self.view_is c.requires.ready) c.in_ok-settle.ensures.settled

pub follow-requires-clause-passage : goal.follow-requires-clause-passage
follow-requires-clause-passage g c = passage (may_settle c.requires.real c.self.invariant c.self.view_is c.requires.ready) c.in_ok-settle.ensures.settled

pub follow-requires-clause-old_rows : goal.follow-requires-clause-old_rows
follow-requires-clause-old_rows g c =
    let k = kept (may_settle c.requires.real c.self.invariant c.self.view_is c.requires.ready) in
    ap length k.same ∙ length-map _ _ ∙ k.count

pub invariant_of-self-2 : goal.invariant_of-self-2
invariant_of-self-2 g c =
    kept_now (may_settle c.requires.real c.self.invariant c.self.view_is c.requires.ready) c.in_ok-settle.ensures.settled c.follow.new.self.table c.follow.ensures.length c.in_ok-follow.ensures.answered c.follow.new.self.rows.rows.items c.in_ok-follow.ensures.rows

pub returns-clause-settled : goal.returns-clause-settled
returns-clause-settled g c =
    let may = may_settle c.requires.real c.self.invariant c.self.view_is c.requires.ready in
    let settled = c.in_ok-settle.ensures.settled in
    record { ordered = orders may settled; wedges = wedges_now may settled c.follow.new.self.table c.follow.ensures.length c.in_ok-follow.ensures.answered }

pub returns-clause-changed : goal.returns-clause-changed
returns-clause-changed g c =
    let i = c.self.inside in
    let slots = c.self.invariant.slots in
    subst (λ (v : Wedging). ListsChanged v.size (candidate_told v) (candidate_at c.follow.new.self.table) (changed_slots c.follow.new.self.table c.follow.new.self.touches.all.items)) c.self.view_is
    (changed_told i.size i.candidates.table c.follow.new.self.table (changed_slots c.follow.new.self.table c.follow.new.self.touches.all.items) slots (c.follow.ensures.length ∙ slots) c.in_ok-follow.ensures.changed)

pub returns-clause-tests : goal.returns-clause-tests
returns-clause-tests g c =
    subst (λ (v : Wedging). AreFewBelow 8 v.mark v.orders (rows_of c.settle.new.self.lists.items) c.args.out.now c.settle.new.out c.args.steps.now c.settle.new.steps) c.self.view_is c.in_ok-settle.ensures.tests
