use Rattle.std.proofs.Common.{◌≡◌, true, List, length, Option, None, refl, subst, sym, ap, ◌↔◌, arith}
use Rattle.std.specs.List.{Contains}
use Rattle.kin_cert.specs.Entries.{Entry}
use Rattle.kin_cert.specs.Cost.{is_ungiven}
use Rattle.kin_cert.specs.Facts.{Facts, NoneAlike}
use Rattle.kin_cert.specs.Applied.{IsOf, IsLiveIn}
use Rattle.kin_cert.specs.Layout.{live_in, HasSlot}
use Rattle.kin_cert.proofs.Slots.{live-count}
use Rattle.kin_cert.proofs.Naming.{renamed}
use Rattle.kin_cert.proofs.Replacing.{live-there}
use Rattle.kin_cert.proofs.Tables.{at-rank, has-slot, unqueued-table, dropped-rest, table-once}
use Rattle.kin_cert.proofs.Costs.{in_queue}
use Rattle.kin_cert.proofs.QueueSizes.{few-queued-of}
use Rattle.kin_cert.proofs.Ungiven.{cost_if, queued-ungiven}
use Rattle.kin_cert.proofs.table.Table.drop_one.Goals as goal

pub take_out-vacancy-requires : goal.take_out-vacancy-requires
take_out-vacancy-requires g c =
    record { there = live-there c.self.inside.roll c.args.structure c.args.placed.now (subst (λ (t : Facts). IsLiveIn t.live c.args.structure c.args.placed.now) (sym c.self.view_is) c.requires.live) }

pub invariant_of-self : goal.invariant_of-self
invariant_of-self g c =
    let k = c.take_out-vacancy.ensures.vacancy in
    let slot : HasSlot c.self.inside.roll c.take_out-vacancy.new.self c.take_out-vacancy.result.id None =
    subst (λ (xs : List (Option Entry)). HasSlot c.self.inside.roll xs c.take_out-vacancy.result.id None) (sym c.take_out-vacancy.ensures.slots) (has-slot c.self.inside.roll c.take_out-vacancy.result.id k.entry None k.there) in
    record {
      table = unqueued-table c.self.inside.roll c.take_out-vacancy.new.self c.self.inside.schedule c.unqueue.new.schedule c.take_out-vacancy.result.id None c.self.invariant.table slot refl c.unqueue.ensures.rest;
      named = renamed c.self.inside.names c.note.new.self c.self.inside.roll c.take_out-vacancy.new.self c.take_out-vacancy.result.id None c.self.invariant.named slot c.note.ensures;
    }

pub returns-clause-rest : goal.returns-clause-rest
returns-clause-rest g c = λ l.
    let k = c.take_out-vacancy.ensures.vacancy in
    let slot : HasSlot c.self.inside.roll c.take_out-vacancy.new.self c.take_out-vacancy.result.id None =
    subst (λ (xs : List (Option Entry)). HasSlot c.self.inside.roll xs c.take_out-vacancy.result.id None) (sym c.take_out-vacancy.ensures.slots) (has-slot c.self.inside.roll c.take_out-vacancy.result.id k.entry None k.there) in
    subst (λ (t : Facts). Contains (live_in c.take_out-vacancy.new.self) l ↔ (Contains t.live l × ¬ (IsOf c.args.structure c.args.placed.now l))) c.self.view_is
    (dropped-rest c.self.inside.roll c.take_out-vacancy.new.self c.take_out-vacancy.ensures.once c.take_out-vacancy.result.id k.entry k.there slot c.args.structure c.args.placed.now.part c.args.placed.now.fact.form
    (at-rank c.args.structure c.args.placed.now.part c.args.placed.now.fact.form k.entry k.ranked) l)

pub returns-clause-count : goal.returns-clause-count
returns-clause-count g c =
    let old : length (live_in c.self.inside.roll) ≡ length c.args.self.now.live = ap (λ (t : Facts). length t.live) c.self.view_is in
    omega (arith, live-count c.take_out-vacancy.new.self, live-count c.self.inside.roll, old, c.take_out-vacancy.ensures.count)

pub returns-clause-cost : goal.returns-clause-cost
returns-clause-cost g c = λ r e.
    let vacancy = c.take_out-vacancy.result in
    let queued : vacancy.is_queued ≡ true → is_ungiven c.args.structure c.args.self.now.live c.args.placed.now ≡ true = λ q.
    subst (λ (t : Facts). is_ungiven c.args.structure t.live c.args.placed.now ≡ true) c.self.view_is (queued-ungiven c.args.structure c.args.placed.now c.self.inside.roll vacancy c.take_out-vacancy.ensures.vacancy q) in
    let few = few-queued-of c.self.inside.roll c.self.inside.schedule c.args.self.now.live c.self.invariant.table (ap (λ (t : Facts). t.live) c.self.view_is) in
    let part = in_queue _ _ _ _ _ few c.unqueue.ensures.cost r e in
    let less = cost_if _ _ r queued in
    omega (arith, part, less)

pub returns-clause-once : goal.returns-clause-once
returns-clause-once g c = subst (λ (t : Facts). NoneAlike t.live) c.self.view_is (table-once c.self.inside.roll c.take_out-vacancy.ensures.once)
