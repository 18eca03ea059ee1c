use Rattle.std.proofs.Common.{◌≡◌, true, List, length, Option, Some, IsSome, refl, sym, ap, subst, ◌∙◌, arith}
use Rattle.kin_motion.specs.Scene.{scene_at}
use Rattle.kin_cert.specs.Entries.{Entry}
use Rattle.kin_cert.specs.Applied.{IsLiveIn}
use Rattle.kin_cert.specs.Cost.{is_ungiven}
use Rattle.kin_cert.specs.Facts.{Facts}
use Rattle.kin_fail.specs.Rank.{owned_rank}
use Rattle.kin_cert.specs.Layout.{live_in, held, fresh, timed, queued_at, HasReplaced}
use Rattle.kin_cert.specs.Names.{IsListed}
use Rattle.kin_cert.proofs.Schedules.{Moments}
use Rattle.kin_cert.proofs.Naming.{renamed, still-named, same-facts}
use Rattle.kin_cert.proofs.Tables.{unqueued-table, timed-slot, timed-table}
use Rattle.kin_cert.proofs.Replacing.{live-there, taken-slot, has-replaced}
use Rattle.kin_cert.proofs.Slots.{live-set-count}
use Rattle.kin_cert.proofs.Costs.{gone_and_back}
use Rattle.kin_cert.proofs.QueueSizes.{few-queued, few-queued-of}
use Rattle.kin_cert.proofs.Ungiven.{cost_if, queued-ungiven}
use Rattle.kin_cert.proofs.table.Table.replace.Goals as goal

pub take_over-requires : goal.take_over-requires
take_over-requires g c =
    record { there = live-there c.self.inside.roll c.args.structure c.args.dropped.now (subst (λ (t : Facts). IsLiveIn t.live c.args.structure c.args.dropped.now) (sym c.self.view_is) c.requires.live) }

pub time-requires-clause-there : goal.time-requires-clause-there
time-requires-clause-there g c =
    let slot = taken-slot c.self.inside.roll c.take_over.new.self (owned_rank (held c.args.structure c.args.dropped.now)) (held c.args.structure c.args.born.now) c.in-Some.vacancy c.in-Some.ensures.taken in
    subst (λ (o : Option Entry). IsSome o) (sym slot.changed) refl

pub time-requires-clause-absent : goal.time-requires-clause-absent
time-requires-clause-absent g c =
    let o = held c.args.structure c.args.born.now in
    let slot = taken-slot c.self.inside.roll c.take_over.new.self (owned_rank (held c.args.structure c.args.dropped.now)) o c.in-Some.vacancy c.in-Some.ensures.taken in
    unqueued-table c.self.inside.roll c.take_over.new.self c.self.inside.schedule c.unqueue.new.schedule c.in-Some.vacancy.id (Some (fresh o)) c.self.invariant.table slot refl c.unqueue.ensures.rest c.in-Some.vacancy.id
    ∙ ap queued_at slot.changed

pub invariant_of-self-in_err-note : goal.invariant_of-self-in_err-note
invariant_of-self-in_err-note g c =
    let o = held c.args.structure c.args.born.now in
    let id = c.in-Some.vacancy.id in
    let slot = taken-slot c.self.inside.roll c.take_over.new.self (owned_rank (held c.args.structure c.args.dropped.now)) o c.in-Some.vacancy c.in-Some.ensures.taken in
    let table = unqueued-table c.self.inside.roll c.take_over.new.self c.self.inside.schedule c.unqueue.new.schedule id (Some (fresh o)) c.self.invariant.table slot refl c.unqueue.ensures.rest in
    let named = renamed c.self.inside.names c.note.new.self c.self.inside.roll c.take_over.new.self id (Some (fresh o)) c.self.invariant.named slot c.note.ensures in
    record { table = table; named = named }

pub invariant_of-self-in_err-time : goal.invariant_of-self-in_err-time
invariant_of-self-in_err-time g c =
    let o = held c.args.structure c.args.born.now in
    let id = c.in-Some.vacancy.id in
    let slot = taken-slot c.self.inside.roll c.take_over.new.self (owned_rank (held c.args.structure c.args.dropped.now)) o c.in-Some.vacancy c.in-Some.ensures.taken in
    let table = unqueued-table c.self.inside.roll c.take_over.new.self c.self.inside.schedule c.unqueue.new.schedule id (Some (fresh o)) c.self.invariant.table slot refl c.unqueue.ensures.rest in
    let named = renamed c.self.inside.names c.note.new.self c.self.inside.roll c.take_over.new.self id (Some (fresh o)) c.self.invariant.named slot c.note.ensures in
    subst (λ (m : Moments). IsListed c.time.new.roll m c.note.new.self) (sym c.in_err-time.ensures.schedule)
    (subst (λ (slots : List (Option Entry)). IsListed slots c.unqueue.new.schedule c.note.new.self) (sym c.in_err-time.ensures.roll) (record { table = table; named = named }))

pub invariant_of-self-2 : goal.invariant_of-self-2
invariant_of-self-2 g c =
    let o = held c.args.structure c.args.born.now in
    let id = c.in-Some.vacancy.id in
    let slot = taken-slot c.self.inside.roll c.take_over.new.self (owned_rank (held c.args.structure c.args.dropped.now)) o c.in-Some.vacancy c.in-Some.ensures.taken in
    let table = unqueued-table c.self.inside.roll c.take_over.new.self c.self.inside.schedule c.unqueue.new.schedule id (Some (fresh o)) c.self.invariant.table slot refl c.unqueue.ensures.rest in
    let named = renamed c.self.inside.names c.note.new.self c.self.inside.roll c.take_over.new.self id (Some (fresh o)) c.self.invariant.named slot c.note.ensures in
    let scene = scene_at c.args.motions.now in
    let t = c.in_ok-time.ensures.ok o slot.changed refl in
    let later = timed-slot scene c.args.now.now o id c.take_over.new.self c.time.new.roll c.unqueue.new.schedule c.time.new.schedule table slot.changed t in
    record {
      table = timed-table scene c.args.now.now o id c.take_over.new.self c.time.new.roll c.unqueue.new.schedule c.time.new.schedule table slot.changed t;
      named = still-named c.note.new.self c.take_over.new.self c.time.new.roll named (same-facts c.take_over.new.self c.time.new.roll id (fresh o) (timed (fresh o) t.fails) slot.changed later refl);
    }

pub returns : goal.returns
returns g c =
    let s = c.args.structure in
    let o = held s c.args.born.now in
    let scene = scene_at c.args.motions.now in
    let vacancy = c.in-Some.vacancy in
    let k = c.in-Some.ensures.taken in
    let slot = taken-slot c.self.inside.roll c.take_over.new.self (owned_rank (held s c.args.dropped.now)) o vacancy k in
    record {
      yes = λ _.
          subst (λ (t : Facts). HasReplaced s scene c.args.now.now c.args.dropped.now c.args.born.now t.live (live_in c.time.new.roll)) c.self.view_is
          (has-replaced s scene c.args.now.now c.args.born.now c.self.inside.roll c.take_over.new.self c.time.new.roll vacancy.id c.unqueue.new.schedule c.time.new.schedule slot.changed
          (c.in_ok-time.ensures.ok o slot.changed refl) c.args.dropped.now vacancy refl k);
      no = λ n. absurd (n refl);
      made = ap (λ (t : Facts). t.made) c.self.view_is;
      cost = λ _ r e.
          let queued : vacancy.is_queued ≡ true → is_ungiven s c.args.self.now.live c.args.dropped.now ≡ true = λ q.
          subst (λ (t : Facts). is_ungiven s t.live c.args.dropped.now ≡ true) c.self.view_is (queued-ungiven s c.args.dropped.now c.self.inside.roll vacancy k.vacancy_of q) in
          let table = unqueued-table c.self.inside.roll c.take_over.new.self c.self.inside.schedule c.unqueue.new.schedule vacancy.id (Some (fresh o)) c.self.invariant.table slot refl c.unqueue.ensures.rest in
          let live : live_in c.self.inside.roll ≡ c.args.self.now.live = ap (λ (t : Facts). t.live) c.self.view_is in
          let same : length (live_in c.take_over.new.self) ≡ length c.args.self.now.live =
          ap (λ (xs : List (Option Entry)). length (live_in xs)) k.slots ∙ live-set-count c.self.inside.roll vacancy.id k.vacancy_of.entry (fresh o) k.vacancy_of.there ∙ ap length live in
          let left = few-queued c.take_over.new.self c.unqueue.new.schedule table in
          let both = gone_and_back (length c.args.self.now.live) _ _ _ _ _ vacancy.is_queued (few-queued-of c.self.inside.roll c.self.inside.schedule c.args.self.now.live c.self.invariant.table live) (omega (arith, left, same)) c.unqueue.ensures.cost c.in_ok-time.ensures.cost r e in
          let less = cost_if _ _ r queued in
          omega (arith, both, less);
      idle = λ n. absurd (n refl);
    }
