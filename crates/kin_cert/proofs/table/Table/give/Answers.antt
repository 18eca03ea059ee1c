use Rattle.std.proofs.Common.{◌≡◌, ℕ, ◌+◌, List, length, set, Option, Some, refl, subst, sym, ap, ◌∙◌}
use Rattle.std.specs.FinMap.{get}
use Rattle.std.specs.List.{Contains}
use Rattle.kin_num.specs.declared.instant.Moment.{Moment}
use Rattle.kin_num.specs.Order.{IsEarlier}
use Rattle.kin_queue.specs.Agenda.{IsLeast}
use Rattle.kin_cert.specs.Entries.{Entry}
use Rattle.kin_fail.specs.Blocks.{certificate_of}
use Rattle.kin_cert.specs.Facts.{Facts, LiveFact, NoneAlike}
use Rattle.kin_cert.specs.Layout.{HasGiven, IsDueAt, IsTable, live_fact, live_in, waiting, due_count}
use Rattle.kin_cert.specs.Names.{IsListed}
use Rattle.kin_cert.proofs.Schedules.{Moments}
use Rattle.kin_cert.proofs.Slots.{live-there, live-set-count, live-set-due}
use Rattle.kin_cert.proofs.Tables.{table-once, has-slot, unqueued-table}
use Rattle.kin_cert.proofs.Naming.{still-named, same-facts}
use Rattle.kin_cert.proofs.Dues.{queued-slot, due-queued, given-due, has-given}
use Rattle.kin_cert.proofs.Costs.{takes_more, one_call}
use Rattle.kin_cert.proofs.QueueSizes.{few-queued-of}
use Rattle.kin_cert.proofs.table.Table.give.Given as given
use Rattle.kin_cert.proofs.table.Table.give.Goals as goal
use Rattle.kin_cert.proofs.table.Table.give.Goals.{After-let_wait}

-- no id is due before the moment
none-before : (slots : List (Option Entry)) (moments : Moments) → IsTable slots moments → (m : Moment) → ((l : LiveFact) (n : Moment) → Contains (live_in slots) l → IsDueAt l n → ¬ (IsEarlier n m)) → (id : ℕ) (n : Moment) → get moments id ≡ Some n → ¬ (IsEarlier n m)
none-before slots moments table m none id n h =
    let q = queued-slot slots moments table id n h in
    none (live_fact q.entry) n (live-there slots id q.entry q.there) q.due

-- the id that is taken is due first
first-due : (g : given.Over) (c : After-let_wait g) → IsLeast c.self.inside.schedule (c.in-Some.id, c.args.moment.now)
first-due g c =
    record {
      there = c.in-Some.ensures.there;
      least = none-before c.self.inside.roll c.self.inside.schedule c.self.invariant.table c.args.moment.now (rw (sym c.self.view_is) at c.requires);
    }

pub take_at-requires : goal.take_at-requires
take_at-requires g c =
    record {
      first = none-before c.self.inside.roll c.self.inside.schedule c.self.invariant.table c.args.moment.now (rw (sym c.self.view_is) at c.requires);
    }

pub returns-in_default-clause-none : goal.returns-in_default-clause-none
returns-in_default-clause-none g c = λ l there due.
    let k = due-queued c.self.inside.roll c.self.inside.schedule c.self.invariant.table l c.args.moment.now there due in
    c.in_default.ensures.none k.0 k.1

pub returns-in_default-clause-once : goal.returns-in_default-clause-once
returns-in_default-clause-once g c = subst (λ (t : Facts). NoneAlike t.live) c.self.view_is (table-once c.self.inside.roll c.len.ensures.once)

pub invariant_of-self : goal.invariant_of-self
invariant_of-self g c = record { table = subst (λ (m : Moments). IsTable c.self.inside.roll m) (sym c.in_default.ensures.unchanged) c.self.invariant.table; named = c.self.invariant.named }

pub invariant_of-self-2 : goal.invariant_of-self-2
invariant_of-self-2 g c =
    let w = c.let_wait.ensures.waits in
    let id = c.in-Some.id in
    let slot = has-slot c.self.inside.roll id w.0 (Some (waiting w.0)) w.1 in
    subst (λ (xs : List (Option Entry)). IsListed xs c.take_at.new.self c.self.inside.names) (sym w.3)
    (record {
      table = unqueued-table c.self.inside.roll (set c.self.inside.roll id (Some (waiting w.0))) c.self.inside.schedule c.take_at.new.self id (Some (waiting w.0)) c.self.invariant.table slot refl c.in-Some.ensures.rest;
      named = still-named c.self.inside.names c.self.inside.roll (set c.self.inside.roll id (Some (waiting w.0))) c.self.invariant.named (same-facts c.self.inside.roll (set c.self.inside.roll id (Some (waiting w.0))) id w.0 (waiting w.0) w.1 slot refl);
    })

pub returns-clause-given : goal.returns-clause-given
returns-clause-given g c =
    let w = c.let_wait.ensures.waits in
    let id = c.in-Some.id in (
      live_fact w.0,
      subst (λ (xs : List (Option Entry)). HasGiven c.args.self.now.live (live_in xs) (live_fact w.0) c.args.moment.now) (sym w.3)
          (subst (λ (t : Facts). HasGiven t.live (live_in (set c.self.inside.roll id (Some (waiting w.0)))) (live_fact w.0) c.args.moment.now) c.self.view_is
          (has-given c.self.inside.roll c.self.inside.schedule c.self.invariant.table (set c.self.inside.roll id (Some (waiting w.0))) c.len.ensures.once id c.args.moment.now (first-due g c) w.0 w.1 (has-slot c.self.inside.roll id w.0 (Some (waiting w.0)) w.1))),
      ap certificate_of w.2,
    )

pub returns-clause-count : goal.returns-clause-count
returns-clause-count g c =
    let w = c.let_wait.ensures.waits in
    ap (λ (xs : List (Option Entry)). length (live_in xs)) w.3 ∙ live-set-count c.self.inside.roll c.in-Some.id w.0 (waiting w.0) w.1 ∙ ap (λ (t : Facts). length t.live) c.self.view_is

pub returns-clause-fewer : goal.returns-clause-fewer
returns-clause-fewer g c =
    let w = c.let_wait.ensures.waits in
    let id = c.in-Some.id in
    let due = given-due c.self.inside.roll c.self.inside.schedule c.self.invariant.table (set c.self.inside.roll id (Some (waiting w.0))) c.len.ensures.once id c.args.moment.now (first-due g c) w.0 w.1 (has-slot c.self.inside.roll id w.0 (Some (waiting w.0)) w.1) in
    ap (λ (xs : List (Option Entry)). due_count (live_in xs) + 1) w.3 ∙ live-set-due c.self.inside.roll id w.0 w.1 due.waits_not ∙ ap (λ (t : Facts). due_count t.live) c.self.view_is

pub returns-clause-once : goal.returns-clause-once
returns-clause-once g c = subst (λ (t : Facts). NoneAlike t.live) c.self.view_is (table-once c.self.inside.roll c.len.ensures.once)

pub returns-clause-cost : goal.returns-clause-cost
returns-clause-cost g c =
    let live : live_in c.self.inside.roll ≡ c.args.self.now.live = ap (λ (t : Facts). t.live) c.self.view_is in
    one_call _ _ _ (takes_more _ _ _ _ (few-queued-of c.self.inside.roll c.self.inside.schedule c.args.self.now.live c.self.invariant.table live) c.take_at.ensures.cost)

pub returns-in_default-clause-cost : goal.returns-in_default-clause-cost
returns-in_default-clause-cost g c =
    let live : live_in c.self.inside.roll ≡ c.args.self.now.live = ap (λ (t : Facts). t.live) c.self.view_is in
    one_call _ _ _ (takes_more _ _ _ _ (few-queued-of c.self.inside.roll c.self.inside.schedule c.args.self.now.live c.self.invariant.table live) c.take_at.ensures.cost)
