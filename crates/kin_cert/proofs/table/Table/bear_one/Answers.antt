use Rattle.std.proofs.Common.{◌≡◌, ◌+◌, List, Option, length, Some, refl, subst, sym, ap, ◌∙◌, arith}
use Rattle.std.specs.List.{Contains}
use Rattle.kin_motion.specs.Scene.{scene_at}
use Rattle.kin_cert.specs.Entries.{Entry}
use Rattle.kin_cert.specs.Facts.{Facts}
use Rattle.kin_cert.specs.Layout.{live_in, held, fresh, timed, HasBorn}
use Rattle.kin_cert.specs.Names.{IsListed}
use Rattle.kin_cert.proofs.Schedules.{Moments}
use Rattle.kin_cert.proofs.Naming.{renamed, still-named, same-facts}
use Rattle.kin_cert.proofs.Slots.{live-count}
use Rattle.kin_cert.proofs.Tables.{not-found, put-table, timed-slot, timed-table}
use Rattle.kin_cert.proofs.Replacing.{has-born, born-count}
use Rattle.kin_cert.proofs.Costs.{in_queue}
use Rattle.kin_cert.proofs.QueueSizes.{few-queued-of}
use Rattle.kin_cert.proofs.table.Table.bear_one.Goals as goal

pub put_in-requires : goal.put_in-requires
put_in-requires g c =
    record { free = not-found c.self.inside.roll c.args.structure c.args.placed.now.part c.args.placed.now.fact.form (λ l there. c.requires.free l (subst (λ (t : Facts). Contains t.live l) c.self.view_is there)) }

pub invariant_of-self-in_err-note : goal.invariant_of-self-in_err-note
invariant_of-self-in_err-note g c =
    let o = held c.args.structure c.args.placed.now in
    record {
      table = put-table c.self.inside.roll c.put_in.new.self c.self.inside.schedule c.in_ok-id.id o c.self.invariant.table c.in_ok-id.ensures.vacant c.in_ok-id.ensures.slot;
      named = renamed c.self.inside.names c.note.new.self c.self.inside.roll c.put_in.new.self c.in_ok-id.id (Some (fresh o)) c.self.invariant.named c.in_ok-id.ensures.slot c.note.ensures;
    }

pub invariant_of-self-in_err-time : goal.invariant_of-self-in_err-time
invariant_of-self-in_err-time g c =
    let o = held c.args.structure c.args.placed.now in
    subst (λ (m : Moments). IsListed c.time.new.roll m c.note.new.self) (sym c.in_err-time.ensures.schedule)
    (subst (λ (slots : List (Option Entry)). IsListed slots c.self.inside.schedule c.note.new.self) (sym c.in_err-time.ensures.roll)
    (record {
      table = put-table c.self.inside.roll c.put_in.new.self c.self.inside.schedule c.in_ok-id.id o c.self.invariant.table c.in_ok-id.ensures.vacant c.in_ok-id.ensures.slot;
      named = renamed c.self.inside.names c.note.new.self c.self.inside.roll c.put_in.new.self c.in_ok-id.id (Some (fresh o)) c.self.invariant.named c.in_ok-id.ensures.slot c.note.ensures;
    }))

pub invariant_of-self-2 : goal.invariant_of-self-2
invariant_of-self-2 g c =
    let o = held c.args.structure c.args.placed.now in
    let scene = scene_at c.args.motions.now in
    let table = put-table c.self.inside.roll c.put_in.new.self c.self.inside.schedule c.in_ok-id.id o c.self.invariant.table c.in_ok-id.ensures.vacant c.in_ok-id.ensures.slot in
    let named = renamed c.self.inside.names c.note.new.self c.self.inside.roll c.put_in.new.self c.in_ok-id.id (Some (fresh o)) c.self.invariant.named c.in_ok-id.ensures.slot c.note.ensures in
    let t = c.in_ok-time.ensures.ok o c.in_ok-id.ensures.slot.changed refl in
    let slot = timed-slot scene c.args.now.now o c.in_ok-id.id c.put_in.new.self c.time.new.roll c.self.inside.schedule c.time.new.schedule table c.in_ok-id.ensures.slot.changed t in
    record {
      table = timed-table scene c.args.now.now o c.in_ok-id.id c.put_in.new.self c.time.new.roll c.self.inside.schedule c.time.new.schedule table c.in_ok-id.ensures.slot.changed t;
      named = still-named c.note.new.self c.put_in.new.self c.time.new.roll named (same-facts c.put_in.new.self c.time.new.roll c.in_ok-id.id (fresh o) (timed (fresh o) t.fails) c.in_ok-id.ensures.slot.changed slot refl);
    }

pub returns-clause-gained : goal.returns-clause-gained
returns-clause-gained g c =
    let s = c.args.structure in
    let p = c.args.placed.now in
    let scene = scene_at c.args.motions.now in
    let slot = c.in_ok-id.ensures.slot in
    let timed_so = c.in_ok-time.ensures.ok (held s p) slot.changed refl in
    subst (λ (t : Facts). HasBorn s scene c.args.now.now p t.live (live_in c.time.new.roll)) c.self.view_is
    (has-born s scene c.args.now.now p c.self.inside.roll c.put_in.new.self c.time.new.roll c.in_ok-id.id c.self.inside.schedule c.time.new.schedule slot.changed timed_so c.in_ok-id.ensures.vacant slot)

pub returns-clause-count : goal.returns-clause-count
returns-clause-count g c =
    let s = c.args.structure in
    let p = c.args.placed.now in
    let scene = scene_at c.args.motions.now in
    let slot = c.in_ok-id.ensures.slot in
    let timed_so = c.in_ok-time.ensures.ok (held s p) slot.changed refl in
    let more : length (live_in c.put_in.new.self) ≡ length (live_in c.self.inside.roll) + 1 = omega (arith, live-count c.put_in.new.self, live-count c.self.inside.roll, c.in_ok-id.ensures.count) in
    born-count s scene c.args.now.now p c.self.inside.roll c.put_in.new.self c.time.new.roll c.in_ok-id.id c.self.inside.schedule c.time.new.schedule slot.changed timed_so more
    ∙ ap (λ (t : Facts). length t.live + 1) c.self.view_is

pub returns-clause-cost : goal.returns-clause-cost
returns-clause-cost g c =
    in_queue _ _ _ _ _ (few-queued-of c.self.inside.roll c.self.inside.schedule c.args.self.now.live c.self.invariant.table (ap (λ (t : Facts). t.live) c.self.view_is)) c.in_ok-time.ensures.cost
