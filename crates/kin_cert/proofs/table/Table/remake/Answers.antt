use Rattle.std.proofs.Common.{ℕ, ◌+◌, ◌*◌, length, count_by, subst}
use Rattle.std.specs.List.{Contains}
use Rattle.kin_motion.specs.Course.{live_of}
use Rattle.kin_motion.specs.Scene.{scene_at}
use Rattle.kin_cert.specs.Cost.{TakesAtMost}
use Rattle.kin_cert.specs.Facts.{Facts}
use Rattle.kin_cert.specs.Layout.{live_in}
use Rattle.kin_cert.specs.Remade.{names_number, HasRemade}
use Rattle.kin_cert.proofs.Naming.{still-named}
use Rattle.kin_cert.proofs.Remaking.{marks-of, marks-count, may-remake, remade-all}
use Rattle.kin_cert.proofs.Tables.{table-once}
use Rattle.kin_cert.proofs.table.Table.remake.Goals as goal

pub time_each-requires-clause-may : goal.time_each-requires-clause-may
time_each-requires-clause-may g c =
    let roll = c.self.inside.roll in
    may-remake roll c.args.number c.slots_of-slots.result.now (live_of c.args.motions.now) (scene_at c.args.motions.now c.args.now.now) (marks-of c.gather.new.self roll c.args.number c.slots_of-slots.result.now c.gather.ensures.named c.in_ok-gather.ensures.ok c.slots_of-slots.ensures)
    (λ l there names. c.requires.askable l (subst (λ (t : Facts). Contains t.live l) c.self.view_is there) names)
    (λ l there names. c.requires.holds l (subst (λ (t : Facts). Contains t.live l) c.self.view_is there) names)

pub invariant_of-self-in_err-time_each : goal.invariant_of-self-in_err-time_each
invariant_of-self-in_err-time_each g c = record { table = c.time_each.ensures.table; named = still-named c.gather.new.self c.self.inside.roll c.time_each.new.roll c.gather.ensures.named c.time_each.ensures.facts }

pub invariant_of-self-2 : goal.invariant_of-self-2
invariant_of-self-2 g c = record { table = c.time_each.ensures.table; named = still-named c.gather.new.self c.self.inside.roll c.time_each.new.roll c.gather.ensures.named c.time_each.ensures.facts }

pub returns-clause-remade : goal.returns-clause-remade
returns-clause-remade g c =
    let roll = c.self.inside.roll in
    let made = c.saturating_add-self-inside.result in
    subst (λ (t : Facts). HasRemade c.args.number (scene_at c.args.motions.now) c.args.now.now t (record { live = live_in c.time_each.new.roll; made = made })) c.self.view_is
    (remade-all (scene_at c.args.motions.now) c.args.now.now c.args.number c.slots_of-slots.result.now roll c.time_each.new.roll (marks-of c.gather.new.self roll c.args.number c.slots_of-slots.result.now c.gather.ensures.named c.in_ok-gather.ensures.ok c.slots_of-slots.ensures)
    c.in_ok-time_each.ensures.renewed c.self.inside.made made c.saturating_add-self-inside.ensures)

pub returns-clause-once : goal.returns-clause-once
returns-clause-once g c = table-once c.time_each.new.roll c.len.ensures.once

pub returns-clause-cost : goal.returns-clause-cost
returns-clause-cost g c =
    let roll = c.self.inside.roll in
    let count = marks-count c.args.number c.slots_of-slots.result.now roll (marks-of c.gather.new.self roll c.args.number c.slots_of-slots.result.now c.gather.ensures.named c.in_ok-gather.ensures.ok c.slots_of-slots.ensures) in
    subst (λ (t : Facts). TakesAtMost (length t.live) (λ r. count_by (names_number c.args.number) t.live * (2 * r + 1)) c.args.steps.now c.time_each.new.steps) c.self.view_is
    (subst (λ (n : ℕ). TakesAtMost (length (live_in c.self.inside.roll)) (λ r. n * (2 * r + 1)) c.args.steps.now c.time_each.new.steps) count c.in_ok-time_each.ensures.cost)
