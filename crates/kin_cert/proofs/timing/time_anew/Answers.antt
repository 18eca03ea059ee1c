use Rattle.std.proofs.Common.{List, Option, length, refl, ap, sym, subst, ◌∙◌, arith}
use Rattle.kin_motion.specs.Scene.{scene_at}
use Rattle.kin_cert.specs.Entries.{Entry}
use Rattle.kin_cert.specs.Layout.{queued_at, live_in, IsTable}
use Rattle.kin_cert.proofs.Schedules.{Moments}
use Rattle.kin_cert.proofs.Tables.{timed-table}
use Rattle.kin_cert.proofs.Renewing.{freed-slot, freed-table, freed-count, has-renewed, renewed-facts}
use Rattle.kin_cert.proofs.Costs.{at_most_one, gone_and_back}
use Rattle.kin_cert.proofs.QueueSizes.{few-queued}
use Rattle.kin_cert.proofs.timing.time_anew.Goals as goal

pub time-requires-clause-absent : goal.time-requires-clause-absent
time-requires-clause-absent g c =
    freed-table c.args.roll.now c.free.new.self c.args.id c.free.result.0 c.free.result.1 c.free.ensures c.args.schedule.now c.unqueue.new.schedule c.requires.table c.unqueue.ensures.rest c.args.id
    ∙ ap queued_at (freed-slot c.args.roll.now c.free.new.self c.args.id c.free.result.0 c.free.result.1 c.free.ensures).changed

pub returns-clause-renewed : goal.returns-clause-renewed
returns-clause-renewed g c =
    let table = freed-table c.args.roll.now c.free.new.self c.args.id c.free.result.0 c.free.result.1 c.free.ensures c.args.schedule.now c.unqueue.new.schedule c.requires.table c.unqueue.ensures.rest in
    has-renewed c.args.roll.now c.free.new.self c.args.id c.free.result.0 c.free.result.1 c.free.ensures (scene_at c.args.motions.now) c.args.now.now c.time.new.roll c.unqueue.new.schedule c.time.new.schedule table (c.in_ok-time.ensures.ok c.free.result.0 (freed-slot c.args.roll.now c.free.new.self c.args.id c.free.result.0 c.free.result.1 c.free.ensures).changed refl)

pub returns-clause-facts : goal.returns-clause-facts
returns-clause-facts g c = renewed-facts (scene_at c.args.motions.now) c.args.now.now c.args.roll.now c.args.id c.time.new.roll (returns-clause-renewed g c)

pub returns-clause-table : goal.returns-clause-table
returns-clause-table g c =
    let table = freed-table c.args.roll.now c.free.new.self c.args.id c.free.result.0 c.free.result.1 c.free.ensures c.args.schedule.now c.unqueue.new.schedule c.requires.table c.unqueue.ensures.rest in
    timed-table (scene_at c.args.motions.now) c.args.now.now c.free.result.0 c.args.id c.free.new.self c.time.new.roll c.unqueue.new.schedule c.time.new.schedule table
    (freed-slot c.args.roll.now c.free.new.self c.args.id c.free.result.0 c.free.result.1 c.free.ensures).changed (c.in_ok-time.ensures.ok c.free.result.0 (freed-slot c.args.roll.now c.free.new.self c.args.id c.free.result.0 c.free.result.1 c.free.ensures).changed refl)

pub returns-in_err-time-clause-table : goal.returns-in_err-time-clause-table
returns-in_err-time-clause-table g c =
    let table = freed-table c.args.roll.now c.free.new.self c.args.id c.free.result.0 c.free.result.1 c.free.ensures c.args.schedule.now c.unqueue.new.schedule c.requires.table c.unqueue.ensures.rest in
    subst (λ (m : Moments). IsTable c.time.new.roll m) (sym c.in_err-time.ensures.schedule)
    (subst (λ (slots : List (Option Entry)). IsTable slots c.unqueue.new.schedule) (sym c.in_err-time.ensures.roll) table)

pub returns-clause-cost : goal.returns-clause-cost
returns-clause-cost g c = λ r e.
    let table = freed-table c.args.roll.now c.free.new.self c.args.id c.free.result.0 c.free.result.1 c.free.ensures c.args.schedule.now c.unqueue.new.schedule c.requires.table c.unqueue.ensures.rest in
    let same = freed-count c.args.roll.now c.free.new.self c.args.id c.free.result.0 c.free.result.1 c.free.ensures in
    let left = few-queued c.free.new.self c.unqueue.new.schedule table in
    let both = gone_and_back (length (live_in c.args.roll.now)) _ _ _ _ _ c.free.result.1.is_queued (few-queued c.args.roll.now c.args.schedule.now c.requires.table) (omega (arith, left, same)) c.unqueue.ensures.cost c.in_ok-time.ensures.cost r e in
    let most = at_most_one c.free.result.1.is_queued r in
    omega (arith, both, most)
