use Rattle.std.proofs.Common.{sym, ap, subst, arith, List, ◌∷◌, [], ◌+◌, ◌<◌, ◌≤◌, length, get_or}
use Rattle.kin_motion.specs.declared.fact.Fact.{Fact}
use Rattle.kin_motion.specs.Numbers.{IsOnce}
use Rattle.kin_overlay.specs.Remembered.{left_points, turn_fact, facts_of}
use Rattle.kin_overlay.specs.declared.record.Record.{Record}
use Rattle.kin_overlay.specs.Reports.{IsBetween, IsTold}
use Rattle.kin_overlay.proofs.HasLaws.{has-turn}
use Rattle.kin_overlay.proofs.ReportLaws.{told-map, told-front, told-back, map-flat}
use Rattle.kin_overlay.proofs.SharedLaws.{no_record, is-at, left-between, shared-between}
use Rattle.kin_overlay.proofs.report.tell_turns.Goals as goal

pub loop-place-init : goal.loop-place-init
loop-place-init c =
    let other = c.args.other.now in
    let start = c.args.told.now.items in
    let none = told-front c.args.part (facts_of other) c.args.shared c.args.list.now.records other.records c.requires.shared (λ r. turn_fact r ∷ []) start (has-turn other) in
    subst (λ (fs : List Fact). IsTold c.args.part (facts_of other) fs start start) (map-flat c.args.part (facts_of other) turn_fact _) none

pub loop-place-preserved : goal.loop-place-preserved
loop-place-preserved c =
    told-map c.args.part (facts_of c.args.other.now) turn_fact c.args.list.now.records c.loop-place.place (get_or c.records-records.result.now c.loop-place.place no_record) c.turn_fact.result c.args.told.now.items c.loop-place.told.items c.tell.new.told.items
    (is-at c.records-records.result.now c.args.list.now.records c.loop-place.place c.records-records.ensures.value (omega (arith, c.loop-place-test.true))) c.turn_fact.ensures c.loop-place.invariant c.in_ok-tell.ensures

pub tell-requires-clause-outside : goal.tell-requires-clause-outside
tell-requires-clause-outside c =
    let w = c.args.shared in
    let rs = c.args.list.now.records in
    let others = c.args.other.now.records in
    let room = c.requires.shared.room in
    let e = c.records-records.ensures.value in
    let all = ap length e in
    let noted = get_or c.records-records.result.now c.loop-place.place no_record in
    let there = is-at c.records-records.result.now rs c.loop-place.place e (omega (arith, c.loop-place-test.true)) in
    let low : w.front ≤ c.loop-place.place = omega (arith, room, c.loop-place.auto.place) in
    let high : c.loop-place.place + w.back < length rs = omega (arith, room, all, c.loop-place-test.true) in
    let between = left-between rs c.loop-place.place (get_or c.records-records.result.now c.loop-place.place no_record) w (subst (λ (l : List Record). IsOnce (left_points l)) e c.records-records.ensures.once) there low high in
    subst (λ (f : Fact). IsBetween w others f.form) (sym c.turn_fact.ensures) (shared-between w rs others noted.at.left c.requires.shared between)

pub returns : goal.returns
returns c =
    let other = c.args.other.now in
    let room = c.requires.shared.room in
    let start = c.args.told.now.items in
    let now = c.loop-place.told.items in
    let flat = map-flat c.args.part (facts_of other) turn_fact in
    subst (λ (fs : List Fact). IsTold c.args.part (facts_of other) fs start now) (flat c.args.list.now.records)
    (told-back c.args.part (facts_of other) c.args.shared c.args.list.now.records other.records c.requires.shared (λ r. turn_fact r ∷ []) c.loop-place.place start now (has-turn other)
    (let all = ap length c.records-records.ensures.value in omega (arith, room, c.loop-place-test.false, c.loop-place.auto.place, all))
    (subst (λ (fs : List Fact). IsTold c.args.part (facts_of other) fs start now) (sym (flat _)) c.loop-place.invariant))
