use Rattle.std.proofs.Common.{◌≡◌, ap, subst, arith, ◌+◌, ◌<◌, ◌≤◌, length, get_or, rules, List, [], Option, Some, None, Contains}
use Rattle.std.specs.Prelude.{IfSome, option_to_list}
use Rattle.kin_algebra.proofs.Members.{contains_head}
use Rattle.kin_motion.specs.declared.fact.Fact.{Fact}
use Rattle.kin_overlay.specs.declared.record.Record.{Record}
use Rattle.kin_overlay.specs.declared.shared.Shared.{Shared}
use Rattle.kin_overlay.specs.Reports.{IsLeftBetween, IsBetween}
use Rattle.kin_motion.specs.Numbers.{IsOnce}
use Rattle.kin_overlay.specs.Remembered.{left_points, slope_facts, facts_of}
use Rattle.kin_overlay.proofs.HasLaws.{is-slope, in-record}
use Rattle.kin_overlay.proofs.ReportLaws.{told-flat, told-front, told-back}
use Rattle.kin_overlay.proofs.SharedLaws.{no_record, is-at, left-between, shared-between, slope-between}
use Rattle.kin_overlay.proofs.report.tell_slopes.Goals as goal

pub loop-place-init : goal.loop-place-init
loop-place-init c =
    let other = c.args.other.now in
    told-front c.args.part (facts_of other) c.args.shared c.args.list.now.records other.records c.requires.shared slope_facts c.args.told.now.items
    (λ r f d e. is-slope other f (in-record other.records r f d e))

pub loop-place-preserved : goal.loop-place-preserved
loop-place-preserved c =
    told-flat c.args.part (facts_of c.args.other.now) slope_facts c.args.list.now.records c.loop-place.place (get_or c.records-records.result.now c.loop-place.place no_record) (option_to_list c.slope_fact.result) c.args.told.now.items c.loop-place.told.items c.tell.new.told.items
    (is-at c.records-records.result.now c.args.list.now.records c.loop-place.place c.records-records.ensures.value (omega (arith, c.loop-place-test.true))) c.slope_fact.ensures c.loop-place.invariant c.in_ok-tell.ensures

-- the slope of a record, if there is one, begins between both ends
begins : (w : Shared) (rs : List Record) (r : Record) (o : Option Fact) → IsLeftBetween w rs r.at.left → option_to_list o ≡ slope_facts r → IfSome o (λ f. IsBetween w rs f.form)
begins w rs r None between own = search rules
begins w rs r (Some f) between own = slope-between w rs r f between (subst (λ (l : List Fact). Contains l f) own (contains_head f []))

pub tell-requires-clause-outside : goal.tell-requires-clause-outside
tell-requires-clause-outside c =
    let w = c.args.shared in
    let rs = c.args.list.now.records in
    let others = c.args.other.now.records in
    let room = c.requires.shared.room in
    let e = c.records-records.ensures.value in
    let all = ap length e in
    let noted = get_or c.records-records.result.now c.loop-place.place no_record in
    let there = is-at c.records-records.result.now rs c.loop-place.place e (omega (arith, c.loop-place-test.true)) in
    let low : w.front ≤ c.loop-place.place = omega (arith, room, c.loop-place.auto.place) in
    let high : c.loop-place.place + w.back < length rs = omega (arith, room, all, c.loop-place-test.true) in
    let between = left-between rs c.loop-place.place (get_or c.records-records.result.now c.loop-place.place no_record) w (subst (λ (l : List Record). IsOnce (left_points l)) e c.records-records.ensures.once) there low high in
    begins w others (get_or c.records-records.result.now c.loop-place.place no_record) c.slope_fact.result (shared-between w rs others noted.at.left c.requires.shared between) c.slope_fact.ensures

pub returns : goal.returns
returns c =
    let other = c.args.other.now in
    let room = c.requires.shared.room in
    told-back c.args.part (facts_of other) c.args.shared c.args.list.now.records other.records c.requires.shared slope_facts c.loop-place.place c.args.told.now.items c.loop-place.told.items
    (λ r f d e. is-slope other f (in-record other.records r f d e)) (let all = ap length c.records-records.ensures.value in omega (arith, room, c.loop-place-test.false, c.loop-place.auto.place, all)) c.loop-place.invariant
