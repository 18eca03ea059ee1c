use Rattle.std.proofs.Common.{◌≡◌, true, arith, to_z, of_z, w32}
use Rattle.std.proofs.lemmas.Int.{to_z-of_z}
use Rattle.kin_num.specs.Instants.{line}
use Rattle.kin_script.specs.Changes.{IsSlowVelocity, schedules, turns}
use Rattle.kin_script.specs.Deeds.{changes}
use Rattle.kin_status.proofs.NamedRoots.{handed_ratio}
use Rattle.kin_check.proofs.Performing.{silently}
use Rattle.kin_check.proofs.perform.perform.Goals as goal

pub returns-in-Turn-clause-performs : goal.returns-in-Turn-clause-performs
returns-in-Turn-clause-performs g c =
    let u = c.in-Turn.u in
    let v = c.in-Turn.v in
    let range : IsSlowVelocity u v = (rw c.in-Turn.is at c.requires.range).1 in
    let u_is : to_z w32 (of_z w32 u) ≡ u = grind (arith, to_z-of_z, range.u_small) in
    let v_is : to_z w32 (of_z w32 v) ≡ v = grind (arith, to_z-of_z, range.v_small) in
    rw c.in-Turn.is (silently c.args.state.now (changes c.in-Turn.no (turns u v)) c.turn.result c.silent-in-Turn.result c.args.claim.now c.turn.new.state (rw (u_is, v_is) at c.turn.ensures.changes)
    c.silent-in-Turn.ensures)

pub returns-in-Leg-clause-performs : goal.returns-in-Leg-clause-performs
returns-in-Leg-clause-performs g c =
    let u = c.in-Leg.u in
    let v = c.in-Leg.v in
    let range : IsSlowVelocity u v = (rw c.in-Leg.is at c.requires.range).2 in
    let u_is : to_z w32 (of_z w32 u) ≡ u = grind (arith, to_z-of_z, range.u_small) in
    let v_is : to_z w32 (of_z w32 v) ≡ v = grind (arith, to_z-of_z, range.v_small) in
    rw c.in-Leg.is (silently c.args.state.now (changes c.in-Leg.no (schedules c.in-Leg.at u v)) c.leg.result c.silent-in-Leg.result c.args.claim.now c.leg.new.state
    (rw (u_is, v_is) at c.leg.ensures.changes) c.silent-in-Leg.ensures)

pub returns-in-AtRatio-clause-performs : goal.returns-in-AtRatio-clause-performs
returns-in-AtRatio-clause-performs g c =
    rw c.in-AtRatio.is (c.go_to.ensures.performs true (line c.in-AtRatio.n c.in-AtRatio.d) (handed_ratio c.in-AtRatio.n c.in-AtRatio.d c.ratio.result (rw c.in-AtRatio.is at c.requires.range)
    c.ratio.ensures.value c.ratio.ensures.canonical))
