use Rattle.std.proofs.Common.{sym, ◌∙◌, subst}
use Rattle.std.proofs.lemmas.Option.{same_Some}
use Rattle.kin_algebra.proofs.Results.{for_ok, at_ok}
use Rattle.kin_motion.specs.Forms.{IsAskable}
use Rattle.kin_overlay.specs.declared.record.Record.{Record}
use Rattle.kin_overlay.specs.Remembered.{turn_fact}
use Rattle.kin_overlay.proofs.TurnedLaws.{past_once, turn_askable, turned_merged, turned_paid, turned_shares}
use Rattle.kin_overlay.proofs.list.BreakpointList.repair.Goals as goal

pub take_turned-requires-clause-askable : goal.take_turned-requires-clause-askable
take_turned-requires-clause-askable g c = λ r at.
    let s = g.O.Signs.scene c.args.now.now in
    let w = c.args.standing.now in
    let lone = c.in-Some.ensures in
    subst (λ (q : Record). IsAskable s.live (turn_fact q).form) (same_Some _ _ (sym lone.there ∙ at))
    (turn_askable s w c.args.puts c.args.a.now c.args.b.now c.requires.past.0 c.requires.past.1 c.in-Some.place c.in-Some.ensures (past_once _ _ _ _ _ _ _ c.requires.past.1)
    c.requires.a_some c.requires.b_some c.requires.a_live c.requires.b_live)

pub returns-in-Some-clause-merged : goal.returns-in-Some-clause-merged
returns-in-Some-clause-merged g c =
    let r = c.take_turned.result in
    for_ok r _ (λ v is. turned_merged (g.O.Signs.scene c.args.now.now) c.args.standing.now c.args.puts c.args.a.now c.args.b.now c.requires.past.0 c.requires.past.1 c.in-Some.place c.in-Some.ensures (past_once _ _ _ _ _ _ _ c.requires.past.1)
    c.take_turned.new.self (at_ok r _ v is c.take_turned.ensures.turned) c.requires.standing)

pub returns-in-Some-clause-tests : goal.returns-in-Some-clause-tests
returns-in-Some-clause-tests g c =
    let r = c.take_turned.result in
    for_ok r _ (λ v is p known fails. turned_paid (g.O.Signs.scene c.args.now.now) c.args.standing.now c.args.puts c.args.a.now c.args.b.now c.requires.past.0 c.requires.past.1 c.in-Some.place c.in-Some.ensures (past_once _ _ _ _ _ _ _ c.requires.past.1)
    c.take_turned.new.self (at_ok r _ v is c.take_turned.ensures.turned) c.args.steps.now c.take_turned.new.steps c.take_turned.ensures.count fails)

pub returns-in-Some-clause-shared : goal.returns-in-Some-clause-shared
returns-in-Some-clause-shared g c =
    turned_shares (g.O.Signs.scene c.args.now.now) c.args.standing.now c.args.puts c.args.a.now c.args.b.now c.requires.past.0 c.requires.past.1 c.in-Some.place c.in-Some.ensures (past_once _ _ _ _ _ _ _ c.requires.past.1)
    c.take_turned.new.self c.take_turned.result c.take_turned.ensures.turned c.take_turned.ensures.shared
