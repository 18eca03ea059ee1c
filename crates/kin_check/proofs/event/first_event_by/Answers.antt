use Rattle.kin_check.proofs.event.first_event_by.Goals as goal

pub returns : goal.returns
returns g c = c.by_last.ensures c.args.state.now.plans c.args.from.now c.args.facts.now c.in_ok-event.ensures
