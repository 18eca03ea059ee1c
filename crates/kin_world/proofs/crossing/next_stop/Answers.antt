use Rattle.kin_world.proofs.Vocabulary.{sym, subst, IsEarlier, IsNextStop}
use Rattle.std.proofs.lemmas.Bool.{both_ways}
use Rattle.kin_world.proofs.NextStops.{as_first, at_leg, at_limit, first_in, without_legs}
use Rattle.kin_world.proofs.crossing.next_stop.Goals as goal

pub returns-in_default-clause-value : goal.returns-in_default-clause-value
returns-in_default-clause-value g c = without_legs c.args.limit.now c.args.legs.now.legs (c.first.ensures.2 c.in_default.is) c.requires.canonical

pub beginning-begins-requires : goal.beginning-begins-requires
beginning-begins-requires g c = record { soon = (c.requires.fair c.in-Some.leg (first_in c.args.legs.now.legs c.first.result c.in-Some.leg c.first.ensures.0 c.first.ensures.1 c.in-Some.is)).soon }

pub returns-then-is_after-clause-value : goal.returns-then-is_after-clause-value
returns-then-is_after-clause-value g c =
    at_limit c.args.limit.now c.args.legs.now.legs c.in-Some.leg c.first.ensures.0 (as_first c.args.legs.now.legs c.first.result c.in-Some.leg c.first.ensures.0 c.first.ensures.1 c.in-Some.is) c.requires.canonical c.requires.fair c.recall_rising.ensures
    (subst (IsEarlier c.args.limit.now) c.beginning-begins.ensures (c.is_after.ensures.value.0 c.if-is_after.true))

pub returns-else-is_after-clause-value : goal.returns-else-is_after-clause-value
returns-else-is_after-clause-value g c =
    subst (IsNextStop c.args.limit.now c.args.legs.now.legs) (sym c.beginning-begins.ensures)
    (at_leg c.args.limit.now c.args.legs.now.legs c.in-Some.leg c.first.ensures.0 (as_first c.args.legs.now.legs c.first.result c.in-Some.leg c.first.ensures.0 c.first.ensures.1 c.in-Some.is) c.requires.canonical c.requires.fair c.recall_rising.ensures
    (λ later. both_ways c.is_after.result c.if-is_after.false (c.is_after.ensures.value.1 (subst (IsEarlier c.args.limit.now) (sym c.beginning-begins.ensures) later))))
