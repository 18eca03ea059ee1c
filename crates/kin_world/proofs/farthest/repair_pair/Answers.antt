use Rattle.std.proofs.Common.{sym, ap, ◌∙◌, List, length, nat_eq}
use Rattle.kin_algebra.proofs.Results.{from_three}
use Rattle.kin_motion.specs.declared.fact.Placed.{Placed}
use Rattle.kin_motion.specs.Sweeps.{AreChains}
use Rattle.kin_world.proofs.FarthestLaws.{asks_as_it_is, given_failing, given_ready, never_both, none_of, nothing_changed, quiet_settled, repair_asks}
use Rattle.kin_world.proofs.farthest.repair_pair.Goals as goal
use Rattle.kin_world.proofs.farthest.repair_pair.Goals.{else-is_empty-via-then-is_empty+else-has_chains, else-is_empty-via-else-is_empty}

pub upper-upper-requires : goal.upper-upper-requires
upper-upper-requires g c = let there = c.hull_among-hull.ensures in record { rest = (c.requires.hull.settled there.0 _ there.1).0 }

pub lower-lower-requires : goal.lower-lower-requires
lower-lower-requires g c = let there = c.hull_among-hull.ensures in record { rest = (c.requires.hull.settled there.0 _ there.1).0 }

pub returns-then-has_chains-clause-settled : goal.returns-then-has_chains-clause-settled
returns-then-has_chains-clause-settled g c =
    let there = c.hull_among-hull.ensures in
    let settled = (c.requires.hull.settled there.0 _ there.1).1 in
    let was = c.requires.was in
    quiet_settled c.args.pair.now was.0 (g.O.Signs.scene c.args.now.now) c.upper-upper.result.now c.lower-lower.result.now c.args.failed.now was.1 c.requires.real was.2
    (c.upper-upper.ensures.chain _ settled, c.lower-lower.ensures.chain _ settled) c.requires.failing c.requires.rest was.3
    (none_of c.args.failed.now (sym c.is_empty.ensures ∙ c.if-is_empty.true)) (c.has_chains.ensures.0 c.if-has_chains.true)

pub returns-then-has_chains-clause-delta : goal.returns-then-has_chains-clause-delta
returns-then-has_chains-clause-delta g c = nothing_changed _ _

pub returns-then-has_chains-clause-within : goal.returns-then-has_chains-clause-within
returns-then-has_chains-clause-within g c =
    let there = c.hull_among-hull.ensures in
    let settled = (c.requires.hull.settled there.0 _ there.1).1 in
    λ v real before same.
    asks_as_it_is c.args.pair.now v (g.O.Signs.scene c.args.now.now) c.upper-upper.result.now c.lower-lower.result.now c.args.failed.now real c.requires.real before
    (c.upper-upper.ensures.chain _ settled, c.lower-lower.ensures.chain _ settled) c.requires.failing c.requires.rest same
    (none_of c.args.failed.now (sym c.is_empty.ensures ∙ c.if-is_empty.true)) (c.has_chains.ensures.0 c.if-has_chains.true) c.args.steps.now

pub settle-requires-clause-ready : goal.settle-requires-clause-ready
settle-requires-clause-ready g c =
    let there = c.hull_among-hull.ensures in
    let settled = (c.requires.hull.settled there.0 _ there.1).1 in
    let was = c.requires.was in
    given_ready c.args.pair.now c.chains.new.self c.upper-upper.result.now c.lower-lower.result.now c.in_ok-chains.ensures.ok c.requires.rest was.0 (g.O.Signs.scene c.args.now.now) was.2 was.3
    (c.upper-upper.ensures.chain _ settled, c.lower-lower.ensures.chain _ settled)

pub settle-requires-clause-failing : goal.settle-requires-clause-failing
settle-requires-clause-failing g c =
    given_failing c.args.pair.now c.chains.new.self c.upper-upper.result.now c.lower-lower.result.now c.in_ok-chains.ensures.ok c.requires.rest (g.O.Signs.scene c.args.now.now) c.args.failed.now c.requires.failing

pub returns-clause-within : goal.returns-clause-within
returns-clause-within g c =
    let there = c.hull_among-hull.ensures in
    let settled = (c.requires.hull.settled there.0 _ there.1).1 in
    let w = g.O.Signs.scene c.args.now.now in
    let chains : AreChains w c.upper-upper.result.now c.lower-lower.result.now = (c.upper-upper.ensures.chain _ settled, c.lower-lower.ensures.chain _ settled) in
    from_three c.settle.result
    (λ now_settled same few v real before same_live.
    repair_asks c.args.pair.now c.chains.new.self c.upper-upper.result.now c.lower-lower.result.now c.in_ok-chains.ensures.ok c.requires.rest c.settle.new.self v w c.args.failed.now c.args.steps.now c.settle.new.steps
    real c.requires.real before now_settled same_live chains c.requires.failing
    (elim c.else-is_empty.branch [
      | else-is_empty-via-then-is_empty+else-has_chains x ↦ λ none alike. never_both x.has_chains.result (x.has_chains.ensures.1 alike) x.if-has_chains.false
      | else-is_empty-via-else-is_empty x ↦ λ none alike. never_both c.is_empty.result (c.is_empty.ensures ∙ ap (λ (fs : List Placed). nat_eq (length fs) 0) none) x.if-is_empty.false
    ]) same.size few)
    c.settle.ensures.settled c.settle.ensures.same c.settle.ensures.tests
