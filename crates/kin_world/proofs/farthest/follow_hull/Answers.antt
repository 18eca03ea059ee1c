use Rattle.std.proofs.Common.{◌≡◌, sym, ap, ◌∙◌}
use Rattle.kin_algebra.proofs.Results.{from_three}
use Rattle.kin_world.proofs.FarthestLaws.{follow_asks, follow_failing, follow_ready, leaving_of}
use Rattle.kin_world.proofs.farthest.follow_hull.Goals as goal
use Rattle.kin_world.proofs.farthest.follow_hull.Goals.{in-Enters, in-Leaves}

-- what is given: the chains, and the number that leaves
marked : (g : _) (c : goal.After-settle-arg-5-1 g) → c.match-mark.pair ≡ record c.args.pair.now { upper = c.upper.result.now; lower = c.lower.result.now; leaving = leaving_of c.args.mark }
marked g c =
    let old = c.args.pair.now in
    let given = c.in_ok-chains.ensures.ok in
    elim c.match-mark.branch [
      | in-Enters w ↦
          w.pair-is ∙ given ∙ (λ t. record old { upper = c.upper.result.now; lower = c.lower.result.now; leaving = (c.requires.rest.rest ∙ ap leaving_of (sym w.in-Enters.is)) t })
      | in-Leaves w ↦
          w.pair-is ∙ w.remove.ensures
          ∙ (λ t. record (given t) { leaving = ap leaving_of (sym w.in-Leaves.is) t })
    ]

pub upper-requires : goal.upper-requires
upper-requires g c = let there = c.hull_among-hull.ensures in record { rest = (c.requires.hull.settled there.0 _ there.1).0 }

pub lower-requires : goal.lower-requires
lower-requires g c = let there = c.hull_among-hull.ensures in record { rest = (c.requires.hull.settled there.0 _ there.1).0 }

pub settle-requires-clause-ready : goal.settle-requires-clause-ready
settle-requires-clause-ready g c =
    let there = c.hull_among-hull.ensures in
    let settled = (c.requires.hull.settled there.0 _ there.1).1 in
    follow_ready c.args.mark c.args.pair.now c.match-mark.pair c.upper.result.now c.lower.result.now (marked g c) c.requires.rest c.requires.was.0 (g.O.Signs.scene c.args.now.now) c.requires.fits c.requires.was.1
    (c.upper.ensures.chain _ settled, c.lower.ensures.chain _ settled)

pub settle-requires-clause-failing : goal.settle-requires-clause-failing
settle-requires-clause-failing g c =
    follow_failing c.args.mark c.args.pair.now c.match-mark.pair c.upper.result.now c.lower.result.now (marked g c) c.requires.rest (g.O.Signs.scene c.args.now.now) c.requires.hold

pub returns-clause-within : goal.returns-clause-within
returns-clause-within g c =
    from_three c.settle.result
    (λ settled same few v was changed.
    follow_asks c.args.mark c.args.pair.now c.match-mark.pair c.upper.result.now c.lower.result.now (marked g c.before) c.requires.rest c.settle.new.self v (g.O.Signs.scene c.args.now.now) c.args.steps.now c.settle.new.steps
    was settled changed c.requires.hold same.size few)
    c.settle.ensures.settled c.settle.ensures.same c.settle.ensures.tests
