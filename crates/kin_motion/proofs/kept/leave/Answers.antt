use Rattle.std.proofs.Common.{[]}
use Rattle.kin_algebra.proofs.Results.{from_three}
use Rattle.kin_motion.proofs.KeptLaws.{entered_in, none_left, from_five}
use Rattle.kin_motion.proofs.kept.leave.Goals as goal

pub mark_leaving-requires-clause-member : goal.mark_leaving-requires-clause-member
mark_leaving-requires-clause-member g c =
    let left = c.requires.left in
    (left.0, left.1, left.2, entered_in c.args.leaving _ _ left.3)

pub settle_steadily-requires-clause-ready : goal.settle_steadily-requires-clause-ready
settle_steadily-requires-clause-ready g c =
    let left = c.requires.left in
    g.met.K.Kept.ready_over c.mark_leaving.new.self (g.O.Signs.scene c.args.now.now) (c.mark_leaving.ensures.members _ _ left.1 left.3)

pub settle_steadily-requires-clause-failing : goal.settle_steadily-requires-clause-failing
settle_steadily-requires-clause-failing g c =
    none_left (g.K.Kinetic.facts c.args.kept.now) (g.K.Kinetic.facts c.mark_leaving.new.self) (g.K.Kinetic.is_spared c.mark_leaving.new.self) (g.O.Signs.scene c.args.now.now) c.args.leaving
    c.mark_leaving.ensures.facts c.mark_leaving.ensures.spares c.requires.hold

pub returns-clause-members : goal.returns-clause-members
returns-clause-members g c =
    let left = c.requires.left in
    from_three c.settle_steadily.result
    (λ rest settled stays. g.met.K.Kept.members_stay c.mark_leaving.new.self c.settle_steadily.new.self (g.O.Signs.scene c.args.now.now) (c.mark_leaving.ensures.members _ _ left.1 left.3) stays rest settled)
    c.settle_steadily.ensures.rest c.settle_steadily.ensures.settled c.settle_steadily.ensures.stays

pub returns-clause-within : goal.returns-clause-within
returns-clause-within g c =
    let marked = c.mark_leaving.new.self in
    let new = c.settle_steadily.new.self in
    let now = g.O.Signs.scene c.args.now.now in
    let laws = g.met.K.Kept in
    let mark = c.mark_leaving.ensures in
    let after = c.settle_steadily.ensures in
    let failing = none_left (g.K.Kinetic.facts c.args.kept.now) (g.K.Kinetic.facts marked) (g.K.Kinetic.is_spared marked) now c.args.leaving mark.facts mark.spares c.requires.hold in
    from_five c.settle_steadily.result
    (λ rest settled stays delta spent size keep v kind step before members left.
    let kind' = mark.kind size keep kind in
    laws.frugal marked new size keep v now [] _ _ _ _
    kind' (laws.kind_stays marked new size keep stays kind') step
    (mark.follows v now.live members before left)
    (laws.members_stay marked new now (mark.members v.live now.live members left) stays rest settled) settled failing
    delta spent)
    after.rest after.settled after.stays after.delta after.spent
