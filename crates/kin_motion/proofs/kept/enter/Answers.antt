use Rattle.std.proofs.Common.{rules, []}
use Rattle.kin_motion.proofs.KeptLaws.{none_fails, from_five}
use Rattle.kin_motion.proofs.kept.enter.Goals as goal

pub returns-clause-members : goal.returns-clause-members
returns-clause-members g c =
    let has : g.K.Kept.has_members c.mark_entering.new.self (g.O.Signs.scene c.args.now.now).live = c.in_ok-mark_entering.ensures.members c.requires.entered.0 _ c.requires.entered.1 c.requires.entered.2 in
    search rules

pub returns-clause-within : goal.returns-clause-within
returns-clause-within g c =
    let marked = c.mark_entering.new.self in
    let new = c.settle_steadily.new.self in
    let now = g.O.Signs.scene c.args.now.now in
    let laws = g.met.K.Kept in
    let mark = c.in_ok-mark_entering.ensures in
    let after = c.settle_steadily.ensures in
    let failing = none_fails (g.K.Kinetic.facts c.args.kept.now) (g.K.Kinetic.facts marked) (g.K.Kinetic.is_spared marked) now mark.facts c.requires.hold in
    from_five c.settle_steadily.result
    (λ rest settled stays delta spent size keep v kind step before members entered.
    let kind' = mark.kind size keep kind in
    laws.frugal marked new size keep v now [] _ _ _ _
    kind' (laws.kind_stays marked new size keep stays kind') step
    (mark.follows v now.live members before entered)
    (laws.members_stay marked new now (mark.members v.live now.live members entered) stays rest settled) settled failing
    delta spent)
    after.rest after.settled after.stays after.delta after.spent
