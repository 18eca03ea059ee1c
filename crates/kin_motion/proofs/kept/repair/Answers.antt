use Rattle.std.proofs.Common.{sym, subst, ℕ, List}
use Rattle.kin_motion.proofs.KeptLaws.{none_spared, from_five}
use Rattle.kin_motion.proofs.kept.repair.Goals as goal

pub settle_steadily-requires-clause-failing : goal.settle_steadily-requires-clause-failing
settle_steadily-requires-clause-failing g c =
    none_spared (g.K.Kinetic.facts c.args.kept.now) (g.K.Kinetic.is_spared c.args.kept.now) (g.O.Signs.scene c.args.now.now) c.args.failed.now
    (λ p. g.met.K.Kept.spares_none c.args.kept.now p c.requires.rest) c.requires.failing

pub returns-clause-within : goal.returns-clause-within
returns-clause-within g c =
    let old = c.args.kept.now in
    let new = c.settle_steadily.new.self in
    let now = g.O.Signs.scene c.args.now.now in
    let laws = g.met.K.Kept in
    let after = c.settle_steadily.ensures in
    let failing = none_spared (g.K.Kinetic.facts old) (g.K.Kinetic.is_spared old) now c.args.failed.now (λ p. laws.spares_none old p c.requires.rest) c.requires.failing in
    from_five c.settle_steadily.result
    (λ rest settled stays delta spent size keep v kind step before same.
    laws.frugal old new size keep v now c.args.failed.now _ _ _ _
    kind (laws.kind_stays old new size keep stays kind) step
    (laws.follows_scene old v now.live c.requires.rest (subst (λ (live : List ℕ). g.K.Kept.has_members old live) (sym same) c.requires.members) before same)
    (laws.members_stay old new now c.requires.members stays rest settled) settled failing delta spent)
    after.rest after.settled after.stays after.delta after.spent
