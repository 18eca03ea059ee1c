use Rattle.kin_algebra.proofs.Results.{from_two}
use Rattle.kin_motion.specs.Scene.{scene_at}
use Rattle.kin_cert.proofs.TellLaws.{may_apply, born_askable, born_hold}
use Rattle.kin_cert.proofs.ToldLaws.{told}
use Rattle.kin_cert.proofs.table.Table.tell.Goals as goal

pub apply-requires-clause-change : goal.apply-requires-clause-change
apply-requires-clause-change g c = may_apply c.args.k c.args.delta.now (scene_at c.args.motions.now c.args.now.now) c.args.self.now.live c.requires

pub apply-requires-clause-askable : goal.apply-requires-clause-askable
apply-requires-clause-askable g c = born_askable c.args.k c.args.delta.now (scene_at c.args.motions.now c.args.now.now) c.args.self.now.live c.requires

pub apply-requires-clause-holds : goal.apply-requires-clause-holds
apply-requires-clause-holds g c = born_hold c.args.k c.args.delta.now (scene_at c.args.motions.now c.args.now.now) c.args.self.now.live c.requires

pub returns-clause-told : goal.returns-clause-told
returns-clause-told g c =
    from_two c.apply.result
    (told c.args.k c.args.delta.now (scene_at c.args.motions.now) c.args.now.now c.args.self.now.live c.apply.new.self.live c.requires)
    c.apply.ensures.applied c.apply.ensures.once

pub returns-clause-cost : goal.returns-clause-cost
returns-clause-cost g c = c.apply.ensures.cost
