use Rattle.std.proofs.Common.{[], ◌∷◌, subst}
use Rattle.kin_motion.specs.declared.fact.Placed.{Placed}
use Rattle.kin_motion.specs.Kinetics.{HasChanged}
use Rattle.kin_motion.proofs.ChangeLaws.{nothing_changed}
use Rattle.kin_rows.proofs.pair.report.Goals as goal

pub returns-then-is : goal.returns-then-is
returns-then-is c = subst (λ (p : Placed). HasChanged (c.args.old ∷ []) (p ∷ []) c.args.out.now c.args.out.now) (c.is.ensures.0 c.if-is.true) (nothing_changed (c.args.old ∷ []) c.args.out.now)
