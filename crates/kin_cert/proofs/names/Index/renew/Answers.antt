use Rattle.std.proofs.Common.{Option, subst}
use Rattle.kin_motion.specs.declared.form.Form.{Form}
use Rattle.kin_cert.specs.Names.{numbers_in, HasNumbers}
use Rattle.kin_cert.proofs.Naming.{renewed}
use Rattle.kin_cert.proofs.names.Index.renew.Goals as goal

pub ids-preserved : goal.ids-preserved
ids-preserved c =
    renewed (record { pointing = c.ids.self-inside.pointers; changed = c.ids.self-inside.changed }) c.pop.new.self c.aim_each.new.pointers c.args.roll.now c.in-Some.id c.ids.invariant c.in-Some.ensures.some
    (subst (λ (f : Option Form). HasNumbers c.ids.self-inside.pointers c.aim_each.new.pointers c.in-Some.id (numbers_in f)) c.form_of.ensures c.in_ok-aim_each.ensures)
