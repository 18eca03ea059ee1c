use Rattle.std.proofs.Common.{Option, subst, arith}
use Rattle.kin_motion.specs.declared.form.Form.{Form}
use Rattle.kin_cert.specs.Names.{numbers_in, HasNumbers}
use Rattle.kin_cert.proofs.Naming.{index-more, index-all}
use Rattle.kin_cert.proofs.names.pointers_of.Goals as goal

pub loop-id-preserved : goal.loop-id-preserved
loop-id-preserved c =
    index-more c.loop-id.id c.loop-id.pointers c.aim_each.new.pointers c.args.roll.now c.loop-id.invariant
    (subst (λ (f : Option Form). HasNumbers c.loop-id.pointers c.aim_each.new.pointers c.loop-id.id (numbers_in f)) c.form_of.ensures c.in_ok-aim_each.ensures)

pub returns : goal.returns
returns c = index-all c.loop-id.id c.loop-id.pointers c.args.roll.now (omega (arith, c.room-id-end.ensures, c.loop-id-test.false)) c.loop-id.invariant
