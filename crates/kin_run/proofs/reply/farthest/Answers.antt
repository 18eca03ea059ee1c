use Rattle.std.proofs.Common.{refl}
use Rattle.kin_motion.specs.Farthest.{IsFarthest}
use Rattle.kin_run.proofs.Replying.{seen_alike}
use Rattle.kin_run.proofs.reply.farthest.Goals as goal

pub returns : goal.returns
returns c =
    let is = seen_alike c.args.world.now c.requires (λ s. IsFarthest s c.farthest.result) c.farthest.ensures.farthest in
    record { reply = λ journal. ((c.keeps.ensures.0 c.if-not-keeps.false, tt), (c.farthest.result, is journal, refl)) }
