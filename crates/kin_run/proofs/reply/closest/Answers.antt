use Rattle.std.proofs.Common.{refl}
use Rattle.kin_motion.specs.ClosestPairs.{IsClosest}
use Rattle.kin_run.proofs.Replying.{seen_alike}
use Rattle.kin_run.proofs.reply.closest.Goals as goal

pub returns : goal.returns
returns c =
    let is = seen_alike c.args.world.now c.requires (λ s. IsClosest s c.closest.result) c.closest.ensures.closest in
    record { reply = λ journal. ((c.keeps.ensures.0 c.if-not-keeps.false, tt), (c.closest.result, is journal, refl)) }
