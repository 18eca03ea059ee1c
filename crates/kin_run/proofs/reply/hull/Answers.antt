use Rattle.std.proofs.Common.{refl}
use Rattle.kin_motion.specs.Chains.{IsHullCycle}
use Rattle.kin_run.proofs.Replying.{seen_alike}
use Rattle.kin_run.proofs.reply.hull.Goals as goal

pub returns : goal.returns
returns c =
    let numbers = c.in_ok-hull.field-0.items in
    let is = seen_alike c.args.world.now c.requires (λ s. IsHullCycle s numbers) c.in_ok-hull.ensures.hull in
    record { reply = λ journal. ((c.keeps.ensures.0 c.if-not-keeps.false, tt), (numbers, is journal, refl)) }
