use Rattle.std.proofs.Common.{refl, sym}
use Rattle.kin_motion.specs.Live.{ListsLive}
use Rattle.kin_run.proofs.Replying.{seen_alike}
use Rattle.kin_run.proofs.reply.live.Goals as goal

pub returns : goal.returns
returns c =
    let w = c.args.world.now in
    let is = seen_alike w c.requires (λ s. ListsLive w.size w.keeps s w.live) c.requires.live in
    record { reply = λ journal. ((tt, tt), (_, (w.live, is journal, sym c.live.ensures.count), refl)) }
