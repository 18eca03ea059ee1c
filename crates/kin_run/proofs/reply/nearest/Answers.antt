use Rattle.std.proofs.Common.{ap, inr, is_some, not, refl, sym, ◌∙◌}
use Rattle.kin_motion.specs.Nearest.{IsNearest}
use Rattle.kin_run.proofs.Changing.{live_with_plan}
use Rattle.kin_run.proofs.Replying.{seen_alike}
use Rattle.kin_run.proofs.reply.nearest.Goals as goal

pub returns-then-is_none : goal.returns-then-is_none
returns-then-is_none c =
    let absent = live_with_plan c.args.world.now c.args.no ∙ ap is_some (sym c.motion.ensures.value) ∙ c.is_none.ensures ∙ ap not c.if-is_none.true in
    record { reply = λ journal. inr (refl, c.keeps.ensures.0 c.if-not-keeps.false, λ live. absurd (let clash = sym live ∙ absent in cc)) }

pub returns : goal.returns
returns c =
    let live = live_with_plan c.args.world.now c.args.no ∙ ap is_some (sym c.motion.ensures.value) ∙ c.is_none.ensures ∙ ap not c.if-is_none.false in
    let is = seen_alike c.args.world.now c.requires (λ s. IsNearest s c.args.no c.nearest.result) c.nearest.ensures.nearest in
    record { reply = λ journal. ((c.keeps.ensures.0 c.if-not-keeps.false, live), (c.nearest.result, is journal, refl)) }
