use Rattle.std.proofs.Common.{Some, ap, refl, sym, ◌∙◌}
use Rattle.kin_motion.specs.Extremes.{IsExtremePoint}
use Rattle.kin_motion.specs.declared.keep.Keep.{Keep}
use Rattle.kin_run.proofs.Replying.{seen_alike}
use Rattle.kin_run.proofs.reply.extreme.Goals as goal

pub returns-in-Some-Extreme : goal.returns-in-Some-Extreme
returns-in-Some-Extreme c =
    let dx = c.in-Some-Extreme.field-0-0 in
    let dy = c.in-Some-Extreme.field-0-1 in
    let kept = sym c.keep.ensures ∙ c.in-Some-Extreme.is ∙ ap (λ (k : Keep). Some k) c.in-Some-Extreme.field-0-is in
    let is = seen_alike c.args.world.now c.requires (λ s. IsExtremePoint s dx dy c.extreme.result) (c.extreme.ensures.extreme dx dy kept) in
    record { reply = λ journal. (((dx, dy, kept), tt), record { dx = dx; dy = dy; kept = kept; point = c.extreme.result; extreme = is journal; line = refl }) }
