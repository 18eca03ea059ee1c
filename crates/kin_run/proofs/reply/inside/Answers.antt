use Rattle.std.proofs.Common.{List, Option, ap, ◌∙◌}
use Rattle.kin_motion.specs.Boxes.{points_in}
use Rattle.kin_script.specs.Printed.{list_line}
use Rattle.kin_run.proofs.Vocabulary.{Course}
use Rattle.kin_run.proofs.Replying.{in_force}
use Rattle.kin_run.proofs.reply.inside.Goals as goal

pub returns : goal.returns
returns c =
    let w = c.args.world.now in
    let same = c.in_ok-inside.ensures.inside ∙ ap (λ (ms : List (Option Course)). points_in ms w.moment c.args.rect.now) (in_force w c.requires.whole) in
    record { reply = λ journal. ((c.keeps.ensures.0 c.if-not-keeps.false, tt), ap list_line same) }
