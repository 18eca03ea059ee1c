use Rattle.kin_run.proofs.Replying.{overlaps_lines}
use Rattle.kin_run.proofs.reply.overlaps.Goals as goal

pub returns : goal.returns
returns c = record {
  reply = λ journal.
      let kept = c.keeps_boxes.ensures.0 c.if-not-keeps_boxes.false in
      ((kept, tt), overlaps_lines c.args.world.now c.requires c.in_ok-overlaps.field-0.items journal kept c.in_ok-overlaps.ensures.overlaps);
}
