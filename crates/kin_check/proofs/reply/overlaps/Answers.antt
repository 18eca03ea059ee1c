use Rattle.kin_check.proofs.Replying.{boxes_are, boxes_small, has_boxes, no_boxes, overlaps_lines}
use Rattle.kin_check.proofs.reply.overlaps.Goals as goal

pub overlaps_of-requires-clause-small : goal.overlaps_of-requires-clause-small
overlaps_of-requires-clause-small g c =
    boxes_small c.args.state.now c.requires c.in-Some.w c.in-Some.h
    (boxes_are c.args.state.now c.keeps.result.now c.kept_boxes.result _ c.keeps.ensures c.kept_boxes.ensures c.in-Some.is)

pub returns-in_ok-overlaps_of-in-Some : goal.returns-in_ok-overlaps_of-in-Some
returns-in_ok-overlaps_of-in-Some g c =
    let found = boxes_are c.args.state.now c.keeps.result.now c.kept_boxes.result _ c.keeps.ensures c.kept_boxes.ensures c.in-Some.is in (
      (has_boxes c.args.state.now c.in-Some.w c.in-Some.h found, tt),
      overlaps_lines c.args.state.now c.requires c.moment.result c.in_ok-sight-in-Some.sight.moment c.in_ok-sight-in-Some.sight.motions c.moment.ensures
          c.in_ok-sight-in-Some.ensures.motions c.in_ok-sight-in-Some.ensures.moment
          c.in-Some.w c.in-Some.h c.in_ok-overlaps_of-in-Some.field-0.items found c.in_ok-overlaps_of-in-Some.ensures,
    )

pub returns-in-None : goal.returns-in-None
returns-in-None g c =
    no_boxes c.args.state.now
    (boxes_are c.args.state.now c.keeps.result.now c.kept_boxes.result _ c.keeps.ensures c.kept_boxes.ensures c.in-None.is)
