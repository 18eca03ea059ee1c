use Rattle.kin_boxes.proofs.Finding.{meets_then, meets_else}
use Rattle.kin_boxes.proofs.sweep.meets_other.Goals as goal

pub returns-then-places-to : goal.returns-then-places-to
returns-then-places-to c = meets_then c.args.ends.now.items c.args.no c.args.other _ _ _ _ c.requires.once c.requires.low c.requires.high c.span-from.ensures.low c.span-from.ensures.high
    c.if-places-to.true

pub returns-else-places-to : goal.returns-else-places-to
returns-else-places-to c = meets_else c.args.ends.now.items c.args.no c.args.other _ _ _ _ c.requires.once c.requires.low c.requires.high c.span-from.ensures.low c.span-from.ensures.high
    c.if-places-to.false
