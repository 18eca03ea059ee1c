use Rattle.std.proofs.Common.{take}
use Rattle.kin_status.proofs.OneText.{cut_of_bad}
use Rattle.kin_status.proofs.ending.refuse_script.Goals as goal

pub returns-clause-writes : goal.returns-clause-writes
returns-clause-writes g c =
    let front = c.in-Err.ensures.front in
    (take front.0 c.in-Ok.out.items, front.1, cut_of_bad c.args.input.now c.in-Ok.out.items front.0 c.args.line c.requires c.in-Ok.ensures)
