use Rattle.std.proofs.Common.{sym, ap, ◌∙◌}
use Rattle.kin_script.specs.Reading.{reads}
use Rattle.kin_script.proofs.ReadingLaws.{done, whole}
use Rattle.kin_script.proofs.read.read_behind_size.Goals as goal

pub returns : goal.returns
returns c =
    sym c.loop-line.invariant.rest
    ∙ ap (reads c.loop-line.draft) c.in_default.ensures.none.0
    ∙ done c.loop-line.draft
    ∙ ap whole (sym c.finish.ensures)
