use Rattle.std.proofs.Common.{sym, ◌∙◌}
use Rattle.kin_script.proofs.WordLaws.{passes_blank}
use Rattle.kin_script.proofs.words.skip_blanks.Goals as goal

pub loop-at-preserved : goal.loop-at-preserved
loop-at-preserved c = c.loop-at.invariant ∙ passes_blank c.args.bytes.now c.loop-at.at c.loop-at-test.true (sym c.is_blank_byte.ensures ∙ c.if-not-is_blank_byte.false)
