use Rattle.std.proofs.Common.{subst}
use Rattle.kin_script.specs.Left.{Left, with_words, after}
use Rattle.kin_script.specs.Grammar.{script_of, script_of_lines}
use Rattle.kin_script.specs.Gives.{Gives}
use Rattle.kin_script.proofs.RangeLaws.{ranges}
use Rattle.kin_script.proofs.read.read.Goals as goal

pub returns-clause-range : goal.returns-clause-range
unfolding script_of
returns-clause-range c =
    ranges c.args.bytes.now c.read_lines.result c.requires
    (subst (λ (l : Left). Gives c.read_lines.result (script_of_lines (after l) (with_words l))) c.of.ensures c.read_lines.ensures)
