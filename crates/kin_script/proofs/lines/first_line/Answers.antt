use Rattle.std.proofs.Common.{arith, sym, ◌∙◌}
use Rattle.std.proofs.lemmas.Bool.Decides.{nat_tests}
use Rattle.kin_script.proofs.LineLaws.{lines_of-cut, lines_of-whole, lines_of-empty}
use Rattle.kin_script.proofs.lines.first_line.Goals as goal

pub returns-then-is_empty-clause-line : goal.returns-then-is_empty-clause-line
returns-then-is_empty-clause-line c = lines_of-empty c.args.bytes.now (grind (arith, nat_tests))

pub returns-in-Some-clause-line : goal.returns-in-Some-clause-line
returns-in-Some-clause-line c = lines_of-cut c.args.bytes.now c.in-Some.at (sym c.place.ensures ∙ c.in-Some.is)

pub returns-in-None-clause-line : goal.returns-in-None-clause-line
returns-in-None-clause-line c = lines_of-whole c.args.bytes.now (grind (arith, nat_tests)) (sym c.place.ensures ∙ c.in-None.is)
