use Rattle.std.proofs.Common.{rules, arith}
use Rattle.std.proofs.lemmas.Grind.{common_steps}
use Rattle.kin_script.specs.Lines.{words_of}
use Rattle.kin_script.proofs.words.text_of.Goals as goal

pub returns-in-None : goal.returns-in-None
unfolding words_of
returns-in-None c = grind (arith, common_steps)

pub returns-in-Some : goal.returns-in-Some
unfolding words_of
returns-in-Some c = search rules
