use Rattle.std.proofs.Common.{rules}
use Rattle.kin_script.specs.Questions.{question_of}
use Rattle.kin_script.proofs.line.question.Goals as goal

pub returns-then-eq-7 : goal.returns-then-eq-7
unfolding question_of
returns-then-eq-7 c = search rules
