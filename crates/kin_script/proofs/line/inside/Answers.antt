use Rattle.std.proofs.Common.{rules}
use Rattle.kin_script.specs.Questions.{box_question_of}
use Rattle.kin_script.proofs.line.inside.Goals as goal

pub returns : goal.returns
unfolding box_question_of
returns c = search rules
