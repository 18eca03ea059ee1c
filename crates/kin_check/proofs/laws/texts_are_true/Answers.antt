use Rattle.kin_check.proofs.TrueTexts.{texts_are_true}
use Rattle.kin_check.proofs.laws.texts_are_true.Goals as goal

pub returns : goal.returns
returns c = texts_are_true
