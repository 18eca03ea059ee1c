use Rattle.kin_script.proofs.TextsTell.{texts_tell_moments}
use Rattle.kin_script.proofs.laws.texts_tell_moments.Goals as goal

pub returns : goal.returns
returns c = texts_tell_moments
