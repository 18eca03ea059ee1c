use Rattle.kin_status.proofs.Generated.{one_demo_text}
use Rattle.kin_status.proofs.laws.one_demo_text.Goals as goal

pub returns : goal.returns
returns c = one_demo_text
