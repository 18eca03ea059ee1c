use Rattle.kin_wedge.proofs.Exchanges.{kept_or_exchanged}
use Rattle.kin_wedge.proofs.laws.exchanges_tell.Goals as goal

pub returns : goal.returns
returns c = kept_or_exchanged
