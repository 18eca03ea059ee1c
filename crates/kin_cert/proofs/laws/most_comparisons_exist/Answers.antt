use Rattle.kin_cert.proofs.Costs.{most_exists}
use Rattle.kin_cert.proofs.laws.most_comparisons_exist.Goals as goal

pub returns : goal.returns
returns c = most_exists
