use Rattle.kin_near.proofs.Hits.{hits_suffice}
use Rattle.kin_near.proofs.laws.hits_suffice.Goals as goal

pub returns : goal.returns
returns c = hits_suffice
