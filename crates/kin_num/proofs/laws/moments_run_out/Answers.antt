use Rattle.kin_num.proofs.Grains.{moments_run_out}
use Rattle.kin_num.proofs.laws.moments_run_out.Goals as goal

pub returns : goal.returns
returns c = moments_run_out
