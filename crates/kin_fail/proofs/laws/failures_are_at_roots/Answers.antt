use Rattle.kin_fail.proofs.FailureRoots.{failures_are_at_roots, blocks_are_at_roots}
use Rattle.kin_fail.proofs.laws.failures_are_at_roots.Goals as goal

pub returns : goal.returns
returns c = record { fact = failures_are_at_roots; block = blocks_are_at_roots }
