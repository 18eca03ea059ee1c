use Rattle.kin_world.proofs.RootLaws.{blocks_are_at_roots, journals_exist}
use Rattle.kin_world.proofs.laws.failures_are_at_roots.Goals as goal

pub returns : goal.returns
returns c = record { block = blocks_are_at_roots; journal = journals_exist }
