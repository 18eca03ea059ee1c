use Rattle.std.proofs.Common.{refl}
use Rattle.kin_part_cases.proofs.races.first_seen.Goals as goal

pub settle-requires-clause-real : goal.settle-requires-clause-real
settle-requires-clause-real g c = record { motions = c.args.motions.now; moment = _; canonical = c.recall_canonical.ensures; live = refl; sign = λ f. refl }
