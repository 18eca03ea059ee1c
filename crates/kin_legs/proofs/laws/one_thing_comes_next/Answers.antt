use Rattle.kin_legs.proofs.NextLaws.{one_next, nexts_exist}
use Rattle.kin_legs.proofs.laws.one_thing_comes_next.Goals as goal

pub returns : goal.returns
returns c = record { one = one_next; some = nexts_exist }
