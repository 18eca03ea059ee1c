use Rattle.std.proofs.Common.{refl, rules}
use Rattle.kin_proved_example.proofs.Watching.{are_keepable, starts}
use Rattle.kin_proved_example.proofs.RunWork.run.Goals as goal

pub new-requires-clause-keepable : goal.new-requires-clause-keepable
new-requires-clause-keepable g c = are_keepable _ refl (search rules)

pub text_of-requires : goal.text_of-requires
text_of-requires g c = starts _ _ c.in_ok-world.ensures.empty c.in_ok-world.ensures.whole
