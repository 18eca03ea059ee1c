use Rattle.kin_world.proofs.Vocabulary.{ap, World}
use Rattle.kin_world.proofs.LegLaws.{starts_at_ease}
use Rattle.kin_world.proofs.SoundLaws.{whole}
use Rattle.kin_world.proofs.world.World.new.Goals as goal

pub invariant_of-result : goal.invariant_of-result
invariant_of-result c = λ _. starts_at_ease c.args.size c.in_ok-new.ensures.sound (ap (λ (w : World). w.size) c.in_ok-new.ensures.empty) c.in_ok-new-2.ensures

pub returns-clause-whole : goal.returns-clause-whole
returns-clause-whole c =
    let ease = starts_at_ease c.args.size c.in_ok-new.ensures.sound (ap (λ (w : World). w.size) c.in_ok-new.ensures.empty) c.in_ok-new-2.ensures in
    whole ease.sound ease.followed ease.ahead
