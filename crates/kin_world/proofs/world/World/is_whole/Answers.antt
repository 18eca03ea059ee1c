use Rattle.kin_world.proofs.Vocabulary.{ap, sym, ◌∙◌, World}
use Rattle.kin_world.proofs.Inside.{whole_inside}
use Rattle.kin_world.proofs.world.World.is_whole.Goals as goal

pub returns-clause-whole : goal.returns-clause-whole
returns-clause-whole c = λ is. whole_inside c.self.inside c.self.view_is c.self.invariant (ap (λ (v : World). v.whole) (sym c.self.view_is) ∙ is)
