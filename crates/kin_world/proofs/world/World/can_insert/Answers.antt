use Rattle.kin_world.proofs.Inside.{whole_inside}
use Rattle.kin_world.proofs.world.World.can_insert.Goals as goal

pub returns-then-no-self-clause-whole : goal.returns-then-no-self-clause-whole
returns-then-no-self-clause-whole c = whole_inside c.self.inside c.self.view_is c.self.invariant c.requires

pub returns-else-no-self-clause-whole : goal.returns-else-no-self-clause-whole
returns-else-no-self-clause-whole c = whole_inside c.self.inside c.self.view_is c.self.invariant c.requires
