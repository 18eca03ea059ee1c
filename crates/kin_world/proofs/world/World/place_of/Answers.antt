use Rattle.kin_world.proofs.Vocabulary.{◌<◌, ◌^◌, arith, length, few_at_most}
use Rattle.kin_world.proofs.Inside.{sound_inside}
use Rattle.kin_world.proofs.world.World.place_of.Goals as goal

pub place_of-requires-clause-few : goal.place_of-requires-clause-few
place_of-requires-clause-few c =
    let sound = sound_inside c.self.inside c.self.view_is c.self.invariant c.requires.whole in
    let few = few_at_most c.self.inside.upkeep.keeps.items sound.in_order.fit.keepable.few in
    let short : length c.self.inside.upkeep.keeps.items < 2 ^ 32 = omega (arith, few) in
    rw c.deref.ensures.value short
