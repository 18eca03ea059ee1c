use Rattle.std.proofs.Common.{◌-◌, length}
use Rattle.kin_pointers.specs.Ids.{ArePlaced, HaveRoom}
use Rattle.kin_pointers.proofs.ids.learn.Given as goal

abbrev pub invariant-places : goal.invariant-places
invariant-places l = ArePlaced l.place l.ids l.places.items × HaveRoom l.ids l.places.items

abbrev pub decreases-places : goal.decreases-places
decreases-places l = length l.ids - l.place
