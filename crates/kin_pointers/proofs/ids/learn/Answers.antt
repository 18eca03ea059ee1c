use Rattle.std.proofs.Common.{◌<◌, length, arith}
use Rattle.std.specs.Prelude.{slice_index_or}
use Rattle.kin_algebra.proofs.Members.{contains_from_get}
use Rattle.kin_pointers.proofs.IdLaws.{read_there, learnt}
use Rattle.kin_pointers.proofs.ids.learn.Goals as goal

pub index_mut-requires : goal.index_mut-requires
index_mut-requires c =
    let ids = c.args.ids.now in
    let low : c.places.place < length ids = grind (arith, c.places-test.true) in
    let id = slice_index_or ids c.places.place 0 in
    let room = c.places.invariant.1 id (contains_from_get ids c.places.place id (read_there ids c.places.place low)) in
    grind (arith, room)

pub places-preserved : goal.places-preserved
places-preserved c = learnt c.args.ids.now c.places.places.items c.places.place c.requires.once c.places.invariant.1 c.places.invariant.0 (grind (arith, c.places-test.true))
