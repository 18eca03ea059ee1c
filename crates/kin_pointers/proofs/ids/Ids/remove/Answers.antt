use Rattle.std.proofs.Common.{rules, ◌≡◌, ℕ, List, length, set, length-set, sym, subst, arith}
use Rattle.std.specs.Prelude.{Contains}
use Rattle.std.proofs.lemmas.Option.{slice_get_within}
use Rattle.kin_pointers.specs.Ids.{HaveRoom, IsIndexed, IsWithout}
use Rattle.kin_pointers.proofs.IdLaws.{all_indexed, read_at, last_room, struck_indexed, without}
use Rattle.kin_pointers.proofs.ids.Ids.remove.Goals as goal

pub learn-requires-clause-room : goal.learn-requires-clause-room
learn-requires-clause-room c = subst (λ (xs : List ℕ). HaveRoom xs c.self.inside.places.items) (sym c.deref.ensures.value) c.self.invariant.room

pub index-place-requires : goal.index-place-requires
index-place-requires c =
    let all = all_indexed c.self.inside.ids.items c.self.inside.places.items c.learn.new.places.items c.self.inside.known c.self.invariant c.deref.result.now c.deref.ensures.value c.learn.ensures.placed c.learn.ensures.room in
    let there = subst (λ (xs : List ℕ). Contains xs c.args.id) (sym c.self.view_is) c.requires in
    let low = all.room c.args.id there in
    grind (arith, low)

pub strike-moved-requires : goal.strike-moved-requires
strike-moved-requires c =
    let ids = c.self.inside.ids.items in
    let places = c.learn.new.places.items in
    let all = all_indexed ids c.self.inside.places.items places c.self.inside.known c.self.invariant c.deref.result.now c.deref.ensures.value c.learn.ensures.placed c.learn.ensures.room in
    let there = subst (λ (xs : List ℕ). Contains xs c.args.id) (sym c.self.view_is) c.requires in
    slice_get_within ids c.index-place.result.now c.args.id (read_at ids places all c.args.id c.index-place.result.now there c.index-place.ensures)

pub index_mut-requires : goal.index_mut-requires
index_mut-requires c =
    let ids = c.self.inside.ids.items in
    let places = c.learn.new.places.items in
    let all = all_indexed ids c.self.inside.places.items places c.self.inside.known c.self.invariant c.deref.result.now c.deref.ensures.value c.learn.ensures.placed c.learn.ensures.room in
    let there = subst (λ (xs : List ℕ). Contains xs c.args.id) (sym c.self.view_is) c.requires in
    let at = read_at ids places all c.args.id c.index-place.result.now there c.index-place.ensures in
    let room = last_room ids places all.placed c.args.id c.index-place.result.now c.strike-moved.result c.strike-moved.new.list.items at c.strike-moved.ensures in
    grind (arith, room)

pub invariant_of-self : goal.invariant_of-self
invariant_of-self c =
    let ids = c.self.inside.ids.items in
    let places = c.learn.new.places.items in
    let left = c.strike-moved.new.list.items in
    let all = all_indexed ids c.self.inside.places.items places c.self.inside.known c.self.invariant c.deref.result.now c.deref.ensures.value c.learn.ensures.placed c.learn.ensures.room in
    let there = subst (λ (xs : List ℕ). Contains xs c.args.id) (sym c.self.view_is) c.requires in
    let at = read_at ids places all c.args.id c.index-place.result.now there c.index-place.ensures in
    let known : length left ≡ c.len-self-inside.result = search rules in
    subst (IsIndexed left (set places c.strike-moved.result c.index-place.result.now)) known
    (struck_indexed ids places all.placed c.args.id c.index-place.result.now c.strike-moved.result left at c.strike-moved.ensures all.few all.room (length-set places c.strike-moved.result c.index-place.result.now))

pub returns : goal.returns
returns c =
    let ids = c.self.inside.ids.items in
    let places = c.learn.new.places.items in
    let all = all_indexed ids c.self.inside.places.items places c.self.inside.known c.self.invariant c.deref.result.now c.deref.ensures.value c.learn.ensures.placed c.learn.ensures.room in
    let there = subst (λ (xs : List ℕ). Contains xs c.args.id) (sym c.self.view_is) c.requires in
    let at = read_at ids places all c.args.id c.index-place.result.now there c.index-place.ensures in
    subst (λ (xs : List ℕ). IsWithout xs c.strike-moved.new.list.items c.args.id) c.self.view_is
    (without ids places all.placed c.args.id c.index-place.result.now c.strike-moved.result c.strike-moved.new.list.items at c.strike-moved.ensures)
