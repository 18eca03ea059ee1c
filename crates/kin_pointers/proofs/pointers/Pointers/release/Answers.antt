use Rattle.std.proofs.Common.{sym, subst, Some, None, set, refl, arith}
use Rattle.kin_pointers.specs.Pointing.{AreMutual, lists_of}
use Rattle.kin_pointers.proofs.Held.{get_at, list_at, lists-set, seen_released, held_room, list_room, same_if_none}
use Rattle.kin_pointers.proofs.Mutual.{released, at_within, last_held, last_room}
use Rattle.kin_pointers.proofs.pointers.Pointers.release.Goals as goal

pub index_mut-requires : goal.index_mut-requires
index_mut-requires c =
    let here = get_at c.self.inside.held.items c.args.slot c.index.result.now (Some c.in-Some.pointer) (held_room c.self.inside.held.items _ c.args.slot c.args.self.now c.self.view_is c.requires) c.index.ensures c.in-Some.is in
    let l = c.self.invariant.forth c.args.slot c.in-Some.pointer here in
    let low = list_room c.self.inside.lists.items c.in-Some.pointer.target l.slots l.listed in
    grind (arith, low)

pub strike-moved-requires : goal.strike-moved-requires
strike-moved-requires c =
    let here = get_at c.self.inside.held.items c.args.slot c.index.result.now (Some c.in-Some.pointer) (held_room c.self.inside.held.items _ c.args.slot c.args.self.now c.self.view_is c.requires) c.index.ensures c.in-Some.is in
    let l = c.self.invariant.forth c.args.slot c.in-Some.pointer here in
    let listed = list_at c.self.inside.lists.items c.in-Some.pointer.target c.index_mut.result.now (list_room c.self.inside.lists.items c.in-Some.pointer.target l.slots l.listed) c.index_mut.ensures.value in
    at_within c.self.inside.held.items (lists_of c.self.inside.lists.items) c.self.invariant c.args.slot c.in-Some.pointer c.index_mut.result.now.items here listed

pub index_mut-requires-in-Some : goal.index_mut-requires-in-Some
index_mut-requires-in-Some c =
    let here = get_at c.self.inside.held.items c.args.slot c.index.result.now (Some c.in-Some.pointer) (held_room c.self.inside.held.items _ c.args.slot c.args.self.now c.self.view_is c.requires) c.index.ensures c.in-Some.is in
    let l = c.self.invariant.forth c.args.slot c.in-Some.pointer here in
    let listed = list_at c.self.inside.lists.items c.in-Some.pointer.target c.index_mut.result.now (list_room c.self.inside.lists.items c.in-Some.pointer.target l.slots l.listed) c.index_mut.ensures.value in
    let low = last_room c.self.inside.held.items (lists_of c.self.inside.lists.items) c.self.invariant c.args.slot c.in-Some.pointer.target c.in-Some.pointer.place c.strike-moved.result c.index_mut.result.now.items c.strike-moved.new.list.items here listed c.strike-moved.ensures in
    grind (arith, low)

pub invariant_of-self : goal.invariant_of-self
invariant_of-self c =
    let here = get_at c.self.inside.held.items c.args.slot c.index.result.now (Some c.in-Some.pointer) (held_room c.self.inside.held.items _ c.args.slot c.args.self.now c.self.view_is c.requires) c.index.ensures c.in-Some.is in
    let l = c.self.invariant.forth c.args.slot c.in-Some.pointer here in
    let listed = list_at c.self.inside.lists.items c.in-Some.pointer.target c.index_mut.result.now (list_room c.self.inside.lists.items c.in-Some.pointer.target l.slots l.listed) c.index_mut.ensures.value in
    subst (AreMutual (set (set c.self.inside.held.items c.strike-moved.result (Some c.in-Some.pointer)) c.args.slot None)) (sym (lists-set c.self.inside.lists.items c.in-Some.pointer.target c.strike-moved.new.list))
    (released c.self.inside.held.items (lists_of c.self.inside.lists.items) c.self.invariant c.args.slot c.in-Some.pointer.target c.in-Some.pointer.place c.strike-moved.result c.index_mut.result.now.items c.strike-moved.new.list.items here listed c.strike-moved.ensures)

pub returns-in-Some : goal.returns-in-Some
returns-in-Some c =
    let here = get_at c.self.inside.held.items c.args.slot c.index.result.now (Some c.in-Some.pointer) (held_room c.self.inside.held.items _ c.args.slot c.args.self.now c.self.view_is c.requires) c.index.ensures c.in-Some.is in
    let l = c.self.invariant.forth c.args.slot c.in-Some.pointer here in
    let listed = list_at c.self.inside.lists.items c.in-Some.pointer.target c.index_mut.result.now (list_room c.self.inside.lists.items c.in-Some.pointer.target l.slots l.listed) c.index_mut.ensures.value in
    seen_released c.self.inside.held.items c.self.inside.lists.items c.args.slot c.strike-moved.result c.in-Some.pointer.target c.in-Some.pointer _ c.strike-moved.new.list c.args.self.now c.self.view_is
    (last_held c.self.inside.held.items (lists_of c.self.inside.lists.items) c.self.invariant c.args.slot c.in-Some.pointer.target c.in-Some.pointer.place c.strike-moved.result c.index_mut.result.now.items c.strike-moved.new.list.items here listed c.strike-moved.ensures) refl

pub returns-in_default : goal.returns-in_default
returns-in_default c =
    same_if_none c.self.inside.held.items (lists_of c.self.inside.lists.items) c.args.slot c.args.self.now c.self.view_is
    (get_at c.self.inside.held.items c.args.slot c.index.result.now None (held_room c.self.inside.held.items _ c.args.slot c.args.self.now c.self.view_is c.requires) c.index.ensures c.in_default.is)
