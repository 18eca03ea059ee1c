use Rattle.std.proofs.Common.{ℕ, sym, subst, set, ap, ◌∙◌, ◌++◌, [], ◌∷◌, Some, None, arith}
use Rattle.std.proofs.lemmas.Option.{slice_get_within}
use Rattle.kin_pointers.specs.Pointing.{AreMutual, lists_of}
use Rattle.kin_pointers.proofs.Held.{list_at, lists-set, lists_same, vacant_there, number_room, seen_set}
use Rattle.kin_pointers.proofs.Mutual.{pointed}
use Rattle.kin_pointers.proofs.pointers.Pointers.point.Goals as goal

pub index_mut-requires-2 : goal.index_mut-requires-2
index_mut-requires-2 c =
    let low = slice_get_within c.self.inside.held.items c.args.slot None (vacant_there c.self.inside.held.items _ c.args.slot c.args.self.now c.self.view_is c.requires.vacant) in
    grind (arith, low)

pub invariant_of-self : goal.invariant_of-self
invariant_of-self c =
    let low = number_room c.self.inside.held.items c.self.inside.lists.items c.args.target c.args.self.now c.self.view_is c.requires.target in
    subst (AreMutual c.self.inside.held.items) (sym (lists_same c.self.inside.lists.items c.args.target c.index_mut.result.now c.append.new.list low c.index_mut.ensures.value c.in_err-place.ensures.err)) c.self.invariant

pub invariant_of-self-2 : goal.invariant_of-self-2
invariant_of-self-2 c =
    let held = c.self.inside.held.items in
    let lists = c.self.inside.lists.items in
    let slots = c.index_mut.result.now.items in
    let low = number_room held lists c.args.target c.args.self.now c.self.view_is c.requires.target in
    let listed = list_at lists c.args.target c.index_mut.result.now low c.index_mut.ensures.value in
    let vacant = vacant_there held (lists_of lists) c.args.slot c.args.self.now c.self.view_is c.requires.vacant in
    let longer = lists-set lists c.args.target c.append.new.list ∙ ap (set (lists_of lists) c.args.target) c.in_ok-place.ensures.ok.1 in
    subst (AreMutual (set held c.args.slot (Some (record { target = c.args.target; place = c.in_ok-place.place })))) (sym longer)
    (subst (λ (place : ℕ). AreMutual (set held c.args.slot (Some (record { target = c.args.target; place = place }))) (set (lists_of lists) c.args.target (slots ++ c.args.slot ∷ []))) (sym c.in_ok-place.ensures.ok.0)
    (pointed held (lists_of lists) c.self.invariant c.args.slot c.args.target slots vacant listed))

pub returns-clause-ok : goal.returns-clause-ok
returns-clause-ok c = seen_set c.self.inside.held.items c.self.inside.lists.items c.args.slot c.args.target (Some (record { target = c.args.target; place = c.in_ok-place.place })) c.append.new.list c.args.self.now c.self.view_is
