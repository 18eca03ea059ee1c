use Rattle.std.proofs.Common.{ℕ, sym, subst, List}
use Rattle.kin_pointers.specs.Pointing.{Pointing, AreSlotsOf, lists_of, pointing}
use Rattle.kin_pointers.proofs.Held.{list_at, number_room}
use Rattle.kin_pointers.proofs.Mutual.{exact_list}
use Rattle.kin_pointers.proofs.pointers.Pointers.slots_of.Goals as goal

pub returns : goal.returns
returns c =
    let held = c.self.inside.held.items in
    let lists = c.self.inside.lists.items in
    let low = number_room held lists c.args.number c.args.self.now c.self.view_is c.requires in
    let exact : AreSlotsOf (pointing held (lists_of lists)) c.args.number c.index.result.now.items = exact_list held (lists_of lists) c.self.invariant c.args.number c.index.result.now.items (list_at lists c.args.number c.index.result.now low c.index.ensures) in
    subst (λ (xs : List ℕ). AreSlotsOf c.args.self.now c.args.number xs) (sym c.deref.ensures.value)
    (subst (λ (p : Pointing). AreSlotsOf p c.args.number c.index.result.now.items) c.self.view_is exact)
