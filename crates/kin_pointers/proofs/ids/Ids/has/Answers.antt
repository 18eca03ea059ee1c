use Rattle.std.proofs.Common.{rules, ◌≡◌, ℕ, List, length, sym, subst, ◌∙◌}
use Rattle.kin_pointers.specs.Ids.{IsIndexed, HaveRoom}
use Rattle.kin_pointers.proofs.IdLaws.{all_indexed}
use Rattle.kin_pointers.proofs.ids.Ids.has.Goals as goal

pub learn-requires-clause-room : goal.learn-requires-clause-room
learn-requires-clause-room c = subst (λ (xs : List ℕ). HaveRoom xs c.self.inside.places.items) (sym c.deref.ensures.value) c.self.invariant.room

pub is_there-requires-clause-room : goal.is_there-requires-clause-room
is_there-requires-clause-room c =
    let same = c.deref.ensures.value ∙ sym c.deref-2.ensures.value in
    subst (HaveRoom c.deref-2.result.now) (sym c.deref-3.ensures.value)
    (subst (λ (xs : List ℕ). HaveRoom xs c.learn.new.places.items) same c.learn.ensures.room)

pub invariant_of-self : goal.invariant_of-self
invariant_of-self c =
    let all : length c.self.inside.ids.items ≡ c.len-self-inside.result = search rules in
    subst (IsIndexed c.self.inside.ids.items c.learn.new.places.items) all
    (all_indexed c.self.inside.ids.items c.self.inside.places.items c.learn.new.places.items c.self.inside.known c.self.invariant c.deref.result.now c.deref.ensures.value c.learn.ensures.placed c.learn.ensures.room)
