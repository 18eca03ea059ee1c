use Rattle.std.proofs.Common.{rules, ◌≡◌, ◌++◌, ◌∷◌, [], ◌≤◌, ℕ, List, length, subst}
use Rattle.kin_pointers.specs.Ids.{IsIndexed}
use Rattle.kin_pointers.proofs.IdLaws.{popped}
use Rattle.kin_pointers.proofs.ids.Ids.pop.Goals as goal

pub invariant_of-self-2 : goal.invariant_of-self-2
invariant_of-self-2 c =
    let ids = c.pop.new.self.items in
    let known = c.self.inside.known in
    let least = c.min-self-inside.result in
    let all : c.self.inside.ids.items ≡ ids ++ c.in_ok-id.id ∷ [] = search rules in
    let below : least ≤ known = search rules in
    let within : least ≤ length ids = search rules in
    popped ids c.self.inside.places.items c.in_ok-id.id known least (subst (λ (xs : List ℕ). IsIndexed xs c.self.inside.places.items known) all c.self.invariant) below within
