use Rattle.std.proofs.Common.{rules, ◌≡◌, ◌++◌, ◌∷◌, [], ◌≤◌, ◌^◌, ℕ, List, length, sym, subst, ap, ◌∙◌}
use Rattle.std.specs.Prelude.{Contains}
use Rattle.kin_pointers.specs.Ids.{IsIndexed}
use Rattle.kin_pointers.proofs.IdLaws.{covered, put}
use Rattle.kin_pointers.proofs.ids.Ids.insert.Goals as goal

pub invariant_of-self : goal.invariant_of-self
invariant_of-self c = covered c.self.inside.ids.items c.self.inside.places.items c.self.inside.known c.self.invariant c.cover.new.places.items c.cover.ensures.more c.cover.ensures.same

pub invariant_of-self-in_err-append : goal.invariant_of-self-in_err-append
invariant_of-self-in_err-append c =
    subst (λ (xs : List ℕ). IsIndexed xs c.cover.new.places.items c.self.inside.known) (sym c.in_err-append.ensures.err)
    (covered c.self.inside.ids.items c.self.inside.places.items c.self.inside.known c.self.invariant c.cover.new.places.items c.cover.ensures.more c.cover.ensures.same)

pub invariant_of-self-2 : goal.invariant_of-self-2
invariant_of-self-2 c =
    let ids = c.self.inside.ids.items in
    let more = c.cover.new.places.items in
    let free = λ (h : Contains ids c.args.id). c.requires (subst (λ (xs : List ℕ). Contains xs c.args.id) c.self.view_is h) in
    let same : c.args.id ≡ c.in-Ok.short = search rules in
    let items : c.append.new.list.items ≡ ids ++ c.args.id ∷ [] = c.in_ok-append.ensures.ok.1 ∙ ap (λ (x : ℕ). ids ++ x ∷ []) (sym same) in
    let few : length (ids ++ c.args.id ∷ []) ≤ 2 ^ 32 = subst (λ (xs : List ℕ). length xs ≤ 2 ^ 32) items c.in_ok-append.ensures.few in
    subst (λ (xs : List ℕ). IsIndexed xs more c.self.inside.known) (sym items)
    (put ids more c.self.inside.known (covered ids c.self.inside.places.items c.self.inside.known c.self.invariant more c.cover.ensures.more c.cover.ensures.same) c.args.id free c.in_ok-cover.ensures.there few)
