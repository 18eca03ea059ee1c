use Rattle.std.proofs.Common.{sym, ap, ◌∙◌, subst, ◌<◌, List, ℕ}
use Rattle.std.specs.Prelude.{slice_get}
use Rattle.std.proofs.lemmas.Option.{slice_get_within}
use Rattle.kin_rank.specs.Ranking.{AreDistinct}
use Rattle.kin_rank.specs.Orders.{IsPlaced}
use Rattle.kin_rank.proofs.Placing.{apart-remove, below-remove, remove_placed, member_below, found}
use Rattle.kin_rank.proofs.order.Order.take_out.Goals as goal

pub index-requires : goal.index-requires
index-requires c = subst (λ n. c.args.no < n) (sym c.args.self.now.places.ok.0) (member_below c.args.self.now.items.items c.args.self.now.places.items c.requires.placed c.args.no c.requires.member)

pub remove-requires : goal.remove-requires
remove-requires c =
    let at = found c.args.self.now.items.items c.args.self.now.places.items c.requires.placed c.args.no c.index.result.now c.requires.member c.index.ensures in
    subst (λ n. c.index.result.now < n) (sym c.args.self.now.items.ok.0) (slice_get_within c.args.self.now.items.items c.index.result.now c.args.no at)

pub number-requires-clause-apart : goal.number-requires-clause-apart
number-requires-clause-apart c = subst AreDistinct (sym (c.deref.ensures.value ∙ c.remove.ensures.items))
    (apart-remove c.args.self.now.items.items c.args.self.now.places.items c.requires.placed c.index.result.now)

pub number-requires-clause-within : goal.number-requires-clause-within
number-requires-clause-within c = λ p x h. below-remove c.args.self.now.items.items c.args.self.now.places.items c.requires.placed c.index.result.now p x
    (ap (λ (l : List ℕ). slice_get l p) (sym (c.deref.ensures.value ∙ c.remove.ensures.items)) ∙ h)

pub returns-clause-at : goal.returns-clause-at
returns-clause-at c = found c.args.self.now.items.items c.args.self.now.places.items c.requires.placed c.args.no c.index.result.now c.requires.member c.index.ensures

pub returns-clause-placed : goal.returns-clause-placed
returns-clause-placed c =
    let xs = c.args.self.now.items.items in
    let at = found xs c.args.self.now.places.items c.requires.placed c.args.no c.index.result.now c.requires.member c.index.ensures in
    let made = c.deref.ensures.value ∙ c.remove.ensures.items in
    subst (λ (l : List ℕ). IsPlaced l c.number.new.places.items) (sym c.remove.ensures.items)
    (remove_placed xs c.args.self.now.places.items c.requires.placed c.index.result.now c.number.new.places.items (slice_get_within xs c.index.result.now c.args.no at) c.number.ensures.length
    (λ q x l h. c.number.ensures.written q x l (ap (λ (m : List ℕ). slice_get m q) made ∙ h))
    (λ x none. c.number.ensures.kept x (λ q l h. none q l (ap (λ (m : List ℕ). slice_get m q) (sym made) ∙ h))))
