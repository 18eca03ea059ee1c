use Rattle.std.proofs.Common.{◌≡◌, sym, ◌∙◌, subst, arith, ◌<◌, List, length, ℕ}
use Rattle.kin_rank.specs.Orders.{IsPlaced}
use Rattle.kin_rank.proofs.Members.{few_below}
use Rattle.kin_rank.proofs.Placing.{fresh_placed}
use Rattle.kin_rank.proofs.order.Order.from_slice.Goals as goal

pub number-requires-clause-small : goal.number-requires-clause-small
number-requires-clause-small c = let f = few_below c.args.items.now c.args.room c.requires.apart c.requires.within in let s = c.requires.small in omega arith

pub returns-clause-placed : goal.returns-clause-placed
returns-clause-placed c =
    let long : length c.number.new.places.items ≡ c.args.room = c.number.ensures.length ∙ sym c.in_ok-places.places.ok.0 ∙ c.in_ok-places.ensures.len in
    subst (λ (l : List ℕ). IsPlaced l c.number.new.places.items) (sym c.in_ok-from_slice.ensures.items)
    (fresh_placed c.args.items.now c.number.new.places.items c.requires.apart (λ p x h. subst (λ n. x < n) (sym long) (c.requires.within p x h)) c.number.ensures.written)
