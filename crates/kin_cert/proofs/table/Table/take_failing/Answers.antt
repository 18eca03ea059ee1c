use Rattle.std.proofs.Common.{◌≡◌, ℕ, ◌+◌, ◌*◌, length, sym, subst}
use Rattle.std.proofs.lemmas.List.Sorted.{length_permutation}
use Rattle.kin_cert.specs.Cost.{TakesAtMost}
use Rattle.kin_cert.proofs.Costs.{few_given}
use Rattle.kin_cert.proofs.Dues.{due-least}
use Rattle.kin_cert.proofs.Taking.{has-taken}
use Rattle.kin_cert.proofs.table.Table.take_failing.Goals as goal

pub unreachable-requires : goal.unreachable-requires
unreachable-requires g c =
    let m = c.requires.failing.0 in
    let l = c.requires.failing.1.some in
    c.in_default.ensures l.0 m l.1 (record { fails = l.2; waits_not = c.requires.none_waits l.0 l.1 })

pub returns-clause-taken : goal.returns-clause-taken
returns-clause-taken g c =
    has-taken c.in-Some.moment c.args.self.now.live c.give_all.new.self.live c.give_all.new.taken.items
    (due-least c.args.self.now.live c.in-Some.moment c.requires.none_waits c.in-Some.ensures) (rw c.new.ensures at c.in_ok-give_all.ensures.given) (rw c.new.ensures at c.in_ok-give_all.ensures.all) c.give_all.ensures.count
    c.put_in_order.new.taken.items c.put_in_order.ensures.same c.put_in_order.ensures.sorted

pub returns-clause-cost : goal.returns-clause-cost
returns-clause-cost g c =
    let same : length c.give_all.new.taken.items ≡ length c.put_in_order.new.taken.items = sym (length_permutation c.give_all.new.taken.items c.put_in_order.new.taken.items c.put_in_order.ensures.same) in
    subst (λ (n : ℕ). TakesAtMost (length c.args.self.now.live) (λ r. n * (r + 1) + 1) c.args.steps.now c.give_all.new.steps) same (few_given _ _ _ _ c.in_ok-give_all.ensures.cost)
