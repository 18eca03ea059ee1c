use Rattle.std.proofs.Common.{sym, ap, subst, ◌≤◌}
use Rattle.kin_wedge.specs.Wedging.{Wedging}
use Rattle.kin_closest.proofs.Vacancy.{none_made, joined_made, vacant_settled}
use Rattle.kin_closest.proofs.closest.KinClosest.new.Goals as goal

pub invariant_of-result : goal.invariant_of-result
invariant_of-result c =
    let wedges = c.in_ok-new.field-0 in
    let pairs = c.in_ok-new-2.field-0 in
    let are = none_made c.args.size wedges pairs c.in_ok-new.ensures c.in_ok-new-2.ensures.size c.in_ok-new-2.ensures.slots c.in_ok-new-2.ensures.facts c.in_ok-new-2.ensures.settled in
    λ w. joined_made c.args.size wedges pairs are (ap (λ (k : Wedging). k.mark) c.in_ok-new.ensures) (subst (λ (k : Wedging). k.size ≤ 12) (sym c.in_ok-new.ensures) c.requires.high) c.in_ok-new-2.ensures.rest c.in_ok-new-2.ensures.size c.in_ok-new-2.ensures.marked

pub returns-clause-settled : goal.returns-clause-settled
returns-clause-settled c =
    let wedges = c.in_ok-new.field-0 in
    let pairs = c.in_ok-new-2.field-0 in
    let are = none_made c.args.size wedges pairs c.in_ok-new.ensures c.in_ok-new-2.ensures.size c.in_ok-new-2.ensures.slots c.in_ok-new-2.ensures.facts c.in_ok-new-2.ensures.settled in
    λ s none. vacant_settled _ are s none
