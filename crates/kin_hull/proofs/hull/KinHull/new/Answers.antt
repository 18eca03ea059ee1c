use Rattle.std.proofs.Common.{true, false, sym, ap, ◌∙◌, List, Bool, ◌^◌, rules}
use Rattle.kin_algebra.proofs.Places.{get_or-replicate_any}
use Rattle.kin_env.specs.Walks.{slot_in}
use Rattle.kin_hull.proofs.Vacancy.{paired_vacant, vacant_everywhere}
use Rattle.kin_hull.proofs.hull.KinHull.new.Goals as goal

pub invariant_of-result : goal.invariant_of-result
invariant_of-result c =
    let up = c.in_ok-new.ensures in
    let low = c.in_ok-new-2.ensures in
    λ w. paired_vacant c.in_ok-new.field-0 c.in_ok-new-2.field-0 c.args.size c.requires.high up.size low.size up.slots low.slots up.chains low.chains up.facts low.facts up.rest low.rest up.settled low.settled

pub returns-clause-settled : goal.returns-clause-settled
returns-clause-settled c =
    let up = c.in_ok-new.ensures in
    let low = c.in_ok-new-2.ensures in
    vacant_everywhere c.in_ok-new.field-0 c.in_ok-new-2.field-0 c.args.size c.requires.high up.size low.size up.slots low.slots up.chains low.chains up.facts low.facts up.rest low.rest up.settled low.settled true

pub returns-clause-members : goal.returns-clause-members
returns-clause-members c = record { members = λ i. sym (ap (λ (l : List Bool). slot_in l i) c.in_ok-new.ensures.slots ∙ get_or-replicate_any (2 ^ c.args.size) i false); whole = search rules }
