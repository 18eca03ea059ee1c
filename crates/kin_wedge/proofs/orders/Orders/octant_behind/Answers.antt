use Rattle.std.proofs.Common.{◌≡◌, sym, ap, ◌∙◌, subst, arith, true}
use Rattle.std.proofs.lemmas.Option.{same_Some}
use Rattle.kin_motion.specs.Octants.{Octant}
use Rattle.kin_wedge.specs.Rows.{stands_after}
use Rattle.kin_wedge.specs.Seen.{octant_seen, reading_seen, rows_of}
use Rattle.kin_wedge.specs.Sides.{bounded_first, bounded_second}
use Rattle.kin_wedge.proofs.Passing.{in_each, in_second, told_first, told_second, told_none}
use Rattle.kin_wedge.proofs.Places.{first_is_in, second_is_in}
use Rattle.kin_wedge.proofs.orders.Orders.octant_behind.Goals as goal

pub member_follows-requires-clause-p : goal.member_follows-requires-clause-p
member_follows-requires-clause-p c =
    in_each (rows_of c.args.self.now.lists.items) c.requires.alike c.args.part c.args.apex (let l = c.requires.part in omega (arith, l)) (first_is_in _ c.args.apex c.args.no c.requires.behind) _ c.orders_of.ensures.parts.second

pub member_follows-requires-clause-q : goal.member_follows-requires-clause-q
member_follows-requires-clause-q c =
    in_each (rows_of c.args.self.now.lists.items) c.requires.alike c.args.part c.args.no (let l = c.requires.part in omega (arith, l)) (second_is_in _ c.args.apex c.args.no c.requires.behind) _ c.orders_of.ensures.parts.second

pub member_follows-requires-else-member_follows-clause-p : goal.member_follows-requires-else-member_follows-clause-p
member_follows-requires-else-member_follows-clause-p c =
    in_each (rows_of c.args.self.now.lists.items) c.requires.alike c.args.part c.args.apex (let l = c.requires.part in omega (arith, l)) (first_is_in _ c.args.apex c.args.no c.requires.behind) _ c.orders_of-else-member_follows.ensures.parts.first

pub member_follows-requires-else-member_follows-clause-q : goal.member_follows-requires-else-member_follows-clause-q
member_follows-requires-else-member_follows-clause-q c =
    in_each (rows_of c.args.self.now.lists.items) c.requires.alike c.args.part c.args.no (let l = c.requires.part in omega (arith, l)) (second_is_in _ c.args.apex c.args.no c.requires.behind) _ c.orders_of-else-member_follows.ensures.parts.first

pub returns-then-member_follows-clause-told : goal.returns-then-member_follows-clause-told
returns-then-member_follows-clause-told c =
    told_first (rows_of c.args.self.now.lists.items) c.requires.rows c.args.part c.args.apex c.args.no c.requires.part c.requires.behind c.requires.parted c.bounded_by-first.result.0 (octant_seen c.orders_of.result)
    (c.bounded_by-first.ensures.first ∙ ap (λ r. bounded_first (reading_seen r)) c.forward.ensures) c.orders_of.ensures.octant (sym c.member_follows.ensures ∙ c.if-member_follows.true)

pub returns-then-member_follows-2-clause-told : goal.returns-then-member_follows-2-clause-told
returns-then-member_follows-2-clause-told c =
    told_second (rows_of c.args.self.now.lists.items) c.requires.rows c.args.part c.args.apex c.args.no c.requires.part c.requires.behind c.requires.parted c.bounded_by-first.result.0 (octant_seen c.orders_of.result)
    (c.bounded_by-first.ensures.first ∙ ap (λ r. bounded_first (reading_seen r)) c.forward.ensures) c.orders_of.ensures.octant c.bounded_by-first.result.1 (octant_seen c.orders_of-else-member_follows.result)
    (c.bounded_by-first.ensures.second ∙ ap (λ r. bounded_second (reading_seen r)) c.forward.ensures) c.orders_of-else-member_follows.ensures.octant (sym c.member_follows.ensures ∙ c.if-member_follows.false)

pub returns-else-member_follows-2-clause-told : goal.returns-else-member_follows-2-clause-told
returns-else-member_follows-2-clause-told c =
    told_none (rows_of c.args.self.now.lists.items) c.requires.rows c.args.part c.args.apex c.args.no c.requires.part c.requires.behind c.requires.parted c.bounded_by-first.result.0 (octant_seen c.orders_of.result)
    (c.bounded_by-first.ensures.first ∙ ap (λ r. bounded_first (reading_seen r)) c.forward.ensures) c.orders_of.ensures.octant c.bounded_by-first.result.1 (octant_seen c.orders_of-else-member_follows.result)
    (c.bounded_by-first.ensures.second ∙ ap (λ r. bounded_second (reading_seen r)) c.forward.ensures) c.orders_of-else-member_follows.ensures.octant (sym c.member_follows.ensures ∙ c.if-member_follows.false) (sym c.member_follows-else-member_follows.ensures ∙ c.if-member_follows-2.false)

pub returns-then-member_follows-2-clause-within : goal.returns-then-member_follows-2-clause-within
returns-then-member_follows-2-clause-within c = λ o e.
    let rows = rows_of c.args.self.now.lists.items in
    in_second rows c.requires.rows c.args.part c.args.apex c.args.no c.requires.part c.requires.behind c.bounded_by-first.result.1 o (c.bounded_by-first.ensures.second ∙ ap (λ r. bounded_second (reading_seen r)) c.forward.ensures) e
    (subst (λ (x : Octant). stands_after rows x.first c.args.apex c.args.no ≡ true) (same_Some (octant_seen c.orders_of-else-member_follows.result) o (sym c.orders_of-else-member_follows.ensures.octant ∙ e)) (sym c.member_follows-else-member_follows.ensures ∙ c.if-member_follows-2.true))
