use Rattle.std.proofs.Common.{◌≡◌, sym, ◌∙◌, true, false}
use Rattle.kin_nearest.proofs.Stepping.{next_live, lowest_none, lowest_above, lowest_elsewhere, step_down}
use Rattle.kin_nearest.proofs.walk.next_down.Goals as goal

pub returns-in_default-clause-next : goal.returns-in_default-clause-next
returns-in_default-clause-next g c =
    lowest_none (g.O.Signs.scene c.args.now.now) c.requires.real c.args.wedges.now c.requires.settled c.args.no c.args.from c.requires.live (sym c.in_default.is ∙ c.candidate.ensures.told)

pub returns-then-next-no-clause-next : goal.returns-then-next-no-clause-next
returns-then-next-no-clause-next g c =
    lowest_above (g.O.Signs.scene c.args.now.now) c.requires.real c.args.wedges.now c.requires.settled c.args.no c.args.from c.requires.live c.in-Some.next (sym c.in-Some.is ∙ c.candidate.ensures.told) c.if-next-no.true

pub are_at_one_place-requires-clause-second : goal.are_at_one_place-requires-clause-second
are_at_one_place-requires-clause-second g c =
    next_live (g.O.Signs.scene c.args.now.now) c.requires.real c.args.wedges.now c.requires.settled c.args.no c.args.from c.requires.live c.in-Some.next (sym c.in-Some.is ∙ c.candidate.ensures.told)

pub returns-then-are_at_one_place-clause-next : goal.returns-then-are_at_one_place-clause-next
returns-then-are_at_one_place-clause-next g c =
    step_down (g.O.Signs.scene c.args.now.now) c.requires.real c.args.wedges.now c.requires.settled c.args.no c.args.from c.requires.live c.in-Some.next (sym c.in-Some.is ∙ c.candidate.ensures.told) c.if-next-no.false
    (c.are_at_one_place.ensures.value.0 c.if-are_at_one_place.true)

pub returns-else-are_at_one_place-clause-next : goal.returns-else-are_at_one_place-clause-next
returns-else-are_at_one_place-clause-next g c =
    lowest_elsewhere (g.O.Signs.scene c.args.now.now) c.requires.real c.args.wedges.now c.requires.settled c.args.no c.args.from c.requires.live c.in-Some.next (sym c.in-Some.is ∙ c.candidate.ensures.told)
    (λ here. let clash : true ≡ false = sym (c.are_at_one_place.ensures.value.1 here) ∙ c.if-are_at_one_place.false in cc)
