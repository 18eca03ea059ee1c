use Rattle.std.proofs.Common.{◌≡◌, sym, ◌∙◌, subst, pos, true, false, ◌&&◌}
use lib.IntN.{neg_ℤ}
use Rattle.kin_motion.proofs.Members.{in_from_contains}
use Rattle.kin_range.specs.Sides.{Side, is_within, left_of, right_of, bottom_of, top_of, IsSpanOf, TurnsOnce}
use Rattle.kin_range.proofs.Spans.{lower_side, higher_side}
use Rattle.kin_range.proofs.span.spans_in.Goals as goal

pub places_between-x-requires-clause-live : goal.places_between-x-requires-clause-live
places_between-x-requires-clause-live g c = λ i h. sym (c.requires.x_order.all.same i) ∙ in_from_contains c.args.by_x.now i h

pub places_between-x-requires-clause-rises : goal.places_between-x-requires-clause-rises
places_between-x-requires-clause-rises g c =
    subst (λ (side : Side). TurnsOnce (is_within c.args.motions.now c.args.now.now side) false c.args.by_x.now) (sym c.left-left.ensures)
    (lower_side c.args.motions.now c.args.now.now c.recall_canonical.ensures (pos 1) (pos 0) (neg_ℤ c.args.rect.now.x1) c.args.by_x.now c.requires.x_order)

pub places_between-x-requires-clause-falls : goal.places_between-x-requires-clause-falls
places_between-x-requires-clause-falls g c =
    subst (λ (side : Side). TurnsOnce (is_within c.args.motions.now c.args.now.now side) true c.args.by_x.now) (sym c.right-right.ensures)
    (higher_side c.args.motions.now c.args.now.now c.recall_canonical.ensures (pos 1) (pos 0) c.args.rect.now.x2 c.args.by_x.now c.requires.x_order)

pub places_between-y-requires-clause-live : goal.places_between-y-requires-clause-live
places_between-y-requires-clause-live g c = λ i h. sym (c.requires.y_order.all.same i) ∙ in_from_contains c.args.by_y.now i h

pub places_between-y-requires-clause-rises : goal.places_between-y-requires-clause-rises
places_between-y-requires-clause-rises g c =
    subst (λ (side : Side). TurnsOnce (is_within c.args.motions.now c.args.now.now side) false c.args.by_y.now) (sym c.bottom-bottom.ensures)
    (lower_side c.args.motions.now c.args.now.now c.recall_canonical.ensures (pos 0) (pos 1) (neg_ℤ c.args.rect.now.y1) c.args.by_y.now c.requires.y_order)

pub places_between-y-requires-clause-falls : goal.places_between-y-requires-clause-falls
places_between-y-requires-clause-falls g c =
    subst (λ (side : Side). TurnsOnce (is_within c.args.motions.now c.args.now.now side) true c.args.by_y.now) (sym c.top-top.ensures)
    (higher_side c.args.motions.now c.args.now.now c.recall_canonical.ensures (pos 0) (pos 1) c.args.rect.now.y2 c.args.by_y.now c.requires.y_order)

pub returns-clause-x : goal.returns-clause-x
returns-clause-x g c =
    subst (λ (low : Side). IsSpanOf (λ i. is_within c.args.motions.now c.args.now.now low i && is_within c.args.motions.now c.args.now.now (right_of c.args.rect.now) i) c.args.by_x.now c.places_between-x.result) c.left-left.ensures
    (subst (λ (high : Side). IsSpanOf (λ i. is_within c.args.motions.now c.args.now.now c.left-left.result i && is_within c.args.motions.now c.args.now.now high i) c.args.by_x.now c.places_between-x.result) c.right-right.ensures c.places_between-x.ensures)

pub returns-clause-y : goal.returns-clause-y
returns-clause-y g c =
    subst (λ (low : Side). IsSpanOf (λ i. is_within c.args.motions.now c.args.now.now low i && is_within c.args.motions.now c.args.now.now (top_of c.args.rect.now) i) c.args.by_y.now c.places_between-y.result) c.bottom-bottom.ensures
    (subst (λ (high : Side). IsSpanOf (λ i. is_within c.args.motions.now c.args.now.now c.bottom-bottom.result i && is_within c.args.motions.now c.args.now.now high i) c.args.by_y.now c.places_between-y.result) c.top-top.ensures c.places_between-y.ensures)
