use Rattle.std.proofs.Common.{arith, ap, sym, ◌∙◌, ◌++◌, List, subst}
use Rattle.std.specs.Prelude.{min, unwrap_or}
use Rattle.std.proofs.lemmas.List.{take_all}
use Rattle.kin_motion.specs.Plans.{Leg, Plan}
use Rattle.kin_check.specs.Beginnings.{IsSoonest}
use Rattle.kin_check.proofs.Legs.{fair_item, is_ahead, lesser_of, more_ahead, more_begun, not_ahead}
use Rattle.kin_check.proofs.plan.Plan.soonest.Goals as goal
use Rattle.kin_check.proofs.plan.Plan.soonest.Goals.{then-not-is_begun, else-not-is_begun}

pub loop-leg-preserved : goal.loop-leg-preserved
loop-leg-preserved c = λ passed found.
    let low = c.loop-leg-test.true in
    let m = c.args.moment.now in
    let i = c.loop-leg.leg-index in
    let legs = c.deref-leg-items.result.now in
    let l = c.leg-item.result in
    let fair = fair_item c.args.self.now legs i l (omega (arith, low)) c.leg-item.is (c.deref-leg-items.ensures.value ∙ ap (λ (p : Plan). p.legs) c.self.view_is) c.requires in
    let so_far = c.loop-leg.invariant passed found in
    elim c.if-not-is_begun.branch [
      | then-not-is_begun w ↦
          more_ahead m passed legs i l c.loop-leg.soonest w.min.result c.if-not-is_begun.soonest (omega (arith, low)) c.leg-item.is
          (is_ahead l m fair c.recall_canonical.ensures (sym c.is_begun.ensures ∙ w.if-not-is_begun.true))
          (lesser_of c.loop-leg.soonest l.from w.unwrap_or.result w.min.result (w.unwrap_or.ensures ∙ ap (λ (k : Leg). unwrap_or c.loop-leg.soonest k.from) c.leg.view_is)
          (w.min.ensures ∙ ap (λ (k : Leg). min k.from w.unwrap_or.result) c.leg.view_is)) w.soonest-is so_far
      | else-not-is_begun w ↦
          more_begun m passed legs i l c.loop-leg.soonest c.if-not-is_begun.soonest (omega (arith, low)) c.leg-item.is
          (not_ahead l m fair.soon c.recall_canonical.ensures (sym c.is_begun.ensures ∙ w.if-not-is_begun.false)) w.soonest-is so_far
    ]

pub returns : goal.returns
returns c = λ passed found.
    let high = c.loop-leg-test.false in
    let all = take_all c.loop-leg.leg-index c.deref-leg-items.result.now (omega (arith, high)) ∙ c.deref-leg-items.ensures.value ∙ ap (λ (p : Plan). p.legs) c.self.view_is in
    subst (λ (ls : List Leg). IsSoonest c.args.moment.now (passed ++ ls) c.loop-leg.soonest) all (c.loop-leg.invariant passed found)
