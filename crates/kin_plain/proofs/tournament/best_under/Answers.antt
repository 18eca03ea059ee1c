use Rattle.std.proofs.Common.{arith, ap, sym, ◌∙◌, le_refl}
use Rattle.kin_motion.specs.Tournaments.{best_of}
use Rattle.kin_plain.proofs.UnderRanges.{none_after, none_before, one_more}
use Rattle.kin_plain.proofs.tournament.best_under.Goals as goal

pub loop-left-init : goal.loop-left-init
loop-left-init g c = record {
  within = le_refl c.slots_under-first.result.1;
  best = ap (best_of (g.O.Signs.scene c.args.now.now) (g.K.Contest.key c.args.contest.now))
      (sym (none_after c.args.size c.args.node c.args.slots.now c.slots_under-first.result.0 c.slots_under-first.result.1 c.requires.count c.slots_under-first.ensures.under));
  may = tt;
}

pub loop-left-preserved-in-Some : goal.loop-left-preserved-in-Some
loop-left-preserved-in-Some g c =
    let low = c.loop-left-test.true in
    let until = c.loop-left.invariant.within in
    let end = c.slots_under-first.ensures.end in
    let count = c.requires.count in
    record {
      within = omega (arith, until);
      best =
          one_more c.args.size c.args.node c.args.slots.now c.slots_under-first.result.0 c.slots_under-first.result.1 count c.slots_under-first.ensures.under (g.O.Signs.scene c.args.now.now)
          (g.K.Contest.key c.args.contest.now)
          c.loop-left.left _ c.in-Some.item c.loop-left.best c.better_of-best.result low until (omega (arith, until, end, count)) c.in-Some.is c.loop-left.invariant.best
          c.better_of-best.ensures.value;
      may = c.better_of-best.ensures.may;
    }

pub returns-clause-value : goal.returns-clause-value
returns-clause-value g c =
    let low = c.loop-left-test.false in
    c.loop-left.invariant.best
    ∙ ap (best_of (g.O.Signs.scene c.args.now.now) (g.K.Contest.key c.args.contest.now))
    (sym (none_before c.args.size c.args.node c.args.slots.now c.slots_under-first.result.0 c.slots_under-first.result.1 c.requires.count c.slots_under-first.ensures.under c.loop-left.left
    (omega (arith, low))))
