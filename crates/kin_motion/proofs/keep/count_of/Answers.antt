use Rattle.std.proofs.Common.{ap, ◌∙◌, sym, arith, ◌+◌}
use Rattle.std.specs.Prelude.{nat_eq}
use Rattle.std.proofs.lemmas.List.{take_all}
use Rattle.std.proofs.lemmas.List.Sums.{count_by_more_yes, count_by_more_no}
use Rattle.kin_motion.specs.declared.keep.Keep.{Keep}
use Rattle.kin_motion.specs.Keeps.{group, count_of}
use Rattle.kin_motion.proofs.KeepLaws.{is_of, is_not_of}
use Rattle.kin_motion.proofs.keep.count_of.Goals as goal
use Rattle.kin_motion.proofs.keep.count_of.Goals.{then-group-of, else-group-of}

pub loop-keep-preserved : goal.loop-keep-preserved
loop-keep-preserved c =
    let counted = c.loop-keep.invariant.counted in
    let within = c.loop-keep.invariant.within in
    let low = c.loop-keep-test.true in
    let of = λ (keep : Keep). nat_eq (group keep) c.args.of in
    elim c.if-group-of.branch [
      | then-group-of w ↦ record {
        counted = w.count-is ∙ ap (λ n. n + 1) counted ∙ sym (count_by_more_yes of c.args.keeps.now c.loop-keep.keep-index _ low (is_of _ _ (sym c.group.ensures.value ∙ w.if-group-of.true)));
        within = let e = w.count-is in omega (arith, e, within);
      }
      | else-group-of w ↦ record {
        counted = w.count-is ∙ counted ∙ sym (count_by_more_no of c.args.keeps.now c.loop-keep.keep-index _ low (is_not_of _ _ (λ e. w.if-group-of.false (c.group.ensures.value ∙ e))));
        within = let e = w.count-is in omega (arith, e, within);
      }
    ]

pub returns : goal.returns
returns c = c.loop-keep.invariant.counted ∙ ap (count_of c.args.of) (take_all _ c.args.keeps.now (omega (arith, c.loop-keep-test.false)))
