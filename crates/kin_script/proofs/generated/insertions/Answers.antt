use Rattle.std.proofs.Common.{rules, sym, ap, ◌∙◌, refl}
use Rattle.kin_script.specs.Generated.{state_after}
use Rattle.kin_script.proofs.GeneratedLaws.{four_more, one_more}
use Rattle.kin_script.proofs.generated.insertions.Goals as goal

pub loop-no-init : goal.loop-no-init
unfolding state_after
loop-no-init c = record {
  lines = c.new-lines.ensures;
  draws = refl;
}

pub loop-no-preserved : goal.loop-no-preserved
loop-no-preserved c = record {
  lines = rw (one_more c.args.seed c.loop-no.no) (search rules);
  draws = c.motion-m.ensures.state ∙ ap (state_after 4) c.loop-no.invariant.draws ∙ sym (four_more c.loop-no.no c.args.seed);
}
