use Rattle.kin_check.proofs.Checking.{outcome, verdict_is}
use Rattle.kin_check.specs.Checked.{IsVerdict}
use Rattle.kin_check.proofs.run.run_check.Goals as goal

pub returns-in-Ok-check-clause-checks : goal.returns-in-Ok-check-clause-checks
returns-in-Ok-check-clause-checks g c =
    let w = c.in-Ok.ensures.whole in
    let t = c.tell.ensures.writes in
    let ok = c.in-Ok-check.ensures in
    let is : IsVerdict c.in-Ok.input.items c.in-Ok-check.verdict = rw (← c.deref.ensures.value) (verdict_is c.deref.result.now c.in-Ok-check.verdict ok.yes ok.unsplit ok.no) in
    record {
      input = c.in-Ok.input.items;
      written = t.0;
      taken = w.taken;
      appended = t.1;
      outcome = outcome _ _ c.in-Ok.input.items c.in-Ok-check.verdict c.tell.result t.0 (record { end = w.end; nothing_left = w.nothing_left; within = w.within }) is t.2;
    }
