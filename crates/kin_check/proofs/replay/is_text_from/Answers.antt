use Rattle.std.proofs.Common.{arith, subst, Bool, Ok, ◌∙◌}
use Rattle.std.proofs.lemmas.Result.{IfOk-weaker}
use Rattle.kin_script.specs.Deeds.{deed_of}
use Rattle.kin_status.proofs.Determined.{stays}
use Rattle.kin_check.specs.Performed.{Performs}
use Rattle.kin_check.proofs.Claiming.{ends_here, further_back, further_forth}
use Rattle.kin_check.proofs.replay.is_text_from.Goals as goal

pub returns-in-Err-Refused : goal.returns-in-Err-Refused
returns-in-Err-Refused g c =
    let low = c.loop-line-test.true in
    let out = rw c.in-Err-Refused.field-0-is at c.in-Err-Refused.ensures.performs in
    IfOk-weaker c.ends_refused.result _ _
    (λ is h. ends_here c.args.state.now c.loop-line.state c.args.lines.now c.args.claim.now c.loop-line.claim c.loop-line.line-index c.loop-line.invariant.forth c.loop-line.invariant.back
    c.loop-line-item.result (omega (arith, low)) c.loop-line-item.is c.in-Err-Refused.refusal out.0 c.perform.new.claim out.1 is h)
    (rw c.in-Err-Refused.refusal-is at c.ends_refused.ensures)

pub loop-line-preserved : goal.loop-line-preserved
loop-line-preserved g c =
    let low = c.loop-line-test.true in
    let t = c.loop-line.state in
    let l = c.loop-line-item.result in
    let i = c.loop-line.line-index in
    let inv = c.loop-line.invariant in
    let p = subst (λ (b : Bool). Performs t (deed_of l.1) (Ok b) c.loop-line.claim c.perform.new.claim c.perform.new.state) c.in-Ok-true.field-0-test c.in-Ok-true.ensures.performs in
    record {
      sound = c.in-Ok-true.ensures.sound;
      size = (stays t (deed_of l.1) c.perform.new.state inv.sound.canonical p.1.leads).0 ∙ inv.size;
      forth =
          further_forth c.args.state.now t c.args.lines.now c.args.claim.now c.loop-line.claim i inv.forth inv.back l (omega (arith, low)) c.loop-line-item.is inv.sound.canonical p.0
          c.perform.new.claim c.perform.new.state p.1 p.2;
      back =
          further_back c.args.state.now t c.args.lines.now c.args.claim.now c.loop-line.claim i inv.forth inv.back l (omega (arith, low)) c.loop-line-item.is inv.sound.canonical p.0
          c.perform.new.claim c.perform.new.state p.1 p.2;
    }
