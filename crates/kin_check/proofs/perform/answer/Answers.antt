use Rattle.std.proofs.Common.{◌∙◌, ◌++◌, ap, sym, subst, List, ℕ}
use Rattle.kin_print.specs.Replies.{reply_line}
use Rattle.kin_script.specs.Questions.{IsReplyLine}
use Rattle.kin_check.proofs.Performing.{answered}
use Rattle.kin_check.proofs.perform.answer.Goals as goal

pub returns : goal.returns
returns g c =
    let s = c.args.state.now in
    let q = c.args.command.now in
    let is = c.deref.ensures.value ∙ c.in_ok-put_reply.ensures.ok ∙ ap (λ (w : List ℕ). w ++ reply_line c.in_ok-reply.reply) c.new-out.ensures.items in
    answered s q c.take.result c.deref.result.now c.args.claim.now c.take.new.self c.requires.sound.canonical c.in_ok-reply.ensures.0 (subst (IsReplyLine s q) (sym is) c.in_ok-reply.ensures.1)
    c.take.ensures
