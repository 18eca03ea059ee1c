use Rattle.std.proofs.Common.{[], ap, subst}
use Rattle.kin_run.proofs.Vocabulary.{on_err, IsCutOfText, IsFront, state_of, printer}
use Rattle.kin_status.proofs.Gathering.{front_through, some_lost_here, wrote_front, wrote_broken}
use Rattle.kin_status.proofs.OneText.{one_text}
use Rattle.kin_run.proofs.play.play.Goals as goal

pub returns-in_err-flush-in-Ok-clause-cut : goal.returns-in_err-flush-in-Ok-clause-cut
returns-in_err-flush-in-Ok-clause-cut g c =
    let s = state_of c.args.journal c.args.world.now in
    let all = c.args.lines.now in
    let gained = rw c.new-out.ensures.items at c.in-Ok.ensures.text in
    on_err c.from_residual.result
    (wrote_front (IsCutOfText s all) (some_lost_here gained (printer (g.K.Sink.held c.flush.new.sink) []) c.flush.ensures.front) (λ x front is f text ending q. subst (IsFront front) (one_text s all x text c.in-Ok.ending ending c.requires.whole.canonical is q).0 f))

pub returns-clause-cut : goal.returns-clause-cut
returns-clause-cut g c =
    let broke = rw c.new-out.ensures.items at c.in-Err.ensures.text in
    wrote_broken (IsCutOfText (state_of c.args.journal c.args.world.now) c.args.lines.now) (g.K.Sink.held c.args.sink.now) (g.K.Sink.held c.perform_each.new.sink) (g.K.Sink.held c.salvage.new.sink) c.perform_each.new.out.items
    c.in-Err.stop broke c.salvage.ensures.front (λ e. ap g.K.Sink.held (c.salvage.ensures.untouched e)) (λ text front cut f whole ending q. front_through front text whole f (cut whole ending q))
