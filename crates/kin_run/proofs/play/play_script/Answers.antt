use Rattle.std.proofs.Common.{None, subst}
use Rattle.std.specs.Prelude.{IfOk, OnErr, ◌≡◌}
use Rattle.kin_script.specs.Text.{Text}
use Rattle.kin_status.specs.Passed.{PassesInTurn}
use Rattle.kin_status.specs.Written.{Wrote}
use Rattle.kin_run.proofs.Vocabulary.{HasTallied, IsCutOfText, State}
use Rattle.kin_run.proofs.Arriving.{at_start}
use Rattle.kin_run.proofs.play.play_script.Goals as goal

pub returns-clause-ok : goal.returns-clause-ok
returns-clause-ok g c =
    let s = c.args.script.now in
    subst (λ (x : State). IfOk c.play.result (λ ending. Wrote (g.K.Sink.held c.args.sink.now) (g.K.Sink.held c.play.new.sink) (λ text. Text x s.lines text ending)))
    (at_start s.size s.keeps s.journal) (rw (c.as_slice-2.ensures, c.in_ok-world.ensures.empty, c.as_slice.ensures) at c.play.ensures.ok)

pub returns-clause-tallied : goal.returns-clause-tallied
returns-clause-tallied g c =
    let s = c.args.script.now in
    subst (λ (x : State). IfOk c.play.result (λ ending. ending ≡ None → HasTallied (PassesInTurn x s.lines) c.args.tally.now c.play.new.tally))
    (at_start s.size s.keeps s.journal) (rw (c.as_slice-2.ensures, c.in_ok-world.ensures.empty, c.as_slice.ensures) at c.play.ensures.tallied)

pub returns-clause-cut : goal.returns-clause-cut
returns-clause-cut g c =
    let s = c.args.script.now in
    subst (λ (x : State). OnErr c.play.result (Wrote (g.K.Sink.held c.args.sink.now) (g.K.Sink.held c.play.new.sink) (IsCutOfText x s.lines)))
    (at_start s.size s.keeps s.journal) (rw (c.as_slice-2.ensures, c.in_ok-world.ensures.empty, c.as_slice.ensures) at c.play.ensures.cut)
