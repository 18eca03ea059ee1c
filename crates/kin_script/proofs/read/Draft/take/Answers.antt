use Rattle.std.proofs.Common.{◌≡◌, ◌∷◌, refl, sym, ap, ◌∙◌}
use Rattle.kin_script.specs.Commands.{header_line_of}
use Rattle.kin_script.specs.Grammar.{commands_of}
use Rattle.kin_script.specs.Reading.{reads}
use Rattle.kin_script.proofs.ReadingLaws.{behind, follows_header_line, reads_commands-front, reads_commands-later, takes_command, refuses_command}
use Rattle.kin_script.proofs.read.Draft.take.Goals as goal
use Rattle.kin_script.proofs.read.Draft.take.Goals.{then-is_in_header+in_default, else-is_in_header}

pub returns-in-Some-clause-line : goal.returns-in-Some-clause-line
returns-in-Some-clause-line c =
    follows_header_line c.args.self.now c.set.new.self c.args.line.number c.args.line.words c.in-Some.header_line c.set.result
    (sym c.is_in_header.ensures ∙ c.if-is_in_header.true)
    (c.in-Some.ensures ∙ ap header_line_of c.again.ensures)
    c.set.ensures.ok c.set.ensures.bad c.set.ensures.commands

pub returns-in_ok-push-in-Some-command_of-clause-line :
    goal.returns-in_ok-push-in-Some-command_of-clause-line
returns-in_ok-push-in-Some-command_of-clause-line c = λ ls.
    let d = c.args.self.now in
    let here : reads d ((c.args.line.number, c.args.line.words) ∷ ls) ≡ behind d d.commands (commands_of d.size ((c.args.line.number, c.args.line.words) ∷ ls)) =
    elim c.if-is_in_header.branch [
      | then-is_in_header+in_default w ↦ reads_commands-front d c.args.line.number c.args.line.words ls (sym c.is_in_header.ensures ∙ w.if-is_in_header.true) (w.in_default.ensures ∙ ap header_line_of w.again.ensures)
      | else-is_in_header w ↦ reads_commands-later d ((c.args.line.number, c.args.line.words) ∷ ls) (sym c.is_in_header.ensures ∙ w.if-is_in_header.false)
    ] in
    takes_command d _ c.args.line.number c.args.line.words ls c.in-Some-command_of.command here c.in-Some-command_of.ensures refl refl refl c.in_ok-push-in-Some-command_of.ensures.ok

pub returns-in-None-clause-line : goal.returns-in-None-clause-line
returns-in-None-clause-line c = λ ls.
    let d = c.args.self.now in
    let here : reads d ((c.args.line.number, c.args.line.words) ∷ ls) ≡ behind d d.commands (commands_of d.size ((c.args.line.number, c.args.line.words) ∷ ls)) =
    elim c.if-is_in_header.branch [
      | then-is_in_header+in_default w ↦ reads_commands-front d c.args.line.number c.args.line.words ls (sym c.is_in_header.ensures ∙ w.if-is_in_header.true) (w.in_default.ensures ∙ ap header_line_of w.again.ensures)
      | else-is_in_header w ↦ reads_commands-later d ((c.args.line.number, c.args.line.words) ∷ ls) (sym c.is_in_header.ensures ∙ w.if-is_in_header.false)
    ] in
    refuses_command d c.args.line.number c.args.line.words ls here c.in-None.ensures
