use Rattle.std.proofs.Common.{rules}
use Rattle.kin_check.proofs.Checking.{exact as own_verdict, has_words, too_long as own_length}
use Rattle.kin_status.proofs.OneText.{exact}
use Rattle.kin_run.proofs.run.run.Goals as goal

pub returns-in-Some-Run-clause-done : goal.returns-in-Some-Run-clause-done
returns-in-Some-Run-clause-done g c = λ form input text known small own.
    exact input c.run_input.ensures.headline known _ text small own

pub returns-in-Some-Run-clause-command : goal.returns-in-Some-Run-clause-command
returns-in-Some-Run-clause-command g c = λ form input text line refusal known small own.
    exact input c.run_input.ensures.headline known _ text small own

pub returns-in-Some-Check-clause-verdict : goal.returns-in-Some-Check-clause-verdict
returns-in-Some-Check-clause-verdict g c = λ form input verdict known small is. own_verdict input c.run_check.ensures.checks known verdict small is

pub returns-in-Some-Check-clause-check_too_long : goal.returns-in-Some-Check-clause-check_too_long
returns-in-Some-Check-clause-check_too_long g c = λ form input known high. own_length input c.run_check.ensures.checks known high

pub returns-in-Some-Check-clause-words : goal.returns-in-Some-Check-clause-words
returns-in-Some-Check-clause-words g c = search (rules, has_words)
