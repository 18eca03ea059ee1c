use Rattle.std.proofs.Common.{rules}
use Rattle.kin_tourney.proofs.report.Facts.untell.Goals as goal

pub returns-in_ok-report_dropped-clause-facts : goal.returns-in_ok-report_dropped-clause-facts
returns-in_ok-report_dropped-clause-facts g c = search rules
