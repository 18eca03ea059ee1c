use Rattle.std.proofs.Common.{sym, None}
use Rattle.kin_sorted.proofs.ReportLaws.{set_same}
use Rattle.kin_sorted.proofs.report.unlink.Goals as goal

pub returns-in_default-clause-links : goal.returns-in_default-clause-links
returns-in_default-clause-links g c = sym (set_same c.args.row.now.links c.args.slot None c.in_default.ensures)
