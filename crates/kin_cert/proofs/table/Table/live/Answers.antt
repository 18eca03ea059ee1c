use Rattle.std.proofs.Common.{length, subst, sym, ap, ◌∙◌}
use Rattle.kin_cert.specs.Facts.{Facts, NoneAlike}
use Rattle.kin_cert.proofs.Slots.{live-count}
use Rattle.kin_cert.proofs.Tables.{table-once}
use Rattle.kin_cert.proofs.table.Table.live.Goals as goal

pub returns-clause-count : goal.returns-clause-count
returns-clause-count c = c.len.ensures.count ∙ sym (live-count c.self.inside.roll) ∙ ap (λ (t : Facts). length t.live) c.self.view_is

pub returns-clause-once : goal.returns-clause-once
returns-clause-once c = subst (λ (t : Facts). NoneAlike t.live) c.self.view_is (table-once c.self.inside.roll c.len.ensures.once)
