use Rattle.std.proofs.Common.{sym, ◌∙◌, ap, rules}
use Rattle.kin_tourney.specs.Standings.{Standings}
use Rattle.kin_tourney.proofs.Entries.{entry_in_slot}
use Rattle.kin_tourney.proofs.tree.Tree.play.Goals as goal

pub meet-requires-clause-left : goal.meet-requires-clause-left
meet-requires-clause-left g c = c.requires.live c.in-Some.left.slot c.in-Some.left.item (entry_in_slot _ _ _ (sym c.entry.ensures ∙ c.in-Some.is)).1

pub meet-requires-clause-right : goal.meet-requires-clause-right
meet-requires-clause-right g c = c.requires.live c.in-Some-entry.right.slot c.in-Some-entry.right.item (entry_in_slot _ _ _ (sym c.entry-in-Some.ensures ∙ c.in-Some-entry.is)).1

pub meet-requires-clause-known : goal.meet-requires-clause-known
meet-requires-clause-known g c = λ s e. c.requires.known s e c.in-Some.left c.in-Some-entry.right (sym c.entry.ensures ∙ c.in-Some.is) (sym c.entry-in-Some.ensures ∙ c.in-Some-entry.is)

pub returns-in_err-untell-in-None-entry-clause-same : goal.returns-in_err-untell-in-None-entry-clause-same
returns-in_err-untell-in-None-entry-clause-same g c = ap (λ (t : Standings g.row.K-Item.Denot). record t { facts = c.untell.new.self }) c.self.view_is

pub returns-in_err-untell-in-None-clause-same : goal.returns-in_err-untell-in-None-clause-same
returns-in_err-untell-in-None-clause-same g c = ap (λ (t : Standings g.row.K-Item.Denot). record t { facts = c.untell-in-None.new.self }) c.self.view_is

pub returns-in_ok-untell-in-None-entry-clause-same : goal.returns-in_ok-untell-in-None-entry-clause-same
returns-in_ok-untell-in-None-entry-clause-same g c = ap (λ (t : Standings g.row.K-Item.Denot). record t { facts = c.untell.new.self }) c.self.view_is

pub returns-after-right-clause-same : goal.returns-after-right-clause-same
returns-after-right-clause-same g c = ap (λ (t : Standings g.row.K-Item.Denot). record t { facts = c.untell-in-None.new.self }) c.self.view_is

pub returns-after-right-clause-value : goal.returns-after-right-clause-value
returns-after-right-clause-value g c = search rules

pub returns-in_ok-untell-in-None-entry-clause-value : goal.returns-in_ok-untell-in-None-entry-clause-value
returns-in_ok-untell-in-None-entry-clause-value g c = search rules

pub returns-in_ok-untell-in-None-entry-clause-facts : goal.returns-in_ok-untell-in-None-entry-clause-facts
returns-in_ok-untell-in-None-entry-clause-facts g c = search rules

pub returns-in_ok-untell-in-None-entry-clause-reported : goal.returns-in_ok-untell-in-None-entry-clause-reported
returns-in_ok-untell-in-None-entry-clause-reported g c = search rules
