use Rattle.std.proofs.Common.{sym, ap, ◌∙◌}
use Rattle.kin_tourney.specs.Standings.{item_of}
use Rattle.kin_tourney.proofs.Settled.{winner_none}
use Rattle.kin_tourney.proofs.tourney.Tourney.winner.Goals as goal

pub returns-in_err-entry-clause-none : goal.returns-in_err-entry-clause-none
returns-in_err-entry-clause-none g c =
    winner_none _ _ _ _ _ c.self.invariant c.self.view_is c.requires.rest c.args.node c.requires.low c.requires.high _ (ap item_of (sym c.entry.ensures ∙ c.in_err-entry.was) ∙ sym c.from_residual.ensures)

pub returns-clause-none : goal.returns-clause-none
returns-clause-none g c =
    winner_none _ _ _ _ _ c.self.invariant c.self.view_is c.requires.rest c.args.node c.requires.low c.requires.high _ (ap item_of (sym c.entry.ensures ∙ c.in_ok-entry.was))
