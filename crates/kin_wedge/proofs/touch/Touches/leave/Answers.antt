use Rattle.std.proofs.Common.{◌≡◌, false, true, sym, ◌∙◌}
use Rattle.kin_wedge.proofs.touch.Touches.leave.Goals as goal

pub returns-else-holds-clause-offered : goal.returns-else-holds-clause-offered
returns-else-holds-clause-offered c = λ e. absurd (let clash : false ≡ true = sym c.if-holds.false ∙ c.holds.ensures e in cc)
