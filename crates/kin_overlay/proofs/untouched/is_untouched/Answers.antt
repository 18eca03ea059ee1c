use Rattle.std.proofs.Common.{sym, ◌∙◌}
use Rattle.kin_overlay.proofs.PassLaws.{not-so, untouched}
use Rattle.kin_overlay.proofs.untouched.is_untouched.Goals as goal

pub returns : goal.returns
returns c = λ yes.
    untouched c.args.standing.now c.args.puts.a.now c.args.puts.b.now c.args.noted.now (c.is_doubted.ensures c.if-is_doubted.false) (c.names_some.ensures.turn c.if-names_some.false) (c.names_some.ensures.slope c.if-names_some.false)
    (sym c.is_put.ensures ∙ not-so c.is_put.result yes)
