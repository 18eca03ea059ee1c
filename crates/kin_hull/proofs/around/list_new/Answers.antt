use Rattle.std.proofs.Common.{sym, ap, cond, ◌++◌, ◌∷◌, []}
use Rattle.kin_hull.proofs.Rounds.{end_in}
use Rattle.kin_hull.proofs.around.list_new.Goals as goal

pub returns-then-is_end : goal.returns-then-is_end
returns-then-is_end c = let here = end_in c.args.lower.now c.args.no (c.is_end.ensures.0 c.if-is_end.true) in sym (ap (λ b. cond b c.args.cycle.now.items (c.args.cycle.now.items ++ c.args.no ∷ [])) here)
