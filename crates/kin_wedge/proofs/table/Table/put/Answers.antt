use Rattle.std.proofs.Common.{◌∙◌, sym, ap, List, Option, ℕ, set}
use Rattle.std.specs.Prelude.{Some, None}
use Rattle.std.proofs.lemmas.List.{set-set}
use Rattle.kin_wedge.proofs.table.Table.put.Goals as goal

pub returns-in-Some : goal.returns-in-Some
returns-in-Some c =
    c.fill.ensures ∙ ap (λ (v : List (Option ℕ)). set v c.args.slot (Some c.in-Some.candidate)) c.clear.ensures ∙ set-set c.args.self.now c.args.slot None (Some c.in-Some.candidate)
    ∙ ap (set c.args.self.now c.args.slot) (sym c.in-Some.is)
