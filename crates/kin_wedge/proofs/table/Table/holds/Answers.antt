use Rattle.std.proofs.Common.{◌≡◌, ◌∙◌, sym, ap, subst, Some, List, Option, ℕ}
use Rattle.std.specs.Prelude.{nat_eq, slice_get}
use Rattle.kin_wedge.proofs.Hitting.{held_word}
use Rattle.kin_wedge.proofs.table.Table.holds.Goals as goal

pub returns : goal.returns
returns c = λ e.
    ap (λ (n : ℕ). nat_eq n c.args.no) c.from.ensures
    ∙ held_word c.self.inside.threads c.args.slot c.args.no c.word.result c.word.ensures (subst (λ (cs : List (Option ℕ)). slice_get cs c.args.slot ≡ Some (Some c.args.no)) (sym c.self.view_is) e)
