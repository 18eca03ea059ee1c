use Rattle.std.proofs.Common.{sym, ap, ◌∙◌, List, ◌+◌, ◌*◌}
use Rattle.std.specs.Prelude.{slice_get}
use Rattle.kin_env.specs.declared.node.Node.{Node}
use Rattle.kin_env.proofs.branches.Branches.visit.Goals as goal

pub visit_among-requires-clause-told : goal.visit_among-requires-clause-told
visit_among-requires-clause-told g c = λ n l r here left right.
    let same = sym c.deref_mut.ensures.value in
    let v = c.args.node in
    c.requires.told n l r (ap (λ (ns : List Node). slice_get ns v) same ∙ here) (ap (λ (ns : List Node). slice_get ns (2 * v)) same ∙ left) (ap (λ (ns : List Node). slice_get ns (2 * v + 1)) same ∙ right)
