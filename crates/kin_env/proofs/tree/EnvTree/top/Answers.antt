use Rattle.std.proofs.Common.{◌∙◌, sym, ap}
use Rattle.kin_env.specs.Trees.{Envelope, top_of}
use Rattle.kin_env.proofs.Trees.{told_is}
use Rattle.kin_env.proofs.tree.EnvTree.top.Goals as goal

pub returns : goal.returns
returns c = c.top.ensures ∙ sym (told_is c.self.inside.branches.nodes.items 1) ∙ ap (λ (t : Envelope). top_of t) c.self.view_is
