use Rattle.std.proofs.Common.{ap, ◌∙◌, rules}
use Rattle.std.proofs.lemmas.Bool.Decides.{nat_tests}
use Rattle.std.proofs.lemmas.List.{nil_from_length}
use Rattle.kin_env.specs.Nodes.{edits_from}
use Rattle.kin_env.proofs.Hearing.{read_there}
use Rattle.kin_env.proofs.branches.Branches.tells.Goals as goal

pub returns-clause-quiet : goal.returns-clause-quiet
returns-clause-quiet c h =
    let there = read_there c.args.self.now.nodes.items c.args.node c.index.result.now c.requires.inside c.index.ensures in
    let k = c.is_empty.ensures in
    ap edits_from there ∙ nil_from_length c.index.result.now.edits.items (search (rules, nat_tests))
