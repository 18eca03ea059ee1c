use Rattle.std.proofs.lemmas.List.{length-set}
use Rattle.kin_wedge.proofs.Weaving.{first_written}
use Rattle.kin_wedge.proofs.thread.set_first.Goals as goal

pub returns-clause-web : goal.returns-clause-web
returns-clause-web c = first_written c.args.threads.now.items c.args.slot c.args.first c.requires c.index_mut.result.now c.index_mut.ensures.value

pub returns-clause-length : goal.returns-clause-length
returns-clause-length c = length-set c.args.threads.now.items c.args.slot _
