use Rattle.std.proofs.lemmas.List.{length-set}
use Rattle.kin_wedge.proofs.Weaving.{next_written}
use Rattle.kin_wedge.proofs.thread.set_next.Goals as goal

pub returns-clause-web : goal.returns-clause-web
returns-clause-web c = next_written c.args.threads.now.items c.args.slot c.args.next c.requires c.index_mut.result.now c.index_mut.ensures.value

pub returns-clause-length : goal.returns-clause-length
returns-clause-length c = length-set c.args.threads.now.items c.args.slot _
