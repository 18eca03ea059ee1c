use Rattle.std.proofs.lemmas.List.{length-set}
use Rattle.kin_wedge.proofs.Weaving.{target_written}
use Rattle.kin_wedge.proofs.thread.set_target.Goals as goal

pub returns-clause-web : goal.returns-clause-web
returns-clause-web c = target_written c.args.words.now.items c.args.slot c.args.target

pub returns-clause-length : goal.returns-clause-length
returns-clause-length c = length-set c.args.words.now.items c.args.slot c.args.target
