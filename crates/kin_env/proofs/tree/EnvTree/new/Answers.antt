use Rattle.kin_env.proofs.Vacancy.{no_chain, no_facts, blank_rest, blank_settled}
use Rattle.std.proofs.Common.{◌∙◌, sym, ap, replicate, false, ◌^◌}
use Rattle.kin_env.proofs.tree.EnvTree.new.Goals as goal

pub returns-clause-chains : goal.returns-clause-chains
returns-clause-chains c = no_chain c.in_ok-new.field-0 c.in_ok-new.ensures.blank

pub returns-clause-facts : goal.returns-clause-facts
returns-clause-facts c = no_facts c.in_ok-new.field-0 c.in_ok-new.ensures.blank

pub returns-clause-rest : goal.returns-clause-rest
returns-clause-rest c = blank_rest c.in_ok-new.field-0 c.in_ok-new.ensures.blank (c.in_ok-new.ensures.slots ∙ ap (λ n. replicate (2 ^ n) false) (sym c.in_ok-new.ensures.size))

pub returns-clause-settled : goal.returns-clause-settled
returns-clause-settled c = λ s none. blank_settled c.in_ok-new.field-0 c.in_ok-new.ensures.blank s none
