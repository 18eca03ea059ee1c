use Rattle.std.proofs.Common.{ap, sym, ◌∙◌, subst, ℕ, ◌*◌, replicate}
use Rattle.std.specs.Prelude.{None}
use Rattle.kin_wedge.specs.Tables.{AreSlots, candidates_of}
use Rattle.kin_wedge.proofs.Hitting.{candidates_none, slots_none}
use Rattle.kin_wedge.proofs.table.new_table.Goals as goal

pub invariant_of-result : goal.invariant_of-result
invariant_of-result c = subst AreSlots (sym c.in_ok-threads.ensures) (slots_none c.numbers_of.result c.numbers_of.ensures.small)

pub returns : goal.returns
returns c = ap candidates_of c.in_ok-threads.ensures ∙ candidates_none (8 * c.numbers_of.result) ∙ ap (λ (n : ℕ). replicate (8 * n) None) c.numbers_of.ensures.value
