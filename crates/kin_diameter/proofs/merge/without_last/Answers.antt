use Rattle.std.proofs.Common.{sym, subst, List, ℕ}
use Rattle.kin_motion.specs.Numbers.{IsIn}
use Rattle.kin_motion.proofs.Members.{in_left}
use Rattle.kin_diameter.proofs.merge.without_last.Goals as goal

pub returns-in-Some-clause-among : goal.returns-in-Some-clause-among
returns-in-Some-clause-among c = λ (i : ℕ) (h : IsIn i c.in-Some.rest.now). subst (λ (xs : List ℕ). IsIn i xs) (sym c.in-Some.ensures.cases.0) (in_left i c.in-Some.rest.now _ h)
