use Rattle.std.proofs.Common.{◌≡◌, ℕ, ◌++◌, not, filter}
use Rattle.std.specs.Prelude.{reverse}
use Rattle.kin_motion.specs.Chains.{round}
use Rattle.kin_motion.specs.Numbers.{is_in, IsIn}
use Rattle.kin_hull.proofs.around.go_round.Given as goal

abbrev pub invariant-loop-number : goal.invariant-loop-number
invariant-loop-number l = record {
  joined : l.cycle.items ++ filter (λ p. not (is_in p l.lower)) (reverse l.number-iterator.iter.rest.now) ≡ round l.lower l.upper;
  among : (p : ℕ) → IsIn p l.number-iterator.iter.rest.now → IsIn p l.upper;
}
