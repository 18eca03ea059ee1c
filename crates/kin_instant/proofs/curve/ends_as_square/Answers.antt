use Rattle.std.proofs.Common.{ℕ, ◌/◌, ◌^◌, Bool, nat_eq, bit_and, arith, refl, subst}
use Rattle.std.specs.Bool.{IsTrue}
use Rattle.kin_instant.proofs.Squares.{squares_pass}
use Rattle.kin_instant.proofs.curve.ends_as_square.Goals as goal

is_one : ℕ → Bool
is_one x = nat_eq (bit_and (144680414395695635 / 2 ^ x) 1) 1

pub returns : goal.returns
unfolding is_one
returns c = λ k e. subst (λ (x : ℕ). IsTrue (is_one x)) e (squares_pass is_one 64 (omega arith) refl k)
