use Rattle.std.proofs.Common.{ℕ, ◌/◌, ◌^◌, Bool, nat_eq, bit_and, arith, refl, subst}
use Rattle.std.specs.Bool.{IsTrue}
use Rattle.kin_instant.proofs.Squares.{squares_pass}
use Rattle.kin_instant.proofs.curve.is_square_by_63.Goals as goal

is_one : ℕ → Bool
is_one x = nat_eq (bit_and (288872697407275667 / 2 ^ x) 1) 1

pub returns : goal.returns
unfolding is_one
returns c = λ k e. subst (λ (x : ℕ). IsTrue (is_one x)) e (squares_pass is_one 63 (omega arith) refl k)
