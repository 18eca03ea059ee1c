-- The draws and the lines of one point more.
use Rattle.std.proofs.Common.{◌≡◌, ℕ, suc, ◌+◌, ◌*◌, [], ◌∷◌, ◌++◌, ap, arith}
use Rattle.kin_script.specs.Generated.{state_after, insertion, insertions}

pub four_more : (n z : ℕ) → state_after (4 * (n + 1)) z ≡ state_after 4 (state_after (4 * n) z)
unfolding state_after
four_more n z = let four : 4 * (n + 1) ≡ suc (suc (suc (suc (4 * n)))) = omega arith in ap (λ k. state_after k z) four

pub one_more : (seed n : ℕ) → insertions seed (n + 1) ≡ insertions seed n ++ insertion seed n ∷ []
one_more seed n = let one : n + 1 ≡ suc n = omega arith in ap (insertions seed) one
