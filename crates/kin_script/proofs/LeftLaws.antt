-- Going over the lines, one after the other.
use Rattle.std.proofs.Common.{◌≡◌, ℕ, ◌+◌, true, false, List, [], ◌∷◌, refl}
use Rattle.kin_script.specs.Lines.{words_of, lines_of, is_nil}
use Rattle.kin_script.specs.Left.{numbered}

pub skips : (n : ℕ) (rest line after : List ℕ) → lines_of rest ≡ line ∷ lines_of after → is_nil (words_of line) ≡ true → numbered n (lines_of rest) ≡ numbered (n + 1) (lines_of after)
unfolding numbered
skips n rest line after e h = rw (e, h) refl

pub finds : (n : ℕ) (rest line after : List ℕ) → lines_of rest ≡ line ∷ lines_of after → is_nil (words_of line) ≡ false → numbered n (lines_of rest) ≡ (n, words_of line) ∷ numbered (n + 1) (lines_of after)
unfolding numbered
finds n rest line after e h = rw (e, h) refl

pub none_left : (n : ℕ) (rest : List ℕ) → lines_of rest ≡ [] → numbered n (lines_of rest) ≡ []
unfolding numbered
none_left n rest e = rw e refl
