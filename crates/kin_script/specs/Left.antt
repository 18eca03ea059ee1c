-- Lines with their numbers.
use Rattle.std.specs.Prelude.{ℕ, ◌+◌, List, [], ◌∷◌, length, if◌then◌else◌}
use Rattle.kin_script.specs.Lines.{Word, words_of, is_nil}

-- a line with words, and its number
abbrev pub Numbered : Type 0
Numbered = ℕ × List Word

-- the lines from this number on that have words
unfoldable pub numbered : ℕ → List (List ℕ) → List Numbered
numbered n [] = []
numbered n (line ∷ lines) = if is_nil (words_of line) then numbered (n + 1) lines else (n, words_of line) ∷ numbered (n + 1) lines

-- lines that are left to read, from a number on
pub record Left : Type 0 where
  pub number : ℕ
  pub lines : List (List ℕ)

abbrev pub with_words : Left → List Numbered
with_words l = numbered l.number l.lines

-- the number of the line after them
abbrev pub after : Left → ℕ
after l = l.number + length l.lines
