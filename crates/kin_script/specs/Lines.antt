-- The lines of a script, and the words of a line.
use Rattle.std.specs.Prelude.{ℕ, ◌-◌, Bool, true, false, not, ◌||◌, ◌==◌, List, [], ◌∷◌, length, take, filter, slice_index, if◌then◌else◌}
use Rattle.std.specs.List.{slice_split, before_first}

abbrev pub Word : Type 0
Word = List ℕ

abbrev pub is_line_feed : ℕ → Bool
is_line_feed b = b == 10

-- an empty piece after the last line feed is no line
abbrev pub without_empty_end : List (List ℕ) → List (List ℕ)
without_empty_end [] = []
without_empty_end ([] ∷ []) = []
without_empty_end ((b ∷ bs) ∷ []) = (b ∷ bs) ∷ []
without_empty_end (p ∷ q ∷ ps) = p ∷ without_empty_end (q ∷ ps)

-- the pieces between line feeds
unfoldable pub lines_of : List ℕ → List (List ℕ)
lines_of bytes = without_empty_end (slice_split is_line_feed bytes)

-- one carriage return at the end is dropped
abbrev pub without_return : List ℕ → List ℕ
without_return line = if slice_index line (length line - 1) == 13 then take (length line - 1) line else line

-- a number sign and all that follows is dropped
abbrev pub without_comment : List ℕ → List ℕ
without_comment line = before_first (λ b. b == 35) line

-- spaces and tabs
abbrev pub is_blank : ℕ → Bool
is_blank b = (b == 32) || (b == 9)

-- the pieces between blanks that are not empty
unfoldable pub pieces_of : List ℕ → List Word
pieces_of bytes = filter (λ w. not (length w == 0)) (slice_split is_blank bytes)

-- the words of a line
unfoldable pub words_of : List ℕ → List Word
words_of line = pieces_of (without_comment (without_return line))

-- whether there is no word
abbrev pub is_nil : List Word → Bool
is_nil [] = true
is_nil (w ∷ ws) = false
