-- A printed text is a true claim.
use Rattle.std.specs.Prelude.{◌≡◌, ◌⊎◌, ℕ, List, ◌++◌, codes}
use Rattle.kin_script.specs.Inputs.{IsTextOf}
use Rattle.kin_script.specs.Text.{Ending}
use Rattle.kin_check.specs.Splits.{IsBeforePiece, IsTrueClaim}

-- the same bytes, with a line feed after the last line
abbrev pub IsClosed : List ℕ → List ℕ → Type 0
IsClosed input closed = (IsBeforePiece input × (closed ≡ input)) ⊎ (¬ (IsBeforePiece input) × (closed ≡ input ++ codes "\n"))

-- after a script with a line feed after its last line, and a line =, the text of the script is a true claim
abbrev pub TextsAreTrue : Type 0
TextsAreTrue = (input closed text : List ℕ) (ending : Ending) → IsClosed input closed → IsTextOf input text ending
    → IsTrueClaim (closed ++ (codes "=\n" ++ text))
