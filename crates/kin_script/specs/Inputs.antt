-- The text of an input: that of the script that its bytes are, or the line that names the first line outside the grammar.
use Rattle.std.specs.Prelude.{◌≡◌, ◌⊎◌, ℕ, List, Ok, Err}
use Rattle.kin_script.specs.declared.script.Script.{Script}
use Rattle.kin_script.specs.Grammar.{script_of}
use Rattle.kin_script.specs.States.{start}
use Rattle.kin_script.specs.Text.{Ending, Text, bad_line}

-- the input is a script, and this is its text, with its ending
pub record IsTextOf (input text : List ℕ) (ending : Ending) : Type 0 where
  pub script : Script
  pub reads : script_of input ≡ Ok script
  pub replays : Text (start script.size script.keeps script.journal) script.lines text ending

-- that line is the first outside the grammar, and the text names it
abbrev pub IsBadTextOf : List ℕ → ℕ → List ℕ → Type 0
IsBadTextOf input line text = (script_of input ≡ Err line) × (text ≡ bad_line line)

-- the text of an input, whichever way it ends
abbrev pub IsInputText : List ℕ → List ℕ → Type 0
IsInputText input text = ((ending : Ending) × IsTextOf input text ending) ⊎ ((line : ℕ) × IsBadTextOf input line text)
