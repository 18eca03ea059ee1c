-- A text of commands, whichever way it ends.
use Rattle.std.specs.Prelude.{ℕ, List}
use Rattle.kin_script.specs.declared.command.Command.{Command}
use Rattle.kin_script.specs.States.{State}
use Rattle.kin_script.specs.Text.{Ending, Text}

-- it is the text of the commands from a state on
abbrev pub IsTextFrom : State → List (ℕ × Command) → List ℕ → Type 0
IsTextFrom s cs text = (ending : Ending) × Text s cs text ending
