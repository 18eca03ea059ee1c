-- What follows where states differ in nothing but legs that are over.
use Rattle.std.specs.Prelude.{ℕ, List, All}
use Rattle.kin_motion.specs.Journal.{Block}
use Rattle.kin_script.specs.declared.command.Command.{Command}
use Rattle.kin_script.specs.Alike.{IsAlike, IsOnPaths}
use Rattle.kin_script.specs.Ranges.{IsCommandInRange}
use Rattle.kin_script.specs.States.{State}
use Rattle.kin_script.specs.Text.{Text, Ending}
use Rattle.kin_status.specs.Passed.{PassesInTurn}

-- commands have the same text from both, with the same ending
abbrev pub AlikeTexts : Type 0
AlikeTexts =
    (s t : State) (cs : List (ℕ × Command)) (text : List ℕ) (ending : Ending) → IsOnPaths s → IsOnPaths t → All (λ c. IsCommandInRange s.size c.1) cs
    → IsAlike s t → Text s cs text ending → Text t cs text ending

-- and they pass the same blocks
abbrev pub AlikePasses : Type 0
AlikePasses =
    (s t : State) (cs : List (ℕ × Command)) (bs : List Block) → IsOnPaths s → IsOnPaths t → All (λ c. IsCommandInRange s.size c.1) cs → IsAlike s t
    → PassesInTurn s cs bs → PassesInTurn t cs bs
