-- The text of a script: what each command prints, up to the first that is refused.
use Rattle.std.specs.Prelude.{◌≡◌, ℕ, Bool, true, false, List, [], ◌∷◌, ◌++◌, Option, Some, None, codes, ◌⊎◌, if◌then◌else◌}
use Rattle.std.specs.Fmt.{decimal}
use Rattle.kin_num.specs.declared.instant.Shape.{Shape}
use Rattle.kin_motion.specs.Journal.{Block, IsJournal}
use Rattle.kin_motion.specs.Turning.{just_at}
use Rattle.kin_legs.specs.Nexts.{Next, block, leg, nothing, IsNext}
use Rattle.kin_script.specs.declared.command.Command.{Command}
use Rattle.kin_script.specs.declared.refusal.Refusal.{Refusal}
use Rattle.kin_script.specs.Deeds.{Deed, changes, goes_to, goes_on, asks, deed_of}
use Rattle.kin_script.specs.Questions.{IsReplyLine}
use Rattle.kin_script.specs.Printed.{name_of}
use Rattle.kin_script.specs.PrintedJournal.{block_lines, journal_lines, now_line, none_line}
use Rattle.kin_script.specs.Replay.{IsNamedRoot, IsRefused, IsAllowed, LeadsTo}
use Rattle.kin_script.specs.States.{State, state_setting, state_view}

-- the line that names the first line outside the grammar
abbrev pub bad_line : ℕ → List ℕ
bad_line n = codes "bad " ++ decimal n ++ codes "\n"

-- the line of a refused command
abbrev pub refused_line : ℕ → Refusal → List ℕ
refused_line n r = codes "refused " ++ decimal n ++ codes " " ++ name_of r ++ codes "\n"

-- the lines of the journal from now to the asked instant; where the journal is off, nothing
abbrev pub IsPassedText : Bool → State → Shape → List ℕ → Type 0
IsPassedText false s w text = text ≡ []
IsPassedText true s w text = (bs : List Block) × IsJournal (state_setting s) s.moment (just_at w) bs × (text ≡ journal_lines bs)

-- the lines of a block where the journal is on, and its moment; the moment of a leg; or none
abbrev pub next_lines : Bool → Next → List ℕ
next_lines journal (block b) = (if journal then block_lines b else []) ++ now_line b.moment
next_lines journal (leg m) = now_line m
next_lines journal nothing = none_line

-- the lines of what comes next
abbrev pub IsNextText : State → List ℕ → Type 0
IsNextText s text = (n : Next) × IsNext (state_view s) n × (text ≡ next_lines s.journal n)

-- what a deed that is not refused prints
abbrev pub Prints : State → Deed → List ℕ → Type 0
Prints s (changes number change) text = text ≡ []
Prints s (goes_to upper p) text = (w : Shape) × IsNamedRoot upper p w × IsPassedText s.journal s w text
Prints s goes_on text = IsNextText s text
Prints s (asks q) text = IsReplyLine s q text

-- a deed that is not refused, from a state to a state
pub record Step (s : State) (d : Deed) (text : List ℕ) (t : State) : Type 0 where
  pub allowed : IsAllowed s d
  pub prints : Prints s d text
  pub leads : LeadsTo s d t

-- the line and the refusal in which a run ends, if a command is refused
abbrev pub Ending : Type 0
Ending = Option (ℕ × Refusal)

-- the run ends here: a command is refused
abbrev pub EndsAt : State → ℕ × Command → List ℕ → Ending → Type 0
EndsAt s c text ending = (r : Refusal) × IsRefused s (deed_of c.1) r × (text ≡ refused_line c.0 r) × (ending ≡ Some (c.0, r))

-- the text of numbered commands from a state on, and its ending
abbrev pub Text : State → List (ℕ × Command) → List ℕ → Ending → Type 0
Text s [] text ending = (text ≡ []) × (ending ≡ None)
Text s (c ∷ cs) text ending = EndsAt s c text ending ⊎
    ((first : List ℕ) × (rest : List ℕ) × (t : State) × Step s (deed_of c.1) first t × Text t cs rest ending × (text ≡ first ++ rest))
