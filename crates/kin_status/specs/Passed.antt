-- The blocks that a run passes.
use Rattle.std.specs.Prelude.{◌≡◌, ℕ, Bool, List, [], ◌∷◌, ◌++◌, if◌then◌else◌}
use Rattle.kin_num.specs.declared.instant.Shape.{Shape}
use Rattle.kin_motion.specs.Journal.{Block, IsJournal}
use Rattle.kin_motion.specs.Turning.{just_at}
use Rattle.kin_legs.specs.Nexts.{Next, block, leg, nothing, IsNext}
use Rattle.kin_script.specs.declared.command.Command.{Command}
use Rattle.kin_script.specs.PrintedJournal.{block_lines}
use Rattle.kin_script.specs.Deeds.{Deed, changes, goes_to, goes_on, asks, deed_of}
use Rattle.kin_script.specs.Replay.{IsNamedRoot, IsAllowed, LeadsTo}
use Rattle.kin_script.specs.States.{State, state_setting, state_view}

-- the block that comes next, if it is one
abbrev pub block_of_next : Next → List Block
block_of_next (block b) = b ∷ []
block_of_next (leg m) = []
block_of_next nothing = []

-- the block that comes next; where a leg begins sooner, or nothing comes any more, none
abbrev pub IsNextIfAny : State → List Block → Type 0
IsNextIfAny s bs = (n : Next) × IsNext (state_view s) n × (bs ≡ block_of_next n)

-- the blocks that a deed passes: those of the journal up to the named instant, or the next one
abbrev pub Passes : State → Deed → List Block → Type 0
Passes s (changes number change) bs = bs ≡ []
Passes s (goes_to upper p) bs = (w : Shape) × IsNamedRoot upper p w × IsJournal (state_setting s) s.moment (just_at w) bs
Passes s goes_on bs = IsNextIfAny s bs
Passes s (asks q) bs = bs ≡ []

-- the blocks that numbered commands pass in turn, none of which is refused
abbrev pub PassesInTurn : State → List (ℕ × Command) → List Block → Type 0
PassesInTurn s [] bs = bs ≡ []
PassesInTurn s (c ∷ cs) bs =
    (first : List Block) × (rest : List Block) × (t : State) × IsAllowed s (deed_of c.1) × Passes s (deed_of c.1) first × LeadsTo s (deed_of c.1) t
    × PassesInTurn t cs rest × (bs ≡ first ++ rest)

-- the lines of a block where the journal is on
abbrev pub printed_if : Bool → Block → List ℕ
printed_if journal b = if journal then block_lines b else []
