-- Which bytes are a script, and which line is the first outside the grammar.
use Rattle.std.specs.Prelude.{◌≡◌, ℕ, Bool, false, List, [], ◌∷◌, ◌++◌, Option, Some, None, is_some, unwrap_or, Result, Ok, Err, if◌then◌else◌}
use Rattle.kin_motion.specs.declared.keep.Keep.{Keep}
use Rattle.kin_motion.specs.Keeps.{may_keep}
use Rattle.kin_script.specs.declared.script.Script.{Script}
use Rattle.kin_script.specs.declared.command.Command.{Command}
use Rattle.kin_script.specs.declared.line.HeaderLine.{HeaderLine}
use Rattle.kin_script.specs.declared.line.HeaderLine.TheVariants as header_line
use Rattle.kin_script.specs.Lines.{lines_of}
use Rattle.kin_script.specs.Left.{Numbered, Left, with_words, after}
use Rattle.kin_script.specs.Commands.{command_of, size_of, header_line_of}

infixl 10 ◌>>◌
-- what was read, handed on, or the first line outside
abbrev pub ◌>>◌ : {A B : Type 0} → Result A ℕ → (A → Result B ℕ) → Result B ℕ
(Ok x) >> f = f x
(Err n) >> f = Err n

-- what line n says, or that it is outside
abbrev pub at_line : {A : Type 0} → ℕ → Option A → Result A ℕ
at_line n None = Err n
at_line n (Some x) = Ok x

-- one command a line
unfoldable pub commands_of : ℕ → List Numbered → Result (List (ℕ × Command)) ℕ
commands_of size [] = Ok []
commands_of size (l ∷ ls) = at_line l.0 (command_of size l.1) >> λ c. commands_of size ls >> λ cs. Ok ((l.0, c) ∷ cs)

-- what the header says: the kept structures, and the journal line, if there is one
pub record Header : Type 0 where
  pub size : ℕ
  pub keeps : List Keep
  pub journal : Option Bool

-- the script of a header and of the lines after it; without a journal line the journal is off
abbrev pub with_commands : Header → List Numbered → Result Script ℕ
with_commands h ls = commands_of h.size ls >> λ cs. Ok (record { size = h.size; keeps = h.keeps; journal = unwrap_or h.journal false; lines = cs })

-- a further line of the header, where its place allows it
abbrev pub with_header_line : Header → HeaderLine → Option Header
with_header_line h (header_line.Keep k) = if may_keep (h.keeps ++ k ∷ []) then Some (record h { keeps = h.keeps ++ k ∷ [] }) else None
with_header_line h (header_line.Journal on) = if is_some h.journal then None else Some (record h { journal = Some on })

-- by whether a line belongs to the header
abbrev pub by_header_line : Option HeaderLine → (HeaderLine → Result Script ℕ) → Result Script ℕ → Result Script ℕ
by_header_line (Some s) inside behind = inside s
by_header_line None inside behind = behind

-- the lines of the header, in any order, and then the commands
unfoldable pub behind_size : Header → List Numbered → Result Script ℕ
behind_size h [] = with_commands h []
behind_size h (l ∷ ls) = by_header_line (header_line_of l.1)
    (λ s. at_line l.0 (with_header_line h s) >> λ g. behind_size g ls)
    (with_commands h (l ∷ ls))

-- the size line is the first with words; with none, the line after the last is outside
unfoldable pub script_of_lines : ℕ → List Numbered → Result Script ℕ
script_of_lines after [] = Err after
script_of_lines after (l ∷ ls) = at_line l.0 (size_of l.1) >> λ size. behind_size (record { size = size; keeps = []; journal = None }) ls

-- a script, or the first line outside the grammar
unfoldable pub script_of : List ℕ → Result Script ℕ
script_of bytes = let all : Left = record { number = 1; lines = lines_of bytes } in script_of_lines (after all) (with_words all)

-- these bytes are this script
abbrev pub IsScript : List ℕ → Script → Type 0
IsScript bytes s = script_of bytes ≡ Ok s

-- this line of the bytes is the first outside the grammar
abbrev pub IsFirstOutside : List ℕ → ℕ → Type 0
IsFirstOutside bytes n = script_of bytes ≡ Err n
