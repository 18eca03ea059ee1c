-- How far the reader has come. Only its own functions cite this.
use Rattle.std.specs.Prelude.{◌≡◌, ℕ, ◌≤◌, false, List, [], ◌∷◌, ◌++◌, IsTrue, unwrap_or, Result, Ok, Err}
use Rattle.kin_motion.specs.Keeps.{may_keep}
use Rattle.kin_script.specs.declared.command.Command.{Command}
use Rattle.kin_script.specs.declared.script.Script.{Script}
use Rattle.kin_script.specs.declared.read.Draft.{Draft}
use Rattle.kin_script.specs.declared.read.ReadError.{ReadError}
use Rattle.kin_script.specs.declared.read.ReadError.TheVariants.{BadLine, NoMemory}
use Rattle.kin_script.specs.Left.{Numbered}
use Rattle.kin_script.specs.Grammar.{◌>>◌, Header, commands_of, behind_size}

abbrev pub header : Draft → Header
header d = record { size = d.size; keeps = d.keeps; journal = d.journal }

-- the script of a draft, with these commands after those that it has
abbrev pub finished : Draft → List (ℕ × Command) → Script
finished d cs = record { size = d.size; keeps = d.keeps; journal = unwrap_or d.journal false; lines = d.commands ++ cs }

-- by whether a command was read
abbrev pub by_place : List (ℕ × Command) → Result Script ℕ → Result Script ℕ → Result Script ℕ
by_place [] in_header behind = in_header
by_place (c ∷ cs) in_header behind = behind

-- what a draft and the lines that are left read as
abbrev pub reads : Draft → List Numbered → Result Script ℕ
reads d ls = by_place d.commands (behind_size (header d) ls) (commands_of d.size ls >> λ cs. Ok (finished d cs))

-- after one line more the script reads as before, or the line is the first outside
abbrev pub Continues : Result (Unit {0}) ReadError → Result Script ℕ → Result Script ℕ → Type 0
Continues (Ok x) before now = before ≡ now
Continues (Err (BadLine n)) before now = before ≡ Err n
Continues (Err NoMemory) before now = Unit {0}

-- the size is in its range, and what is kept may be
pub record IsDraftInRange (d : Draft) : Type 0 where
  pub size_low : 1 ≤ d.size
  pub size_high : d.size ≤ 12
  pub keepable : IsTrue (may_keep d.keeps)
