-- What a reader answers, relative to what the grammar says.
use Rattle.std.specs.Prelude.{◌≡◌, ℕ, Result, Ok, Err}
use Rattle.kin_script.specs.declared.read.ReadError.{ReadError}
use Rattle.kin_script.specs.declared.read.ReadError.TheVariants.{BadLine, NoMemory}

-- the answer is what the grammar says, unless memory ran out
abbrev pub Gives : {A : Type 0} → Result A ReadError → Result A ℕ → Type 0
Gives (Ok x) read = read ≡ Ok x
Gives (Err (BadLine n)) read = read ≡ Err n
Gives (Err NoMemory) read = Unit {0}

-- a fact about the line that is answered as the first outside
abbrev pub IfBadLine : {A : Type 0} → Result A ReadError → (ℕ → Type 0) → Type 0
IfBadLine (Ok x) P = Unit {0}
IfBadLine (Err (BadLine n)) P = P n
IfBadLine (Err NoMemory) P = Unit {0}
