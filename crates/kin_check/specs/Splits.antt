-- An input that is parted into a script and a claimed text.
use Rattle.std.specs.Prelude.{◌≡◌, ◌⊎◌, ◌≤◌, ℕ, List, [], ◌++◌, length, codes}
use Rattle.kin_script.specs.Inputs.{IsInputText}

-- after these bytes a piece begins: there are none, or the last one is a line feed
abbrev pub IsBeforePiece : List ℕ → Type 0
IsBeforePiece before = (before ≡ []) ⊎ ((more : List ℕ) × (before ≡ more ++ codes "\n"))

-- the first piece of these bytes is the one byte =, and this is after its line feed; after a piece without one there is nothing
abbrev pub IsMark : List ℕ → List ℕ → Type 0
IsMark bytes after = (bytes ≡ codes "=\n" ++ after) ⊎ ((bytes ≡ codes "=") × (after ≡ []))

-- it is not
abbrev pub HasNoMark : List ℕ → Type 0
HasNoMark bytes = (after : List ℕ) → ¬ (IsMark bytes after)

-- the input is parted at a piece that is the one byte =
pub record IsParted (input before after : List ℕ) : Type 0 where
  pub rest : List ℕ
  pub joined : input ≡ before ++ rest
  pub begins : IsBeforePiece before
  pub mark : IsMark rest after

-- at the first such piece
pub record IsSplit (input script claim : List ℕ) : Type 0 where
  pub parted : IsParted input script claim
  pub first : (before after : List ℕ) → IsParted input before after → length script ≤ length before

-- no piece is the one byte =
abbrev pub IsUnsplit : List ℕ → Type 0
IsUnsplit input = (before after : List ℕ) → ¬ (IsParted input before after)

-- the claimed text is that of the script
abbrev pub IsTrueClaim : List ℕ → Type 0
IsTrueClaim input = (script : List ℕ) × (claim : List ℕ) × IsSplit input script claim × IsInputText script claim
