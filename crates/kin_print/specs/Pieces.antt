-- Pieces of text, one after the other.
use Rattle.std.specs.Prelude.{ℕ, List, ◌++◌, codes}
use Rattle.std.specs.Borrow.{Bor}
use Rattle.std.specs.Fmt.{decimal}
use Rattle.std.specs.List.{flat_map}
use Rattle.kin_algebra.specs.declared.sign.Sign.{Sign}
use Rattle.kin_script.specs.PrintedJournal.{sign_text}

-- the pieces joined
abbrev pub joined : List (Bor (List ℕ)) → List ℕ
joined pieces = flat_map (λ (p : Bor (List ℕ)). p.now) pieces

-- a number after a space
abbrev pub spaced : ℕ → List ℕ
spaced n = codes " " ++ decimal n

-- a structure and a part, between spaces
abbrev pub owner_piece : ℕ → ℕ → List ℕ
owner_piece structure part = codes " " ++ decimal structure ++ codes "/" ++ decimal part ++ codes " "

-- two signs after spaces, at the end of a line
abbrev pub signs_piece : Sign → Sign → List ℕ
signs_piece before after = codes " " ++ sign_text before ++ codes " " ++ sign_text after ++ codes "\n"
