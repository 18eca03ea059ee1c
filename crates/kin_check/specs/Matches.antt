-- What came of a text that was looked for at the front of what is left of a claim.
use Rattle.std.specs.Prelude.{◌≡◌, ◌≢◌, ℕ, Bool, true, false, List, ◌++◌}

-- it was there and was taken away; or it isn't there
abbrev pub IsMatch : List ℕ → Bool → List ℕ → List ℕ → Type 0
IsMatch text true before left = before ≡ text ++ left
IsMatch text false before left = (rest : List ℕ) → before ≢ text ++ rest

-- such a text was there and was taken away; or no such text is there
abbrev pub IsMatchOf : (List ℕ → Type 0) → Bool → List ℕ → List ℕ → Type 0
IsMatchOf IsText true before left = (text : List ℕ) × IsText text × (before ≡ text ++ left)
IsMatchOf IsText false before left = (text rest : List ℕ) → IsText text → before ≢ text ++ rest
