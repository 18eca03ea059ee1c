-- Words on lists.
use Rattle.std.specs.Prelude.{◌≡◌, ℕ, false, List, [], ◌∷◌, Option, Some, None}
use Rattle.kin_motion.specs.Numbers.{is_in, IsIn}

-- the first item, if there is one
abbrev pub first_of : {A : Type 0} → List A → Option A
first_of [] = None
first_of (x ∷ xs) = Some x

-- the first number of a list that has one
abbrev pub front : List ℕ → ℕ
front [] = 0
front (x ∷ xs) = x

-- what comes after the first number
abbrev pub behind : List ℕ → List ℕ
behind [] = []
behind (x ∷ xs) = xs

-- no number that is put is dropped
abbrev pub AreApart : List ℕ → List ℕ → Type 0
AreApart put dropped = (x : ℕ) → IsIn x put → is_in x dropped ≡ false
