-- Edits that lead from one list of numbers to another.
use Rattle.std.specs.Prelude.{ℕ, ◌+◌, ◌≤◌, List, [], ◌∷◌, ◌++◌, length, take, drop}

-- from the place on so many numbers are dropped, and these are put there
pub record Edit : Type 0 where
  pub place : ℕ
  pub drop : ℕ
  pub put : List ℕ

-- the numbers that an edit drops
abbrev pub dropped_by_one : Edit → List ℕ → List ℕ
dropped_by_one e xs = take e.drop (drop e.place xs)

-- the list after an edit
abbrev pub edited : Edit → List ℕ → List ℕ
edited e xs = take e.place xs ++ e.put ++ drop (e.place + e.drop) xs

-- the list after the edits, in their order
abbrev pub all_edited : List Edit → List ℕ → List ℕ
all_edited [] xs = xs
all_edited (e ∷ es) xs = all_edited es (edited e xs)

-- each edit drops what is there when its turn comes
abbrev pub AreFitting : List Edit → List ℕ → Type 0
AreFitting [] xs = Unit {0}
AreFitting (e ∷ es) xs = (e.place + e.drop ≤ length xs) × AreFitting es (edited e xs)

-- the numbers that the edits drop, in their order
abbrev pub dropped_by : List Edit → List ℕ → List ℕ
dropped_by [] xs = []
dropped_by (e ∷ es) xs = dropped_by_one e xs ++ dropped_by es (edited e xs)

-- the numbers that the edits put, in their order
abbrev pub put_by : List Edit → List ℕ
put_by [] = []
put_by (e ∷ es) = e.put ++ put_by es
