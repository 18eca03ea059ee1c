-- What is noted of waiting edits.
use Rattle.std.specs.Prelude.{◌≡◌, ℕ, List, [], Option, Some, None}
use Rattle.kin_overlay.specs.declared.notes.Notes.{Notes}

-- the numbers that are dropped, and those that each chain's edits put and drop
pub record Noted : Type 0 where
  pub gone : List ℕ
  pub put_a : List ℕ
  pub put_b : List ℕ
  pub drop_a : List ℕ
  pub drop_b : List ℕ

-- of notes, if there are any
abbrev pub noted : Option Notes → Noted
noted None = record { gone = []; put_a = []; put_b = []; drop_a = []; drop_b = [] }
noted (Some n) = record { gone = n.gone.items; put_a = n.put_a.items; put_b = n.put_b.items; drop_a = n.drop_a.items; drop_b = n.drop_b.items }

-- nothing was put or dropped
pub record AreBlank (n : Noted) : Type 0 where
  pub gone : n.gone ≡ []
  pub put_a : n.put_a ≡ []
  pub put_b : n.put_b ≡ []
  pub drop_a : n.drop_a ≡ []
  pub drop_b : n.drop_b ≡ []
