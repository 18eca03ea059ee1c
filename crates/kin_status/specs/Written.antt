-- What is written, and what is gathered and still to be written.
use Rattle.std.specs.Prelude.{◌≡◌, ℕ, List, ◌++◌, Option}
use Rattle.std.specs.Io.KnownBytes.{Appends}
use Rattle.kin_io.specs.Ends.{AppendsFront}

-- a prefix of the text
pub record IsFront (front text : List ℕ) : Type 0 where
  pub more : List ℕ
  pub joined : text ≡ front ++ more

-- what was written has this property
abbrev pub Wrote : Option (List ℕ) → Option (List ℕ) → (List ℕ → Type 0) → Type 0
Wrote before now property = (bytes : List ℕ) × Appends before now bytes × property bytes

-- a sink and the buffer before it: what the sink holds, where that is known, and what is gathered and not yet written
pub record Printer : Type 0 where
  pub held : Option (List ℕ)
  pub gathered : List ℕ

abbrev pub printer : Option (List ℕ) → List ℕ → Printer
printer held gathered = record { held = held; gathered = gathered }

-- all bytes so far are those from before and then this text; how many of them the sink has doesn't matter
pub record Gains (p q : Printer) (text : List ℕ) : Type 0 where
  pub written : List ℕ
  pub appended : Appends p.held q.held written
  pub joined : written ++ q.gathered ≡ p.gathered ++ text

-- all bytes so far are those from before and then such a text
pub record GainsSome (IsText : List ℕ → Type 0) (p q : Printer) : Type 0 where
  pub text : List ℕ
  pub gained : Gains p q text
  pub is : IsText text

-- a write has failed: a prefix of what was gathered and then such a text has reached the sink
pub record LosesSome (IsText : List ℕ → Type 0) (p q : Printer) : Type 0 where
  pub text : List ℕ
  pub reached : AppendsFront p.held q.held (p.gathered ++ text)
  pub is : IsText text
