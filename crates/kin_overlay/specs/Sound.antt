-- What is true of every overlay.
use Rattle.std.specs.Prelude.{◌≡◌, ℕ, List}
use Rattle.kin_motion.specs.Numbers.{IsOnce}
use Rattle.kin_motion.specs.Sets.{AreDistinct}
use Rattle.kin_overlay.specs.declared.stage.Stage.{Stage}
use Rattle.kin_overlay.specs.declared.stage.Stage.TheVariants.{Rest, Told, Broken}
use Rattle.kin_overlay.specs.Fingers.{AreLess}
use Rattle.kin_overlay.specs.Remembered.{Remembered, facts_of, all_placed}
use Rattle.kin_overlay.specs.Repairing.{Past, IsPast}
use Rattle.kin_overlay.specs.Walks.{chain_read}

-- every number of A is less than every number of B, no fact is there twice, and the list is that of the merge from whose chains the edits led to A and B
pub record IsWhole (part : ℕ) (list : Remembered) (put_a put_b drop_a drop_b gone a b : List ℕ) : Type 0 where
  pub less : AreLess a b
  pub distinct : AreDistinct (all_placed part (facts_of list))
  pub past : Past
  pub is_past : IsPast past list put_a put_b gone a b
  pub a_dropped : past.drop_a ≡ drop_a
  pub b_dropped : past.drop_b ≡ drop_b

-- and the chain is the one that is read off the list, with no number twice
pub record IsSound (part : ℕ) (list : Remembered) (chain put_a put_b drop_a drop_b gone a b : List ℕ) : Type 0 where
  pub whole : IsWhole part list put_a put_b drop_a drop_b gone a b
  pub read : chain ≡ chain_read list
  pub once : IsOnce chain

-- a fact of every overlay but a broken one
abbrev pub UnlessBroken : Stage → Type 0 → Type 0
UnlessBroken Rest P = P
UnlessBroken Told P = P
UnlessBroken Broken P = Unit {0}
