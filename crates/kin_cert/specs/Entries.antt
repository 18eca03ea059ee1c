-- What the entry of a live fact says. No public clause cites this module.
use Rattle.std.specs.Prelude.{Bool, cond, Option, Some, None}
use Rattle.kin_num.specs.declared.instant.Moment.{Moment}
use Rattle.kin_fail.specs.declared.owned.Owned.{Owned}

-- a live fact with its owner, its first failure, and whether it was given out
pub record Entry : Type 0 where
  pub owned : Owned
  pub fails : Option Moment
  pub is_waiting : Bool

-- the moment, where the fact fails at all
abbrev pub first_failure : Bool → Moment → Option Moment
first_failure is_mortal at = cond is_mortal (Some at) None
