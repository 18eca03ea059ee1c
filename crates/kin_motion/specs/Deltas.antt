-- What a structure reports.
use Rattle.std.specs.Prelude.{List}
use Rattle.kin_motion.specs.declared.fact.Placed.{Placed}

-- the facts that are dropped, and those that are born
pub record Change : Type 0 where
  pub dropped : List Placed
  pub born : List Placed
