-- What each of several receivers gets.
use Rattle.std.specs.Prelude.{ℕ, List, [], slice_index_or}
use Rattle.kin_motion.specs.declared.fact.Placed.{Placed}

-- what the receiver k gets
abbrev pub told_to : List (List Placed) → ℕ → List Placed
told_to boxes k = slice_index_or boxes k []
