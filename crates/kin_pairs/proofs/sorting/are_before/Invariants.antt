use Rattle.std.proofs.Common.{◌≡◌, ◌++◌, filter, take, drop}
use Rattle.kin_pairs.specs.Sorting.{is_before, is_beyond}
use Rattle.kin_pairs.proofs.sorting.are_before.Given as goal

abbrev pub invariant-loop-placed : goal.invariant-loop-placed
invariant-loop-placed l = record {
  others : filter (is_before l.parts) l.facts ≡ take l.placed-index l.facts ++ filter (is_before l.parts) (drop l.placed-index l.facts);
  pairs : filter (is_beyond l.parts) l.facts ≡ filter (is_beyond l.parts) (drop l.placed-index l.facts);
}
