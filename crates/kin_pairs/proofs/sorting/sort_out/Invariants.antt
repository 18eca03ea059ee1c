use Rattle.std.proofs.Common.{◌≡◌, ◌++◌, filter, map, drop}
use Rattle.kin_pairs.specs.Sorting.{is_before, is_beyond, taken_back}
use Rattle.kin_pairs.proofs.sorting.sort_out.Given as goal

abbrev pub invariant-loop-placed : goal.invariant-loop-placed
invariant-loop-placed l = record {
  others : l.others.items ++ filter (is_before l.parts) (drop l.placed-index l.facts) ≡ filter (is_before l.parts) l.facts;
  pairs : l.pairs.items ++ map (taken_back l.parts) (filter (is_beyond l.parts) (drop l.placed-index l.facts)) ≡ map (taken_back l.parts) (filter (is_beyond l.parts) l.facts);
}
