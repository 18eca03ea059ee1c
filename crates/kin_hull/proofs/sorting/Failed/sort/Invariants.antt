use Rattle.std.proofs.Common.{◌≡◌, ◌++◌, filter, map, drop}
use Rattle.kin_hull.specs.declared.side.Side.TheVariants.{Upper, Lower}
use Rattle.kin_hull.specs.Sides.{is_of, inward}
use Rattle.kin_hull.proofs.sorting.Failed.sort.Given as goal

abbrev pub invariant-loop-placed : goal.invariant-loop-placed
invariant-loop-placed l = record {
  upper : l.self.upper.items ++ map (inward Upper) (filter (is_of Upper) (drop l.placed-index l.facts)) ≡ map (inward Upper) (filter (is_of Upper) l.facts);
  lower : l.self.lower.items ++ map (inward Lower) (filter (is_of Lower) (drop l.placed-index l.facts)) ≡ map (inward Lower) (filter (is_of Lower) l.facts);
}
