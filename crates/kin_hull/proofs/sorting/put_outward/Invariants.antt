use Rattle.std.proofs.Common.{◌≡◌, ◌++◌, length, map, take, drop}
use Rattle.kin_hull.specs.Sides.{outward}
use Rattle.kin_hull.proofs.sorting.put_outward.Given as goal

abbrev pub invariant-loop-place : goal.invariant-loop-place
invariant-loop-place l = record {
  room : length l.facts.items ≡ length l.fn.facts.items;
  rest : drop l.place l.facts.items ≡ drop l.place l.fn.facts.items;
  all : take l.place l.facts.items ++ map (outward l.side) (drop l.place l.facts.items) ≡ take l.fn.from l.fn.facts.items ++ map (outward l.side) (drop l.fn.from l.fn.facts.items);
}
