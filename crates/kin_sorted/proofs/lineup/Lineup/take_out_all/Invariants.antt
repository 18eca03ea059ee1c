use Rattle.std.proofs.Common.{◌≡◌, ◌*◌, ◌≤◌, List, [], Option, take, length}
use Rattle.kin_sorted.specs.declared.link.Link.{Link}
use Rattle.kin_sorted.specs.Marks.{without_all}
use Rattle.kin_motion.specs.Ranks.{Ranks}
use Rattle.kin_sorted.specs.Repairs.{IsHeld, IsThinned}
use Rattle.kin_sorted.proofs.lineup.Lineup.take_out_all.Given as goal

abbrev pub invariant-loop-slot : goal.invariant-loop-slot
invariant-loop-slot l = record {
  items : l.self.row.items ≡ without_all (take l.slot-index l.leaving) l.initial.self.row.items;
  thinned : (r : Ranks) (links : List (Option Link)) → IsHeld r links l.initial.self.row.items l.initial.self.row.signs [] []
      → IsThinned r links l.self.row.items l.self.row.signs l.self.touched.items;
  few : length l.self.touched.items ≤ 2 * l.slot-index;
  doubts : l.self.doubts ≡ l.initial.self.doubts;
  swaps : l.self.swaps.items ≡ l.initial.self.swaps.items;
  room : l.self.row.room ≡ l.initial.self.row.room;
  links : l.self.row.links ≡ l.initial.self.row.links;
}
