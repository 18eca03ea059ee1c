-- The sorted finds of a sweep are the overlaps.
use Rattle.std.proofs.Common.{List, [], ℕ, nat_cmp, Bool}
use Rattle.std.specs.List.Sorted.{IsPermutation, IsSorted}
use Rattle.std.specs.Ordering.{ordering_then}
use Rattle.std.proofs.lemmas.List.Sorted.{Contains-permutation, IsPermutation-sym}
use Rattle.kin_motion.specs.Scene.{Scene, IsReal}
use Rattle.kin_motion.specs.Sets.{ListsExactly}
use Rattle.kin_sorted.specs.declared.ends.Ends.{Ends}
use Rattle.kin_sorted.specs.Sorting.{Sorting}
use Rattle.kin_boxes.specs.Boxing.{AreJoined, IsSettledBoxing}
use Rattle.kin_motion.specs.Overlaps.{ListsOverlaps}
use Rattle.kin_boxes.specs.Sweeps.{meets, IsFound, IsAhead}
use Rattle.kin_boxes.proofs.Overlapping.{all_ahead, found_overlaps, overlaps_found}
use Rattle.kin_boxes.proofs.Rising.{sorted_rises}

pub overlaps_read : (x y : Sorting Ends) (whole : Bool) → AreJoined x y → (found pairs : List (ℕ × ℕ)) → (IsAhead [] x.items → ListsExactly found (IsFound (meets y.items) [] x.items))
    → IsPermutation found pairs
    → IsSorted (λ p q. ordering_then (nat_cmp p.0 q.0) (nat_cmp p.1 q.1)) pairs
    → (s : Scene) → IsReal s → IsSettledBoxing (record { by_x = x; by_y = y; whole = whole }) s → ListsOverlaps s x.rank.width y.rank.width pairs
overlaps_read x y whole known found pairs sweeps moved sorted s real settled =
    let m = known.width in
    let n = known.height in
    let exact = sweeps (all_ahead s x.rank.width y.rank.width m.0 n.0 real m.1 x.items y.items settled.x_order settled.y_order) in
    record {
      rising = sorted_rises found pairs exact.once moved sorted;
      each = λ p. (
        λ c. found_overlaps s x.rank.width y.rank.width m.0 n.0 real m.1 x.items y.items settled.x_order settled.y_order p
            ((exact.each p).0 (Contains-permutation pairs found p (IsPermutation-sym found pairs moved) c)),
        λ o. Contains-permutation found pairs p moved ((exact.each p).1
            (overlaps_found s x.rank.width y.rank.width m.0 n.0 real m.1 x.items y.items settled.x_order settled.y_order p o)),
      );
    }
