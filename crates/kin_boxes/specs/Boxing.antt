-- What moving boxes mean to their callers.
use Rattle.std.specs.Prelude.{◌≡◌, ◌⊎◌, ℕ, ◌+◌, ◌-◌, ◌*◌, ◌^◌, ◌<◌, ◌≤◌, nat_lt, not, ℤ, pos, List, [], ◌∷◌, ◌++◌, map, length, sum, Bool, true, Contains, Option, Some, None}
use Rattle.kin_motion.specs.declared.fact.Placed.{Placed}
use Rattle.kin_motion.specs.declared.keep.Keep.{Keep}
use Rattle.kin_motion.specs.declared.keep.Keep.TheVariants as keep
use Rattle.kin_motion.specs.Deltas.{Change}
use Rattle.kin_motion.specs.Numbers.{is_in, IsOnce, HasEntered}
use Rattle.kin_motion.specs.Parts.{moved_by}
use Rattle.kin_motion.specs.Records.{moved_pairs}
use Rattle.kin_motion.specs.Scene.{Scene, IsReal}
use Rattle.kin_sorted.specs.declared.ends.Ends.{Ends}
use Rattle.kin_motion.specs.BoxEnds.{ends}
use Rattle.kin_sorted.specs.Marks.{Marks, marked, names_gone}
use Rattle.kin_motion.specs.Ranks.{Ranks}
use Rattle.kin_sorted.specs.Sorting.{Sorting, unmarked}
use Rattle.kin_motion.specs.BoxFacts.{low_end, high_end, point, AreBoxes}
use Rattle.kin_motion.specs.Overlaps.{ListsOverlaps}

-- the ends in their order along x, with the width of the boxes, and along y, with their height; false after want of memory
pub record Boxing : Type 0 where
  pub by_x : Sorting Ends
  pub by_y : Sorting Ends
  pub whole : Bool

-- these two lists
abbrev pub boxing_of : Sorting Ends → Sorting Ends → Boxing
boxing_of x y = record { by_x = x; by_y = y; whole = true }

-- the facts of the order along x in parts 0 to 3, and those of the order along y in parts 4 to 7
abbrev pub facts_of : Boxing → List Placed
facts_of b = map (moved_by 0) b.by_x.facts ++ map (moved_by 4) b.by_y.facts

-- whether the point is a member
abbrev pub has_point : Boxing → ℕ → Bool
has_point b who = is_in (low_end who) b.by_x.items

-- both ends of one box enter
abbrev pub entering_box : ℕ → Marks
entering_box who = record { entering = low_end who ∷ high_end who ∷ []; leaving = [] }

-- both ends of one box leave
abbrev pub leaving_box : ℕ → Marks
leaving_box who = record { entering = []; leaving = low_end who ∷ high_end who ∷ [] }

-- the same boxes with these marks in both lists
abbrev pub with_marks : Marks → Boxing → Boxing
with_marks m b = record b { by_x = record b.by_x { marks = m }; by_y = record b.by_y { marks = m } }

-- how the ends of an axis are ranked
abbrev pub ranks_of : Ends → Ranks
ranks_of e = ends e.count e.dx e.dy e.width

-- whether a fact names the leaving number
abbrev pub is_spared : Boxing → Placed → Bool
is_spared b p = names_gone (ranks_of b.by_x.rank) b.by_x.marks b.by_x.items p

-- the list as it is once the box that is to leave, if there is one, is marked
abbrev pub with_leaving : Option ℕ → Sorting Ends → Sorting Ends
with_leaving None k = k
with_leaving (Some who) k = record k { marks = leaving_box who }

-- no mark waits
pub record IsBoxingAtRest (b : Boxing) : Type 0 where
  pub whole : b.whole ≡ true
  pub marks : b.by_x.marks ≡ unmarked
  pub y_marks : b.by_y.marks ≡ unmarked

-- the members as they will be, once the marks are carried out, are both ends of the boxes of these points
pub record HasMembers (b : Boxing) (set : List ℕ) : Type 0 where
  pub whole : b.whole ≡ true
  pub members : (e : ℕ) → is_in e (marked b.by_x.marks b.by_x.items) ≡ is_in (point e) set

-- they are those of the live points
abbrev pub IsReadyBoxing : Boxing → Scene → Type 0
IsReadyBoxing b s = HasMembers b s.live

-- the two lists are the orders of the ends along x and along y, and the facts are theirs
abbrev pub IsSettledBoxing : Boxing → Scene → Type 0
IsSettledBoxing b s = AreBoxes s b.by_x.rank.width b.by_y.rank.width b.by_x.items b.by_y.items (facts_of b)

-- in every real scene in which the boxes are settled, these are the pairs that overlap
abbrev pub AreOverlapsOf : Boxing → List (ℕ × ℕ) → Type 0
AreOverlapsOf b pairs = (s : Scene) → IsReal s → IsSettledBoxing b s → ListsOverlaps s b.by_x.rank.width b.by_y.rank.width pairs

-- the list without members along (dx, dy), for the numbers below 2^size
pub record IsVacantAlong (dx dy width : ℤ) (size : ℕ) (k : Sorting Ends) : Type 0 where
  pub dx_is : k.rank.dx ≡ dx
  pub dy_is : k.rank.dy ≡ dy
  pub width_is : k.rank.width ≡ width
  pub count : k.rank.count ≡ 2 ^ size
  pub items : k.items ≡ []
  pub facts : k.facts ≡ []
  pub marks : k.marks ≡ unmarked
  pub whole : k.whole ≡ true

-- boxes of this width and height without members
pub record IsVacantBoxing (width height : ℤ) (size : ℕ) (b : Boxing) : Type 0 where
  pub x : IsVacantAlong (pos 1) (pos 0) width size b.by_x
  pub y : IsVacantAlong (pos 0) (pos 1) height size b.by_y
  pub whole : b.whole ≡ true

-- what is true between two calls: the lists are along x and y, no size is negative, and both have the same marks and both ends of the same boxes
pub record AreJoined (x y : Sorting Ends) : Type 0 where
  pub x_way : (x.rank.dx ≡ pos 1) × (x.rank.dy ≡ pos 0)
  pub y_way : (y.rank.dx ≡ pos 0) × (y.rank.dy ≡ pos 1)
  pub width : (n : ℕ) × (x.rank.width ≡ pos n)
  pub height : (n : ℕ) × (y.rank.width ≡ pos n)
  pub count : y.rank.count ≡ x.rank.count
  pub x_whole : x.whole ≡ true
  pub y_whole : y.whole ≡ true
  pub marks : y.marks ≡ x.marks
  pub same : (e : ℕ) → is_in e y.items ≡ is_in e x.items
  pub boxes : (e f : ℕ) → point e ≡ point f → is_in e x.items ≡ is_in f x.items
  pub within : (e : ℕ) → is_in e (marked x.marks x.items) ≡ true → e < 2 * x.rank.count
  pub x_once : IsOnce x.items
  pub y_once : IsOnce y.items
  pub x_parts : (p : Placed) → Contains x.facts p → p.part < 4
  pub y_parts : (p : Placed) → Contains y.facts p → p.part < 4

-- what is true inside between two calls: both lists are joined once the box that is to leave is marked, and before that they have no marks
pub record AreJoinedBut (leaving : Option ℕ) (x y : Sorting Ends) : Type 0 where
  pub joined : AreJoined (with_leaving leaving x) (with_leaving leaving y)
  pub x_unmarked : (who : ℕ) → leaving ≡ Some who → x.marks ≡ unmarked
  pub y_unmarked : (who : ℕ) → leaving ≡ Some who → y.marks ≡ unmarked
  pub member : (who : ℕ) → leaving ≡ Some who → is_in (low_end who) x.items ≡ true
  pub within : (who : ℕ) → leaving ≡ Some who → who < x.rank.count

-- at most 8 tests for each fact dropped or born and for each moved pair of ends of an axis, and a halving for each end that enters,
-- of at most h tests with 2^h <= 2*n where its list has n ends afterwards
pub record AreFewTests (old new : Boxing) (out out' : Change) (before after : ℕ) : Type 0 where
  pub halvings : List ℕ
  pub each : length halvings ≡ length old.by_x.marks.entering + length old.by_y.marks.entering
  pub allowed : (h : ℕ) → Contains halvings h → (2 ^ h ≤ 2 * length new.by_x.items) ⊎ (2 ^ h ≤ 2 * length new.by_y.items)
  pub bound : after + 8 * (length out.dropped + length out.born)
      ≤ before + 8 * (length out'.dropped + length out'.born + moved_pairs old.by_x.items new.by_x.items + moved_pairs old.by_y.items new.by_y.items) + sum
      halvings

-- ---- as the structure of a keep
-- boxes are kept
abbrev pub IsBoxesKeep : Keep → Type 0
IsBoxesKeep (keep.Boxes width height) = Unit {0}
IsBoxesKeep _ = ⊥

-- they are the boxes of the keep, for the numbers below 2^size
abbrev pub IsBoxingFor : Boxing → ℕ → Keep → Type 0
IsBoxingFor b size kept = (kept ≡ keep.Boxes b.by_x.rank.width b.by_y.rank.width) × (b.by_x.rank.count ≡ 2 ^ size)

-- the axes, the size of the boxes and the room are the same
abbrev pub StaysBoxing : Boxing → Boxing → Type 0
StaysBoxing old new = (new.by_x.rank ≡ old.by_x.rank) × (new.by_y.rank ≡ old.by_y.rank)

-- the marks lead from the first live numbers to the second
abbrev pub LeadsTo : Marks → List ℕ → List ℕ → Type 0
LeadsTo m before after =
    ((m ≡ unmarked) × (before ≡ after))
    ⊎ (((who : ℕ) × (m ≡ entering_box who) × HasEntered who before after) ⊎ ((who : ℕ) × (m ≡ leaving_box who) × HasEntered who after before))

-- they were settled in this scene, and the marks, in both lists the same, lead from the live numbers there to these
pub record FollowsBoxing (b : Boxing) (s : Scene) (live : List ℕ) : Type 0 where
  pub settled : IsSettledBoxing b s
  pub same : b.by_y.marks ≡ b.by_x.marks
  pub led : LeadsTo b.by_x.marks s.live live

-- ---- the parts of the axes
-- whether the fact is one of the order along x, and whether it is one of the order along y
abbrev pub is_along_x : Placed → Bool
is_along_x p = nat_lt p.part 4

abbrev pub is_along_y : Placed → Bool
is_along_y p = not (nat_lt p.part 4)

-- the fact in the part of its own list
abbrev pub moved_back : Placed → Placed
moved_back p = record { part = p.part - 4; fact = p.fact }
