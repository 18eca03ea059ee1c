-- The table of what may be kept and asked: how a keep line and a question are written, in which ranges their numbers are, what must be kept,
-- which number must be live, and the line that answers, or the lines.
use Rattle.std.specs.Prelude.{◌≡◌, ◌⊎◌, ℕ, ◌+◌, ◌<◌, ◌≤◌, ◌^◌, ℤ, pos, unsigned_abs, List, [], ◌∷◌, Option, Some, None, option_map, is_some, IfSome, IsTrue, codes, slice_get, if◌then◌else◌}
use Rattle.std.specs.Str.{bytes_eq}
use Rattle.kin_motion.specs.declared.keep.Keep.{Keep}
use Rattle.kin_motion.specs.declared.keep.Keep.TheVariants as keep
use Rattle.kin_motion.specs.declared.keep.Rect.{Rect}
use Rattle.kin_motion.specs.Boxes.{IsRectInRange, points_in}
use Rattle.kin_motion.specs.Chains.{IsHullCycle}
use Rattle.kin_motion.specs.ClosestPairs.{IsClosest}
use Rattle.kin_motion.specs.Extremes.{IsExtremePoint}
use Rattle.kin_motion.specs.Farthest.{IsFarthest}
use Rattle.kin_motion.specs.Live.{IsLiveCount, IsSmallBox}
use Rattle.kin_motion.specs.Nearest.{IsNearest}
use Rattle.kin_motion.specs.Orders.{IsOrder}
use Rattle.kin_motion.specs.Overlaps.{ListsOverlaps}
use Rattle.kin_motion.specs.Plans.{motions_in_force}
use Rattle.kin_motion.specs.Scene.{Scene}
use Rattle.kin_legs.specs.Paths.{plan_of}
use Rattle.kin_script.specs.declared.command.Command.{Command}
use Rattle.kin_script.specs.declared.command.Command.TheVariants.{Order, Extreme, Hull, Closest, Inside, Nearest, Farthest, Overlaps, Live}
use Rattle.kin_script.specs.declared.refusal.Refusal.{Refusal}
use Rattle.kin_script.specs.declared.refusal.Refusal.TheVariants.{NotKept, Absent}
use Rattle.kin_script.specs.Lines.{Word}
use Rattle.kin_script.specs.Numbers.{◌>>=◌}
use Rattle.kin_script.specs.Printed.{list_line}
use Rattle.kin_script.specs.PrintedJournal.{count_line, one_line, pair_line, pairs_lines}
use Rattle.kin_script.specs.States.{State, state_scene}
use Rattle.kin_script.specs.Words.{natural_at, integer_at, number_at, direction_at, last}

-- ---- what is kept

-- boxes W H, each in 0..4096
unfoldable pub boxes_of : List Word → Option Keep
boxes_of ws = do
  width ← natural_at 0 4096 ws
  height ← natural_at 0 4096 width.1
  last (keep.Boxes (pos width.0) (pos height.0)) height.1

-- order DX DY, extreme DX DY, hull, closest, range, nearest, diameter, boxes W H
unfoldable pub keep_of : List Word → Option Keep
keep_of [] = None
keep_of (kind ∷ ws) =
    if bytes_eq kind (codes "order") then option_map (λ d. keep.Order d.0 d.1) (direction_at ws)
    else if bytes_eq kind (codes "extreme") then option_map (λ d. keep.Extreme d.0 d.1) (direction_at ws)
    else if bytes_eq kind (codes "hull") then last keep.Hull ws
    else if bytes_eq kind (codes "closest") then last keep.Closest ws
    else if bytes_eq kind (codes "range") then last keep.Range ws
    else if bytes_eq kind (codes "nearest") then last keep.Nearest ws
    else if bytes_eq kind (codes "diameter") then last keep.Diameter ws
    else if bytes_eq kind (codes "boxes") then boxes_of ws
    else None

-- both parts are in -16..16, and one is not 0
pub record IsDirection (dx dy : ℤ) : Type 0 where
  pub dx_small : unsigned_abs dx ≤ 16
  pub dy_small : unsigned_abs dy ≤ 16
  pub not_still : 0 < unsigned_abs dx + unsigned_abs dy

-- the numbers of a keep line
abbrev pub IsKeepInRange : Keep → Type 0
IsKeepInRange (keep.Order dx dy) = IsDirection dx dy
IsKeepInRange (keep.Extreme dx dy) = IsDirection dx dy
IsKeepInRange keep.Hull = Unit {0}
IsKeepInRange keep.Closest = Unit {0}
IsKeepInRange keep.Range = Unit {0}
IsKeepInRange keep.Nearest = Unit {0}
IsKeepInRange keep.Diameter = Unit {0}
IsKeepInRange (keep.Boxes width height) = IsSmallBox width height

-- ---- what is asked

-- order S
unfoldable pub order_question_of : List Word → Option Command
order_question_of ws = do
  s ← natural_at 0 31 ws
  last (Order s.0) s.1

-- extreme S
unfoldable pub extreme_question_of : List Word → Option Command
extreme_question_of ws = do
  s ← natural_at 0 31 ws
  last (Extreme s.0) s.1

-- box X1 X2 Y1 Y2
unfoldable pub box_question_of : List Word → Option Command
box_question_of ws = do
  x1 ← integer_at 16777216 ws
  x2 ← integer_at 16777216 x1.1
  y1 ← integer_at 16777216 x2.1
  y2 ← integer_at 16777216 y1.1
  last (Inside (record { x1 = x1.0; x2 = x2.0; y1 = y1.0; y2 = y2.0 })) y2.1

-- nearest N
unfoldable pub nearest_question_of : ℕ → List Word → Option Command
nearest_question_of size ws = do
  number ← number_at size ws
  last (Nearest number.0) number.1

-- the question of this name, with the words after it; the size bounds the numbers of points
unfoldable pub question_of : ℕ → Word → List Word → Option Command
question_of size name ws =
    if bytes_eq name (codes "order") then order_question_of ws
    else if bytes_eq name (codes "extreme") then extreme_question_of ws
    else if bytes_eq name (codes "hull") then last Hull ws
    else if bytes_eq name (codes "closest") then last Closest ws
    else if bytes_eq name (codes "box") then box_question_of ws
    else if bytes_eq name (codes "nearest") then nearest_question_of size ws
    else if bytes_eq name (codes "farthest") then last Farthest ws
    else if bytes_eq name (codes "overlaps") then last Overlaps ws
    else if bytes_eq name (codes "live") then last Live ws
    else None

-- the numbers of a question, where the points have numbers below 2^size; no other command is one
abbrev pub IsQuestionInRange : ℕ → Command → Type 0
IsQuestionInRange size (Order k) = k ≤ 31
IsQuestionInRange size (Extreme k) = k ≤ 31
IsQuestionInRange size Hull = Unit {0}
IsQuestionInRange size Closest = Unit {0}
IsQuestionInRange size (Inside r) = IsRectInRange r
IsQuestionInRange size (Nearest n) = n < 2 ^ size
IsQuestionInRange size Farthest = Unit {0}
IsQuestionInRange size Overlaps = Unit {0}
IsQuestionInRange size Live = Unit {0}
IsQuestionInRange size _ = ⊥

-- a structure of this kind is kept
abbrev pub HasKeep : State → Keep → Type 0
HasKeep s kind = (k : ℕ) × (slice_get s.keeps k ≡ Some kind)

-- boxes are kept, of some width and height
abbrev pub HasBoxes : State → Type 0
HasBoxes s = (k : ℕ) × (width : ℤ) × (height : ℤ) × (slice_get s.keeps k ≡ Some (keep.Boxes width height))

-- what a question asks for is kept
abbrev pub IsProvided : State → Command → Type 0
IsProvided s (Order k) = (dx : ℤ) × (dy : ℤ) × (slice_get s.keeps k ≡ Some (keep.Order dx dy))
IsProvided s (Extreme k) = (dx : ℤ) × (dy : ℤ) × (slice_get s.keeps k ≡ Some (keep.Extreme dx dy))
IsProvided s Hull = HasKeep s keep.Hull
IsProvided s Closest = HasKeep s keep.Closest
IsProvided s (Inside r) = HasKeep s keep.Range
IsProvided s (Nearest n) = HasKeep s keep.Nearest
IsProvided s Farthest = HasKeep s keep.Diameter
IsProvided s Overlaps = HasBoxes s
IsProvided s Live = Unit {0}
IsProvided s _ = ⊥

-- the number that must be live, if the question is about one point
abbrev pub must_be_live : Command → Option ℕ
must_be_live (Nearest n) = Some n
must_be_live _ = None

-- and it is live
abbrev pub IsPresent : State → Command → Type 0
IsPresent s q = IfSome (must_be_live q) (λ n. IsTrue (is_some (plan_of s.plans n)))

-- a question has an answer: what it asks for is kept, and the number that must be live is
abbrev pub IsAnswerable : State → Command → Type 0
IsAnswerable s q = IsProvided s q × IsPresent s q

-- why a question has none: what it asks for is not kept; or it is kept, and the number that must be live isn't
abbrev pub IsRefusedQuestion : State → Command → Refusal → Type 0
IsRefusedQuestion s q r = ((r ≡ NotKept) × ¬ (IsProvided s q)) ⊎ ((r ≡ Absent) × IsProvided s q × ¬ (IsPresent s q))

-- the line of an order: the live numbers in their order along the kept direction
pub record IsOrderLine (keeps : List Keep) (s : Scene) (k : ℕ) (text : List ℕ) : Type 0 where
  pub dx : ℤ
  pub dy : ℤ
  pub kept : slice_get keeps k ≡ Some (keep.Order dx dy)
  pub order : List ℕ
  pub ordered : IsOrder s dx dy order
  pub line : text ≡ list_line order

-- the line of an extreme point along the kept direction
pub record IsExtremeLine (keeps : List Keep) (s : Scene) (k : ℕ) (text : List ℕ) : Type 0 where
  pub dx : ℤ
  pub dy : ℤ
  pub kept : slice_get keeps k ≡ Some (keep.Extreme dx dy)
  pub point : Option ℕ
  pub extreme : IsExtremePoint s dx dy point
  pub line : text ≡ one_line point

-- the line of the hull: its points counterclockwise, the leftmost first
abbrev pub IsHullLine : State → List ℕ → Type 0
IsHullLine s text = (cycle : List ℕ) × IsHullCycle (state_scene s) cycle × (text ≡ list_line cycle)

-- the line of the closest pair
abbrev pub IsClosestLine : State → List ℕ → Type 0
IsClosestLine s text = (pair : Option (ℕ × ℕ)) × IsClosest (state_scene s) pair × (text ≡ pair_line pair)

-- the line of the points in a rectangle
abbrev pub IsInsideLine : State → Rect → List ℕ → Type 0
IsInsideLine s r text = text ≡ list_line (points_in (motions_in_force s.plans s.moment) s.moment r)

-- the line of the nearest other point
abbrev pub IsNearestLine : State → ℕ → List ℕ → Type 0
IsNearestLine s n text = (point : Option ℕ) × IsNearest (state_scene s) n point × (text ≡ one_line point)

-- the line of the farthest pair
abbrev pub IsFarthestLine : State → List ℕ → Type 0
IsFarthestLine s text = (pair : Option (ℕ × ℕ)) × IsFarthest (state_scene s) pair × (text ≡ pair_line pair)

-- the width and the height of the boxes that are kept: a script keeps boxes once at most
abbrev pub kept_boxes : List Keep → Option (ℤ × ℤ)
kept_boxes [] = None
kept_boxes (keep.Boxes width height ∷ keeps) = Some (width, height)
kept_boxes (_ ∷ keeps) = kept_boxes keeps

-- the lines of the pairs whose boxes overlap
pub record AreOverlapsLines (keeps : List Keep) (s : Scene) (text : List ℕ) : Type 0 where
  pub width : ℤ
  pub height : ℤ
  pub kept : kept_boxes keeps ≡ Some (width, height)
  pub pairs : List (ℕ × ℕ)
  pub overlaps : ListsOverlaps s width height pairs
  pub lines : text ≡ pairs_lines pairs

-- the line with the number of live facts
abbrev pub IsLiveLine : State → List ℕ → Type 0
IsLiveLine s text = (n : ℕ) × IsLiveCount s.size s.keeps (state_scene s) n × (text ≡ count_line n)

-- the line that answers a question, or the lines
abbrev pub IsReplyLine : State → Command → List ℕ → Type 0
IsReplyLine s (Order k) text = IsOrderLine s.keeps (state_scene s) k text
IsReplyLine s (Extreme k) text = IsExtremeLine s.keeps (state_scene s) k text
IsReplyLine s Hull text = IsHullLine s text
IsReplyLine s Closest text = IsClosestLine s text
IsReplyLine s (Inside r) text = IsInsideLine s r text
IsReplyLine s (Nearest n) text = IsNearestLine s n text
IsReplyLine s Farthest text = IsFarthestLine s text
IsReplyLine s Overlaps text = AreOverlapsLines s.keeps (state_scene s) text
IsReplyLine s Live text = IsLiveLine s text
IsReplyLine s _ text = ⊥
