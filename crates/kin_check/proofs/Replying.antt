-- What is answered from all positions is what the definition asks for.
use Rattle.std.proofs.Common.{◌≡◌, inl, refl, sym, ap, ◌∙◌, subst, List, ℕ, ℤ, w32, to_z, of_z, is_some, Option, Some, None, true, length}
use Rattle.std.specs.Prelude.{option_map, slice_get, Contains}
use Rattle.std.proofs.lemmas.List.Elements.{All-contains}
use Rattle.kin_algebra.proofs.Members.{contains_from_get, get_from_contains}
use Rattle.kin_num.specs.declared.instant.Moment.{Moment}
use Rattle.kin_motion.specs.declared.keep.Keep.{Keep}
use Rattle.kin_motion.specs.declared.keep.Keep.TheVariants.{Boxes, Extreme, Order}
use Rattle.kin_motion.specs.declared.keep.Rect.{Rect}
use Rattle.kin_motion.specs.Boxes.{points_in}
use Rattle.kin_motion.specs.Chains.{IsHullCycle, cycle_of}
use Rattle.kin_motion.specs.ClosestPairs.{IsClosest, closest_of}
use Rattle.kin_motion.specs.Course.{Course, live_of, motion_of}
use Rattle.kin_motion.specs.Extremes.{IsExtremePoint, extreme_of}
use Rattle.kin_motion.specs.Farthest.{IsFarthest, farthest_of}
use Rattle.kin_motion.specs.Live.{Certificate, IsSmallBox, IsSmallDirection, IsSmallKeep, live_facts}
use Rattle.kin_motion.specs.Nearest.{IsNearest, nearest_of}
use Rattle.kin_motion.specs.Numbers.{IsIn}
use Rattle.kin_motion.specs.Orders.{IsOrder, order_of}
use Rattle.kin_motion.specs.Overlaps.{ListsOverlaps, overlaps_of}
use Rattle.kin_motion.specs.Plans.{Plan, motion_in_force, motions_in_force, plans_scene}
use Rattle.kin_motion.specs.Scene.{IsReal, Scene, scene_at}
use Rattle.kin_motion.proofs.ClosestLaws.{closest_proved}
use Rattle.kin_motion.proofs.FarthestLaws.{farthest_proved}
use Rattle.kin_motion.proofs.LiveLaws.{live-members}
use Rattle.kin_motion.proofs.NearestLaws.{nearest_proved}
use Rattle.kin_motion.proofs.OverlapLists.{overlaps_agree}
use Rattle.kin_motion.proofs.Proved.{cycle_proved, extreme_proved, order_proved}
use Rattle.kin_legs.specs.Paths.{plan_of}
use Rattle.kin_legs.proofs.SceneLaws.{forced}
use Rattle.kin_plain.proofs.BoxEnds.{size_read}
use Rattle.kin_plain.proofs.Wedges.{small_read}
use Rattle.kin_script.specs.declared.command.Command.TheVariants.{Overlaps}
use Rattle.kin_script.specs.declared.refusal.Refusal.TheVariants.{NotKept}
use Rattle.kin_script.specs.Printed.{list_line}
use Rattle.kin_script.specs.PrintedJournal.{count_line, one_line, pair_line, pairs_lines}
use Rattle.kin_script.specs.Questions.{AreOverlapsLines, HasBoxes, HasKeep, IsClosestLine, IsExtremeLine, IsFarthestLine, IsHullLine, IsInsideLine, IsLiveLine, IsNearestLine, IsOrderLine, IsRefusedQuestion, kept_boxes}
use Rattle.kin_script.specs.States.{State, state_scene}
use Rattle.kin_script.proofs.Questions.{boxes_found, boxes_kept}
use Rattle.kin_check.specs.Sound.{IsSound}
use Rattle.kin_check.proofs.Coming.{listed, real}

-- ---- what is kept
pub has_keep : (s : State) (keeps : List Keep) (kind : Keep) → keeps ≡ s.keeps → Contains keeps kind → HasKeep s kind
has_keep s keeps kind same there = get_from_contains s.keeps kind (subst (λ (ks : List Keep). Contains ks kind) same there)

pub keep_is : (s : State) (keeps : List Keep) (k : ℕ) (found : Option Keep) (keep kind : Keep) → keeps ≡ s.keeps → found ≡ slice_get keeps k → found ≡ Some keep → keep ≡ kind
    → slice_get s.keeps k ≡ Some kind
keep_is s keeps k found keep kind same e is kind_is = ap (λ (ks : List Keep). slice_get ks k) (sym same) ∙ sym e ∙ is ∙ ap (λ (x : Keep). Some x) kind_is

-- boxes of this width and height were found, or none
pub boxes_are : (s : State) (keeps : List Keep) (found size : Option (ℤ × ℤ)) → keeps ≡ s.keeps → found ≡ kept_boxes keeps → found ≡ size
    → kept_boxes s.keeps ≡ size
boxes_are s keeps found size same e is = ap kept_boxes (sym same) ∙ sym e ∙ is

pub has_boxes : (s : State) (width height : ℤ) → kept_boxes s.keeps ≡ Some (width, height) → HasBoxes s
has_boxes s width height found = let k = boxes_kept s.keeps width height found in (k.0, width, height, k.1)

pub no_boxes : (s : State) → kept_boxes s.keeps ≡ None → IsRefusedQuestion s Overlaps NotKept
no_boxes s none = inl (refl, λ h. absurd (let clash = sym (boxes_found s.keeps h.0 h.1 h.2 h.3) ∙ ap is_some none in cc))

-- a width and a height, as they were handed on
handed_box : (width height : ℤ) → IsSmallBox width height → IsSmallBox (to_z w32 (of_z w32 width)) (to_z w32 (of_z w32 height))
handed_box width height small =
    subst (λ w. IsSmallBox w (to_z w32 (of_z w32 height))) (sym (size_read width small.0 small.1))
    (subst (IsSmallBox width) (sym (size_read height small.2 small.3)) small)

-- both parts of a direction, as they were handed on
handed : (dx dy : ℤ) → IsSmallDirection dx dy → IsSmallDirection (to_z w32 (of_z w32 dx)) (to_z w32 (of_z w32 dy))
handed dx dy small = subst (λ x. IsSmallDirection x (to_z w32 (of_z w32 dy))) (sym (small_read dx small.0)) (subst (IsSmallDirection dx) (sym (small_read dy small.1)) small)

module _ (s : State) (sound : IsSound s) where
  small_kept : (k : ℕ) (keep : Keep) → slice_get s.keeps k ≡ Some keep → IsSmallKeep keep
  small_kept k keep kept = All-contains IsSmallKeep s.keeps keep sound.plannable.small (contains_from_get s.keeps k keep kept)

  pub order_small : (k : ℕ) (dx dy : ℤ) → slice_get s.keeps k ≡ Some (Order dx dy) → IsSmallDirection (to_z w32 (of_z w32 dx)) (to_z w32 (of_z w32 dy))
  order_small k dx dy kept = handed dx dy (small_kept k (Order dx dy) kept)

  pub extreme_small : (k : ℕ) (dx dy : ℤ) → slice_get s.keeps k ≡ Some (Extreme dx dy) → IsSmallDirection (to_z w32 (of_z w32 dx)) (to_z w32 (of_z w32 dy))
  extreme_small k dx dy kept = handed dx dy (small_kept k (Extreme dx dy) kept)

  small_boxes : (width height : ℤ) → kept_boxes s.keeps ≡ Some (width, height) → IsSmallBox width height
  small_boxes width height found = let k = boxes_kept s.keeps width height found in small_kept k.0 (Boxes width height) k.1

  pub boxes_small : (width height : ℤ) → kept_boxes s.keeps ≡ Some (width, height) → IsSmallBox (to_z w32 (of_z w32 width)) (to_z w32 (of_z w32 height))
  boxes_small width height found = handed_box width height (small_boxes width height found)

  abbrev now_seen : Scene
  now_seen = state_scene s

  now_real : IsReal now_seen
  now_real = real s sound s.moment sound.canonical

  -- ---- what is seen: these motions at this moment, which a call has told
  module _ (told m : Moment) (ms : List (Option Course)) (same : told ≡ s.moment) (is : ms ≡ motions_in_force s.plans told) (at : m ≡ told) where
    force_is : ms ≡ motions_in_force s.plans s.moment
    force_is = is ∙ ap (motions_in_force s.plans) same

    pub seen_is : scene_at ms m ≡ now_seen
    seen_is = ap (scene_at ms) (at ∙ same) ∙ ap (λ (cs : List (Option Course)). scene_at cs s.moment) force_is

    pub order_line : (k : ℕ) (dx dy : ℤ) (order : List ℕ) → slice_get s.keeps k ≡ Some (Order dx dy) → order ≡ order_of (scene_at ms m) (to_z w32 (of_z w32 dx)) (to_z w32 (of_z w32 dy))
        → IsOrderLine s.keeps now_seen k (list_line order)
    order_line k dx dy order kept e =
        let small = small_kept k (Order dx dy) kept in
        let found : order ≡ order_of now_seen dx dy =
        e ∙ ap (λ x. order_of (scene_at ms m) x (to_z w32 (of_z w32 dy))) (small_read dx small.0) ∙ ap (order_of (scene_at ms m) dx) (small_read dy small.1)
        ∙ ap (λ (v : Scene). order_of v dx dy) seen_is in
        record { dx = dx; dy = dy; kept = kept; order = order; ordered = subst (IsOrder now_seen dx dy) (sym found) (order_proved now_seen dx dy now_real); line = refl }

    pub extreme_line : (k : ℕ) (dx dy : ℤ) (point : Option ℕ) → slice_get s.keeps k ≡ Some (Extreme dx dy) → point ≡ extreme_of (scene_at ms m) (to_z w32 (of_z w32 dx)) (to_z w32 (of_z w32 dy))
        → IsExtremeLine s.keeps now_seen k (one_line point)
    extreme_line k dx dy point kept e =
        let small = small_kept k (Extreme dx dy) kept in
        let found : point ≡ extreme_of now_seen dx dy =
        e ∙ ap (λ x. extreme_of (scene_at ms m) x (to_z w32 (of_z w32 dy))) (small_read dx small.0) ∙ ap (extreme_of (scene_at ms m) dx) (small_read dy small.1)
        ∙ ap (λ (v : Scene). extreme_of v dx dy) seen_is in
        record { dx = dx; dy = dy; kept = kept; point = point; extreme = subst (IsExtremePoint now_seen dx dy) (sym found) (extreme_proved now_seen dx dy now_real); line = refl }

    pub hull_line : (cycle : List ℕ) → cycle ≡ cycle_of (scene_at ms m) → IsHullLine s (list_line cycle)
    hull_line cycle e = (cycle, subst (IsHullCycle now_seen) (sym (e ∙ ap cycle_of seen_is)) (cycle_proved now_seen now_real), refl)

    pub closest_line : (pair : Option (ℕ × ℕ)) → pair ≡ closest_of (scene_at ms m) → IsClosestLine s (pair_line pair)
    closest_line pair e = (pair, subst (IsClosest now_seen) (sym (e ∙ ap closest_of seen_is)) (closest_proved now_seen now_real), refl)

    pub farthest_line : (pair : Option (ℕ × ℕ)) → pair ≡ farthest_of (scene_at ms m) → IsFarthestLine s (pair_line pair)
    farthest_line pair e = (pair, subst (IsFarthest now_seen) (sym (e ∙ ap farthest_of seen_is)) (farthest_proved now_seen now_real), refl)

    pub overlaps_lines : (width height : ℤ) (pairs : List (ℕ × ℕ)) → kept_boxes s.keeps ≡ Some (width, height)
        → pairs ≡ overlaps_of (scene_at ms m) (to_z w32 (of_z w32 width)) (to_z w32 (of_z w32 height)) → AreOverlapsLines s.keeps now_seen (pairs_lines pairs)
    overlaps_lines width height pairs found e =
        let small = small_boxes width height found in
        let listed : pairs ≡ overlaps_of now_seen width height =
        e ∙ ap (λ w. overlaps_of (scene_at ms m) w (to_z w32 (of_z w32 height))) (size_read width small.0 small.1)
        ∙ ap (overlaps_of (scene_at ms m) width) (size_read height small.2 small.3) ∙ ap (λ (v : Scene). overlaps_of v width height) seen_is in
        record {
          width = width;
          height = height;
          kept = found;
          pairs = pairs;
          overlaps = subst (ListsOverlaps now_seen width height) (sym listed) (overlaps_agree now_seen width height now_real);
          lines = refl;
        }

    pub inside_line : (rect : Rect) (points : List ℕ) → points ≡ points_in ms m rect → IsInsideLine s rect (list_line points)
    inside_line rect points e = ap list_line (e ∙ ap (λ (x : Moment). points_in ms x rect) (at ∙ same) ∙ ap (λ (cs : List (Option Course)). points_in cs s.moment rect) force_is)

    pub nearest_line : (n : ℕ) (point : Option ℕ) → point ≡ nearest_of (scene_at ms m) n → IsNearestLine s n (one_line point)
    nearest_line n point e = (point, subst (IsNearest now_seen n) (sym (e ∙ ap (λ (v : Scene). nearest_of v n) seen_is)) (nearest_proved now_seen n now_real), refl)

    -- a number with a plan is live
    pub live_too : (n : ℕ) → is_some (plan_of s.plans n) ≡ true → IsIn n (live_of ms)
    live_too n has =
        live-members ms n ∙ ap (λ (cs : List (Option Course)). is_some (motion_of cs n)) force_is ∙ ap is_some (forced s.moment s.plans n) ∙ still (plan_of s.plans n) has
      where
        still : (p : Option Plan) → is_some p ≡ true → is_some (option_map (motion_in_force s.moment) p) ≡ true
        still None e = e
        still (Some plan) e = refl

  pub live_line : (told : Moment) (facts : List Certificate) (n : ℕ) → told ≡ s.moment → facts ≡ live_facts s.size s.keeps (plans_scene s.plans told) → n ≡ length facts → IsLiveLine s (count_line n)
  live_line told facts n same are count =
      let own : facts ≡ live_facts s.size s.keeps now_seen = are ∙ ap (λ (m : Moment). live_facts s.size s.keeps (plans_scene s.plans m)) same in
      (n, (live_facts s.size s.keeps now_seen, listed s sound s.moment sound.canonical, sym (count ∙ ap length own)), refl)
