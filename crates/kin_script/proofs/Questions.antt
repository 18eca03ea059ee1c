-- The table of the proofs of what may be kept and asked: numbers are in range; a question is refused for one cause, or it isn't and has one line.
use Rattle.std.proofs.Common.{◌≡◌, ◌⊎◌, inl, inr, ℕ, Bool, true, false, List, [], ◌∷◌, length, Option, Some, None, zero, suc, pos, refl, sym, ap, ◌∙◌, subst, arith}
use Rattle.std.specs.Prelude.{ℤ, ◌≤◌, nat_eq, Contains, slice_get, is_some, IfSome, IsTrue}
use Rattle.std.proofs.lemmas.Bool.Decides.{nat_tests}
use Rattle.std.proofs.lemmas.Int.{ints}
use Rattle.std.proofs.lemmas.Option.{same_Some}
use Rattle.kin_algebra.proofs.Members.{contains_none, contains_head, contains_tail, contains_cases, contains_from_get, get_from_contains}
use Rattle.kin_num.specs.Canonical.{IsCanonical}
use Rattle.kin_motion.specs.declared.keep.Keep.{Keep}
use Rattle.kin_motion.specs.declared.keep.Keep.TheVariants as keep
use Rattle.kin_motion.specs.Course.{Course}
use Rattle.kin_motion.specs.Agreements.{FitsSize}
use Rattle.kin_motion.specs.Boxes.{points_in}
use Rattle.kin_motion.specs.Chains.{cycle_of}
use Rattle.kin_motion.specs.ClosestPairs.{closest_of}
use Rattle.kin_motion.specs.Extremes.{IsExtremePoint, extreme_of}
use Rattle.kin_motion.specs.Farthest.{farthest_of}
use Rattle.kin_motion.specs.Keeps.{group}
use Rattle.kin_motion.specs.Live.{IsLiveFact, IsSmallBox, IsSmallKeep, live_facts}
use Rattle.kin_motion.specs.Nearest.{nearest_of}
use Rattle.kin_motion.specs.Orders.{IsOrder, order_of}
use Rattle.kin_motion.specs.Overlaps.{ListsOverlaps, overlaps_of}
use Rattle.kin_motion.specs.Plans.{Plan, motions_in_force}
use Rattle.kin_motion.specs.Scene.{IsReal}
use Rattle.kin_motion.proofs.ClosestLaws.{closest_proved}
use Rattle.kin_motion.proofs.FarthestLaws.{farthest_proved, one_farthest}
use Rattle.kin_motion.proofs.KeepLaws.{is_of}
use Rattle.kin_motion.proofs.LiveFactLaws.{live_facts_agree}
use Rattle.kin_motion.proofs.MotionScenes.{real_at}
use Rattle.kin_motion.proofs.NearestLaws.{nearest_proved, one_nearest}
use Rattle.kin_motion.proofs.OneLaws.{one_extreme, one_closest, one_hull_cycle}
use Rattle.kin_motion.proofs.OverlapLists.{one_list, overlaps_agree}
use Rattle.kin_motion.proofs.Proved.{order_is_one, order_proved, extreme_proved, cycle_proved}
use Rattle.kin_legs.specs.Paths.{plan_of}
use Rattle.kin_script.specs.declared.command.Command.{Command}
use Rattle.kin_script.specs.declared.command.Command.TheVariants.{Insert, Remove, Replace, Turn, Leg, AtRatio, AtRoot, Next, Order, Extreme, Hull, Closest, Live, Inside, Nearest, Farthest, Overlaps}
use Rattle.kin_script.specs.declared.refusal.Refusal.{Refusal}
use Rattle.kin_script.specs.declared.refusal.Refusal.TheVariants.{NotKept, Absent}
use Rattle.kin_script.specs.Deeds.{asks, deed_of}
use Rattle.kin_script.specs.Questions.{boxes_of, keep_of, IsKeepInRange, order_question_of, extreme_question_of, box_question_of, nearest_question_of, question_of, IsQuestionInRange}
use Rattle.kin_script.specs.Questions.{HasKeep, kept_boxes, IsProvided, must_be_live, IsPresent, IsAnswerable, IsRefusedQuestion, IsOrderLine, IsExtremeLine, AreOverlapsLines, IsLiveLine, IsReplyLine}
use Rattle.kin_script.specs.Lines.{Word}
use Rattle.kin_script.specs.Printed.{list_line}
use Rattle.kin_script.specs.PrintedJournal.{one_line, count_line, pair_line, pairs_lines}
use Rattle.kin_script.specs.Ranges.{IsCommandInRange, IsDeedInRange}
use Rattle.kin_script.specs.States.{State, state_scene}
use Rattle.kin_script.proofs.Counts.{same_length}
use Rattle.kin_script.proofs.EachGiven.{Each, each_none, each_way, each_last, each_map, each_then}
use Rattle.kin_script.proofs.WordRanges.{natural_at_range, integer_at_range, number_range, direction_range}

-- ---- what is kept

boxes_range : (ws : List Word) → Each IsKeepInRange (boxes_of ws)
unfolding boxes_of
boxes_range ws =
    each_then _ _ _ _ (natural_at_range 0 4096 ws) (λ width w.
    each_then _ _ _ _ (natural_at_range 0 4096 width.1) (λ height h.
    each_last _ _ height.1 (small width.0 height.0 w.1 h.1)))
  where
    small : (width height : ℕ) → width ≤ 4096 → height ≤ 4096 → IsSmallBox (pos width) (pos height)
    small width height w h = (omega (arith, ints), omega (arith, ints, w), omega (arith, ints), omega (arith, ints, h))

pub keep_range : (ws : List Word) → Each IsKeepInRange (keep_of ws)
unfolding keep_of
keep_range [] = each_none _
keep_range (kind ∷ ws) =
    each_way _ _ _ _ (each_map _ (λ d. keep.Order d.0 d.1) _ (direction_range ws))
    (each_way _ _ _ _ (each_map _ (λ d. keep.Extreme d.0 d.1) _ (direction_range ws))
    (each_way _ _ _ _ (each_last _ keep.Hull ws tt)
    (each_way _ _ _ _ (each_last _ keep.Closest ws tt)
    (each_way _ _ _ _ (each_last _ keep.Range ws tt)
    (each_way _ _ _ _ (each_last _ keep.Nearest ws tt)
    (each_way _ _ _ _ (each_last _ keep.Diameter ws tt)
    (each_way _ _ _ _ (boxes_range ws) (each_none _))))))))

-- a kept structure that a script can name has small numbers
pub small_keep : (k : Keep) → IsKeepInRange k → IsSmallKeep k
small_keep (keep.Order dx dy) h = (h.dx_small, h.dy_small)
small_keep (keep.Extreme dx dy) h = (h.dx_small, h.dy_small)
small_keep keep.Hull h = tt
small_keep keep.Closest h = tt
small_keep keep.Range h = tt
small_keep keep.Nearest h = tt
small_keep keep.Diameter h = tt
small_keep (keep.Boxes width height) h = h

hull_alone : (x : Keep) → group x ≡ 1 → x ≡ keep.Hull
hull_alone keep.Hull e = refl
hull_alone other e = absurd cc

closest_alone : (x : Keep) → group x ≡ 2 → x ≡ keep.Closest
closest_alone keep.Closest e = refl
closest_alone other e = absurd cc

range_alone : (x : Keep) → group x ≡ 3 → x ≡ keep.Range
range_alone keep.Range e = refl
range_alone other e = absurd cc

nearest_alone : (x : Keep) → group x ≡ 4 → x ≡ keep.Nearest
nearest_alone keep.Nearest e = refl
nearest_alone other e = absurd cc

diameter_alone : (x : Keep) → group x ≡ 5 → x ≡ keep.Diameter
diameter_alone keep.Diameter e = refl
diameter_alone other e = absurd cc

-- a structure of this kind, which is alone in its group, is among those that are kept, or none is
kept_or_not : (kind : Keep) → ((x : Keep) → group x ≡ group kind → x ≡ kind) → (keeps : List Keep) → ¬ (Contains keeps kind) ⊎ Contains keeps kind
kept_or_not kind only [] = inl (contains_none kind)
kept_or_not kind only (x ∷ xs) = at (nat_eq (group x) (group kind)) refl (kept_or_not kind only xs)
  where
    another : nat_eq (group x) (group kind) ≡ false → ¬ (Contains xs kind) → (x ≡ kind) ⊎ Contains xs kind → ⊥
    another e none (inl same) = absurd (let clash : true ≡ false = sym (is_of (group x) (group kind) (ap group same)) ∙ e in cc)
    another e none (inr some) = none some

    at : (b : Bool) → nat_eq (group x) (group kind) ≡ b → ¬ (Contains xs kind) ⊎ Contains xs kind → ¬ (Contains (x ∷ xs) kind) ⊎ Contains (x ∷ xs) kind
    at true e rest = inr (subst (λ (y : Keep). Contains (y ∷ xs) kind) (sym (only x (grind (arith, nat_tests, e)))) (contains_head kind xs))
    at false e (inl none) = inl (λ h. another e none (contains_cases x kind xs h))
    at false e (inr some) = inr (contains_tail x kind xs some)

-- boxes whose width and height are found are kept
pub boxes_kept : (keeps : List Keep) (width height : ℤ) → kept_boxes keeps ≡ Some (width, height)
    → (k : ℕ) × (slice_get keeps k ≡ Some (keep.Boxes width height))
boxes_kept [] width height e = absurd cc
boxes_kept (keep.Boxes w h ∷ keeps) width height e = (0, ap (λ (size : ℤ × ℤ). Some (keep.Boxes size.0 size.1)) (same_Some _ _ e))
boxes_kept (_ ∷ keeps) width height e = let k = boxes_kept keeps width height e in (suc k.0, k.1)

-- and the width and the height of boxes that are kept are found
pub boxes_found : (keeps : List Keep) (k : ℕ) (width height : ℤ) → slice_get keeps k ≡ Some (keep.Boxes width height) → is_some (kept_boxes keeps) ≡ true
boxes_found [] k width height e = absurd cc
boxes_found (keep.Boxes w h ∷ keeps) k width height e = refl
boxes_found (_ ∷ keeps) zero width height e = absurd cc
boxes_found (_ ∷ keeps) (suc k) width height e = boxes_found keeps k width height e

-- ---- what is asked

order_range : (size : ℕ) (ws : List Word) → Each (IsQuestionInRange size) (order_question_of ws)
unfolding order_question_of
order_range size ws = each_then _ _ _ _ (natural_at_range 0 31 ws) (λ s h. each_last _ _ s.1 h.1)

extreme_range : (size : ℕ) (ws : List Word) → Each (IsQuestionInRange size) (extreme_question_of ws)
unfolding extreme_question_of
extreme_range size ws = each_then _ _ _ _ (natural_at_range 0 31 ws) (λ s h. each_last _ _ s.1 h.1)

box_range : (size : ℕ) (ws : List Word) → Each (IsQuestionInRange size) (box_question_of ws)
unfolding box_question_of
box_range size ws =
    each_then _ _ _ _ (integer_at_range 16777216 ws) (λ x1 h1.
    each_then _ _ _ _ (integer_at_range 16777216 x1.1) (λ x2 h2.
    each_then _ _ _ _ (integer_at_range 16777216 x2.1) (λ y1 h3.
    each_then _ _ _ _ (integer_at_range 16777216 y1.1) (λ y2 h4.
    each_last _ _ y2.1 (record { x1_small = omega (arith, h1); x2_small = omega (arith, h2); y1_small = omega (arith, h3); y2_small = omega (arith, h4) })))))

nearest_range : (size : ℕ) (ws : List Word) → Each (IsQuestionInRange size) (nearest_question_of size ws)
unfolding nearest_question_of
nearest_range size ws = each_then _ _ _ _ (number_range size ws) (λ number h. each_last _ _ number.1 h)

pub question_range : (size : ℕ) (name : Word) (ws : List Word) → Each (IsQuestionInRange size) (question_of size name ws)
unfolding question_of
question_range size name ws =
    each_way _ _ _ _ (order_range size ws)
    (each_way _ _ _ _ (extreme_range size ws)
    (each_way _ _ _ _ (each_last _ Hull ws tt)
    (each_way _ _ _ _ (each_last _ Closest ws tt)
    (each_way _ _ _ _ (box_range size ws)
    (each_way _ _ _ _ (nearest_range size ws)
    (each_way _ _ _ _ (each_last _ Farthest ws tt)
    (each_way _ _ _ _ (each_last _ Overlaps ws tt)
    (each_way _ _ _ _ (each_last _ Live ws tt) (each_none _)))))))))

-- a question in its range is a command in its range
pub question_in_range : (size : ℕ) (c : Command) → IsQuestionInRange size c → IsCommandInRange size c
question_in_range size (Insert number m) h = absurd h
question_in_range size (Remove number) h = absurd h
question_in_range size (Replace number m) h = absurd h
question_in_range size (Turn number u v) h = absurd h
question_in_range size (Leg number at u v) h = absurd h
question_in_range size (AtRatio n d) h = absurd h
question_in_range size (AtRoot a b c upper) h = absurd h
question_in_range size Next h = absurd h
question_in_range size question h = h

-- what neither changes points nor moves time asks
pub asks_otherwise : (c : Command) → ((number : ℕ) (m : Course) → c ≡ Insert number m → ⊥) → ((number : ℕ) → c ≡ Remove number → ⊥) → ((number : ℕ) (m : Course) → c ≡ Replace number m → ⊥) → ((number : ℕ) (u v : ℤ) → c ≡ Turn number u v → ⊥)
    → ((number at : ℕ) (u v : ℤ) → c ≡ Leg number at u v → ⊥)
    → ((n d : ℤ) → c ≡ AtRatio n d → ⊥) → ((x y z : ℤ) (upper : Bool) → c ≡ AtRoot x y z upper → ⊥) → (c ≡ Next → ⊥) → deed_of c ≡ asks c
asks_otherwise (Insert number m) a b d e l f g h = absurd (a number m refl)
asks_otherwise (Remove number) a b d e l f g h = absurd (b number refl)
asks_otherwise (Replace number m) a b d e l f g h = absurd (d number m refl)
asks_otherwise (Turn number u v) a b d e l f g h = absurd (e number u v refl)
asks_otherwise (Leg number at u v) a b d e l f g h = absurd (l number at u v refl)
asks_otherwise (AtRatio n m) a b d e l f g h = absurd (f n m refl)
asks_otherwise (AtRoot x y z upper) a b d e l f g h = absurd (g x y z upper refl)
asks_otherwise Next a b d e l f g h = absurd (h refl)
asks_otherwise question a b d e l f g h = refl

-- what a command does is in range
pub deed_in_range : (size : ℕ) (c : Command) → IsCommandInRange size c → IsDeedInRange (deed_of c)
deed_in_range size (Insert number m) range = range.1
deed_in_range size (Remove number) range = tt
deed_in_range size (Replace number m) range = range.1
deed_in_range size (Turn number u v) range = range.1
deed_in_range size (Leg number at u v) range = (range.1, range.2)
deed_in_range size (AtRatio n d) range = inl (n, d, range, refl, refl)
deed_in_range size (AtRoot a b c upper) range = inr range
deed_in_range size Next range = tt
deed_in_range size question range = tt

-- ---- refusals

-- there is one cause at most
pub one_refused_question : (s : State) (q : Command) (r p : Refusal) → IsRefusedQuestion s q r → IsRefusedQuestion s q p → r ≡ p
one_refused_question s q r p (inl a) (inl b) = a.0 ∙ sym b.0
one_refused_question s q r p (inl a) (inr b) = absurd (a.1 b.1)
one_refused_question s q r p (inr a) (inl b) = absurd (b.1 a.1)
one_refused_question s q r p (inr a) (inr b) = a.0 ∙ sym b.0

-- and there is none where it has an answer
pub answerable_allowed : (s : State) (q : Command) → IsAnswerable s q → (r : Refusal) → ¬ (IsRefusedQuestion s q r)
answerable_allowed s q has r (inl a) = a.1 has.0
answerable_allowed s q has r (inr a) = a.2 has.1

-- ---- lines

-- what is said along one direction is said along the same one
along_same : (Said : ℤ → ℤ → Type 0) (dx dy ex ey : ℤ) → (dx ≡ ex) × (dy ≡ ey) → Said dx dy → Said ex ey
along_same Said dx dy ex ey e said = subst (λ (d : ℤ). Said d ey) e.0 (subst (λ (d : ℤ). Said dx d) e.1 said)

module _ (s : State) (canonical : IsCanonical s.moment.at) where
  pub real : IsReal (state_scene s)
  real = real_at (motions_in_force s.plans s.moment) s.moment canonical

  same_order : (dx dy ex ey : ℤ) → keep.Order dx dy ≡ keep.Order ex ey → (dx ≡ ex) × (dy ≡ ey)
  same_order dx dy ex ey e = (cc, cc)

  one_order_line : (k : ℕ) (x y : List ℕ) → IsOrderLine s.keeps (state_scene s) k x → IsOrderLine s.keeps (state_scene s) k y → x ≡ y
  one_order_line k x y a b =
      let e = same_order a.dx a.dy b.dx b.dy (same_Some _ _ (sym a.kept ∙ b.kept)) in
      let o = along_same (λ dx dy. IsOrder (state_scene s) dx dy a.order) a.dx a.dy b.dx b.dy e a.ordered in
      a.line ∙ ap list_line (order_is_one (state_scene s) b.dx b.dy a.order b.order real o b.ordered) ∙ sym b.line

  same_extreme : (dx dy ex ey : ℤ) → keep.Extreme dx dy ≡ keep.Extreme ex ey → (dx ≡ ex) × (dy ≡ ey)
  same_extreme dx dy ex ey e = (cc, cc)

  one_extreme_line : (k : ℕ) (x y : List ℕ) → IsExtremeLine s.keeps (state_scene s) k x → IsExtremeLine s.keeps (state_scene s) k y → x ≡ y
  one_extreme_line k x y a b =
      let e = same_extreme a.dx a.dy b.dx b.dy (same_Some _ _ (sym a.kept ∙ b.kept)) in
      let p = along_same (λ dx dy. IsExtremePoint (state_scene s) dx dy a.point) a.dx a.dy b.dx b.dy e a.extreme in
      a.line ∙ ap one_line (one_extreme (state_scene s) b.dx b.dy a.point b.point real p b.extreme) ∙ sym b.line

  one_live_line : (x y : List ℕ) → IsLiveLine s x → IsLiveLine s y → x ≡ y
  one_live_line x y a b =
      let same : a.0 ≡ b.0 = sym a.1.2 ∙ same_length a.1.0 b.1.0 (IsLiveFact s.size s.keeps (state_scene s)) a.1.1 b.1.1 ∙ b.1.2 in
      a.2 ∙ ap count_line same ∙ sym b.2

  one_overlaps_text : (x y : List ℕ) → AreOverlapsLines s.keeps (state_scene s) x → AreOverlapsLines s.keeps (state_scene s) y → x ≡ y
  one_overlaps_text x y a b =
      let e = same_size (a.width, a.height) (b.width, b.height) (same_Some _ _ (sym a.kept ∙ b.kept)) in
      let o = along_same (λ width height. ListsOverlaps (state_scene s) width height a.pairs) a.width a.height b.width b.height e a.overlaps in
      a.lines ∙ ap pairs_lines (one_list (state_scene s) b.width b.height a.pairs b.pairs o b.overlaps) ∙ sym b.lines
    where
      same_size : (v w : ℤ × ℤ) → v ≡ w → (v.0 ≡ w.0) × (v.1 ≡ w.1)
      same_size v w same = (ap (λ (size : ℤ × ℤ). size.0) same, ap (λ (size : ℤ × ℤ). size.1) same)

  -- there is no other line
  pub one_reply_line : (q : Command) (x y : List ℕ) → IsReplyLine s q x → IsReplyLine s q y → x ≡ y
  one_reply_line (Order k) x y a b = one_order_line k x y a b
  one_reply_line (Extreme k) x y a b = one_extreme_line k x y a b
  one_reply_line Hull x y a b = a.2 ∙ ap list_line (one_hull_cycle (state_scene s) a.0 b.0 real a.1 b.1) ∙ sym b.2
  one_reply_line Closest x y a b = a.2 ∙ ap pair_line (one_closest (state_scene s) a.0 b.0 real a.1 b.1) ∙ sym b.2
  one_reply_line (Inside r) x y a b = a ∙ sym b
  one_reply_line (Nearest n) x y a b = a.2 ∙ ap one_line (one_nearest (state_scene s) n a.0 b.0 real a.1 b.1) ∙ sym b.2
  one_reply_line Farthest x y a b = a.2 ∙ ap pair_line (one_farthest (state_scene s) a.0 b.0 real a.1 b.1) ∙ sym b.2
  one_reply_line Overlaps x y a b = one_overlaps_text x y a b
  one_reply_line Live x y a b = one_live_line x y a b
  one_reply_line question x y a b = absurd a

  -- a question is refused, or it isn't and there is a line
  abbrev pub HasLine : Command → Type 0
  HasLine q = ((r : Refusal) × IsRefusedQuestion s q r) ⊎ (IsAnswerable s q × ((text : List ℕ) × IsReplyLine s q text))

  not_kept : (q : Command) → ¬ (IsProvided s q) → HasLine q
  not_kept q not = inl (NotKept, inl (refl, not))

  order_line : (k : ℕ) (o : Option Keep) → slice_get s.keeps k ≡ o → HasLine (Order k)
  order_line k (Some (keep.Order dx dy)) e =
      let order = order_of (state_scene s) dx dy in
      inr (((dx, dy, e), tt), (list_line order, record { dx = dx; dy = dy; kept = e; order = order; ordered = order_proved (state_scene s) dx dy real; line = refl }))
  order_line k other e = not_kept (Order k) (λ h. let clash = sym e ∙ h.2 in cc)

  extreme_line : (k : ℕ) (o : Option Keep) → slice_get s.keeps k ≡ o → HasLine (Extreme k)
  extreme_line k (Some (keep.Extreme dx dy)) e =
      let point = extreme_of (state_scene s) dx dy in
      inr (((dx, dy, e), tt), (one_line point, record { dx = dx; dy = dy; kept = e; point = point; extreme = extreme_proved (state_scene s) dx dy real; line = refl }))
  extreme_line k other e = not_kept (Extreme k) (λ h. let clash = sym e ∙ h.2 in cc)

  -- the number that must be live isn't, or it is
  present_or_not : (q : Command) → ¬ (IsPresent s q) ⊎ IsPresent s q
  present_or_not q = at (must_be_live q)
    where
      by_plan : (p : Option Plan) → ¬ (IsTrue (is_some p)) ⊎ IsTrue (is_some p)
      by_plan None = inl (λ live. absurd cc)
      by_plan (Some plan) = inr refl

      at : (o : Option ℕ) → ¬ (IfSome o (λ n. IsTrue (is_some (plan_of s.plans n)))) ⊎ IfSome o (λ n. IsTrue (is_some (plan_of s.plans n)))
      at None = inr tt
      at (Some n) = by_plan (plan_of s.plans n)

  -- where a structure of its kind is kept and its number is live a question has a line
  by_kind : (q : Command) (kind : Keep) → ((x : Keep) → group x ≡ group kind → x ≡ kind)
      → (IsProvided s q → HasKeep s kind) → (HasKeep s kind → IsProvided s q) → (text : List ℕ) → (IsPresent s q → IsReplyLine s q text) → HasLine q
  by_kind q kind only asked kept text line = at (kept_or_not kind only s.keeps) (present_or_not q)
    where
      at : ¬ (Contains s.keeps kind) ⊎ Contains s.keeps kind → ¬ (IsPresent s q) ⊎ IsPresent s q → HasLine q
      at (inl none) o = not_kept q (λ h. let k = asked h in none (contains_from_get s.keeps k.0 kind k.1))
      at (inr some) (inl absent) = inl (Absent, inr (refl, kept (get_from_contains s.keeps kind some), absent))
      at (inr some) (inr present) = inr ((kept (get_from_contains s.keeps kind some), present), (text, line present))

  overlaps_lines : (o : Option (ℤ × ℤ)) → kept_boxes s.keeps ≡ o → HasLine Overlaps
  overlaps_lines None e = not_kept Overlaps (λ h. absurd (let clash = sym (boxes_found s.keeps h.0 h.1 h.2 h.3) ∙ ap is_some e in cc))
  overlaps_lines (Some (width, height)) e =
      let k = boxes_kept s.keeps width height e in
      let pairs = overlaps_of (state_scene s) width height in
      inr (
        ((k.0, width, height, k.1), tt),
        (
          pairs_lines pairs,
          record {
            width = width;
            height = height;
            kept = e;
            pairs = pairs;
            overlaps = overlaps_agree (state_scene s) width height real;
            lines = refl;
          },
        ),
      )

  live_line : FitsSize s.size (state_scene s) → HasLine Live
  live_line fits =
      let facts = live_facts s.size s.keeps (state_scene s) in
      inr ((tt, tt), (count_line (length facts), (length facts, (facts, live_facts_agree s.size s.keeps (state_scene s) real fits, refl), refl)))

  pub has_line : FitsSize s.size (state_scene s) → (q : Command) → HasLine q
  has_line fits (Order k) = order_line k (slice_get s.keeps k) refl
  has_line fits (Extreme k) = extreme_line k (slice_get s.keeps k) refl
  has_line fits Hull = by_kind Hull keep.Hull hull_alone (λ h. h) (λ h. h) (list_line (cycle_of (state_scene s))) (λ present. (cycle_of (state_scene s), cycle_proved (state_scene s) real, refl))
  has_line fits Closest = by_kind Closest keep.Closest closest_alone (λ h. h) (λ h. h) (pair_line (closest_of (state_scene s))) (λ present. (closest_of (state_scene s), closest_proved (state_scene s) real, refl))
  has_line fits (Inside r) = by_kind (Inside r) keep.Range range_alone (λ h. h) (λ h. h) (list_line (points_in (motions_in_force s.plans s.moment) s.moment r)) (λ present. refl)
  has_line fits (Nearest n) = by_kind (Nearest n) keep.Nearest nearest_alone (λ h. h) (λ h. h) (one_line (nearest_of (state_scene s) n)) (λ present. (nearest_of (state_scene s) n, nearest_proved (state_scene s) n real, refl))
  has_line fits Farthest = by_kind Farthest keep.Diameter diameter_alone (λ h. h) (λ h. h) (pair_line (farthest_of (state_scene s))) (λ present. (farthest_of (state_scene s), farthest_proved (state_scene s) real, refl))
  has_line fits Overlaps = overlaps_lines (kept_boxes s.keeps) refl
  has_line fits Live = live_line fits
  has_line fits other = not_kept other (λ h. h)
