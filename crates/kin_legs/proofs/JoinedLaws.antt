-- How the plans of all numbers change with the motions and the legs.
use Rattle.std.proofs.Common.{ext_get_or, ◌≡◌, ◌≢◌, refl, sym, ap, ap₂, ◌∙◌, subst, arith, List, [], ◌∷◌, ◌++◌, ℕ, zero, suc, ◌+◌, ◌<◌, Bool, true, false, not, cond, nat_eq, length, map, Option, Some, None, slice_set, length-set, get_or-set_same, get_or-set_other, filter}
use Rattle.std.specs.Prelude.{option_map, Contains, if◌then◌else◌}
use Rattle.std.proofs.lemmas.Bool.Decides.{nat_tests}
use Rattle.std.proofs.lemmas.List.{length-map, map-append}
use Rattle.kin_num.specs.declared.instant.Moment.{Moment}
use Rattle.kin_motion.specs.Course.{Course, motion_of}
use Rattle.kin_motion.specs.Numbers.{put_in}
use Rattle.kin_motion.specs.Plans.{Leg, Plan, is_begun, last_begun, motions_in_force}
use Rattle.kin_motion.proofs.SetLaws.{filter-sound, contains_mapped}
use Rattle.kin_legs.specs.declared.leg.Leg.{Leg as Planned}
use Rattle.kin_legs.specs.Joined.{piece_of, plan_with, plans_from, plans_of, with_leg, DroppedLegsAreGone, AddedLegsAreLast, BegunLegsAreMotions, LegsAheadAreLeft}
use Rattle.kin_legs.specs.Paths.{lasting, left_of, plan_of, plans_left}
use Rattle.kin_legs.specs.Planning.{is_earlier, legs_of, without}
use Rattle.kin_legs.proofs.Filed.{all_before_last, first_goes, first_of_its, leg_filed, legs_without}
use Rattle.kin_legs.proofs.BeginLaws.{all_left, stays}

-- ---- the plan of a number
planned_from : (k : ℕ) (ms : List (Option Course)) (legs : List Planned) (i : ℕ) → plan_of (plans_from k ms legs) i ≡ option_map (plan_with legs (k + i)) (motion_of ms i)
planned_from k [] legs i = refl
planned_from k (c ∷ ms) legs zero = ap (λ n. option_map (plan_with legs n) c) (omega arith)
planned_from k (c ∷ ms) legs (suc i) = planned_from (k + 1) ms legs i ∙ ap (λ n. option_map (plan_with legs n) (motion_of ms i)) (omega arith)

pub planned_of : (ms : List (Option Course)) (legs : List Planned) (i : ℕ) → plan_of (plans_of ms legs) i ≡ option_map (plan_with legs i) (motion_of ms i)
planned_of ms legs i = planned_from 0 ms legs i ∙ ap (λ n. option_map (plan_with legs n) (motion_of ms i)) (let same : 0 + i ≡ i = omega arith in same)

length_from : (k : ℕ) (ms : List (Option Course)) (legs : List Planned) → length (plans_from k ms legs) ≡ length ms
length_from k [] legs = refl
length_from k (c ∷ ms) legs = ap suc (length_from (k + 1) ms legs)

pub planned_length : (ms : List (Option Course)) (legs : List Planned) → length (plans_of ms legs) ≡ length ms
planned_length ms legs = length_from 0 ms legs

-- plans are the same where each number's is
same_plans : (ps qs : List (Option Plan)) → length ps ≡ length qs → ((i : ℕ) → i < length ps → plan_of ps i ≡ plan_of qs i) → ps ≡ qs
same_plans ps qs = ext_get_or None ps qs

alike : (legs others : List Planned) (i : ℕ) (c : Option Course) → legs_of i legs ≡ legs_of i others → option_map (plan_with legs i) c ≡ option_map (plan_with others i) c
alike legs others i c same = ap (λ (ls : List Planned). option_map (λ (d : Course). record { first = d; legs = map piece_of ls }) c) same

without_any : (legs : List Planned) (i : ℕ) (c : Option Course) → legs_of i legs ≡ [] → option_map (plan_with legs i) c ≡ option_map lasting c
without_any legs i c none = ap (λ (ls : List Planned). option_map (λ (d : Course). record { first = d; legs = map piece_of ls }) c) none

-- ---- one number is another
module _ (n i : ℕ) where
  pub same_number : nat_eq i n ≡ true → i ≡ n
  same_number e = grind (arith, nat_tests, e)

  pub other_number : nat_eq i n ≡ false → i ≢ n
  other_number e = grind (arith, nat_tests, e)

pub dropped_legs_are_gone : DroppedLegsAreGone
dropped_legs_are_gone ms legs n c = same_plans _ _ (planned_length (slice_set ms n c) (without n legs) ∙ length-set ms n c ∙ sym (planned_length ms legs) ∙ sym (length-set (plans_of ms legs) n (option_map lasting c))) each
  where
    at : (i : ℕ) → i < length ms → (b : Bool) → nat_eq i n ≡ b → option_map (plan_with (without n legs) i) (motion_of (slice_set ms n c) i) ≡ plan_of (slice_set (plans_of ms legs) n (option_map lasting c)) i
    at i low true e =
        let is : i ≡ n = same_number n i e in
        let none : legs_of i (without n legs) ≡ [] = legs_without n i legs ∙ ap (λ b. cond b [] (legs_of i legs)) e in
        without_any (without n legs) i (motion_of (slice_set ms n c) i) none
        ∙ ap (λ (d : Option Course). option_map lasting d) (subst (λ j. motion_of (slice_set ms n c) j ≡ c) (sym is) (get_or-set_same ms n c None (subst (λ j. j < length ms) is low)))
        ∙ sym (subst (λ j. plan_of (slice_set (plans_of ms legs) n (option_map lasting c)) j ≡ option_map lasting c) (sym is) (get_or-set_same (plans_of ms legs) n (option_map lasting c) None (let room = planned_length ms legs in omega (arith, room, is, low))))
    at i low false e =
        let apart : i ≢ n = other_number n i e in
        alike (without n legs) legs i (motion_of (slice_set ms n c) i) (legs_without n i legs ∙ ap (λ b. cond b [] (legs_of i legs)) e)
        ∙ ap (λ (d : Option Course). option_map (plan_with legs i) d) (get_or-set_other ms n i c None apart)
        ∙ sym (planned_of ms legs i) ∙ sym (get_or-set_other (plans_of ms legs) n i (option_map lasting c) None apart)

    each : (i : ℕ) → i < length (plans_of (slice_set ms n c) (without n legs)) → plan_of (plans_of (slice_set ms n c) (without n legs)) i ≡ plan_of (slice_set (plans_of ms legs) n (option_map lasting c)) i
    each i low = planned_of (slice_set ms n c) (without n legs) i ∙ at i (let room = planned_length (slice_set ms n c) (without n legs) in let same = length-set ms n c in omega (arith, room, same, low)) (nat_eq i n) refl

pub added_legs_are_last : AddedLegsAreLast
added_legs_are_last ms legs l c rising later had = same_plans _ _ (planned_length ms (put_in is_earlier l legs) ∙ sym (planned_length ms legs) ∙ sym (length-set (plans_of ms legs) l.no new)) each
  where
    new : Option Plan
    new = Some (with_leg (plan_with legs l.no c) (piece_of l))

    filed : (i : ℕ) → cond (nat_eq i l.no) (legs_of l.no legs ++ l ∷ []) (legs_of i legs) ≡ legs_of i (put_in is_earlier l legs)
    filed i = leg_filed l i legs rising (all_before_last l.no l.at legs rising later)

    at : (i : ℕ) → i < length ms → (b : Bool) → nat_eq i l.no ≡ b → option_map (plan_with (put_in is_earlier l legs) i) (motion_of ms i) ≡ plan_of (slice_set (plans_of ms legs) l.no new) i
    at i low true e =
        let is : i ≡ l.no = same_number l.no i e in
        let ends : legs_of i (put_in is_earlier l legs) ≡ legs_of l.no legs ++ l ∷ [] = sym (filed i) ∙ ap (λ b. cond b (legs_of l.no legs ++ l ∷ []) (legs_of i legs)) e in
        ap (λ (ls : List Planned). option_map (λ (d : Course). record { first = d; legs = map piece_of ls }) (motion_of ms i)) ends
        ∙ ap (λ (d : Option Course). option_map (λ (d : Course). record { first = d; legs = map piece_of (legs_of l.no legs ++ l ∷ []) }) d) (subst (λ j. motion_of ms j ≡ Some c) (sym is) had)
        ∙ ap (λ (ls : List Leg). Some (record { first = c; legs = ls })) (map-append piece_of (legs_of l.no legs) (l ∷ []))
        ∙ sym (subst (λ j. plan_of (slice_set (plans_of ms legs) l.no new) j ≡ new) (sym is) (get_or-set_same (plans_of ms legs) l.no new None (let room = planned_length ms legs in omega (arith, room, is, low))))
    at i low false e =
        let apart : i ≢ l.no = other_number l.no i e in
        alike (put_in is_earlier l legs) legs i (motion_of ms i) (sym (filed i) ∙ ap (λ b. cond b (legs_of l.no legs ++ l ∷ []) (legs_of i legs)) e)
        ∙ sym (planned_of ms legs i) ∙ sym (get_or-set_other (plans_of ms legs) l.no i new None apart)

    each : (i : ℕ) → i < length (plans_of ms (put_in is_earlier l legs)) → plan_of (plans_of ms (put_in is_earlier l legs)) i ≡ plan_of (slice_set (plans_of ms legs) l.no new) i
    each i low = planned_of ms (put_in is_earlier l legs) i ∙ at i (let room = planned_length ms (put_in is_earlier l legs) in omega (arith, room, low)) (nat_eq i l.no) refl

-- ---- what is left
pub left_plan : (m : Moment) (plans : List (Option Plan)) (i : ℕ) → plan_of (plans_left m plans) i ≡ option_map (left_of m) (plan_of plans i)
left_plan m [] i = refl
left_plan m (p ∷ plans) zero = refl
left_plan m (p ∷ plans) (suc i) = left_plan m plans i

pub begun_legs_are_motions : BegunLegsAreMotions
begun_legs_are_motions ms l legs c m had begun = same_plans _ _ (lengths (l ∷ legs) ms ∙ sym (length-set ms l.no (Some l.m)) ∙ sym (lengths legs (slice_set ms l.no (Some l.m)))) each
  where
    lengths : (ls : List Planned) (cs : List (Option Course)) → length (plans_left m (plans_of cs ls)) ≡ length cs
    lengths ls cs = length-map (plans_of cs ls) (option_map (left_of m)) ∙ planned_length cs ls

    -- the first leg of a number is its motion
    as_motion : (ls : List Leg) → left_of m (record { first = c; legs = piece_of l ∷ ls }) ≡ left_of m (record { first = l.m; legs = ls })
    as_motion ls = ap (λ b. record { first = last_begun (cond b l.m c) ls m; legs = if not b then piece_of l ∷ filter (λ k. not (is_begun k m)) ls else filter (λ k. not (is_begun k m)) ls }) begun

    at : (i : ℕ) → i < length ms → (b : Bool) → nat_eq i l.no ≡ b
        → option_map (left_of m) (option_map (plan_with (l ∷ legs) i) (motion_of ms i)) ≡ option_map (left_of m) (option_map (plan_with legs i) (motion_of (slice_set ms l.no (Some l.m)) i))
    at i low true e =
        let is : i ≡ l.no = same_number l.no i e in
        let own : legs_of i (l ∷ legs) ≡ l ∷ legs_of i legs = subst (λ j. legs_of j (l ∷ legs) ≡ l ∷ legs_of j legs) (sym is) (first_of_its l legs) in
        ap (λ (ls : List Planned). option_map (left_of m) (option_map (λ (d : Course). record { first = d; legs = map piece_of ls }) (motion_of ms i))) own
        ∙ ap (λ (d : Option Course). option_map (left_of m) (option_map (λ (d : Course). record { first = d; legs = piece_of l ∷ map piece_of (legs_of i legs) }) d)) (subst (λ j. motion_of ms j ≡ Some c) (sym is) had)
        ∙ ap (λ (p : Plan). Some p) (as_motion (map piece_of (legs_of i legs)))
        ∙ sym (ap (λ (d : Option Course). option_map (left_of m) (option_map (plan_with legs i) d)) (subst (λ j. motion_of (slice_set ms l.no (Some l.m)) j ≡ Some l.m) (sym is) (get_or-set_same ms l.no (Some l.m) None (subst (λ j. j < length ms) is low))))
    at i low false e =
        let apart : i ≢ l.no = other_number l.no i e in
        ap (λ (p : Option Plan). option_map (left_of m) p) (alike (l ∷ legs) legs i (motion_of ms i) (ap (λ b. cond b (legs_of l.no legs) (legs_of i (l ∷ legs))) (sym e) ∙ first_goes i l legs))
        ∙ sym (ap (λ (d : Option Course). option_map (left_of m) (option_map (plan_with legs i) d)) (get_or-set_other ms l.no i (Some l.m) None apart))

    each : (i : ℕ) → i < length (plans_left m (plans_of ms (l ∷ legs))) → plan_of (plans_left m (plans_of ms (l ∷ legs))) i ≡ plan_of (plans_left m (plans_of (slice_set ms l.no (Some l.m)) legs)) i
    each i low =
        left_plan m (plans_of ms (l ∷ legs)) i ∙ ap (λ (p : Option Plan). option_map (left_of m) p) (planned_of ms (l ∷ legs) i)
        ∙ at i (let room = lengths (l ∷ legs) ms in omega (arith, room, low)) (nat_eq i l.no) refl
        ∙ sym (left_plan m (plans_of (slice_set ms l.no (Some l.m)) legs) i ∙ ap (λ (p : Option Plan). option_map (left_of m) p) (planned_of (slice_set ms l.no (Some l.m)) legs i))

-- ---- where no leg is begun
module _ (legs : List Planned) (m : Moment) (out : (l : Planned) → Contains legs l → is_begun (piece_of l) m ≡ false) where
  pieces_out : (i : ℕ) (k : Leg) → Contains (map piece_of (legs_of i legs)) k → is_begun k m ≡ false
  pieces_out i k there =
      let l = contains_mapped piece_of (legs_of i legs) k there in
      subst (λ (j : Leg). is_begun j m ≡ false) (sym l.2) (out l.0 (filter-sound (λ (j : Planned). nat_eq j.no i) legs l.0 l.1).0)

  -- the legs stay, and the motion is in force
  whole_left : (i : ℕ) (c : Course) → left_of m (plan_with legs i c) ≡ plan_with legs i c
  whole_left i c =
      let first = stays m c (map piece_of (legs_of i legs)) (pieces_out i) in
      let rest = all_left m (map piece_of (legs_of i legs)) (pieces_out i) in
      λ t. record { first = first t; legs = rest t }

  all_left_from : (k : ℕ) (ms : List (Option Course)) → plans_left m (plans_from k ms legs) ≡ plans_from k ms legs
  all_left_from k [] = refl
  all_left_from k (None ∷ ms) = ap (λ (ps : List (Option Plan)). None ∷ ps) (all_left_from (k + 1) ms)
  all_left_from k (Some c ∷ ms) = ap₂ (λ (p : Plan) (ps : List (Option Plan)). Some p ∷ ps) (whole_left k c) (all_left_from (k + 1) ms)

  force_from : (k : ℕ) (ms : List (Option Course)) → motions_in_force (plans_from k ms legs) m ≡ ms
  force_from k [] = refl
  force_from k (None ∷ ms) = ap (λ (cs : List (Option Course)). None ∷ cs) (force_from (k + 1) ms)
  force_from k (Some c ∷ ms) = ap₂ (λ (d : Course) (cs : List (Option Course)). Some d ∷ cs) (stays m c (map piece_of (legs_of k legs)) (pieces_out k)) (force_from (k + 1) ms)

pub legs_ahead_are_left : LegsAheadAreLeft
legs_ahead_are_left ms legs m out = record { left = all_left_from legs m out 0 ms; force = force_from legs m out 0 ms }
