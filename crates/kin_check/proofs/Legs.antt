-- The next leg that begins, found leg by leg and plan by plan.
use Rattle.std.proofs.Common.{◌≡◌, ◌⊎◌, inl, inr, refl, sym, ap, ◌∙◌, subst, arith, List, [], ◌∷◌, ◌++◌, ℕ, zero, suc, ◌+◌, ◌≤◌, ◌<◌, ◌^◌, length, take, drop, get_or, append_assoc, append-nil, Option, Some, None, Bool, true, false, not, cond, ◌↔◌}
use Rattle.std.specs.Prelude.{Contains, IsTrue, min, unwrap_or}
use Rattle.std.proofs.lemmas.Bool.{cases_lt}
use Rattle.std.proofs.lemmas.List.{drop_all, drop_more, get_or_default, take_all, take_more}
use Rattle.std.specs.List.{All}
use Rattle.std.proofs.lemmas.List.Elements.{All-get_or, Contains-append_cases, Contains-append_left, Contains-append_right, Contains-push, Contains-push_cases}
use Rattle.std.proofs.lemmas.Option.{same_Some}
use Rattle.kin_algebra.proofs.Members.{contains_none}
use Rattle.kin_num.specs.declared.instant.Moment.{Moment}
use Rattle.kin_num.specs.declared.instant.Shape.{Shape}
use Rattle.kin_num.specs.Canonical.{IsCanonical}
use Rattle.kin_num.specs.Order.{IsEarlier}
use Rattle.kin_motion.specs.Course.{Course}
use Rattle.kin_motion.specs.Plans.{Leg, Plan, is_begun, last_begun, motion_in_force}
use Rattle.kin_motion.specs.Turning.{just_at}
use Rattle.kin_legs.specs.Paths.{IsFair, IsLegOf, beginning, plan_of, whole}
use Rattle.kin_legs.specs.Scheduling.{HasLegFrom}
use Rattle.kin_legs.proofs.BeginLaws.{before_unbegun, legs_begin_in_time}
use Rattle.kin_check.specs.Beginnings.{BeginsNext, IsSoonest, all_legs}

-- ---- the legs of all plans
pub legs_of_both : (ps qs : List (Option Plan)) → all_legs (ps ++ qs) ≡ all_legs ps ++ all_legs qs
legs_of_both [] qs = refl
legs_of_both (None ∷ ps) qs = legs_of_both ps qs
legs_of_both (Some p ∷ ps) qs = ap (λ (ls : List Leg). p.legs ++ ls) (legs_of_both ps qs) ∙ sym (append_assoc p.legs (all_legs ps) (all_legs qs))

in_plan : (plans : List (Option Plan)) (i : ℕ) (plan : Plan) (k : Leg) → plan_of plans i ≡ Some plan → Contains plan.legs k → Contains (all_legs plans) k
in_plan [] i plan k is there = absurd cc
in_plan (None ∷ ps) zero plan k is there = absurd cc
in_plan (None ∷ ps) (suc i) plan k is there = in_plan ps i plan k is there
in_plan (Some p ∷ ps) zero plan k is there = Contains-append_left p.legs (all_legs ps) k (subst (λ (q : Plan). Contains q.legs k) (sym (same_Some p plan is)) there)
in_plan (Some p ∷ ps) (suc i) plan k is there = Contains-append_right p.legs (all_legs ps) k (in_plan ps i plan k is there)

pub among_all : (plans : List (Option Plan)) (k : Leg) → IsLegOf plans k → Contains (all_legs plans) k
among_all plans k h = in_plan plans h.number h.plan k h.is h.there

further : (p : Option Plan) (plans : List (Option Plan)) (k : Leg) → IsLegOf plans k → IsLegOf (p ∷ plans) k
further p plans k h = record { number = suc h.number; plan = h.plan; is = h.is; there = h.there }

pub of_a_plan : (plans : List (Option Plan)) (k : Leg) → Contains (all_legs plans) k → IsLegOf plans k
of_a_plan [] k h = absurd (contains_none k h)
of_a_plan (None ∷ ps) k h = further None ps k (of_a_plan ps k h)
of_a_plan (Some p ∷ ps) k h = elim (Contains-append_cases p.legs (all_legs ps) k h) [
  | inl own ↦ record { number = 0; plan = p; is = refl; there = own }
  | inr other ↦ further (Some p) ps k (of_a_plan ps k other)
]

-- ---- whether a leg has begun
pub begun_is : (l : Leg) (m : Moment) (b : Bool) (w : Shape) → w ≡ whole l.from → l.from < 2 ^ 31 → IsCanonical m.at → IsTrue b ↔ IsEarlier m (just_at w) → not b ≡ is_begun l m
begun_is l m b w same low canonical h = by_result b (subst (λ (v : Shape). IsTrue b ↔ IsEarlier m (just_at v)) same h)
  where
    law : IsTrue (is_begun l m) ↔ ¬ (IsEarlier m (beginning l))
    law = legs_begin_in_time l m low canonical

    by_test : (t : Bool) → is_begun l m ≡ t → IsEarlier m (beginning l) → false ≡ is_begun l m
    by_test false e ahead = sym e
    by_test true e ahead = absurd (law.0 e ahead)

    by_result : (b : Bool) → IsTrue b ↔ IsEarlier m (beginning l) → not b ≡ is_begun l m
    by_result true h = by_test (is_begun l m) refl (h.0 refl)
    by_result false h = sym (law.1 (λ ahead. let t = h.1 ahead in cc))

pub not_ahead : (l : Leg) (m : Moment) → l.from < 2 ^ 31 → IsCanonical m.at → is_begun l m ≡ true → ¬ (IsEarlier m (beginning l))
not_ahead l m low canonical e = (legs_begin_in_time l m low canonical).0 e

pub is_ahead : (l : Leg) (m : Moment) → IsFair l → IsCanonical m.at → is_begun l m ≡ false → IsEarlier m (beginning l)
is_ahead l m fair canonical e = before_unbegun l m fair canonical e

-- ---- legs in turn
-- the item at a place is the first from there on
pub next_item : {A : Type 0} (xs : List A) (i : ℕ) (x : A) → i < length xs → x ≡ get_or xs i x → drop i xs ≡ x ∷ drop (i + 1) xs
next_item xs i x low e = drop_more xs i x low ∙ ap (λ y. y ∷ drop (i + 1) xs) (sym e)

-- and the last up to the next place
pub last_item : {A : Type 0} (xs : List A) (i : ℕ) (x : A) → i < length xs → x ≡ get_or xs i x → take (i + 1) xs ≡ take i xs ++ x ∷ []
last_item xs i x low e = take_more xs i x low ∙ ap (λ y. take i xs ++ y ∷ []) (sym e)

-- none of one leg more begins at the instant or later
pub none_more : (legs : List Leg) (i : ℕ) (l : Leg) (at : ℕ) → i < length legs → l ≡ get_or legs i l → l.from < at → ((k : Leg) → Contains (take i legs) k → ¬ (at ≤ k.from)) → (k : Leg)
    → Contains (take (i + 1) legs) k → ¬ (at ≤ k.from)
none_more legs i l at low e less none k there from = elim (Contains-push_cases (take i legs) l k (subst (λ (ls : List Leg). Contains ls k) (last_item legs i l low e) there)) [
  | inl h ↦ none k h from
  | inr same ↦ absurd (let first : at ≤ l.from = subst (λ (j : Leg). at ≤ j.from) (sym same) from in omega (arith, less, first))
]

pub none_from : (plan : Plan) (legs : List Leg) (i at : ℕ) → legs ≡ plan.legs → length legs ≤ i → ((k : Leg) → Contains (take i legs) k → ¬ (at ≤ k.from)) → ¬ (HasLegFrom plan at)
none_from plan legs i at same high none h = none h.0 (subst (λ (ls : List Leg). Contains ls h.0) (sym (take_all i legs high ∙ same)) h.1) h.2

-- the motion is that of one leg more
pub motion_more : (m : Moment) (plan : Plan) (legs : List Leg) (i : ℕ) (l : Leg) (now : Course) → i < length legs → l ≡ get_or legs i l → last_begun now (drop i legs) m ≡ motion_in_force m plan
    → last_begun (cond (is_begun l m) l.motion now) (drop (i + 1) legs) m ≡ motion_in_force m plan
motion_more m plan legs i l now low e is = ap (λ (ls : List Leg). last_begun now ls m) (sym (next_item legs i l low e)) ∙ is

pub motion_all : (m : Moment) (plan : Plan) (legs : List Leg) (i : ℕ) (now : Course) → length legs ≤ i → last_begun now (drop i legs) m ≡ motion_in_force m plan → now ≡ motion_in_force m plan
motion_all m plan legs i now high is = ap (λ (ls : List Leg). last_begun now ls m) (sym (drop_all i legs high)) ∙ is

-- ---- one leg more
-- the lesser of two numbers, or the only one
abbrev pub IsLesserOf : Option ℕ → ℕ → ℕ → Type 0
IsLesserOf None n result = result ≡ n
IsLesserOf (Some m) n result = ((result ≡ m) × (m ≤ n)) ⊎ ((result ≡ n) × (n ≤ m))

pub lesser_of : (found : Option ℕ) (n own least : ℕ) → own ≡ unwrap_or found n → least ≡ min n own → IsLesserOf found n least
lesser_of None n own least own_is least_is = omega (arith, own_is, least_is)
lesser_of (Some m) n own least own_is least_is = elim (cases_lt n m) [
  | inl low ↦ inr (omega (arith, own_is, least_is, low), omega (arith, low))
  | inr high ↦ inl (omega (arith, own_is, least_is, high), high)
]

module _ (now : Moment) where
  -- which has begun
  pub with_begun : (passed : List Leg) (l : Leg) (found : Option ℕ) → ¬ (IsEarlier now (beginning l)) → IsSoonest now passed found → IsSoonest now (passed ++ l ∷ []) found
  with_begun passed l None begun none = λ k there. elim (Contains-push_cases passed l k there) [
    | inl h ↦ none k h
    | inr same ↦ subst (λ (j : Leg). ¬ (IsEarlier now (beginning j))) same begun
  ]
  with_begun passed l (Some from) begun next = record {
    leg = next.leg;
    among = Contains-append_left passed (l ∷ []) next.leg next.among;
    at_it = next.at_it;
    later = next.later;
    first = λ k there ahead. elim (Contains-push_cases passed l k there) [
      | inl h ↦ next.first k h ahead
      | inr same ↦ absurd (begun (subst (λ (j : Leg). IsEarlier now (beginning j)) (sym same) ahead))
    ];
  }

  -- which is the next one
  as_next : (passed : List Leg) (l : Leg) (from : ℕ) → IsEarlier now (beginning l) → from ≡ l.from → ((k : Leg) → Contains passed k → IsEarlier now (beginning k) → from ≤ k.from)
      → BeginsNext now (passed ++ l ∷ []) from
  as_next passed l from ahead is others = record {
    leg = l;
    among = Contains-push passed l;
    at_it = sym is;
    later = ahead;
    first = λ k there later. elim (Contains-push_cases passed l k there) [
      | inl h ↦ others k h later
      | inr same ↦ subst (λ (j : Leg). from ≤ j.from) same (omega (arith, is))
    ];
  }

  -- which is still to come
  pub with_ahead : (passed : List Leg) (l : Leg) (found : Option ℕ) (from : ℕ) → IsEarlier now (beginning l) → IsLesserOf found l.from from → IsSoonest now passed found
      → IsSoonest now (passed ++ l ∷ []) (Some from)
  with_ahead passed l None from ahead is none = as_next passed l from ahead is (λ k h later. absurd (none k h later))
  with_ahead passed l (Some m) from ahead (inr is) next = as_next passed l from ahead is.0 (λ k h later. let le = next.first k h later in let less = is.1 in let e = is.0 in omega (arith, le, less, e))
  with_ahead passed l (Some m) from ahead (inl is) next = record {
    leg = next.leg;
    among = Contains-append_left passed (l ∷ []) next.leg next.among;
    at_it = next.at_it ∙ sym is.0;
    later = next.later;
    first = λ k there later. elim (Contains-push_cases passed l k there) [
      | inl h ↦ let le = next.first k h later in let e = is.0 in omega (arith, le, e)
      | inr same ↦ subst (λ (j : Leg). from ≤ j.from) same (let less = is.1 in let e = is.0 in omega (arith, less, e))
    ];
  }

  -- the same where legs are looked at in turn
  grown : (passed legs : List Leg) (i : ℕ) (l : Leg) (found : Option ℕ) → i < length legs → l ≡ get_or legs i l → IsSoonest now ((passed ++ take i legs) ++ l ∷ []) found
      → IsSoonest now (passed ++ take (i + 1) legs) found
  grown passed legs i l found low e =
      subst (λ (ls : List Leg). IsSoonest now ls found) (append_assoc passed (take i legs) (l ∷ []) ∙ ap (λ (ls : List Leg). passed ++ ls) (sym (last_item legs i l low e)))

  pub more_ahead : (passed legs : List Leg) (i : ℕ) (l : Leg) (found : Option ℕ) (from : ℕ) (result : Option ℕ) → i < length legs → l ≡ get_or legs i l → IsEarlier now (beginning l)
      → IsLesserOf found l.from from → result ≡ Some from
      → IsSoonest now (passed ++ take i legs) found → IsSoonest now (passed ++ take (i + 1) legs) result
  more_ahead passed legs i l found from result low e ahead lesser is so_far =
      subst (IsSoonest now (passed ++ take (i + 1) legs)) (sym is) (grown passed legs i l (Some from) low e (with_ahead (passed ++ take i legs) l found from ahead lesser so_far))

  pub more_begun : (passed legs : List Leg) (i : ℕ) (l : Leg) (found result : Option ℕ) → i < length legs → l ≡ get_or legs i l → ¬ (IsEarlier now (beginning l)) → result ≡ found
      → IsSoonest now (passed ++ take i legs) found → IsSoonest now (passed ++ take (i + 1) legs) result
  more_begun passed legs i l found result low e begun is so_far =
      subst (IsSoonest now (passed ++ take (i + 1) legs)) (sym is) (grown passed legs i l found low e (with_begun (passed ++ take i legs) l found begun so_far))

-- a leg of a path is fair
pub fair_item : (plan : Plan) (legs : List Leg) (i : ℕ) (l : Leg) → i < length legs → l ≡ get_or legs i l → legs ≡ plan.legs → All IsFair plan.legs → IsFair l
fair_item plan legs i l low e same fair = subst IsFair (sym e) (All-get_or IsFair legs i l low (subst (All IsFair) (sym same) fair))

-- ---- plans in turn
-- what a slot holds is the plan of its number
pub plan_got : (plans : List (Option Plan)) (i : ℕ) (p : Option Plan) → i < length plans → p ≡ get_or plans i p → plan_of plans i ≡ p
plan_got plans i p low e = get_or_default plans i None p low ∙ sym e

pub more_plans : (now : Moment) (plans : List (Option Plan)) (i : ℕ) (p : Option Plan) (plan : Plan) (found : Option ℕ) → i < length plans → p ≡ get_or plans i p → p ≡ Some plan
    → IsSoonest now (all_legs (take i plans) ++ plan.legs) found → IsSoonest now (all_legs (take (i + 1) plans)) found
more_plans now plans i p plan found low e is =
    subst (λ (ls : List Leg). IsSoonest now ls found)
    (ap (λ (ls : List Leg). all_legs (take i plans) ++ ls) (sym (append-nil plan.legs)) ∙ sym (legs_of_both (take i plans) (Some plan ∷ []))
    ∙ ap (λ (q : Option Plan). all_legs (take i plans ++ q ∷ [])) (sym is)
    ∙ ap all_legs (sym (last_item plans i p low e)))

pub same_plans : (now : Moment) (plans : List (Option Plan)) (i : ℕ) (p : Option Plan) (found : Option ℕ) → i < length plans → p ≡ get_or plans i p → p ≡ None
    → IsSoonest now (all_legs (take i plans)) found → IsSoonest now (all_legs (take (i + 1) plans)) found
same_plans now plans i p found low e is =
    subst (λ (ls : List Leg). IsSoonest now ls found)
    (sym (append-nil (all_legs (take i plans))) ∙ sym (legs_of_both (take i plans) (None ∷ [])) ∙ ap (λ (q : Option Plan). all_legs (take i plans ++ q ∷ [])) (sym is)
    ∙ ap all_legs (sym (last_item plans i p low e)))
