-- Motions with legs that are followed: how legs belong to plans, and what stays so where a number changes, and where the first leg begins.
use Rattle.std.proofs.Common.{◌≡◌, ◌≢◌, ◌⊎◌, inl, inr, refl, sym, ap, ◌∙◌, subst, arith, List, [], ◌∷◌, ℕ, ◌<◌, ◌≤◌, ◌^◌, Bool, true, false, not, cond, nat_eq, nat_lt, ◌&&◌, ◌||◌, ◌-◌, map, filter, All, slice_set, length, get_or-set_same, get_or-set_other}
use Rattle.std.specs.Prelude.{Option, Some, None, is_some, option_map, unwrap_or, Contains, IfSome, ◌↔◌, ℤ}
use Rattle.std.proofs.lemmas.Bool.{cases_lt}
use Rattle.std.proofs.lemmas.Bool.Decides.{nat_tests}
use Rattle.std.proofs.lemmas.List.{get_or_past}
use Rattle.std.proofs.lemmas.List.Elements.{All-contains, All-head, All-tail, All-nil}
use Rattle.std.proofs.lemmas.Option.{same_Some}
use Rattle.kin_num.specs.declared.instant.Moment.{Moment}
use Rattle.kin_num.specs.Canonical.{IsCanonical}
use Rattle.kin_num.specs.Order.{IsEarlier}
use Rattle.kin_num.proofs.MomentLaws.{never, through}
use Rattle.kin_algebra.proofs.Members.{contains_cases, contains_head, contains_none, contains_tail}
use Rattle.kin_motion.specs.Course.{Course, IsSlow, is_live, motion_of}
use Rattle.kin_motion.specs.Numbers.{IsChain, put_in}
use Rattle.kin_motion.specs.Plans.{Leg, Plan, is_begun}
use Rattle.kin_motion.specs.Turning.{just_at}
use Rattle.kin_motion.proofs.ListChains.{chain_first, chain_tail}
use Rattle.kin_motion.proofs.MotionLaws.{written}
use Rattle.kin_motion.proofs.SetLaws.{contains_map, contains_mapped, filter-complete, filter-sound}
use Rattle.kin_legs.specs.declared.leg.Leg.{Leg as Planned}
use Rattle.kin_legs.specs.Joined.{AreAhead, AreAllAhead, AreFollowed, begins_at, piece_of, plan_with, plans_of, with_leg}
use Rattle.kin_legs.specs.Paths.{beginning, is_sooner, lasting, plan_of, whole, IsFair, IsLegOf, IsPath, IsUnbroken, LeadsInto, ArePaths}
use Rattle.kin_legs.specs.Planning.{is_earlier, is_of, last, legs_of, without, IsRising}
use Rattle.kin_legs.specs.Scheduling.{HasLegFrom, MayFollow, last_motion, motion_after}
use Rattle.kin_legs.proofs.BeginLaws.{own_canonical, unbegun_before, whole_order}
use Rattle.kin_legs.proofs.Filed.{all_stay, at_most, first_goes, first_of_its, itself}
use Rattle.kin_legs.proofs.JoinedLaws.{added_legs_are_last, dropped_legs_are_gone, legs_ahead_are_left, other_number, planned_of, same_number}
use Rattle.kin_legs.proofs.LeftLaws.{filtered_chain}
use Rattle.kin_legs.proofs.PathLaws.{lasting_path, paths_set}
use Rattle.kin_legs.proofs.SchedulingLaws.{extended_path}

-- ---- numbers
pub earlier_through : (a b c : Planned) → is_earlier a b ≡ true → is_earlier b c ≡ true → is_earlier a c ≡ true
earlier_through a b c h k = grind (arith, nat_tests, h, k)

-- a live number has a motion
pub has_motion : (o : Option Course) → is_some o ≡ true → (c : Course) × (o ≡ Some c)
has_motion None live = absurd cc
has_motion (Some c) live = (c, refl)

live_there : (o : Option Course) (c : Course) → o ≡ Some c → is_some o ≡ true
live_there o c is = ap is_some is

-- ---- legs and plans
module _ {ms : List (Option Course)} {legs : List Planned} (followed : AreFollowed ms legs) where
  -- the path of a number with a motion
  pub path_with : (n : ℕ) (c : Course) → motion_of ms n ≡ Some c → IsPath (plan_with legs n c)
  path_with n c had = followed.paths.each n (plan_with legs n c) (planned_of ms legs n ∙ ap (option_map (plan_with legs n)) had)

  in_its_plan : (l : Planned) (c : Course) → Contains legs l → Contains (plan_with legs l.no c).legs (piece_of l)
  in_its_plan l c there = contains_map piece_of (legs_of l.no legs) l (filter-complete (is_of l.no) legs l there (itself l.no))

  -- each leg is in the plan of its number, and fair
  pub listed_leg : (l : Planned) → Contains legs l → IsLegOf (plans_of ms legs) (piece_of l)
  listed_leg l there =
      let had = has_motion (motion_of ms l.no) (followed.live l there) in
      record { number = l.no; plan = plan_with legs l.no had.0; is = planned_of ms legs l.no ∙ ap (option_map (plan_with legs l.no)) had.1; there = in_its_plan l had.0 there }

  pub leg_fair : (l : Planned) → Contains legs l → IsFair (piece_of l)
  leg_fair l there =
      let had = has_motion (motion_of ms l.no) (followed.live l there) in
      All-contains IsFair (plan_with legs l.no had.0).legs (piece_of l) (path_with l.no had.0 had.1).fair (in_its_plan l had.0 there)

  -- and each leg of a plan is listed
  pub leg_listed : (leg : Leg) → IsLegOf (plans_of ms legs) leg → (l : Planned) × Contains legs l × (leg ≡ piece_of l)
  leg_listed leg of_these = at (motion_of ms of_these.number) (sym (planned_of ms legs of_these.number) ∙ of_these.is)
    where
      at : (o : Option Course) → option_map (plan_with legs of_these.number) o ≡ Some of_these.plan → (l : Planned) × Contains legs l × (leg ≡ piece_of l)
      at None is = absurd cc
      at (Some c) is =
          let same = same_Some (plan_with legs of_these.number c) of_these.plan is in
          let there = subst (λ (p : Plan). Contains p.legs leg) (sym same) of_these.there in
          let l = contains_mapped piece_of (legs_of of_these.number legs) leg there in
          (l.0, (filter-sound (is_of of_these.number) legs l.0 l.1).0, l.2)

  -- where all are ahead none is begun, and the motions are in force
  pub ahead_unbegun : (now : Moment) → IsCanonical now.at → AreAhead now legs → (l : Planned) → Contains legs l → is_begun (piece_of l) now ≡ false
  ahead_unbegun now canonical ahead l there = unbegun_before (piece_of l) now (leg_fair l there) canonical (ahead l there)

  pub all_ahead : (now : Moment) → IsCanonical now.at → AreAhead now legs → AreAllAhead ms legs now
  all_ahead now canonical ahead = legs_ahead_are_left ms legs now (ahead_unbegun now canonical ahead)

  -- ---- a number loses its legs and has another motion, or none
  module _ (n : ℕ) (c : Option Course) (slow : (m : Course) → c ≡ Some m → IsSlow m) where
    stays_live : (l : Planned) → Contains (without n legs) l → is_live (slice_set ms n c) l.no ≡ true
    stays_live l there =
        let both = filter-sound (λ (k : Planned). not (is_of n k)) legs l there in
        ap is_some (get_or-set_other ms n l.no c None (other_number n l.no (other l both.1))) ∙ followed.live l both.0
      where
        other : (l : Planned) → not (is_of n l) ≡ true → nat_eq l.no n ≡ false
        other l e = grind (arith, nat_tests, e)

    pub followed_with : AreFollowed (slice_set ms n c) (without n legs)
    followed_with = record {
      rising = filtered_chain is_earlier earlier_through (λ (k : Planned). not (is_of n k)) legs followed.rising;
      live = stays_live;
      paths = subst ArePaths (sym (dropped_legs_are_gone ms legs n c)) (paths_set (plans_of ms legs) n (option_map lasting c) followed.paths (lasts c refl));
    }
      where
        lasts : (d : Option Course) → d ≡ c → (plan : Plan) → option_map lasting d ≡ Some plan → IsPath plan
        lasts None e plan is = absurd cc
        lasts (Some m) e plan is = subst IsPath (same_Some (lasting m) plan is) (lasting_path m (slow m (sym e)))

  -- a number that isn't live has no legs
  pub unfollowed : (n : ℕ) → is_live ms n ≡ false → without n legs ≡ legs
  unfollowed n out = all_stay n legs (none_of (legs_of n legs) refl)
    where
      none_of : (ls : List Planned) → legs_of n legs ≡ ls → legs_of n legs ≡ []
      none_of [] e = e
      none_of (l ∷ ls) e =
          let both = filter-sound (is_of n) legs l (subst (λ (ks : List Planned). Contains ks l) (sym e) (contains_head l ls)) in
          absurd (let clash : true ≡ false = sym (followed.live l both.0) ∙ ap (is_live ms) (same_number n l.no both.1) ∙ out in cc)

-- ---- the first leg begins
module _ {ms : List (Option Course)} {l : Planned} {rest : List Planned} (followed : AreFollowed ms (l ∷ rest)) where
  abbrev begun_motions : List (Option Course)
  begun_motions = slice_set ms l.no (Some l.m)

  -- its motion begins where the one before it is
  pub leads_in : (c : Course) → motion_of ms l.no ≡ Some c → LeadsInto c (piece_of l)
  leads_in c had = (subst (λ (ls : List Planned). IsUnbroken c (map piece_of ls)) (first_of_its l rest) (path_with followed l.no c had).unbroken).0

  low : l.no < length ms
  low = within ms l.no (has_motion (motion_of ms l.no) (followed.live l (contains_head l rest)))
    where
      within : (cs : List (Option Course)) (n : ℕ) → (c : Course) × (motion_of cs n ≡ Some c) → n < length cs
      within cs n had = grind (arith, get_or_past, had.1)

  path_begun : (c : Course) → IsPath (plan_with (l ∷ rest) l.no c) → IsPath (plan_with rest l.no l.m)
  path_begun c path =
      let its : IsPath (record { first = c; legs = piece_of l ∷ map piece_of (legs_of l.no rest) }) = subst (λ (ls : List Planned). IsPath (record { first = c; legs = map piece_of ls })) (first_of_its l rest) path in
      record {
        slow = (All-head IsFair (piece_of l) (map piece_of (legs_of l.no rest)) its.fair).slow;
        fair = All-tail IsFair (piece_of l) (map piece_of (legs_of l.no rest)) its.fair;
        rising = chain_tail is_sooner (piece_of l) (map piece_of (legs_of l.no rest)) its.rising;
        unbroken = its.unbroken.1;
      }

  paths_begun : (i : ℕ) (plan : Plan) → option_map (plan_with rest i) (motion_of begun_motions i) ≡ Some plan → IsPath plan
  paths_begun i plan is = at (nat_eq i l.no) refl
    where
      own : (j : ℕ) → j ≡ l.no → option_map (plan_with rest j) (motion_of begun_motions j) ≡ Some plan → IsPath plan
      own j same is =
          let had = has_motion (motion_of ms l.no) (followed.live l (contains_head l rest)) in
          let new : motion_of begun_motions l.no ≡ Some l.m = get_or-set_same ms l.no (Some l.m) None low in
          let plan_is : Some (plan_with rest l.no l.m) ≡ Some plan = sym (ap (option_map (plan_with rest l.no)) new) ∙ subst (λ k. option_map (plan_with rest k) (motion_of begun_motions k) ≡ Some plan) same is in
          subst IsPath (same_Some (plan_with rest l.no l.m) plan plan_is) (path_begun had.0 (path_with followed l.no had.0 had.1))

      other : nat_eq i l.no ≡ false → (o : Option Course) → motion_of begun_motions i ≡ o → option_map (plan_with rest i) o ≡ Some plan → IsPath plan
      other e None had is = absurd cc
      other e (Some c) had is =
          let old : motion_of ms i ≡ Some c = sym (get_or-set_other ms l.no i (Some l.m) None (other_number l.no i e)) ∙ had in
          let its : legs_of i (l ∷ rest) ≡ legs_of i rest = ap (λ b. cond b (legs_of l.no rest) (legs_of i (l ∷ rest))) (sym e) ∙ first_goes i l rest in
          subst IsPath (same_Some (plan_with rest i c) plan is) (subst (λ (ls : List Planned). IsPath (record { first = c; legs = map piece_of ls })) its (path_with followed i c old))

      at : (b : Bool) → nat_eq i l.no ≡ b → IsPath plan
      at true e = own i (same_number l.no i e) is
      at false e = other e (motion_of begun_motions i) refl is

  pub begun_followed : AreFollowed begun_motions rest
  begun_followed = record {
    rising = chain_tail is_earlier l rest followed.rising;
    live = λ k there. at k (followed.live k (contains_tail l k rest there)) (written ms l.no k.no (Some l.m) None);
    paths = record { each = λ i plan is. paths_begun i plan (sym (planned_of begun_motions rest i) ∙ is) };
  }
    where
      at : (k : Planned) → is_live ms k.no ≡ true → (motion_of begun_motions k.no ≡ Some l.m) ⊎ (motion_of begun_motions k.no ≡ motion_of ms k.no) → is_live begun_motions k.no ≡ true
      at k was (inl new) = ap is_some new
      at k was (inr old) = ap is_some old ∙ was

-- ---- the last leg of a number
last_some : (l : Planned) (ls : List Planned) → (d : Planned) × (last (l ∷ ls) ≡ Some d)
last_some l [] = (l, refl)
last_some l (k ∷ ls) = last_some k ls

motion_after_last : (c : Course) (ls : List Planned) → motion_after c (map piece_of ls) ≡ unwrap_or (option_map (λ (l : Planned). l.m) (last ls)) c
motion_after_last c [] = refl
motion_after_last c (l ∷ []) = refl
motion_after_last c (l ∷ k ∷ ls) =
    let d = last_some k ls in
    motion_after_last l.m (k ∷ ls) ∙ ap (λ (o : Option Planned). unwrap_or (option_map (λ (j : Planned). j.m) o) l.m) d.1
    ∙ sym (ap (λ (o : Option Planned). unwrap_or (option_map (λ (j : Planned). j.m) o) c) d.1)

-- of legs that rise the last begins last
record IsLast (ls : List Planned) (x d : Planned) : Type 0 where
  is : last ls ≡ Some d
  there : Contains ls d
  not_sooner : x.at ≤ d.at

last_begins_last : (ls : List Planned) → IsRising ls → (x : Planned) → Contains ls x → (d : Planned) × IsLast ls x d
last_begins_last [] rising x there = absurd (contains_none x there)
last_begins_last (l ∷ []) rising x there = at (contains_cases l x [] there)
  where
    at : (l ≡ x) ⊎ Contains [] x → (d : Planned) × IsLast (l ∷ []) x d
    at (inl e) = (l, record { is = refl; there = contains_head l []; not_sooner = let same = ap (λ (j : Planned). j.at) e in omega (arith, same) })
    at (inr none) = absurd (contains_none x none)
last_begins_last (l ∷ k ∷ ls) rising x there = at (contains_cases l x (k ∷ ls) there) (last_begins_last (k ∷ ls) rising.1)
  where
    behind : (y : Planned) → x.at ≤ y.at → (d : Planned) × IsLast (k ∷ ls) y d → (d : Planned) × IsLast (l ∷ k ∷ ls) x d
    behind y less r = let more = r.1.not_sooner in (r.0, record { is = r.1.is; there = contains_tail l r.0 (k ∷ ls) r.1.there; not_sooner = omega (arith, less, more) })

    at : (l ≡ x) ⊎ Contains (k ∷ ls) x → ((y : Planned) → Contains (k ∷ ls) y → (d : Planned) × IsLast (k ∷ ls) y d) → (d : Planned) × IsLast (l ∷ k ∷ ls) x d
    at (inl e) rest = behind k (let same = ap (λ (j : Planned). j.at) e in let less = at_most l k rising.0 in omega (arith, same, less)) (rest k (contains_head k ls))
    at (inr in_rest) rest = behind x (omega arith) (rest x in_rest)

last_listed : (ls : List Planned) (l : Planned) → last ls ≡ Some l → Contains ls l
last_listed [] l e = absurd cc
last_listed (k ∷ []) l e = subst (Contains (k ∷ [])) (same_Some k l e) (contains_head k [])
last_listed (k ∷ j ∷ ls) l e = contains_tail k l (j ∷ ls) (last_listed (j ∷ ls) l e)

module _ (legs : List Planned) (n : ℕ) (c : Course) where
  -- the plan's last motion is that of the number's last leg
  pub last_planned : last_motion (plan_with legs n c) ≡ unwrap_or (option_map (λ (l : Planned). l.m) (last (legs_of n legs))) c
  last_planned = motion_after_last c (legs_of n legs)

  -- and it has a leg from an instant on exactly where its last begins then or later
  pub last_from : IsRising legs → (at : ℕ) → HasLegFrom (plan_with legs n c) at ↔ ((l : Planned) × (last (legs_of n legs) ≡ Some l) × (at ≤ l.at))
  last_from rising at = (
    λ has.
        let l = contains_mapped piece_of (legs_of n legs) has.0 has.1 in
        let d = last_begins_last (legs_of n legs) (filtered_chain is_earlier earlier_through (is_of n) legs rising) l.0 l.1 in
        let same = ap (λ (k : Leg). k.from) l.2 in
        let from = has.2 in
        let more = d.1.not_sooner in
        (d.0, d.1.is, omega (arith, same, from, more)),
    λ l. (piece_of l.0, contains_map piece_of (legs_of n legs) l.0 (last_listed (legs_of n legs) l.0 l.1), l.2),
  )

-- ---- a leg is added
pub put_in_cases : (x : Planned) (ys : List Planned) (z : Planned) → Contains (put_in is_earlier x ys) z → (z ≡ x) ⊎ Contains ys z
put_in_cases x [] z there = at (contains_cases x z [] there)
  where
    at : (x ≡ z) ⊎ Contains [] z → (z ≡ x) ⊎ Contains [] z
    at (inl e) = inl (sym e)
    at (inr none) = inr none
put_in_cases x (y ∷ ys) z there = at (is_earlier x y) there (put_in_cases x ys z)
  where
    here : (x ≡ z) ⊎ Contains (y ∷ ys) z → (z ≡ x) ⊎ Contains (y ∷ ys) z
    here (inl e) = inl (sym e)
    here (inr old) = inr old

    behind : (z ≡ x) ⊎ Contains ys z → (z ≡ x) ⊎ Contains (y ∷ ys) z
    behind (inl e) = inl e
    behind (inr old) = inr (contains_tail y z ys old)

    later : (y ≡ z) ⊎ Contains (put_in is_earlier x ys) z → (Contains (put_in is_earlier x ys) z → (z ≡ x) ⊎ Contains ys z) → (z ≡ x) ⊎ Contains (y ∷ ys) z
    later (inl e) rest = inr (subst (Contains (y ∷ ys)) e (contains_head y ys))
    later (inr in_rest) rest = behind (rest in_rest)

    at : (b : Bool) → Contains (cond b (x ∷ y ∷ ys) (y ∷ put_in is_earlier x ys)) z → (Contains (put_in is_earlier x ys) z → (z ≡ x) ⊎ Contains ys z) → (z ≡ x) ⊎ Contains (y ∷ ys) z
    at true there rest = here (contains_cases x z (y ∷ ys) there)
    at false there rest = later (contains_cases y z (put_in is_earlier x ys) there) rest

module _ {ms : List (Option Course)} {legs : List Planned} (followed : AreFollowed ms legs) (now : Moment) (u v : ℤ) (l : Planned) (c : Course) (had : motion_of ms l.no ≡ Some c) (soon : l.at < 2 ^ 31) (may : MayFollow now (plan_with legs l.no c) l.at u v l.m) where
  -- it begins after the last one
  pub after_last : IfSome (last (legs_of l.no legs)) (λ (k : Planned). k.at < l.at)
  after_last = at (last (legs_of l.no legs)) refl
    where
      at : (o : Option Planned) → last (legs_of l.no legs) ≡ o → IfSome o (λ (k : Planned). k.at < l.at)
      at None e = tt
      at (Some k) e = elim (cases_lt k.at l.at) [
        | inl less ↦ less
        | inr from ↦ absurd (may.after ((last_from legs l.no c followed.rising l.at).1 (k, e, from)))
      ]

  pub added_followed : IsRising (put_in is_earlier l legs) → AreFollowed ms (put_in is_earlier l legs)
  added_followed rising = record {
    rising = rising;
    live = λ k there. at k (put_in_cases l legs k there);
    paths = subst ArePaths (sym (added_legs_are_last ms legs l c followed.rising after_last had))
        (paths_set (plans_of ms legs) l.no (Some (with_leg (plan_with legs l.no c) (piece_of l))) followed.paths
        (λ plan is. subst IsPath (same_Some (with_leg (plan_with legs l.no c) (piece_of l)) plan is) (extended_path now (plan_with legs l.no c) l.at u v l.m (path_with followed l.no c had) soon may)));
  }
    where
      at : (k : Planned) → (k ≡ l) ⊎ Contains legs k → is_live ms k.no ≡ true
      at k (inl e) = ap (λ (j : Planned). is_live ms j.no) e ∙ live_there (motion_of ms l.no) c had
      at k (inr old) = followed.live k old

-- ---- the first leg is the earliest
pub first_is_earliest : (legs : List Planned) → IsRising legs → ((l : Planned) → Contains legs l → IsFair (piece_of l)) → (l : Planned) (rest : List Planned) → legs ≡ l ∷ rest → (k : Planned) → Contains legs k → ¬ (IsEarlier (begins_at k) (begins_at l))
first_is_earliest legs rising fair l rest is k there early = at (cases_lt l.at k.at)
  where
    first_canonical : IsCanonical (begins_at l).at
    first_canonical = own_canonical (piece_of l) (fair l (subst (λ (ls : List Planned). Contains ls l) (sym is) (contains_head l rest)))

    not_later : l.at ≤ k.at
    not_later = by_place (contains_cases l k rest (subst (λ (ls : List Planned). Contains ls k) is there))
      where
        by_place : (l ≡ k) ⊎ Contains rest k → l.at ≤ k.at
        by_place (inl e) = let same = ap (λ (j : Planned). j.at) e in omega (arith, same)
        by_place (inr behind) = at_most l k (chain_first is_earlier earlier_through l rest (subst IsRising is rising) k behind)

    at : (l.at < k.at) ⊎ (k.at ≤ l.at) → ⊥
    at (inl less) =
        let low = (fair k there).soon in
        never (begins_at l) first_canonical (through (begins_at l) (begins_at k) (begins_at l) first_canonical (own_canonical (piece_of k) (fair k there)) first_canonical (whole_order l.at k.at less (omega (arith, low))) early)
    at (inr also) =
        let same : k.at ≡ l.at = (let less = not_later in omega (arith, less, also)) in
        never (begins_at l) first_canonical (subst (λ n. IsEarlier (just_at (whole n)) (begins_at l)) same early)
