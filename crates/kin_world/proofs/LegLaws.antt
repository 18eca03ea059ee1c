-- The legs of a world where a number enters or leaves, and where one is planned.
use Rattle.std.specs.Prelude.{Result, Err, IfOk, IfSome, option_map}
use Rattle.kin_world.proofs.Vocabulary.{◌≡◌, ◌⊎◌, ◌↔◌, inl, inr, refl, sym, ap, ◌∙◌, subst, ℕ, ℤ, ◌<◌, ◌^◌, true, false, List, [], Option, Some, None, length, slice_set, get_or-set_same, Contains, is_some, IsEarlier, Course, IsSlow, AreSlow, is_live, motion_of, same_Some}
use Rattle.kin_world.proofs.Vocabulary.{Leg, AreFollowed, CanPlan, HasPlanned, IsAtEase, IsKnownBy, IsSound, Planning, Stage, begins_at, meaning, plans_of, without}
use Rattle.std.proofs.lemmas.Result.{IfOk-weaker}
use Rattle.kin_algebra.proofs.Members.{contains_none}
use Rattle.kin_motion.specs.Numbers.{put_in}
use Rattle.kin_motion.specs.Plans.{Plan}
use Rattle.kin_motion.specs.Turning.{just_at}
use Rattle.kin_legs.specs.Joined.{plan_with}
use Rattle.kin_legs.specs.Paths.{IsPath, lasting, plan_of, whole}
use Rattle.kin_legs.specs.Planning.{IsRising, is_earlier, last, legs_of}
use Rattle.kin_legs.specs.Scheduling.{FollowsTooFast, HasLegFrom, IsOver, MayFollow}
use Rattle.kin_legs.proofs.FollowedLaws.{added_followed, after_last, followed_with, has_motion, last_from, last_planned, put_in_cases, unfollowed}
use Rattle.kin_legs.proofs.JoinedLaws.{planned_of}
use Rattle.kin_legs.proofs.PathLaws.{lasting_path}
use Rattle.kin_legs.proofs.SchedulingLaws.{one_continues}
use Rattle.kin_world.specs.declared.planning.LegError.{LegError}
use Rattle.kin_world.specs.declared.planning.LegError.TheVariants as error
use Rattle.kin_world.proofs.SoundLaws.{whole as whole_world}

-- a motion that was written among slow ones is slow
slow_written : (ms : List (Option Course)) (n : ℕ) (c : Course) (motions : List (Option Course)) → motions ≡ slice_set ms n (Some c) → n < length ms → AreSlow motions → IsSlow c
slow_written ms n c motions written low slow = slow.each n c (ap (λ (cs : List (Option Course)). motion_of cs n) written ∙ get_or-set_same ms n (Some c) None low)

module _ {ms : List (Option Course)} {legs : List Leg} (followed : AreFollowed ms legs) (n : ℕ) where
  -- a number without legs enters
  pub followed_in : (c : Course) → is_live ms n ≡ false → {motions : List (Option Course)} → motions ≡ slice_set ms n (Some c) → n < length ms → AreSlow motions → AreFollowed (slice_set ms n (Some c)) legs
  followed_in c free {motions} written low slow =
      subst (AreFollowed (slice_set ms n (Some c))) (unfollowed followed n free)
      (followed_with followed n (Some c) (λ m is. subst IsSlow (same_Some c m is) (slow_written ms n c motions written low slow)))

  pub followed_out : AreFollowed (slice_set ms n None) (without n legs)
  followed_out = followed_with followed n None (λ m is. let clash : None ≡ Some m = is in absurd cc)

-- ---- no legs yet
none_followed : (ms : List (Option Course)) → AreSlow ms → AreFollowed ms []
none_followed ms slow = record {
  rising = tt;
  live = λ l there. absurd (contains_none l there);
  paths = record { each = λ i path is. at i path (motion_of ms i) refl (sym (planned_of ms [] i) ∙ is) };
}
  where
    at : (i : ℕ) (path : Plan) (o : Option Course) → motion_of ms i ≡ o → option_map (plan_with [] i) (motion_of ms i) ≡ Some path → IsPath path
    at i path None e is = let clash : None ≡ Some path = sym (ap (option_map (plan_with [] i)) e) ∙ is in absurd cc
    at i path (Some c) e is = subst IsPath (same_Some (lasting c) path (sym (ap (option_map (plan_with [] i)) e) ∙ is)) (lasting_path c (slow.each i c e))

pub starts_at_ease : {s : Stage} {plan : Planning} (n : ℕ) → IsSound s → s.size ≡ n → plan ≡ record { size = n; legs = [] } → IsAtEase s plan
starts_at_ease {s} {plan} n sound size is = subst (IsAtEase s) (sym is) (record {
  sound = sound;
  size = sym size;
  followed = none_followed s.motions sound.in_order.fit.slow;
  ahead = λ l there. absurd (contains_none l there);
})

-- ---- a leg is planned
module _ {s : Stage} {plan : Planning} (ease : IsAtEase s plan) (n : ℕ) where
  plan_is : (c : Course) → motion_of s.motions n ≡ Some c → plan_of (plans_of s.motions plan.legs) n ≡ Some (plan_with plan.legs n c)
  plan_is c had = planned_of s.motions plan.legs n ∙ ap (option_map (plan_with plan.legs n)) had

  -- the plan of the number, by its motion and its last leg
  pub known_by : (c : Course) → motion_of s.motions n ≡ Some c → (r : Option Leg) → r ≡ last (legs_of n plan.legs) → (path : Plan) → plan_of (plans_of s.motions plan.legs) n ≡ Some path → IsKnownBy c r path
  known_by c had r is path path_is =
      subst (IsKnownBy c r) (same_Some (plan_with plan.legs n c) path (sym (plan_is c had) ∙ path_is))
      (subst (λ (o : Option Leg). IsKnownBy c o (plan_with plan.legs n c)) (sym is) (record { motion_is = last_planned plan.legs n c; from = last_from plan.legs n c ease.followed.rising }))

  pub can_plan : {E : Type 0} (at : ℕ) (u v : ℤ) (c : Course) → motion_of s.motions n ≡ Some c → (r : Result Course E) → ((path : Plan) → plan_of (plans_of s.motions plan.legs) n ≡ Some path → IfOk r (MayFollow s.moment path at u v))
      → IfOk r (CanPlan n at u v (meaning s plan.legs true))
  can_plan at u v c had r may = IfOk-weaker r _ _ (λ m follows. record { plan = plan_with plan.legs n c; is = plan_is c had; may = follows }) (may (plan_with plan.legs n c) (plan_is c had))

  module _ {at : ℕ} {u v : ℤ} {m : Course} (can : CanPlan n at u v (meaning s plan.legs true) m) where
    -- the number is live
    pub plan_live : is_live s.motions n ≡ true
    plan_live = by_motion (motion_of s.motions n) refl
      where
        by_motion : (o : Option Course) → motion_of s.motions n ≡ o → is_live s.motions n ≡ true
        by_motion None e = let clash : None ≡ Some can.plan = sym (planned_of s.motions plan.legs n ∙ ap (option_map (plan_with plan.legs n)) e) ∙ can.is in absurd cc
        by_motion (Some c) e = ap is_some e

    had : (c : Course) × (motion_of s.motions n ≡ Some c)
    had = has_motion (motion_of s.motions n) plan_live

    may_follow : MayFollow s.moment (plan_with plan.legs n had.0) at u v m
    may_follow = subst (λ (p : Plan). MayFollow s.moment p at u v m) (same_Some can.plan (plan_with plan.legs n had.0) (sym can.is ∙ plan_is had.0 had.1)) can.may

    abbrev leg : Leg
    leg = record { at = at; no = n; m = m }

    pub later_leg : at < 2 ^ 31 → IfSome (last (legs_of n plan.legs)) (λ (k : Leg). k.at < at)
    later_leg soon = after_last ease.followed s.moment u v leg had.0 had.1 soon may_follow

    pub ease_planned : at < 2 ^ 31 → {next : Planning} → next ≡ record plan { legs = put_in is_earlier leg plan.legs } → IsRising next.legs → IsAtEase s next
    ease_planned soon {next} is rising = subst (IsAtEase s) (sym is) (record {
      sound = ease.sound;
      size = ease.size;
      followed = added_followed ease.followed s.moment u v leg had.0 had.1 soon may_follow (subst (λ (p : Planning). IsRising p.legs) is rising);
      ahead = λ k there. at_place k (put_in_cases leg plan.legs k there);
    })
      where
        at_place : (k : Leg) → (k ≡ leg) ⊎ Contains plan.legs k → IsEarlier s.moment (begins_at k)
        at_place k (inl e) = subst (λ (j : Leg). IsEarlier s.moment (begins_at j)) (sym e) can.may.ahead
        at_place k (inr old) = ease.ahead k old

    pub has_planned : at < 2 ^ 31 → {next : Planning} → next ≡ record plan { legs = put_in is_earlier leg plan.legs } → IsRising next.legs → HasPlanned n at u v (meaning s plan.legs true) (meaning s next.legs true)
    has_planned soon {next} is rising =
        let then = ease_planned soon is rising in
        record { motion = m; can = can; state = ap (λ (p : Planning). meaning s p.legs true) is; whole = whole_world then.sound then.followed then.ahead }

    -- nothing speaks against it
    pub no_error : at < 2 ^ 31 → (r : Result Course LegError) → (r ≡ Err error.Past) ↔ IsOver s.moment at
        → ((path : Plan) → plan_of (plans_of s.motions plan.legs) n ≡ Some path → (r ≡ Err error.Planned) ↔ (IsEarlier s.moment (just_at (whole at)) × HasLegFrom path at))
        → ((path : Plan) → plan_of (plans_of s.motions plan.legs) n ≡ Some path → (r ≡ Err error.OutOfBounds) ↔ FollowsTooFast s.moment path at u v)
        → (e : LegError) → r ≡ Err e → ⊥
    no_error soon r past planned outside error.Past is = past.0 is can.may.ahead
    no_error soon r past planned outside error.Planned is = can.may.after ((planned can.plan can.is).0 is).1
    no_error soon r past planned outside error.OutOfBounds is =
        let far = (outside can.plan can.is).0 is in
        let one = one_continues can.plan at u v soon in
        far.far (subst IsSlow (one.2 m can.may.continues ∙ sym (one.2 far.motion far.continues)) can.may.slow)
