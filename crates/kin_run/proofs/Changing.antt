-- What comes of a change and of a question, seen by the replay.
use Rattle.std.proofs.Common.{◌≡◌, ◌↔◌, ◌<◌, ◌^◌, ℕ, ℤ, Bool, true, false, zero, suc, List, [], ◌∷◌, Result, Option, Some, None, inr, refl, sym, ap, ◌∙◌, subst, is_some, set-set, slice_set}
use Rattle.std.specs.Prelude.{option_map}
use Rattle.std.proofs.lemmas.Option.{same_Some}
use Rattle.kin_motion.specs.Course.{is_live}
use Rattle.kin_motion.specs.Plans.{Plan, motion_in_force}
use Rattle.kin_legs.specs.declared.leg.Leg.{Leg as Planned}
use Rattle.kin_legs.specs.Joined.{plan_with, plans_of, with_leg}
use Rattle.kin_legs.specs.Paths.{lasting, plan_of}
use Rattle.kin_legs.specs.Scheduling.{MayFollow}
use Rattle.kin_legs.proofs.FollowedLaws.{after_last, all_ahead, has_motion, unfollowed}
use Rattle.kin_legs.proofs.JoinedLaws.{added_legs_are_last, dropped_legs_are_gone, planned_of}
use Rattle.kin_legs.proofs.SceneLaws.{forced}
use Rattle.kin_motion.specs.Turning.{TurnsTo}
use Rattle.kin_script.specs.Changes.{IsRefusedChange, IsRefusedTurn}
use Rattle.kin_script.specs.Deeds.{changes}
use Rattle.kin_script.specs.Replay.{IsAllowed}
use Rattle.kin_script.specs.declared.refusal.Refusal.{Refusal}
use Rattle.kin_status.proofs.Existence.{allowed_turn}
use Rattle.kin_status.proofs.Forgetting.{alike_itself}
use Rattle.kin_world.specs.Worlds.{CanTurn}
use Rattle.kin_run.proofs.Vocabulary.{Command, Course, Halt, HasInserted, HasPlanned, HasRemoved, HasReplaced, HasTurned, IsAlike, IsWhole, RepliesTo, State, World, enters, leaves, motion_of, restarts, state_of, turns, world_plans}
use Rattle.kin_print.specs.declared.reply.Reply.{Reply}

-- a reply, also to the same question
pub of_same : (w : World) (c q : Command) (r : Result Reply Halt) → c ≡ q → RepliesTo w q r → RepliesTo w c r
of_same w c q r e h = subst (λ (x : Command). RepliesTo w x r) (sym e) h

pub alike_same : (s t : State) → t ≡ s → IsAlike s t
alike_same s t e = subst (IsAlike s) (sym e) (alike_itself s)

-- ---- the plan of a number
still_some : (f : Course → Plan) (o : Option Course) → is_some (option_map f o) ≡ is_some o
still_some f None = refl
still_some f (Some c) = refl

-- it has one exactly where it is live
pub live_with_plan : (w : World) (n : ℕ) → is_some (plan_of (world_plans w) n) ≡ is_live w.motions n
live_with_plan w n = ap is_some (planned_of w.motions w.legs n) ∙ still_some (plan_with w.legs n) (motion_of w.motions n)

pub absent : (w : World) (n : ℕ) → motion_of w.motions n ≡ None → is_some (plan_of (world_plans w) n) ≡ false
absent w n none = live_with_plan w n ∙ ap is_some none

pub taken : (w : World) (n : ℕ) (free : Bool) → n < 2 ^ w.size → (free ≡ true) ↔ ((n < 2 ^ w.size) × (is_live w.motions n ≡ false)) → free ≡ false → is_some (plan_of (world_plans w) n) ≡ true
taken w n free low test out = at (is_live w.motions n) refl
  where
    at : (b : Bool) → is_live w.motions n ≡ b → is_some (plan_of (world_plans w) n) ≡ true
    at true e = live_with_plan w n ∙ e
    at false e = absurd (let clash : true ≡ false = sym (test.1 (low, e)) ∙ out in cc)

-- ---- why a change is not refused
module _ (journal : Bool) (w : World) (n : ℕ) where
  pub may_enter : (m : Course) → is_live w.motions n ≡ false → IsAllowed (state_of journal w) (changes n (enters m))
  may_enter m free r h = let clash : true ≡ false = sym h.1 ∙ live_with_plan w n ∙ free in cc

  not_absent : is_live w.motions n ≡ true → is_some (plan_of (world_plans w) n) ≡ false → ⊥
  not_absent live out = let clash : true ≡ false = sym (live_with_plan w n ∙ live) ∙ out in cc

  pub may_leave : is_live w.motions n ≡ true → IsAllowed (state_of journal w) (changes n leaves)
  may_leave live r h = not_absent live h.1

  pub may_restart : (m : Course) → is_live w.motions n ≡ true → IsAllowed (state_of journal w) (changes n (restarts m))
  may_restart m live r h = not_absent live h.1

-- ---- the plan of a live number
abbrev pub plan_now : World → ℕ → Course → Plan
plan_now w n c = plan_with w.legs n c

module _ (w : World) (n : ℕ) (c : Course) (had : motion_of w.motions n ≡ Some c) where
  pub plan_there : plan_of (world_plans w) n ≡ Some (plan_now w n c)
  plan_there = planned_of w.motions w.legs n ∙ ap (option_map (plan_with w.legs n)) had

  -- the motion of now is in force
  pub motion_there : IsWhole w → motion_in_force w.moment (plan_now w n c) ≡ c
  motion_there whole =
      let force = (all_ahead whole.followed w.moment whole.canonical whole.ahead).force in
      same_Some _ _ (sym (forced w.moment (world_plans w) n ∙ ap (option_map (motion_in_force w.moment)) plan_there) ∙ ap (λ (ms : List (Option Course)). motion_of ms n) force ∙ had)

-- ---- a turn
module _ {w : World} {n : ℕ} {u v : ℤ} {motion : Course} (whole : IsWhole w) (can : CanTurn n u v w motion) where
  pub turns_there : TurnsTo w.moment.at u v (motion_in_force w.moment (plan_now w n can.before)) motion
  turns_there = subst (λ (c : Course). TurnsTo w.moment.at u v c motion) (sym (motion_there w n can.before can.had whole)) can.turns

  pub may_turn : (journal : Bool) → IsAllowed (state_of journal w) (changes n (turns u v))
  may_turn journal = allowed_turn w.moment whole.canonical u v (plan_now w n can.before) (plan_of (world_plans w) n) (plan_there w n can.before can.had) can.at motion turns_there can.slow

pub refused_turn : (w : World) (n : ℕ) → IsWhole w → (u v : ℤ) (c : Course) → motion_of w.motions n ≡ Some c → (r : Refusal) → IsRefusedTurn w.moment u v c r → IsRefusedChange w.moment (plan_of (world_plans w) n) (turns u v) r
refused_turn w n whole u v c had r h = inr (plan_now w n c, plan_there w n c had, subst (λ (d : Course). IsRefusedTurn w.moment u v d r) (sym (motion_there w n c had whole)) h)

-- ---- the state after a change
abbrev pub with_plan : Bool → World → ℕ → Option Plan → State
with_plan journal w n plan = record (state_of journal w) { plans = slice_set (world_plans w) n plan }

abbrev in_state : Bool → World → List (Option Plan) → State
in_state journal w plans = record (state_of journal w) { plans = plans }

module _ (journal : Bool) (n : ℕ) {old new : World} where
  pub inserted : (m : Course) → IsWhole old → is_live old.motions n ≡ false → HasInserted n m old new → state_of journal new ≡ with_plan journal old n (Some (lasting m))
  inserted m whole free h =
      ap (state_of journal) h.state
      ∙ ap (λ (legs : List Planned). in_state journal old (plans_of (slice_set old.motions n (Some m)) legs)) (sym (unfollowed whole.followed n free))
      ∙ ap (in_state journal old) (dropped_legs_are_gone old.motions old.legs n (Some m))

  pub removed : HasRemoved n old new → state_of journal new ≡ with_plan journal old n None
  removed h = ap (state_of journal) h.state ∙ ap (in_state journal old) (dropped_legs_are_gone old.motions old.legs n None)

  pub turned : (u v : ℤ) (h : HasTurned n u v old new) → state_of journal new ≡ with_plan journal old n (Some (lasting h.motion))
  turned u v h = ap (state_of journal) h.state ∙ ap (in_state journal old) (dropped_legs_are_gone old.motions old.legs n (Some h.motion))

-- a number that was removed isn't live
gone : (ms : List (Option Course)) (n : ℕ) → is_live (slice_set ms n None) n ≡ false
gone [] n = refl
gone (c ∷ ms) zero = refl
gone (c ∷ ms) (suc n) = gone ms n

pub replaced : (journal : Bool) (n : ℕ) (m : Course) {old new : World} → HasReplaced n m old new → state_of journal new ≡ with_plan journal old n (Some (lasting m))
replaced journal n m {old} {new} h =
    let out : is_live h.between.motions n ≡ false = ap (λ (w : World). is_live w.motions n) h.removed.state ∙ gone old.motions n in
    inserted journal n m h.removed.whole out h.inserted
    ∙ ap (λ (s : State). record s { plans = slice_set s.plans n (Some (lasting m)) }) (removed journal n h.removed)
    ∙ ap (in_state journal old) (set-set (world_plans old) n None (Some (lasting m)))

pub planned : (journal : Bool) (n at : ℕ) (u v : ℤ) {old new : World} → IsWhole old → at < 2 ^ 31 → (h : HasPlanned n at u v old new) → state_of journal new ≡ with_plan journal old n (Some (with_leg h.can.plan (record { from = at; motion = h.motion })))
planned journal n at u v {old} {new} whole soon h =
    let had = has_motion (motion_of old.motions n) (sym (live_with_plan old n) ∙ ap is_some h.can.is) in
    let same : plan_with old.legs n had.0 ≡ h.can.plan = same_Some _ _ (sym (plan_there old n had.0 had.1) ∙ h.can.is) in
    let may : MayFollow old.moment (plan_with old.legs n had.0) at u v h.motion = subst (λ (p : Plan). MayFollow old.moment p at u v h.motion) (sym same) h.can.may in
    let later = after_last whole.followed old.moment u v (record { at = at; no = n; m = h.motion }) had.0 had.1 soon may in
    ap (state_of journal) h.state
    ∙ ap (in_state journal old) (added_legs_are_last old.motions old.legs (record { at = at; no = n; m = h.motion }) had.0 whole.followed.rising later had.1)
    ∙ ap (λ (p : Plan). with_plan journal old n (Some (with_leg p (record { from = at; motion = h.motion })))) same
