-- What comes of a change of the points.
use Rattle.std.proofs.Common.{◌≡◌, refl, sym, ap, ◌∙◌, subst, inl, inr, true, false, [], ℕ, ℤ, ◌<◌, ◌^◌, is_some, length-set, slice_set, Option, Some, None}
use Rattle.std.specs.Borrow.{Bor}
use Rattle.std.specs.Prelude.{MatchOption}
use Rattle.std.specs.List.{All}
use Rattle.kin_num.specs.declared.instant.Moment.{Moment}
use Rattle.kin_num.specs.declared.instant.Phase.TheVariants.{After, At}
use Rattle.kin_num.specs.Order.{IsEarlier}
use Rattle.kin_motion.specs.Course.{Course, IsSlow}
use Rattle.kin_motion.specs.Plans.{Plan, motion_in_force}
use Rattle.kin_motion.specs.Turning.{IsNotWhole, IsOutOfBounds, TurnsTo, just_at}
use Rattle.kin_legs.specs.Joined.{with_leg}
use Rattle.kin_legs.specs.Paths.{IsFair, lasting, plan_of, whole}
use Rattle.kin_legs.specs.Scheduling.{HasLegFrom, MayFollow, last_motion}
use Rattle.kin_legs.proofs.SchedulingLaws.{one_continues}
use Rattle.kin_legs.proofs.PathLaws.{paths_set}
use Rattle.kin_script.specs.declared.refusal.Refusal.{Refusal}
use Rattle.kin_script.specs.Changes.{ChangesTo, IsChangeInRange, IsRefusedChange, IsSlowVelocity, PointChange, enters, leaves, restarts, schedules, turns}
use Rattle.kin_script.specs.declared.refusal.Refusal.TheVariants.{NotWhole, OutOfBounds, Past, Planned}
use Rattle.kin_script.specs.Deeds.{changes}
use Rattle.kin_script.specs.Replay.{IsRefused}
use Rattle.kin_script.specs.States.{State}
use Rattle.kin_script.specs.Text.{Step}
use Rattle.kin_status.proofs.Existence.{allowed_leg, allowed_turn}
use Rattle.kin_status.proofs.OnPaths.{path_after}
use Rattle.kin_check.specs.Sound.{IsSound}

module _ (s : State) (sound : IsSound s) (n : ℕ) (c : PointChange) (range : IsChangeInRange c) (allowed : (r : Refusal) → ¬ (IsRefusedChange s.moment (plan_of s.plans n) c r))
    (next : Option Plan) (leads : ChangesTo s.moment (plan_of s.plans n) c next) (t : State) (is : t ≡ record s { plans = slice_set s.plans n next }) where
  pub changed : Step s (changes n c) [] t
  changed = record { allowed = allowed; prints = refl; leads = (next, leads, is) }

  pub changed_sound : IsSound t
  changed_sound = subst IsSound (sym is) (record {
    size_low = sound.size_low;
    size_high = sound.size_high;
    keepable = sound.keepable;
    plannable = record {
      paths = paths_set s.plans n next sound.plannable.paths (path_after s.moment (plan_of s.plans n) next c (sound.plannable.paths.each n) range allowed leads);
      slots = length-set s.plans n next ∙ sound.plannable.slots;
      small = sound.plannable.small;
    };
    canonical = sound.canonical;
  })

-- ---- whether a number is live
pub plan_there : (p : Option Plan) (r : Option (Bor Plan)) → MatchOption r (p ≡ None) (λ (x : Bor Plan). p ≡ Some x.now) → is_some p ≡ is_some r
plan_there p None e = ap is_some e
plan_there p (Some x) e = ap is_some e

module _ (s : State) (n : ℕ) where
  pub may_enter : (m : Course) → is_some (plan_of s.plans n) ≡ false → (r : Refusal) → ¬ (IsRefusedChange s.moment (plan_of s.plans n) (enters m) r)
  may_enter m free r h = let clash : false ≡ true = sym free ∙ h.1 in cc

  pub may_leave : is_some (plan_of s.plans n) ≡ true → (r : Refusal) → ¬ (IsRefusedChange s.moment (plan_of s.plans n) leaves r)
  may_leave live r h = let clash : true ≡ false = sym live ∙ h.1 in cc

  pub may_restart : (m : Course) → is_some (plan_of s.plans n) ≡ true → (r : Refusal) → ¬ (IsRefusedChange s.moment (plan_of s.plans n) (restarts m) r)
  may_restart m live r h = let clash : true ≡ false = sym live ∙ h.1 in cc

module _ (s : State) (sound : IsSound s) (n : ℕ) (plan : Plan) (is : plan_of s.plans n ≡ Some plan) where
  pub fair_plan : All IsFair plan.legs
  fair_plan = (sound.plannable.paths.each n plan is).fair

  -- ---- a turn, now as a call has told it, from the motion that is in force
  module _ (u v : ℤ) (told : Moment) (same : told ≡ s.moment) (old : Course) (force : old ≡ motion_in_force told plan) where
    old_is : old ≡ motion_in_force s.moment plan
    old_is = force ∙ ap (λ (m : Moment). motion_in_force m plan) same

    module _ (small : IsSlowVelocity u v) (new : Course) (to : (told.phase ≡ At) × TurnsTo told.at u v old new × IsSlow new) (t : State)
        (then : t ≡ record s { plans = slice_set s.plans n (Some (lasting new)) }) where
      at_instant : s.moment.phase ≡ At
      at_instant = sym (ap (λ (m : Moment). m.phase) same) ∙ to.0

      goes : TurnsTo s.moment.at u v (motion_in_force s.moment plan) new
      goes = subst (λ (c : Course). TurnsTo s.moment.at u v c new) old_is (subst (λ (m : Moment). TurnsTo m.at u v old new) same to.1)

      may_turn : (r : Refusal) → ¬ (IsRefusedChange s.moment (plan_of s.plans n) (turns u v) r)
      may_turn = allowed_turn s.moment sound.canonical u v plan (plan_of s.plans n) is at_instant new goes to.2

      leads_to : ChangesTo s.moment (plan_of s.plans n) (turns u v) (Some (lasting new))
      leads_to = record { old = plan; new = new; was = is; same_place = goes; is = refl }

      pub turn_made : Step s (changes n (turns u v)) [] t
      turn_made = changed s sound n (turns u v) small may_turn (Some (lasting new)) leads_to t then

      pub turn_sound : IsSound t
      turn_sound = changed_sound s sound n (turns u v) small may_turn (Some (lasting new)) leads_to t then

    pub not_whole : IsNotWhole told u v old → IsRefused s (changes n (turns u v)) NotWhole
    not_whole h = inr (plan, is, inl (refl, subst (IsNotWhole s.moment u v) old_is (subst (λ (m : Moment). IsNotWhole m u v old) same h)))

    pub out_of_bounds : IsOutOfBounds told u v old → IsRefused s (changes n (turns u v)) OutOfBounds
    out_of_bounds h = inr (plan, is, inr (refl, subst (IsOutOfBounds s.moment u v) old_is (subst (λ (m : Moment). IsOutOfBounds m u v old) same h)))

  -- ---- a leg
  module _ (at : ℕ) (u v : ℤ) where
    pub past : ¬ (IsEarlier s.moment (just_at (whole at))) → IsRefused s (changes n (schedules at u v)) Past
    past over = inr (plan, is, inl (refl, over))

    module _ (ahead : IsEarlier s.moment (just_at (whole at))) where
      pub planned : HasLegFrom plan at → IsRefused s (changes n (schedules at u v)) Planned
      planned has = inr (plan, is, inr (inl (refl, ahead, has)))

      module _ (after : ¬ (HasLegFrom plan at)) where
        pub too_fast : IsOutOfBounds (just_at (whole at)) u v (last_motion plan) → IsRefused s (changes n (schedules at u v)) OutOfBounds
        too_fast out = inr (plan, is, inr (inr (refl, record { ahead = ahead; after = after; motion = out.1.0; continues = out.1.1; far = out.1.2 })))

        module _ (soon : at < 2 ^ 31) (small : IsSlowVelocity u v) (new : Course) (turns_to : TurnsTo (whole at) u v (last_motion plan) new) (slow : IsSlow new)
            (t : State) (then : t ≡ record s { plans = slice_set s.plans n (Some (with_leg plan (record { from = at; motion = new }))) }) where
          follows : MayFollow s.moment plan at u v new
          follows = record { ahead = ahead; after = after; continues = turns_to; slow = slow }

          may_follow : (r : Refusal) → ¬ (IsRefusedChange s.moment (plan_of s.plans n) (schedules at u v) r)
          may_follow = allowed_leg s.moment at u v plan (plan_of s.plans n) is new follows

          pub leg_made : Step s (changes n (schedules at u v)) [] t
          leg_made =
              changed s sound n (schedules at u v) (soon, small) may_follow (Some (with_leg plan (record { from = at; motion = new })))
              (record { old = plan; new = new; was = is; follows = follows; is = refl }) t then

          pub leg_sound : IsSound t
          leg_sound =
              changed_sound s sound n (schedules at u v) (soon, small) may_follow (Some (with_leg plan (record { from = at; motion = new })))
              (record { old = plan; new = new; was = is; follows = follows; is = refl }) t then

-- at a whole instant there is a motion with each velocity
pub turns_whole : (c : Course) (at : ℕ) (u v : ℤ) → at < 2 ^ 31 → IsNotWhole (just_at (whole at)) u v c → ⊥
turns_whole c at u v soon (inl after) = let clash : At ≡ After = after in absurd cc
turns_whole c at u v soon (inr none) = let one = one_continues (lasting c) at u v soon in none one.0 one.1
