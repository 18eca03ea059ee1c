-- What is inside a world that is seen as whole, and what the calls that move it do to what is seen.
use Rattle.kin_world.proofs.Vocabulary.{◌≡◌, ◌⊎◌, ◌<◌, inl, inr, refl, ap, sym, ◌∙◌, subst, true, ℕ, IsTrue, Some, None, Contains, IsCanonical, moments_left, IsEarlier, Moment, never, through, total, Block, IsNextBlock, HasLanded, HasSameFrame, HasSettled, IsSound, IsRepairCost}
use Rattle.kin_world.proofs.Vocabulary.{Stage, meaning, setting, sight, stage_of, BeginsWithin, FailsWithin, HasGoneTo, HasLeftBehind, HasMoved, HasPassed, IsBusyWithin, IsWhole, Leg, World, begins_at, Flight, HasCrossed, HasCrossedTo, IsAtEase, IsNextStop, IsReady, NoneIsPast, flight_of, seen, AreAhead, piece_of}
use Rattle.kin_world.specs.Costs.{IsStepCost}
use Rattle.kin_world.specs.Paid.{IsRepaid}
use Rattle.kin_world.specs.declared.world.World.TheInside.{Inside}
use Rattle.kin_legs.proofs.BeginLaws.{own_canonical}
use Rattle.kin_legs.proofs.FollowedLaws.{leg_fair}
use Rattle.kin_world.proofs.SoundLaws.{whole, least_fails}
use Rattle.kin_world.proofs.CrossingLaws.{at_ease_ready, crossed_nothing, fails_within}
use Rattle.kin_world.proofs.StepLaws.{gone_past, has_moved, moving_cost, next_since, ready_mid, repair_cost}
use Rattle.kin_num.proofs.Grains.{moments_run_out}

-- where all legs are ahead a world that is ready is at ease
pub ready_at_ease : {f : Flight} → IsReady f → AreAhead f.stage.moment f.plan.legs → IsAtEase f.stage f.plan
ready_at_ease {f} ready ahead = record { sound = ready.sound; size = ready.size; followed = ready.followed; ahead = ahead }

-- a limit that is the earlier one of two is as good as both
module _ {limit due : Moment} {start now : Flight} (to : HasCrossedTo limit (Some due) start now) where
  due_canonical : IsCanonical due.at
  due_canonical = (least_fails to.crossed.ready.sound due to.ends.0.least).canonical

  due_later : IsEarlier now.stage.moment due
  due_later = (least_fails to.crossed.ready.sound due to.ends.0.least).later_is_later

  here : IsCanonical now.stage.moment.at
  here = to.crossed.ready.sound.in_order.canonical

  due_not_before : ¬ (IsEarlier due now.stage.moment)
  due_not_before early = never now.stage.moment here (through now.stage.moment due now.stage.moment here due_canonical here due_later early)

  -- what is due fails up to the next stop
  pub due_by_stop : {stop : Moment} → IsNextStop limit now.plan.legs stop → ¬ (IsEarlier stop due)
  due_by_stop {stop} next = at next.is
    where
      at : (stop ≡ limit) ⊎ ((l : Leg) × Contains now.plan.legs l × (stop ≡ begins_at l)) → ¬ (IsEarlier stop due)
      at (inl is) = λ far. to.ends.0.within (subst (λ (m : Moment). IsEarlier m due) is far)
      at (inr (l, there, is)) = λ far. to.ends.1 l there (subst (λ (m : Moment). IsEarlier m due) is far)

  fails_by : (n : Moment) → ¬ (IsEarlier n due) → FailsWithin n (seen start)
  fails_by n within = fails_within to.crossed to.ahead due due_canonical due_not_before to.ends.1 due to.ends.0.least (never due due_canonical) n within

module _ (w : Inside) {v : World} (is : meaning (stage_of w.upkeep) w.legs.legs w.whole ≡ v) (ease : IsTrue w.whole → IsAtEase (stage_of w.upkeep) w.legs) (there : IsTrue v.whole) where
  is_whole : w.whole ≡ true
  is_whole = ap (λ (x : World). x.whole) is ∙ there

  pub ease_inside : IsAtEase (stage_of w.upkeep) w.legs
  ease_inside = ease is_whole

  pub sound_inside : IsSound (stage_of w.upkeep)
  sound_inside = ease_inside.sound

  pub ready_inside : (steps : ℕ) → IsReady (flight_of w.upkeep w.legs steps)
  ready_inside steps = at_ease_ready steps ease_inside

  -- what is so of the stage inside is so of the world that is seen, and the other way round
  seen_inside : meaning (stage_of w.upkeep) w.legs.legs true ≡ v
  seen_inside = ap (λ b. meaning (stage_of w.upkeep) w.legs.legs b) (sym is_whole) ∙ is

  pub as_seen : (P : World → Type 0) → P (meaning (stage_of w.upkeep) w.legs.legs true) → P v
  as_seen P so = subst P seen_inside so

  pub as_inside : (P : World → Type 0) → P v → P (meaning (stage_of w.upkeep) w.legs.legs true)
  as_inside P so = subst P (sym seen_inside) so

  pub whole_inside : IsWhole v
  whole_inside = as_seen IsWhole (whole sound_inside ease_inside.followed ease_inside.ahead)

  -- fewer moments are left from a later one on
  pub fewer : (n : Moment) → IsCanonical n.at → IsEarlier w.upkeep.moment n → moments_left n < moments_left v.moment
  fewer n canonical later = as_seen (λ x. moments_left n < moments_left x.moment) (moments_run_out w.upkeep.moment n sound_inside.in_order.canonical canonical later)

  module _ (steps : ℕ) (limit : Moment) where
    abbrev start : Flight
    start = flight_of w.upkeep w.legs steps

    -- a leg was to begin
    pub begins_seen : BeginsWithin limit (seen start) → IsBusyWithin limit v
    begins_seen begins = as_seen (IsBusyWithin limit) (inr begins)

    -- nothing failed
    pub moved_seen : {now : Flight} → HasCrossedTo limit None start now → HasMoved limit v (seen now)
    moved_seen {now} to = as_seen (λ x. HasMoved limit x (seen now)) (has_moved to.crossed to.ahead limit to.ends)

    pub moved_cost : {now : Flight} → HasCrossedTo limit None start now → IsStepCost v (seen now) None steps now.steps
    moved_cost {now} to = as_seen (λ x. IsStepCost x (seen now) None steps now.steps) (moving_cost to.crossed to.ahead refl)

    module _ {due : Moment} {now : Flight} (to : HasCrossedTo limit (Some due) start now) where
      pub fails_seen : IsBusyWithin limit v
      fails_seen = as_seen (IsBusyWithin limit) (inl (fails_by to limit to.ends.0.within))

      -- all is repaired at a later moment, and no leg begins before it
      module _ {t : Stage} (frame : HasSameFrame (record now.stage { moment = t.moment }) t) (later : IsEarlier now.stage.moment t.moment) (did : HasSettled now.stage.table t) (none_past : NoneIsPast t.moment now.plan.legs) where
        pub ready_there : (halfway : ℕ) → IsReady (record { stage = t; plan = now.plan; steps = halfway })
        ready_there = ready_mid to.crossed to.ahead frame later did.sound did.made none_past

        -- then the legs of that moment begin
        module _ (halfway : ℕ) {end : Flight} (begun : (more : ℕ) (first : Flight) → HasCrossed more first (record { stage = t; plan = now.plan; steps = halfway }) → HasCrossed more first end) (ahead : AreAhead end.stage.moment end.plan.legs) (same : end.stage.moment ≡ t.moment) where
          crossed : HasCrossed 0 (record { stage = t; plan = now.plan; steps = halfway }) end
          crossed = begun 0 _ (crossed_nothing (ready_there halfway))

          pub ease_then : IsAtEase end.stage end.plan
          ease_then = ready_at_ease crossed.ready ahead

          pub gone_then : HasGoneTo end.stage.moment (seen start) (seen end)
          gone_then = gone_past to.crossed to.ahead frame later did.sound did.made none_past halfway crossed ahead same

          pub fewer_then : moments_left end.stage.moment < moments_left v.moment
          fewer_then = fewer end.stage.moment ease_then.sound.in_order.canonical (subst (IsEarlier w.upkeep.moment) (sym same) (past later))
            where
              past : IsEarlier now.stage.moment t.moment → IsEarlier w.upkeep.moment t.moment
              past after = elim (total w.upkeep.moment now.stage.moment sound_inside.in_order.canonical (here to)) [
                | inl sooner ↦ through w.upkeep.moment now.stage.moment t.moment sound_inside.in_order.canonical (here to) did.sound.in_order.canonical sooner after
                | inr (inl before) ↦ absurd (to.crossed.quiet.not_before before)
                | inr (inr also) ↦ subst (λ (m : Moment). IsEarlier m t.moment) (sym also) after
              ]

          pub cost_then : (failures : ℕ) → IsRepaid (sight start.stage) now.stage t failures now.steps halfway → IsRepairCost v (seen end) failures steps end.steps
          cost_then failures repaid = as_seen (λ x. IsRepairCost x (seen end) failures steps end.steps) (repair_cost to.crossed to.ahead frame later did.sound did.made none_past halfway crossed ahead same failures refl repaid)

          -- a block is passed
          pub passes : t.moment ≡ due → (b : Block) → b.moment ≡ due → IsNextBlock (setting now.stage) now.stage.moment b → HasPassed limit b v (seen end)
          passes at b is_due next = as_seen (λ x. HasPassed limit b x (seen end)) (record {
            next = next_since to.crossed to.ahead b (subst (λ (m : Moment). NoneIsPast m now.plan.legs) (sym is_due) to.ends.1) next;
            within = subst (λ (m : Moment). ¬ (IsEarlier limit m)) (sym is_due) to.ends.0.within;
            gone = subst (λ (m : Moment). HasGoneTo m (seen start) (seen end)) (same ∙ at ∙ sym is_due) gone_then;
          })

          -- something was left behind
          pub leaves_behind : ¬ (IsEarlier t.moment due) → ¬ (IsEarlier limit t.moment) → HasLeftBehind limit v (seen end)
          leaves_behind past within = as_seen (λ x. HasLeftBehind limit x (seen end)) (record {
            due = fails_by to end.stage.moment (λ early. past (subst (λ (m : Moment). IsEarlier m due) same early));
            within = subst (λ (m : Moment). ¬ (IsEarlier limit m)) (sym same) within;
            gone = gone_then;
          })

-- ---- what a step and a leap give these
module _ {limit due : Moment} {start now : Flight} (to : HasCrossedTo limit (Some due) start now) {t : Stage} where
  module _ (frame : HasSameFrame (record now.stage { moment = due }) t) where
    pub at_due : t.moment ≡ due
    at_due = ap (λ (s : Stage). s.moment) frame

    pub frame_there : HasSameFrame (record now.stage { moment = t.moment }) t
    frame_there = subst (λ (m : Moment). HasSameFrame (record now.stage { moment = m }) t) (sym at_due) frame

    pub later_there : IsEarlier now.stage.moment t.moment
    later_there = subst (IsEarlier now.stage.moment) (sym at_due) (due_later to)

    pub none_past_there : NoneIsPast t.moment now.plan.legs
    none_past_there = subst (λ (m : Moment). NoneIsPast m now.plan.legs) (sym at_due) to.ends.1

  module _ {stop : Moment} (next : IsNextStop limit now.plan.legs stop) (landed : HasLanded due stop now.stage t) where
    landed_there : IsCanonical t.moment.at
    landed_there = landed.settled.sound.in_order.canonical

    pub none_past_landed : NoneIsPast t.moment now.plan.legs
    none_past_landed l there early = elim (total stop t.moment next.canonical landed_there) [
      | inl sooner ↦ landed.within sooner
      | inr (inl more) ↦ next.none_before l there (through (begins_at l) t.moment stop (own_canonical (piece_of l) (leg_fair to.crossed.ready.followed l there)) landed_there next.canonical early more)
      | inr (inr same) ↦ next.none_before l there (subst (IsEarlier (begins_at l)) (sym same) early)
    ]

    pub within_landed : IsCanonical limit.at → ¬ (IsEarlier limit t.moment)
    within_landed canonical far = elim (total stop t.moment next.canonical landed_there) [
      | inl sooner ↦ landed.within sooner
      | inr (inl more) ↦ next.within (through limit t.moment stop canonical landed_there next.canonical far more)
      | inr (inr same) ↦ next.within (subst (IsEarlier limit) (sym same) far)
    ]
