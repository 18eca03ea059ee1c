-- One turn of the crossing: to the next stop, where nothing fails before it.
use Rattle.std.proofs.lemmas.List.{length-append}
use Rattle.std.specs.Prelude.{◌*◌}
use Rattle.kin_world.proofs.Vocabulary.{◌≡◌, ◌⊎◌, inl, inr, refl, sym, ap, ◌∙◌, subst, arith, ℕ, ◌+◌, ◌-◌, ◌≤◌, ◌<◌, List, length, Some, None, Contains}
use Rattle.kin_world.proofs.Vocabulary.{IsCanonical, IsEarlier, Moment, never, through, total, Planning, NoneFailsUntil, IsDueWithin, Leg, AreAhead, begins_at, piece_of, BeginsWithin, Flight, HasCrossed, HasCrossedTo, IsNextStop, IsReady, seen, two_a_leg}
use Rattle.std.proofs.lemmas.List.Elements.{Contains-append_right}
use Rattle.kin_legs.proofs.BeginLaws.{own_canonical}
use Rattle.kin_legs.proofs.FollowedLaws.{leg_fair}
use Rattle.kin_world.proofs.CrossingLaws.{allowed, crossed_nothing, moves_on}
use Rattle.kin_world.proofs.SoundLaws.{least_fails}

-- where no leg has begun
pub sets_out : {f : Flight} → IsReady f → HasCrossed (two_a_leg f f) f f
sets_out {f} ready = allowed (crossed_nothing ready) (two_a_leg f f) f.steps (omega arith)

module _ {start now : Flight} (crossed : HasCrossed (two_a_leg start now) start now) (ahead : AreAhead now.stage.moment now.plan.legs) {limit : Moment} (canonical : IsCanonical limit.at) (later : ¬ (IsEarlier limit now.stage.moment)) {stop : Moment} (next : IsNextStop limit now.plan.legs stop) where
  here : IsCanonical now.stage.moment.at
  here = crossed.ready.sound.in_order.canonical

  begins_there : (l : Leg) → Contains now.plan.legs l → IsCanonical (begins_at l).at
  begins_there l there = own_canonical (piece_of l) (leg_fair crossed.ready.followed l there)

  -- the stop isn't before now
  from : ¬ (IsEarlier stop now.stage.moment)
  from early = at next.is
    where
      at : (stop ≡ limit) ⊎ ((l : Leg) × Contains now.plan.legs l × (stop ≡ begins_at l)) → ⊥
      at (inl is) = later (subst (λ (m : Moment). IsEarlier m now.stage.moment) is early)
      at (inr (l, there, is)) = never now.stage.moment here (through now.stage.moment (begins_at l) now.stage.moment here (begins_there l there) here (ahead l there) (subst (λ (m : Moment). IsEarlier m now.stage.moment) is early))

  -- a fact fails up to the stop
  pub fails_here : (steps : ℕ) → steps ≤ now.steps + 2 → (due : Moment) → IsDueWithin stop now.stage.table.live due → HasCrossedTo limit (Some due) start (record now { steps = steps })
  fails_here steps within due is = record {
    crossed = allowed crossed (two_a_leg start now + 2) steps (omega (arith, within));
    ahead = ahead;
    ends = (
      record { least = is.least; within = λ far. is.within (in_time far) },
      λ l there early. next.none_before l there (before_stop l there early),
    );
  }
    where
      due_canonical : IsCanonical due.at
      due_canonical = (least_fails crossed.ready.sound due is.least).canonical

      in_time : IsEarlier limit due → IsEarlier stop due
      in_time far = elim (total stop due next.canonical due_canonical) [
        | inl less ↦ less
        | inr (inl more) ↦ absurd (next.within (through limit due stop canonical due_canonical next.canonical far more))
        | inr (inr same) ↦ absurd (next.within (subst (IsEarlier limit) (sym same) far))
      ]

      before_stop : (l : Leg) → Contains now.plan.legs l → IsEarlier (begins_at l) due → IsEarlier (begins_at l) stop
      before_stop l there early = elim (total stop due next.canonical due_canonical) [
        | inl less ↦ absurd (is.within less)
        | inr (inl more) ↦ through (begins_at l) due stop (begins_there l there) due_canonical next.canonical early more
        | inr (inr same) ↦ subst (IsEarlier (begins_at l)) (sym same) early
      ]

  -- where memory runs out a leg was to begin
  pub begins_within : (l : Leg) → Contains now.plan.legs l → stop ≡ begins_at l → BeginsWithin limit (seen start)
  begins_within l in_plan is = (l, subst (λ (ls : List Leg). Contains ls l) (sym crossed.split) (Contains-append_right crossed.begun now.plan.legs l in_plan), λ far. next.within (subst (IsEarlier limit) (sym is) far))

  -- nothing does
  module _ (none : NoneFailsUntil now.stage.table.live stop) (steps : ℕ) (within : steps ≤ now.steps + 2) where
    abbrev there : Flight
    there = record { stage = record now.stage { moment = stop }; plan = now.plan; steps = steps }

    pub goes_there : HasCrossed (two_a_leg start now + 2) start there
    goes_there = moves_on crossed ahead stop next.canonical from next.none_before none 2 steps within

    -- legs begin there
    module _ {new : Flight} (crossed' : HasCrossed (two_a_leg start now + 2) start new) (ahead' : AreAhead new.stage.moment new.plan.legs) (at : new.stage.moment ≡ stop) where
      begun_since : two_a_leg start now ≡ 2 * (length start.plan.legs - length now.plan.legs)
      begun_since = refl

      pub goes_on_from_there : length new.plan.legs < length now.plan.legs → HasCrossed (two_a_leg start new) start new
      goes_on_from_there less =
          let all = ap length crossed.split ∙ length-append crossed.begun now.plan.legs in
          allowed crossed' (two_a_leg start new) new.steps (omega (arith, less, all))

      pub not_past : ¬ (IsEarlier limit new.stage.moment)
      not_past far = next.within (subst (IsEarlier limit) at far)

      -- or none does, so this is the limit
      pub arrives : length new.plan.legs ≤ length now.plan.legs → new.plan ≡ now.plan → HasCrossedTo limit None start new
      arrives fewer same = record {
        crossed = allowed crossed' (two_a_leg start new + 2) new.steps (omega (arith, fewer));
        ahead = ahead';
        ends = at ∙ is_limit next.is;
      }
        where
          is_limit : (stop ≡ limit) ⊎ ((l : Leg) × Contains now.plan.legs l × (stop ≡ begins_at l)) → stop ≡ limit
          is_limit (inl is) = is
          is_limit (inr (l, in_plan, is)) =
              let early : IsEarlier new.stage.moment (begins_at l) = ahead' l (subst (λ (p : Planning). Contains p.legs l) (sym same) in_plan) in
              absurd (never stop next.canonical (subst (IsEarlier stop) (sym is) (subst (λ (m : Moment). IsEarlier m (begins_at l)) at early)))
