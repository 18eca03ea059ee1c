-- What comes next: the next block, or the beginning of the first leg.
use Rattle.kin_world.proofs.Vocabulary.{◌≡◌, ◌⊎◌, ◌↔◌, inl, inr, refl, sym, ap, ◌∙◌, subst, List, [], ◌∷◌, Option, Some, None, Contains, IsNone, true, IsCanonical, IsEarlier, Moment, never, through, total, failures_at, Scene, Holds, scene_at}
use Rattle.kin_world.proofs.Vocabulary.{IsLeastFailure, NoneFails, NoneFailsUntil, nothing_until, Stage, meaning, setting, Leg, Planning, begins_at, piece_of, Flight, IsAtEase, IsNextMoment, IsReady, NoneIsPast, World, world_plans, world_view}
use Rattle.std.specs.Prelude.{IfSome}
use Rattle.kin_algebra.proofs.Members.{contains_head, contains_none}
use Rattle.kin_motion.specs.Live.{IsLiveFact}
use Rattle.kin_motion.specs.Plans.{plans_scene}
use Rattle.kin_legs.specs.Nexts.{IsAtRest, block, comes_at, leg, nothing}
use Rattle.kin_legs.proofs.BeginLaws.{own_canonical}
use Rattle.kin_legs.proofs.FollowedLaws.{first_is_earliest, leg_fair, leg_listed, listed_leg}
use Rattle.kin_legs.proofs.NextLaws.{one_next}
use Rattle.kin_legs.proofs.ShownLaws.{alike_blocks, alike_journals}
use Rattle.kin_world.proofs.CrossingLaws.{at_ease_ready, crossed_nothing, motions_alike, none_between, shown_until}
use Rattle.kin_world.proofs.SoundLaws.{in_time, least_fails, never_fails, next_at}

module _ {s : Stage} {plan : Planning} (ease : IsAtEase s plan) where
  abbrev w : World
  w = meaning s plan.legs true

  abbrev f : Flight
  f = record { stage = s; plan = plan; steps = 0 }

  ready : IsReady f
  ready = at_ease_ready 0 ease

  here : IsCanonical s.moment.at
  here = ease.sound.in_order.canonical

  not_back : (m : Moment) → IsCanonical m.at → IsEarlier s.moment m → ¬ (IsEarlier m s.moment)
  not_back m there later early = never s.moment here (through s.moment m s.moment here there here later early)

  -- a failure before which no leg begins
  pub block_comes : (m : Moment) → IsLeastFailure s.table.live m → NoneIsPast m plan.legs → IsNextMoment (world_view w) m
  block_comes m least none =
      let first = least_fails ease.sound m least in
      let alike = motions_alike (crossed_nothing ready) ease.ahead m first.canonical (not_back m first.canonical first.later_is_later) none in (
        block (record { moment = m; failures = failures_at (setting s) s.moment m }),
        record { next = alike_blocks _ _ s.moment _ here alike (next_at ease.sound m least); first = none_between ready m first.canonical none s.moment },
        refl,
      )

  module _ (l : Leg) (rest : List Leg) (is_first : plan.legs ≡ l ∷ rest) where
    in_legs : Contains plan.legs l
    in_legs = subst (λ (ls : List Leg). Contains ls l) (sym is_first) (contains_head l rest)

    begins_there : IsCanonical (begins_at l).at
    begins_there = own_canonical (piece_of l) (leg_fair ease.followed l in_legs)

    earliest : NoneIsPast (begins_at l) plan.legs
    earliest = first_is_earliest plan.legs ease.followed.rising (leg_fair ease.followed) l rest is_first

    -- a leg before or at whose beginning nothing fails
    pub leg_comes : NoneFailsUntil s.table.live (begins_at l) → IsNextMoment (world_view w) (begins_at l)
    leg_comes none =
        let from = not_back (begins_at l) begins_there (ease.ahead l in_legs) in
        let alike = motions_alike (crossed_nothing ready) ease.ahead (begins_at l) begins_there from earliest in (
          leg (begins_at l),
          record {
            leg = piece_of l;
            of_these = listed_leg ease.followed l in_legs;
            begins = refl;
            canonical = begins_there;
            later = ease.ahead l in_legs;
            first = none_between ready (begins_at l) begins_there earliest s.moment;
            none_fails = alike_journals _ _ s.moment (begins_at l) [] here begins_there from alike (nothing_until (setting s) s.moment s.table.live (in_time ease.sound) (begins_at l) begins_there from none);
          },
          refl,
        )

    -- the earlier one of both
    pub earlier_comes : (r : Option Moment) → IfSome r (IsLeastFailure s.table.live) → (r ≡ None) ↔ NoneFails s.table.live → (m : Moment) → (r ≡ None → m ≡ begins_at l)
        → ((due : Moment) → r ≡ Some due → ((m ≡ due) × IsEarlier due (begins_at l)) ⊎ ((m ≡ begins_at l) × ¬ (IsEarlier due (begins_at l)))) → IsNextMoment (world_view w) m
    earlier_comes None least none m without with = subst (IsNextMoment (world_view w)) (sym (without refl)) (leg_comes (inl (none.0 refl)))
    earlier_comes (Some due) least none m without with = at (with due refl)
      where
        due_canonical : IsCanonical due.at
        due_canonical = (least_fails ease.sound due least).canonical

        at : ((m ≡ due) × IsEarlier due (begins_at l)) ⊎ ((m ≡ begins_at l) × ¬ (IsEarlier due (begins_at l))) → IsNextMoment (world_view w) m
        at (inl (is, early)) = subst (IsNextMoment (world_view w)) (sym is) (block_comes due least (λ k there sooner. earliest k there (through (begins_at k) due (begins_at l) (own_canonical (piece_of k) (leg_fair ease.followed k there)) due_canonical begins_there sooner early)))
        at (inr (is, not_early)) = subst (IsNextMoment (world_view w)) (sym is) (elim (total (begins_at l) due begins_there due_canonical) [
          | inl later ↦ leg_comes (inr (due, least, later))
          | inr (inl sooner) ↦ absurd (not_early sooner)
          | inr (inr same) ↦ subst (IsNextMoment (world_view w)) (sym same) (block_comes due least (subst (λ (n : Moment). NoneIsPast n plan.legs) same earliest))
        ])

  -- where something comes the world isn't at rest
  pub not_at_rest : (m : Moment) → IsNextMoment (world_view w) m → IsNone (Some m) ↔ IsAtRest (world_view w)
  not_at_rest m comes = (λ e. absurd cc, λ rest. absurd (let clash : Some m ≡ None = sym comes.2 ∙ ap comes_at (one_next (world_view w) comes.0 nothing here comes.1 rest) in cc))

  -- ---- without legs
  module _ (none_left : plan.legs ≡ []) where
    nothing_past : (m : Moment) → NoneIsPast m plan.legs
    nothing_past m l there = absurd (contains_none l (subst (λ (ls : List Leg). Contains ls l) none_left there))

    pub failing_comes : (r : Option Moment) → IfSome r (IsLeastFailure s.table.live) → IfSome r (IsNextMoment (world_view w))
    failing_comes None least = tt
    failing_comes (Some m) least = block_comes m least (nothing_past m)

    shown : (m : Moment) → IsCanonical m.at → ¬ (IsEarlier m s.moment) → plans_scene (world_plans w) m ≡ scene_at s.motions m
    shown m there from = shown_until (crossed_nothing ready) ease.ahead m there from (nothing_past m) m there from (never m there)

    at_rest : NoneFails s.table.live → IsAtRest (world_view w)
    at_rest none = record {
      none_fails = λ c live m there from.
          subst (λ (x : Scene). Holds x c.placed.fact) (sym (shown m there from))
          ((never_fails ease.sound).0 none c (subst (λ (x : Scene). IsLiveFact s.size s.keeps x c) (shown s.moment here (never s.moment here)) live) m there from);
      none_begins = λ k of_these later. let l = leg_listed ease.followed k of_these in contains_none l.0 (subst (λ (ls : List Leg). Contains ls l.0) none_left l.1);
    }

    pub rests : (r : Option Moment) → IfSome r (IsLeastFailure s.table.live) → (r ≡ None) ↔ NoneFails s.table.live → IsNone r ↔ IsAtRest (world_view w)
    rests None least none = (λ e. at_rest (none.0 refl), λ rest. refl)
    rests (Some m) least none = not_at_rest m (block_comes m least (nothing_past m))
