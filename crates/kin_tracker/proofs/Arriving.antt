-- A tracker that goes on forgets the legs that it has begun.
use Rattle.std.proofs.Common.{◌≡◌, ◌<◌, refl, sym, ap, ◌∙◌, subst, ◌⊎◌, inl, inr}
use Rattle.kin_num.specs.Canonical.{IsCanonical}
use Rattle.kin_num.specs.Order.{IsEarlier}
use Rattle.kin_num.specs.declared.instant.Moment.{Moment}
use Rattle.kin_num.specs.Grains.{moments_left}
use Rattle.kin_num.proofs.Grains.{moments_run_out}
use Rattle.kin_num.proofs.MomentLaws.{through, total}
use Rattle.kin_legs.specs.Paths.{plans_left}
use Rattle.kin_legs.proofs.FollowedLaws.{all_ahead}
use Rattle.kin_legs.proofs.LeftLaws.{past_legs_dont_matter}
use Rattle.kin_world.specs.Worlds.{FailsWithin, HasGoneTo, HasLeftBehind, IsBusyWithin, IsWhole, World, world_plans}
use Rattle.kin_tracker.specs.Times.{HasArrived}

-- all legs of a whole world are still to come, so of its plans all is left
pub is_here : (w : World) → IsWhole w → HasArrived w.moment w w
is_here w whole = record { moment = refl; size = refl; keeps = refl; plans = sym (all_ahead whole.followed w.moment whole.canonical whole.ahead).left; whole = whole }

pub arrived_now : {m : Moment} {start now : World} → HasArrived m start now → HasArrived now.moment start now
arrived_now {m} {start} {now} h = subst (λ (k : Moment). HasArrived k start now) (sym h.moment) h

gone_moment : {m : Moment} {old new : World} → HasGoneTo m old new → new.moment ≡ m
gone_moment gone = ap (λ (v : World). v.moment) gone.state

pub goes_further : {start now new : World} {m : Moment} → IsWhole start → HasArrived now.moment start now → ¬ (IsEarlier m now.moment) → HasGoneTo m now new → HasArrived m start new
goes_further {start} {now} {new} {m} whole on not_before gone =
    let there = subst (λ (k : Moment). IsCanonical k.at) (gone_moment gone) gone.whole.canonical in
    record {
      moment = gone_moment gone;
      size = ap (λ (v : World). v.size) gone.state ∙ on.size;
      keeps = ap (λ (v : World). v.keeps) gone.state ∙ on.keeps;
      plans = gone.plans ∙ ap (plans_left m) on.plans ∙ past_legs_dont_matter (world_plans start) now.moment m whole.followed.paths on.whole.canonical there not_before;
      whole = gone.whole;
    }

-- a leap doesn't go back
pub leaps_on : {limit : Moment} {old new : World} → IsWhole old → HasLeftBehind limit old new → ¬ (IsEarlier new.moment old.moment)
leaps_on {limit} {old} {new} whole h e = h.due.within (through new.moment old.moment h.due.moment h.gone.whole.canonical whole.canonical h.due.fails.canonical e h.due.fails.later_is_later)

-- fewer moments are left then
pub fewer_then : {old new : World} {m : Moment} → IsWhole old → IsEarlier old.moment m → HasGoneTo m old new → moments_left new.moment < moments_left old.moment
fewer_then {old} {new} whole later gone = moments_run_out old.moment new.moment whole.canonical gone.whole.canonical (subst (IsEarlier old.moment) (sym (gone_moment gone)) later)

-- ---- what there was to do on the way
-- what fails up to a moment fails up to one that isn't earlier
fails_by : {m limit : Moment} {w : World} → IsCanonical m.at → IsCanonical limit.at → ¬ (IsEarlier limit m) → FailsWithin m w → FailsWithin limit w
fails_by {m} {limit} {w} here there not_before h = record {
  certificate = h.certificate;
  live = h.live;
  moment = h.moment;
  fails = h.fails;
  within = λ before. at before (total m limit here there);
}
  where
    at : IsEarlier limit h.moment → IsEarlier m limit ⊎ (IsEarlier limit m ⊎ (m ≡ limit)) → ⊥
    at before (inl e) = h.within (through m limit h.moment here there h.fails.canonical e before)
    at before (inr (inl e)) = not_before e
    at before (inr (inr e)) = h.within (subst (λ (k : Moment). IsEarlier k h.moment) (sym e) before)

-- it hasn't moved, or something fails up to the moment
abbrev pub HasCause : Moment → World → World → Type 0
HasCause limit start now = (now ≡ start) ⊎ FailsWithin limit start

pub leaps_for : {limit : Moment} {start now new : World} → IsCanonical limit.at → HasCause limit start now → HasLeftBehind limit now new → HasCause limit start new
leaps_for {limit} {start} {now} {new} there (inl same) h = inr (subst (FailsWithin limit) same (fails_by h.gone.whole.canonical there h.within h.due))
leaps_for there (inr fails) h = inr fails

pub is_busy : {limit : Moment} {start now : World} → HasCause limit start now → IsBusyWithin limit now → IsBusyWithin limit start
is_busy {limit} (inl same) busy = subst (IsBusyWithin limit) same busy
is_busy (inr fails) busy = inl fails
