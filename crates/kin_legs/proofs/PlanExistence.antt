-- As points follow their plans, there is a next block unless nothing ever fails, and there is a journal up to each later moment.
use Rattle.std.proofs.Common.{◌≡◌, ◌⊎◌, inl, inr, refl, sym, ◌∙◌, subst, arith, ℕ, zero, suc, ◌+◌, ◌<◌, ◌≤◌, ◌^◌, Bool, true, false, List, Option, Some, None, length}
use Rattle.std.proofs.lemmas.List.{length-map}
use Rattle.std.specs.Prelude.{option_map}
use Rattle.std.proofs.lemmas.Bool.{both_ways, cases_lt}
use Rattle.kin_num.specs.declared.instant.Moment.{Moment}
use Rattle.kin_num.specs.Canonical.{IsCanonical}
use Rattle.kin_num.specs.Order.{IsEarlier}
use Rattle.kin_num.proofs.MomentLaws.{never, through, total}
use Rattle.kin_motion.specs.declared.fact.Fact.{Fact}
use Rattle.kin_motion.specs.declared.keep.Keep.{Keep}
use Rattle.kin_motion.specs.Course.{Course, live_of}
use Rattle.kin_motion.specs.Forms.{IsAskable}
use Rattle.kin_motion.specs.Moments.{HoldsAt, FailsFirst}
use Rattle.kin_motion.specs.Plans.{Leg, Plan, is_begun, motion_in_force, motions_in_force, plans_scene}
use Rattle.kin_motion.specs.Scene.{Scene, scene_at}
use Rattle.kin_motion.specs.Turning.{just_at}
use Rattle.kin_fail.specs.Failures.{IsFirstFailure}
use Rattle.kin_fail.proofs.FailureRoots.{first_failures_exist}
use Rattle.kin_fail.proofs.JournalExistence.{earlier_or_not, next_block, journal_within}
use Rattle.kin_motion.specs.Journal.{Block, IsNextBlock, NothingFails}
use Rattle.kin_motion.proofs.AskableLaws.{live_facts_are_askable}
use Rattle.kin_motion.proofs.LiveFactsHold.{live_fact_holds}
use Rattle.kin_motion.proofs.MotionScenes.{real_at, live_fits}
use Rattle.kin_num.specs.Grains.{moments_left}
use Rattle.kin_legs.specs.Planned.{planned, ArePlannable, PlannedFailuresExist, PlannedBlocksExist, PlannedJournalsExist}
use Rattle.kin_legs.specs.Paths.{whole, beginning, IsLegOf, IsFair, ArePaths, NoneBeginsBetween}
use Rattle.kin_legs.proofs.NextLegs.{HasNextOf, IsNextOf, next_leg}
use Rattle.kin_legs.proofs.SceneLaws.{legs_keep_scene, fair_leg, same_live, slow_in_force}
use Rattle.kin_legs.proofs.BeginLaws.{legs_begin_in_time, own_canonical, before_unbegun, unbegun_before, whole_order}
use Rattle.kin_legs.proofs.LeftLaws.{still_begun}

module _ (plans : List (Option Plan)) (paths : ArePaths plans) where
  abbrev motions : Moment → List (Option Course)
  motions = motions_in_force plans

  module _ (now : Moment) (here : IsCanonical now.at) where
    -- as long as no leg has begun before a moment, the same is seen as with the motions of now
    seen : (m : Moment) → IsCanonical m.at → ¬ (IsEarlier m now) → NoneBeginsBetween now m plans → plans_scene plans m ≡ scene_at (motions now) m
    seen m canonical = legs_keep_scene plans now m paths here canonical

    none_at_all : ((k : Leg) → IsLegOf plans k → is_begun k now ≡ true) → (m : Moment) → NoneBeginsBetween now m plans
    none_at_all all m l of_these later sooner = absurd ((legs_begin_in_time l now (fair_leg plans paths l of_these).soon here).0 (all l of_these) later)

    module _ (l : Leg) (next : IsNextOf now (IsLegOf plans) l) where
      fair : IsFair l
      fair = fair_leg plans paths l next.one

      pub later_leg : IsEarlier now (beginning l)
      later_leg = before_unbegun l now fair here next.out

      pub it_is_later : ¬ (IsEarlier (beginning l) now)
      it_is_later e = never now here (through now (beginning l) now here (own_canonical l fair) here later_leg e)

      pub none_before : (m : Moment) → IsCanonical m.at → ¬ (IsEarlier (beginning l) m) → NoneBeginsBetween now m plans
      none_before m canonical in_time k of_these later sooner =
          let own = fair_leg plans paths k of_these in
          let out : is_begun k now ≡ false = unbegun_before k now own here later in
          at (cases_lt l.from k.from) own (next.first k of_these out)
        where
          at : (l.from < k.from) ⊎ (k.from ≤ l.from) → IsFair k → l.from ≤ k.from → ⊥
          at (inl less) own le = let low = own.soon in in_time (through (beginning l) (beginning k) m (own_canonical l fair) (own_canonical k own) canonical (whole_order l.from k.from less (omega (arith, low))) sooner)
          at (inr ge) own le = let same : k.from ≡ l.from = omega (arith, ge, le) in in_time (subst (λ n. IsEarlier (just_at (whole n)) m) same sooner)

  module _ (f : Fact) where
    abbrev CanBeAsked : Type 0
    CanBeAsked = (m : Moment) → IsAskable (live_of (motions m)) f.form

    -- the first failure that the motions of now show, where it comes before the next leg or with it; if not, one from there on
    module _ (askable : CanBeAsked) (now : Moment) (here : IsCanonical now.at) (holds : HoldsAt (plans_scene plans) now f) where
      abbrev HasFirst : Moment → Type 0
      HasFirst m = (later : Option Moment) × IsFirstFailure (plans_scene plans) m f later

      as_seen : (m : Moment) → plans_scene plans m ≡ scene_at (motions now) m → HoldsAt (scene_at (motions now)) m f → HoldsAt (plans_scene plans) m f
      as_seen m same = subst (λ (s : Scene). s.sign f.form ≡ f.sign) (sym same)

      -- where no leg is left
      for_ever : ((k : Leg) → IsLegOf plans k → is_begun k now ≡ true) → (later : Option Moment) → IsFirstFailure (scene_at (motions now)) now f later → HasFirst now
      for_ever all None is = (None, λ m canonical from. as_seen m (seen now here m canonical from (none_at_all now here all m)) (is m canonical from))
      for_ever all (Some k) is = (
        Some k,
        record {
          canonical = is.canonical;
          later_is_later = is.later_is_later;
          holds_until = λ m u. as_seen m (seen now here m u.canonical u.from (none_at_all now here all m)) (is.holds_until m u);
          fails = λ h. is.fails (subst (λ (s : Scene). s.sign f.form ≡ f.sign) (seen now here k is.canonical (λ e. never now here (through now k now here is.canonical here is.later_is_later e)) (none_at_all now here all k)) h);
        },
      )

      module _ (l : Leg) (next : IsNextOf now (IsLegOf plans) l) where
        own : IsCanonical (beginning l).at
        own = own_canonical l (fair now here l next)

        up_to_it : (m : Moment) → IsCanonical m.at → ¬ (IsEarlier m now) → ¬ (IsEarlier (beginning l) m) → plans_scene plans m ≡ scene_at (motions now) m
        up_to_it m canonical from in_time = seen now here m canonical from (none_before now here l next m canonical in_time)

        -- it fails in time
        in_time : (k : Moment) → FailsFirst (scene_at (motions now)) now k f → ¬ (IsEarlier (beginning l) k) → HasFirst now
        in_time k is not_after = (
          Some k,
          record {
            canonical = is.canonical;
            later_is_later = is.later_is_later;
            holds_until = λ m u. as_seen m (up_to_it m u.canonical u.from (λ e. not_after (through (beginning l) m k own u.canonical is.canonical e u.until))) (is.holds_until m u);
            fails = λ h. is.fails (subst (λ (s : Scene). s.sign f.form ≡ f.sign) (up_to_it k is.canonical (λ e. never now here (through now k now here is.canonical here is.later_is_later e)) not_after) h);
          },
        )

        -- it holds up to the leg
        HoldsThrough : Type 0
        HoldsThrough = (m : Moment) → IsCanonical m.at → ¬ (IsEarlier m now) → ¬ (IsEarlier (beginning l) m) → HoldsAt (plans_scene plans) m f

        afterwards : HoldsThrough → HasFirst (beginning l) → HasFirst now
        unfolding HoldsThrough
        afterwards through_it (None, is) = (
          None,
          λ m canonical from. elim (earlier_or_not (beginning l) m own canonical) [
            | inl after ↦ is m canonical (λ e. never m canonical (through m (beginning l) m canonical own canonical e after))
            | inr before ↦ through_it m canonical from before
          ],
        )
        afterwards through_it (Some k, is) = (
          Some k,
          record {
            canonical = is.canonical;
            later_is_later = through now (beginning l) k here own is.canonical (later_leg now here l next) is.later_is_later;
            holds_until = λ m u. elim (earlier_or_not (beginning l) m own u.canonical) [
              | inl after ↦ is.holds_until m (record { canonical = u.canonical; from = λ e. never m u.canonical (through m (beginning l) m u.canonical own u.canonical e after); until = u.until })
              | inr before ↦ through_it m u.canonical u.from before
            ];
            fails = is.fails;
          },
        )

        by_next_leg : (later : Option Moment) → IsFirstFailure (scene_at (motions now)) now f later → (HoldsAt (plans_scene plans) (beginning l) f → HasFirst (beginning l)) → HasFirst now
        unfolding HoldsThrough
        by_next_leg None is from =
            let through_it : HoldsThrough = λ m canonical since in_time. as_seen m (up_to_it m canonical since in_time) (is m canonical since) in
            afterwards through_it (from (through_it (beginning l) own (it_is_later now here l next) (λ e. never (beginning l) own e)))
        by_next_leg (Some k) is from = elim (earlier_or_not (beginning l) k own is.canonical) [
          | inr not_after ↦ in_time k is not_after
          | inl after ↦
              let through_it : HoldsThrough = λ m canonical since not_later. as_seen m (up_to_it m canonical since not_later) (is.holds_until m (record { canonical = canonical; from = since; until = before_it k m canonical is.canonical after not_later })) in
              afterwards through_it (from (through_it (beginning l) own (it_is_later now here l next) (λ e. never (beginning l) own e)))
        ]
          where
            before_it : (k m : Moment) → IsCanonical m.at → IsCanonical k.at → IsEarlier (beginning l) k → ¬ (IsEarlier (beginning l) m) → IsEarlier m k
            before_it k m canonical far after not_later = at (total m (beginning l) canonical own)
              where
                at : IsEarlier m (beginning l) ⊎ (IsEarlier (beginning l) m ⊎ (m ≡ beginning l)) → IsEarlier m k
                at (inl sooner) = through m (beginning l) k canonical own far sooner after
                at (inr (inl later)) = absurd (not_later later)
                at (inr (inr same)) = subst (λ (x : Moment). IsEarlier x k) (sym same) after

    -- each leg that isn't begun begins at 2^31 - n or later
    abbrev AreFar : ℕ → Moment → Type 0
    AreFar n now = (k : Leg) → IsLegOf plans k → is_begun k now ≡ false → 2 ^ 31 ≤ k.from + n

    farther : (n : ℕ) (now : Moment) (here : IsCanonical now.at) (l : Leg) (next : IsNextOf now (IsLegOf plans) l) → AreFar (suc n) now → AreFar n (beginning l)
    farther n now here l next far k of_these out = at (cases_lt l.from k.from)
      where
        own : IsCanonical (beginning l).at
        own = own_canonical l (fair now here l next)

        not_yet : is_begun k now ≡ false
        not_yet = by_test (is_begun k now) refl
          where
            by_test : (t : Bool) → is_begun k now ≡ t → is_begun k now ≡ false
            by_test false e = e
            by_test true e = absurd (both_ways (is_begun k (beginning l)) out (still_begun now (beginning l) here own (it_is_later now here l next) k (fair_leg plans paths k of_these) e))

        at : (l.from < k.from) ⊎ (k.from ≤ l.from) → 2 ^ 31 ≤ k.from + n
        at (inl less) = let enough = far l next.one next.out in omega (arith, less, enough)
        at (inr ge) =
            let le = next.first k of_these not_yet in
            let same : k.from ≡ l.from = omega (arith, ge, le) in
            absurd (never (beginning l) own (subst (λ i. IsEarlier (beginning l) (just_at (whole i))) same (before_unbegun k (beginning l) (fair_leg plans paths k of_these) own out)))

    pub first_within : (n : ℕ) → CanBeAsked → (now : Moment) → IsCanonical now.at → AreFar n now → HoldsAt (plans_scene plans) now f → (later : Option Moment) × IsFirstFailure (plans_scene plans) now f later
    first_within zero askable now here far holds = by_next (next_leg now plans)
      where
        seen_now : (later : Option Moment) × IsFirstFailure (scene_at (motions now)) now f later
        seen_now = first_failures_exist (motions now) now f (slow_in_force plans paths now here) (askable now) here holds

        by_next : HasNextOf now (IsLegOf plans) → (later : Option Moment) × IsFirstFailure (plans_scene plans) now f later
        by_next (inl all) = for_ever askable now here holds all seen_now.0 seen_now.1
        by_next (inr (l, next)) = absurd (let low = (fair now here l next).soon in let enough = far l next.one next.out in omega (arith, low, enough))
    first_within (suc n) askable now here far holds = by_next (next_leg now plans) (first_within n askable)
      where
        seen_now : (later : Option Moment) × IsFirstFailure (scene_at (motions now)) now f later
        seen_now = first_failures_exist (motions now) now f (slow_in_force plans paths now here) (askable now) here holds

        by_next : HasNextOf now (IsLegOf plans) → ((m : Moment) → IsCanonical m.at → AreFar n m → HoldsAt (plans_scene plans) m f → (later : Option Moment) × IsFirstFailure (plans_scene plans) m f later)
            → (later : Option Moment) × IsFirstFailure (plans_scene plans) now f later
        by_next (inl all) from = for_ever askable now here holds all seen_now.0 seen_now.1
        by_next (inr (l, next)) from =
            by_next_leg askable now here holds l next seen_now.0 seen_now.1 (from (beginning l) (own_canonical l (fair now here l next)) (farther n now here l next far))

pub planned_failures_exist : PlannedFailuresExist
planned_failures_exist plans now f paths askable here holds =
    first_within plans paths f (2 ^ 31) (λ m. subst (λ live. IsAskable live f.form) (same_live 0 now m plans) askable) now here (λ k of_these out. omega arith) holds

module _ (plans : List (Option Plan)) (size : ℕ) (keeps : List Keep) (plannable : ArePlannable plans size keeps) where
  pub slots_in_force : (m : Moment) → length (motions_in_force plans m) ≡ 2 ^ size
  slots_in_force m = length-map plans (option_map (motion_in_force m)) ∙ plannable.slots

  next_planned : (now : Moment) → IsCanonical now.at → NothingFails (planned plans size keeps) now ⊎ ((b : Block) × IsNextBlock (planned plans size keeps) now b)
  next_planned now here =
      next_block (planned plans size keeps) now (real_at (motions_in_force plans now) now here) (live_fits size (motions_in_force plans now) now (slots_in_force now)) (λ c is.
      planned_failures_exist plans now c.placed.fact plannable.paths (live_facts_are_askable size keeps (plans_scene plans now) c plannable.small is) here (live_fact_holds size keeps (plans_scene plans now) c is))

pub planned_blocks_exist : PlannedBlocksExist
planned_blocks_exist plans size keeps now plannable = next_planned plans size keeps plannable now

pub planned_journals_exist : PlannedJournalsExist
planned_journals_exist plans size keeps now last plannable here canonical not_before =
    journal_within (planned plans size keeps) last canonical (next_planned plans size keeps plannable) (suc (moments_left now)) now (omega arith) (here, not_before)
