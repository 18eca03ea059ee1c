-- The next block and what comes next, from the facts that are live at a moment.
use Rattle.std.proofs.Common.{◌≡◌, ◌≢◌, ◌⊎◌, inl, inr, refl, sym, ap, ◌∙◌, subst, arith, List, ℕ, suc, ◌<◌, Option, Some, None}
use Rattle.std.specs.Prelude.{Contains}
use Rattle.std.specs.List.{All}
use Rattle.std.proofs.lemmas.List.Elements.{All-contains_itself, All-weaker}
use Rattle.kin_num.specs.declared.instant.Moment.{Moment}
use Rattle.kin_num.specs.Canonical.{IsCanonical}
use Rattle.kin_num.specs.Order.{IsEarlier}
use Rattle.kin_num.specs.Grains.{moments_left}
use Rattle.kin_num.proofs.Grains.{moments_run_out}
use Rattle.kin_num.proofs.MomentLaws.{never, through, total}
use Rattle.kin_motion.specs.Agreements.{FitsSize}
use Rattle.kin_motion.specs.Course.{Course, live_of}
use Rattle.kin_motion.specs.Forms.{IsAskable}
use Rattle.kin_motion.specs.Journal.{Block, IsNextBlock, Setting}
use Rattle.kin_motion.specs.Live.{Certificate, IsLiveFact, ListsLive, live_facts}
use Rattle.kin_motion.specs.Moments.{HoldsAt}
use Rattle.kin_motion.specs.Plans.{Plan, motions_in_force, plans_scene}
use Rattle.kin_motion.specs.Scene.{IsReal, Scene, scene_at}
use Rattle.kin_motion.proofs.AskableLaws.{live_facts_are_askable}
use Rattle.kin_motion.proofs.LiveFactLaws.{live_facts_agree}
use Rattle.kin_motion.proofs.LiveFactsHold.{live_fact_holds}
use Rattle.kin_motion.proofs.MotionScenes.{live_fits, real_at}
use Rattle.kin_fail.proofs.JournalExistence.{earlier_or_not, least_block}
use Rattle.kin_fail.proofs.LeastFailure.{IsLeast}
use Rattle.kin_legs.specs.Nexts.{IsNext, block, leg, nothing}
use Rattle.kin_legs.proofs.PlanExistence.{slots_in_force}
use Rattle.kin_legs.proofs.SceneLaws.{same_live}
use Rattle.kin_script.specs.States.{State, state_setting, state_view}
use Rattle.kin_check.specs.declared.event.Event.{Event}
use Rattle.kin_check.specs.declared.event.Event.TheVariants.{Failure, Leg as Begins, Nothing}
use Rattle.kin_check.specs.Blocks.{IsNextBlockBy, failures_seen}
use Rattle.kin_check.specs.Events.{BeginsSooner, FailsSooner, HoldThrough, IsFirst, IsFirstBy, NothingComes}
use Rattle.kin_check.specs.Sound.{IsSound}
use Rattle.kin_check.proofs.Firsts.{not_back}

-- on the way to the last moment: all of these facts hold up to now
pub record IsOnTheWay (s : State) (from last : Moment) (facts : List Certificate) (at : Moment) : Type 0 where
  pub canonical : IsCanonical at.at
  pub not_before : ¬ (IsEarlier at from)
  pub in_time : ¬ (IsEarlier last at)
  pub hold : HoldThrough (plans_scene s.plans) from at facts

-- and then what comes first by the last moment
pub record IsLooking (s : State) (from last : Moment) (facts : List Certificate) (event : Event) : Type 0 where
  pub at : Moment
  pub on : IsOnTheWay s from last facts at
  pub first : IsFirstBy s.plans at last facts event

-- how many moments are left from the leg on that begins
abbrev pub legs_left : Event → ℕ
legs_left (Begins m) = suc (moments_left m)
legs_left other = 0

pub fewer_left : (plans : List (Option Plan)) (m last : Moment) (cs : List Certificate) (event : Event) → IsCanonical m.at → IsFirstBy plans m last cs event → legs_left event < suc (moments_left m)
fewer_left plans m last cs (Begins k) here b = let fewer = moments_run_out m k here b.0.canonical b.0.later in omega (arith, fewer)
fewer_left plans m last cs other here b = omega arith

-- neither a leg nor a failure comes
pub nothing_by : (plans : List (Option Plan)) (m last : Moment) (cs : List Certificate) (event : Event) → IsFirstBy plans m last cs event → ((k : Moment) → event ≢ Begins k)
    → ((k : Moment) → event ≢ Failure k) → HoldThrough (plans_scene plans) m last cs
nothing_by plans m last cs (Begins k) first no_leg no_failure = absurd (no_leg k refl)
nothing_by plans m last cs (Failure k) first no_leg no_failure = absurd (no_failure k refl)
nothing_by plans m last cs Nothing first no_leg no_failure = first

-- the live numbers have slots
pub fits_seen : (s : State) → IsSound s → (m : Moment) (ms : List (Option Course)) (n : ℕ) → ms ≡ motions_in_force s.plans m → n ≡ s.size → FitsSize n (scene_at ms m)
fits_seen s sound m ms n is same =
    subst (λ k. FitsSize k (scene_at ms m)) (sym same)
    (subst (λ (cs : List (Option Course)). FitsSize s.size (scene_at cs m)) (sym is) (live_fits s.size (motions_in_force s.plans m) m (slots_in_force s.plans s.size s.keeps sound.plannable m)))

module _ (s : State) (sound : IsSound s) where
  abbrev scene : Moment → Scene
  scene = plans_scene s.plans

  abbrev shown : Setting
  shown = state_setting s

  abbrev live_at : Moment → List Certificate
  live_at m = live_facts s.size s.keeps (scene m)

  pub real : (m : Moment) → IsCanonical m.at → IsReal (scene m)
  real m canonical = real_at (motions_in_force s.plans m) m canonical

  pub fits : (m : Moment) → FitsSize s.size (scene m)
  fits m = live_fits s.size (motions_in_force s.plans m) m (slots_in_force s.plans s.size s.keeps sound.plannable m)

  module _ (from : Moment) (here : IsCanonical from.at) where
    pub listed : ListsLive s.size s.keeps (scene from) (live_at from)
    listed = live_facts_agree s.size s.keeps (scene from) (real from here) (fits from)

    -- these facts may be asked for at each moment
    pub askable_at : (facts : List Certificate) → facts ≡ live_at from → (m : Moment) → All (λ (c : Certificate). IsAskable (live_of (motions_in_force s.plans m)) c.placed.fact.form) facts
    askable_at facts are m =
        All-weaker (Contains facts) (λ (c : Certificate). IsAskable (live_of (motions_in_force s.plans m)) c.placed.fact.form)
        (λ c among.
        subst (λ (live : List ℕ). IsAskable live c.placed.fact.form) (same_live 0 from m s.plans)
        (live_facts_are_askable s.size s.keeps (scene from) c sound.plannable.small ((listed.each c).0 (subst (λ (cs : List Certificate). Contains cs c) are among))))
        facts (All-contains_itself facts)

    hold_now : (c : Certificate) → Contains (live_at from) c → HoldsAt scene from c.placed.fact
    hold_now c among = live_fact_holds s.size s.keeps (scene from) c ((listed.each c).0 among)

    -- ---- the block
    pub block_made : (m : Moment) → IsLeast scene from (live_at from) m → IsNextBlock shown from (record { moment = m; failures = failures_seen (scene m) (live_at from) })
    block_made m least =
        least_block shown from (real from here) (fits from) m least

    -- ---- on the way to the last moment
    module _ (last : Moment) (in_range : IsCanonical last.at) (facts : List Certificate) (are : facts ≡ live_at from) where
      pub sets_out : ¬ (IsEarlier last from) → IsOnTheWay s from last facts from
      sets_out in_time = record {
        canonical = here;
        not_before = never from here;
        in_time = in_time;
        hold =
            λ c among m canonical not_before not_after. subst (λ (x : Moment). HoldsAt scene x c.placed.fact) (same m canonical not_before not_after)
            (hold_now c (subst (λ (cs : List Certificate). Contains cs c) are among));
      }
        where
          same : (m : Moment) → IsCanonical m.at → ¬ (IsEarlier m from) → ¬ (IsEarlier from m) → from ≡ m
          same m canonical not_before not_after = elim (total from m here canonical) [
            | inl sooner ↦ absurd (not_after sooner)
            | inr (inl later) ↦ absurd (not_before later)
            | inr (inr e) ↦ e
          ]

      module _ {at : Moment} (on : IsOnTheWay s from last facts at) where
        -- all facts hold now
        pub hold_here : All (λ (c : Certificate). HoldsAt scene at c.placed.fact) facts
        hold_here =
            All-weaker (Contains facts) (λ (c : Certificate). HoldsAt scene at c.placed.fact) (λ c among. on.hold c among at on.canonical on.not_before (never at on.canonical))
            facts (All-contains_itself facts)

        -- what holds up to now and from now on
        holds_on : (c : Certificate) → Contains facts c → (m : Moment) → IsCanonical m.at → ¬ (IsEarlier m from) → (¬ (IsEarlier m at) → HoldsAt scene m c.placed.fact) → HoldsAt scene m c.placed.fact
        holds_on c among m canonical not_before then = elim (earlier_or_not m at canonical on.canonical) [
          | inl sooner ↦ on.hold c among m canonical not_before (not_back m at canonical on.canonical sooner)
          | inr not_sooner ↦ then not_sooner
        ]

        -- a leg begins
        pub goes_on : {begins : Moment} → BeginsSooner s.plans at begins facts × ¬ (IsEarlier last begins) → IsOnTheWay s from last facts begins
        goes_on {begins} (b, in_time) = record {
          canonical = b.canonical;
          not_before = λ e. on.not_before (through at begins from on.canonical b.canonical here b.later e);
          in_time = in_time;
          hold = λ c among m canonical not_before not_after. holds_on c among m canonical not_before (λ not_sooner. b.hold c among m canonical not_sooner not_after);
        }

        -- some of them fail
        least_from : (m : Moment) → IsLeast scene at facts m → IsLeast scene from facts m
        least_from m least = record {
          some = least.some;
          among = least.among;
          fails = record {
            canonical = least.fails.canonical;
            later_is_later = by_order (earlier_or_not from at here on.canonical);
            holds_until =
                λ x u. holds_on least.some least.among x u.canonical u.from (λ not_sooner. least.fails.holds_until x (record { canonical = u.canonical; from = not_sooner; until = u.until }));
            fails = least.fails.fails;
          };
          hold_before = λ c among x u. holds_on c among x u.canonical u.from (λ not_sooner. least.hold_before c among x (record { canonical = u.canonical; from = not_sooner; until = u.until }));
        }
          where
            by_order : IsEarlier from at ⊎ ¬ (IsEarlier from at) → IsEarlier from m
            by_order (inl sooner) = through from at m here on.canonical least.fails.canonical sooner least.fails.later_is_later
            by_order (inr not_sooner) = elim (total from at here on.canonical) [
              | inl sooner ↦ absurd (not_sooner sooner)
              | inr (inl later) ↦ absurd (on.not_before later)
              | inr (inr same) ↦ subst (λ (x : Moment). IsEarlier x m) (sym same) least.fails.later_is_later
            ]

        pub fails_then : (m : Moment) (b : Block) → IsLeast scene at facts m × ¬ (IsEarlier last m) → b ≡ record { moment = m; failures = failures_seen (scene m) facts }
            → IsNextBlockBy s from last (Some b)
        fails_then m b (least, in_time) is =
            subst (λ (x : Block). IsNextBlockBy s from last (Some x)) (sym (is ∙ ap (λ (cs : List Certificate). record { moment = m; failures = failures_seen (scene m) cs }) are))
            (block_made m (subst (λ (cs : List Certificate). IsLeast scene from cs m) are (least_from m least)), in_time)

        pub looks_on : (begins : Moment) (event next : Event) → event ≡ Begins begins → IsFirstBy s.plans at last facts event → IsFirstBy s.plans begins last facts next
            → IsLooking s from last facts next
        looks_on begins event next is first then = record { at = begins; on = goes_on (subst (IsFirstBy s.plans at last facts) is first); first = then }

        -- nothing does up to the last moment
        pub none_fails : HoldThrough scene at last facts → IsNextBlockBy s from last None
        none_fails hold = (
          λ c live m u. still c live m u.canonical u.from (not_back m last u.canonical in_range u.until),
          λ c live. still c live last in_range (λ e. at_last e) (never last in_range),
        )
          where
            still : (c : Certificate) → IsLiveFact s.size s.keeps (scene from) c → (m : Moment) → IsCanonical m.at → ¬ (IsEarlier m from) → ¬ (IsEarlier last m) → HoldsAt scene m c.placed.fact
            still c live m canonical not_before not_after =
                let among : Contains facts c = subst (λ (cs : List Certificate). Contains cs c) (sym are) ((listed.each c).1 live) in
                holds_on c among m canonical not_before (λ not_sooner. hold c among m canonical not_sooner not_after)

            at_last : IsEarlier last from → ⊥
            at_last e = elim (total last at in_range on.canonical) [
              | inl sooner ↦ on.in_time sooner
              | inr (inl later) ↦ on.not_before (through at last from on.canonical in_range here later e)
              | inr (inr same) ↦ on.not_before (subst (λ (x : Moment). IsEarlier x from) same e)
            ]

  -- ---- what comes next
  abbrev now : Moment
  now = s.moment

  abbrev own : List Certificate
  own = live_at now

  pub block_next : (m : Moment) (b : Block) → FailsSooner s.plans now m own → b ≡ record { moment = m; failures = failures_seen (scene m) own } → IsNext (state_view s) (block b)
  block_next m b f is = subst (λ (x : Block). IsNext (state_view s) (block x)) (sym is) (record { next = block_made now sound.canonical m f.least; first = f.first })

  pub leg_next : (m : Moment) → BeginsSooner s.plans now m own → IsNext (state_view s) (leg m)
  leg_next m b = record {
    leg = b.leg;
    of_these = b.of_these;
    begins = b.begins;
    canonical = b.canonical;
    later = b.later;
    first = b.first;
    none_fails = (
      λ c live x u. b.hold c (((listed now sound.canonical).each c).1 live) x u.canonical u.from (not_back x m u.canonical b.canonical u.until),
      λ c live. b.hold c (((listed now sound.canonical).each c).1 live) m b.canonical (not_back now m sound.canonical b.canonical b.later) (never m b.canonical),
    );
  }

  pub nothing_next : NothingComes s.plans now own → IsNext (state_view s) nothing
  nothing_next n = record { none_fails = λ c live m canonical not_before. n.hold c (((listed now sound.canonical).each c).1 live) m canonical not_before; none_begins = n.none_begins }

  -- from now, which a call has told
  module _ (told : Moment) (same : told ≡ s.moment) (facts : List Certificate) (are : facts ≡ live_at told) where
    pub here_too : IsCanonical told.at
    here_too = subst (λ (m : Moment). IsCanonical m.at) (sym same) sound.canonical

    pub hold_told : All (λ (c : Certificate). HoldsAt scene told c.placed.fact) facts
    hold_told =
        All-weaker (Contains facts) (λ (c : Certificate). HoldsAt scene told c.placed.fact) (λ c among. hold_now told here_too c (subst (λ (cs : List Certificate). Contains cs c) are among))
        facts (All-contains_itself facts)

    own_are : facts ≡ own
    own_are = are ∙ ap live_at same

    seen_now : (event : Event) → IsFirst s.plans told facts event → IsFirst s.plans now own event
    seen_now event first = subst (λ (cs : List Certificate). IsFirst s.plans now cs event) own_are (subst (λ (m : Moment). IsFirst s.plans m facts event) same first)

    module _ (event : Event) (first : IsFirst s.plans told facts event) where
      pub failures_come : (m : Moment) (b : Block) → event ≡ Failure m → b ≡ record { moment = m; failures = failures_seen (scene m) facts } → IsNext (state_view s) (block b)
      failures_come m b e is =
          block_next m b (subst (IsFirst s.plans now own) e (seen_now event first)) (is ∙ ap (λ (cs : List Certificate). record { moment = m; failures = failures_seen (scene m) cs }) own_are)

      pub leg_comes : (m : Moment) → event ≡ Begins m → IsNext (state_view s) (leg m)
      leg_comes m e = leg_next m (subst (IsFirst s.plans now own) e (seen_now event first))

      pub nothing_comes : event ≡ Nothing → IsNext (state_view s) nothing
      nothing_comes e = nothing_next (subst (IsFirst s.plans now own) e (seen_now event first))
