-- What a step did, seen from the world before and the world after.
use Rattle.std.proofs.Common.{ap₂, append-nil, cond, map}
use Rattle.std.proofs.lemmas.List.{length-append, append_assoc}
use Rattle.std.proofs.lemmas.List.Elements.{Contains-append_cases, Contains-append_left, filter-append}
use Rattle.std.proofs.lemmas.List.Sums.{sum_by-append}
use Rattle.std.specs.Prelude.{◌*◌, Bool, count_by, filter, option_map, sum_by}
use Rattle.kin_world.proofs.Vocabulary.{◌≡◌, inl, inr, refl, sym, ap, ◌∙◌, subst, arith, ℕ, ◌+◌, ◌≤◌, true, false, List, [], ◌∷◌, ◌++◌, length, length-map, Option, Some, None, slice_get, Contains}
use Rattle.kin_world.proofs.Vocabulary.{IsCanonical, IsEarlier, Moment, never, through, Course, live_of, Block, IsNextBlock, IsLiveFact, Scene, scene_at, Keep, Structure, LiveFact, certificates_of, exactly_none, exactly_in_words}
use Rattle.kin_world.proofs.Vocabulary.{HasSameFrame, HasTimedNew, IsSettledFor, IsSound, Stage, meaning, setting, sight, Leg, AreAhead, AreFollowed, begins_at, piece_of, plans_of, IsRepairCost}
use Rattle.kin_world.proofs.Vocabulary.{Flight, HasCrossed, IsReady, NoneIsPast, seen, two_a_leg, HasGoneTo, HasMoved, facts_as_begins, is_about, legs_by, world_plans, world_setting}
use Rattle.kin_algebra.proofs.Members.{contains_head, contains_tail}
use Rattle.kin_motion.specs.Live.{live_facts}
use Rattle.kin_motion.specs.Plans.{Plan, is_begun, motions_in_force, plans_scene}
use Rattle.kin_cert.proofs.Costs.{enough}
use Rattle.kin_legs.specs.Paths.{plans_left}
use Rattle.kin_motion.specs.Agreements.{FitsSize}
use Rattle.kin_legs.proofs.AlikeLaws.{left_later_alike}
use Rattle.kin_legs.proofs.BeginLaws.{own_canonical}
use Rattle.kin_legs.proofs.FollowedLaws.{ahead_unbegun, all_ahead, leg_fair}
use Rattle.kin_legs.proofs.LeftLaws.{still_begun}
use Rattle.kin_legs.proofs.SceneLaws.{same_live}
use Rattle.kin_legs.proofs.ShownLaws.{alike_blocks, force_left, quiet_times_add_no_block}
use Rattle.kin_world.specs.Costs.{AreAsked, IsStepCost, cost_of_legs}
use Rattle.kin_world.specs.Paid.{IsRepaid, IsSeenBefore}
use Rattle.kin_world.proofs.CrossingLaws.{motions_alike, same_keeps, same_size, shown_here, shown_since, start_alike}
use Rattle.kin_world.proofs.LegSums.{more_a_leg, same_sum}
use Rattle.kin_world.proofs.SoundLaws.{fits, live_holds, lists_live, real, whole as whole_world}

-- ---- the legs that have begun
module _ (p : Leg → Bool) where
  all_kept : (xs : List Leg) → ((l : Leg) → Contains xs l → p l ≡ true) → filter p xs ≡ xs
  all_kept [] all = refl
  all_kept (x ∷ xs) all = ap (λ b. cond b (x ∷ filter p xs) (filter p xs)) (all x (contains_head x xs)) ∙ ap (λ (ys : List Leg). x ∷ ys) (all_kept xs (λ l there. all l (contains_tail x l xs there)))

  none_kept : (xs : List Leg) → ((l : Leg) → Contains xs l → p l ≡ false) → filter p xs ≡ []
  none_kept [] none = refl
  none_kept (x ∷ xs) none = ap (λ b. cond b (x ∷ filter p xs) (filter p xs)) (none x (contains_head x xs)) ∙ none_kept xs (λ l there. none l (contains_tail x l xs there))

  first_kept : (xs ys all : List Leg) → all ≡ xs ++ ys → ((l : Leg) → Contains xs l → p l ≡ true) → ((l : Leg) → Contains ys l → p l ≡ false) → filter p all ≡ xs
  first_kept xs ys all is kept none = ap (filter p) is ∙ filter-append p xs ys ∙ ap₂ (λ (ks ls : List Leg). ks ++ ls) (all_kept xs kept) (none_kept ys none) ∙ append-nil xs

-- the same numbers are live, whatever is left of the plans
forced_live : (ps qs : List (Option Plan)) (m n : Moment) → plans_left n ps ≡ plans_left n qs → live_of (motions_in_force ps m) ≡ live_of (motions_in_force qs n)
forced_live ps qs m n left =
    same_live 0 m n ps ∙ ap live_of (force_left n ps ∙ ap (λ (rs : List (Option Plan)). map (option_map (λ (p : Plan). p.first)) rs) left ∙ sym (force_left n qs))

module _ {more : ℕ} {start now : Flight} (crossed : HasCrossed more start now) where
  began : IsReady start
  began = crossed.began

  abbrev ps : List (Option Plan)
  ps = world_plans (seen start)

  abbrev qs : List (Option Plan)
  qs = world_plans (seen now)

  abbrev m : Moment
  m = now.stage.moment

  there : IsCanonical m.at
  there = crossed.ready.sound.in_order.canonical

  same_numbers : (sight start.stage).live ≡ (sight now.stage).live
  same_numbers =
      sym (ap (λ (s : Scene). s.live) began.shown) ∙ forced_live ps qs start.stage.moment m crossed.left ∙ ap (λ (s : Scene). s.live) crossed.ready.shown

  -- what was seen at the start is seen before now
  pub seen_since : IsSeenBefore (sight start.stage) now.stage
  seen_since = record {
    real = real began.sound;
    fits = subst (λ n. FitsSize n (sight start.stage)) (sym (same_size crossed)) (fits began.sound);
    same_live = same_numbers;
    settled = subst (λ (s : Stage). (j : ℕ) (keep : Keep) (st : Structure) → slice_get s.keeps j ≡ Some keep → slice_get s.structures j ≡ Some st → IsSettledFor s.size keep (sight start.stage) st) (sym crossed.frame)
        (λ j keep st kept here. (began.sound.in_order.each j keep st kept here).fine);
    hold = λ c live. live_holds crossed.ready.sound c (((lists_live crossed.ready.sound).each c).0 ((crossed.stay c).1 (((lists_live began.sound).each c).1
        (subst (λ n. IsLiveFact n start.stage.keeps (sight start.stage) c) (same_size crossed) (subst (λ keeps. IsLiveFact now.stage.size keeps (sight start.stage) c) (same_keeps crossed) live)))));
  }

  module _ (ahead : AreAhead m now.plan.legs) where
    unbegun : (l : Leg) → Contains now.plan.legs l → is_begun (piece_of l) m ≡ false
    unbegun = ahead_unbegun crossed.ready.followed m there ahead

    legs_begun : legs_by m start.plan.legs ≡ crossed.begun
    legs_begun = first_kept (λ (l : Leg). is_begun (piece_of l) m) crossed.begun now.plan.legs start.plan.legs crossed.split crossed.begin unbegun

    pub gone_on : HasGoneTo m (seen start) (seen now)
    gone_on = record {
      state = ap (λ (s : Stage). meaning s now.plan.legs true) crossed.frame;
      plans = sym (all_ahead crossed.ready.followed m there ahead).left ∙ sym crossed.left;
      whole = whole_world crossed.ready.sound crossed.ready.followed ahead;
      made = record {
        born = [];
        exactly = exactly_none _ (λ c new. new.1 ((crossed.stay c).0 new.0));
        count = let made = crossed.made in let sum = ap (sum_by (facts_as_begins (seen start))) legs_begun in omega (arith, made, sum);
      };
    }

    -- where the limit is reached
    pub has_moved : (limit : Moment) → m ≡ limit → HasMoved limit (seen start) (seen now)
    has_moved limit at = subst (λ (n : Moment). HasMoved n (seen start) (seen now)) at (record { nothing = crossed.quiet.none_fails; stay = crossed.stay; gone = gone_on })

    -- where something fails, all is repaired, and the legs that begin there begin
    module _ {t : Stage} (frame : HasSameFrame (record now.stage { moment = t.moment }) t) (later : IsEarlier m t.moment) (sound : IsSound t) (timed : HasTimedNew now.stage.table t.table) (none_past : NoneIsPast t.moment now.plan.legs) (halfway : ℕ) where
      abbrev mid : Flight
      mid = record { stage = t; plan = now.plan; steps = halfway }

      not_before : ¬ (IsEarlier t.moment m)
      not_before early = never m there (through m t.moment m there sound.in_order.canonical there later early)

      motions_are : t.motions ≡ now.stage.motions
      motions_are = ap (λ (s : Stage). s.motions) frame

      pub ready_mid : IsReady mid
      ready_mid = record {
        sound = sound;
        size = crossed.ready.size ∙ sym (ap (λ (s : Stage). s.size) frame);
        followed = subst (λ (ms : List (Option Course)). AreFollowed ms now.plan.legs) (sym motions_are) crossed.ready.followed;
        none_past = none_past;
        shown = subst (λ (ms : List (Option Course)). plans_scene (plans_of ms now.plan.legs) t.moment ≡ scene_at ms t.moment) (sym motions_are)
            (sym ((motions_alike crossed ahead t.moment sound.in_order.canonical not_before none_past).scene t.moment sound.in_order.canonical not_before (never t.moment sound.in_order.canonical)));
      }

      mid_plans : world_plans (seen mid) ≡ qs
      mid_plans = ap (λ (ms : List (Option Course)). plans_of ms now.plan.legs) motions_are

      module _ {end : Flight} (crossed' : HasCrossed 0 mid end) (ahead' : AreAhead end.stage.moment end.plan.legs) (same : end.stage.moment ≡ t.moment) where
        size_is : end.stage.size ≡ start.stage.size
        size_is = ap (λ (s : Stage). s.size) crossed'.frame ∙ ap (λ (s : Stage). s.size) frame ∙ same_size crossed

        keeps_are : end.stage.keeps ≡ start.stage.keeps
        keeps_are = ap (λ (s : Stage). s.keeps) crossed'.frame ∙ ap (λ (s : Stage). s.keeps) frame ∙ same_keeps crossed

        end_there : IsCanonical end.stage.moment.at
        end_there = crossed'.ready.sound.in_order.canonical

        -- the legs that begin at the end have the facts that they have seen from the start
        same_facts : (l : Leg) → Contains crossed'.begun l → facts_as_begins (seen mid) l ≡ facts_as_begins (seen start) l
        same_facts l in_begun =
            let scene_is : plans_scene (world_plans (seen mid)) (begins_at l) ≡ plans_scene ps (begins_at l) = ap (λ (rs : List (Option Plan)). plans_scene rs (begins_at l)) mid_plans ∙ sym (shown_since crossed (begins_at l) begins_there since) in
            let size_at = ap (λ (s : Stage). s.size) frame ∙ same_size crossed in
            let keeps_at = ap (λ (s : Stage). s.keeps) frame ∙ same_keeps crossed in
            λ i. count_by (is_about l.no) (live_facts (size_at i) (keeps_at i) (scene_is i))
          where
            in_legs : Contains now.plan.legs l
            in_legs = subst (λ (ls : List Leg). Contains ls l) (sym crossed'.split) (Contains-append_left crossed'.begun end.plan.legs l in_begun)

            begins_there : IsCanonical (begins_at l).at
            begins_there = own_canonical (piece_of l) (leg_fair crossed.ready.followed l in_legs)

            since : ¬ (IsEarlier (begins_at l) m)
            since early = never m there (through m (begins_at l) m there begins_there there (ahead l in_legs) early)

        abbrev all_begun : List Leg
        all_begun = crossed.begun ++ crossed'.begun

        all_legs_begun : legs_by end.stage.moment start.plan.legs ≡ all_begun
        all_legs_begun =
            first_kept (λ (l : Leg). is_begun (piece_of l) end.stage.moment) all_begun end.plan.legs start.plan.legs
            (crossed.split ∙ ap (λ (ls : List Leg). crossed.begun ++ ls) crossed'.split ∙ sym (append_assoc crossed.begun crossed'.begun end.plan.legs))
            (λ l in_begun. elim (Contains-append_cases crossed.begun crossed'.begun l in_begun) [
              | inl old ↦ still_begun m end.stage.moment there end_there (subst (λ (n : Moment). ¬ (IsEarlier n m)) (sym same) not_before) (piece_of l)
                  (leg_fair began.followed l (subst (λ (ls : List Leg). Contains ls l) (sym crossed.split) (Contains-append_left crossed.begun now.plan.legs l old))) (crossed.begin l old)
              | inr new ↦ crossed'.begin l new
            ])
            (ahead_unbegun crossed'.ready.followed end.stage.moment end_there ahead')

        pub gone_past : HasGoneTo end.stage.moment (seen start) (seen end)
        gone_past = record {
          state = λ i. record {
            size = size_is i;
            keeps = keeps_are i;
            motions = end.stage.motions;
            legs = end.plan.legs;
            moment = end.stage.moment;
            live = certificates_of end.stage.table.live;
            made = end.stage.table.made;
            whole = true;
          };
          plans =
              sym (all_ahead crossed'.ready.followed end.stage.moment end_there ahead').left ∙ sym crossed'.left ∙ ap (plans_left end.stage.moment) mid_plans
              ∙ sym (left_later_alike m there ps qs began.followed.paths crossed.ready.followed.paths crossed.left end.stage.moment end_there (subst (λ (n : Moment). ¬ (IsEarlier n m)) (sym same) not_before));
          whole = whole_world crossed'.ready.sound crossed'.ready.followed ahead';
          made = record {
            born = timed.born;
            exactly = exactly_in_words timed.born _ _ (λ c. (
              λ new. ((crossed'.stay c).1 new.0, λ old. new.1 ((crossed.stay c).1 old)),
              λ new. ((crossed'.stay c).0 new.0, λ old. new.1 ((crossed.stay c).0 old)),
            )) timed.exactly;
            count =
                let one = crossed.made in
                let two = timed.count in
                let three = crossed'.made in
                let anew = same_sum (facts_as_begins (seen mid)) (facts_as_begins (seen start)) crossed'.begun same_facts in
                let sum = ap (sum_by (facts_as_begins (seen start))) all_legs_begun ∙ sum_by-append (facts_as_begins (seen start)) crossed.begun crossed'.begun in
                omega (arith, one, two, three, anew, sum);
          };
        }

        -- what it cost
        same_sight : sight t ≡ sight end.stage
        same_sight = sym ready_mid.shown ∙ ap (plans_scene (world_plans (seen mid))) (sym same) ∙ shown_here crossed'

        pub repair_cost : (failures : ℕ) → more ≡ two_a_leg start now + 2 → IsRepaid (sight start.stage) now.stage t failures now.steps halfway → IsRepairCost (seen start) (seen end) failures start.steps end.steps
        repair_cost failures few repaid = record {
          asked = repaid.asked;
          asks =
              subst (λ n. AreAsked n start.stage.keeps (sight start.stage) (sight end.stage) repaid.asked) (same_size crossed)
              (subst (λ keeps. AreAsked now.stage.size keeps (sight start.stage) (sight end.stage) repaid.asked) (same_keeps crossed)
              (subst (λ (s : Scene). AreAsked now.stage.size now.stage.keeps (sight start.stage) s repaid.asked) same_sight repaid.asks));
          dropped = repaid.dropped;
          gone = exactly_in_words repaid.dropped _ _ (λ c. (
            λ old. ((crossed.stay c).0 old.0, λ new. old.1 ((crossed'.stay c).0 new)),
            λ old. ((crossed.stay c).1 old.0, λ new. old.1 ((crossed'.stay c).1 new)),
          )) repaid.gone;
          born = repaid.born;
          come = exactly_in_words repaid.born _ _ (λ c. (
            λ new. ((crossed'.stay c).1 new.0, λ old. new.1 ((crossed.stay c).1 old)),
            λ new. ((crossed'.stay c).0 new.0, λ old. new.1 ((crossed.stay c).0 old)),
          )) repaid.come;
          bound = λ r e.
              let listed = length-map start.stage.table.live (λ (l : LiveFact). l.certificate) in
              let count = crossed.count in
              let room = repaid.few in
              let one = crossed.paid r (enough (length start.stage.table.live) (length (certificates_of start.stage.table.live) + length repaid.born) r (omega (arith, listed)) e) in
              let two = repaid.bound r (enough (length now.stage.table.live + length repaid.born) (length (certificates_of start.stage.table.live) + length repaid.born) r (omega (arith, listed, count)) e) in
              let three = crossed'.paid r (enough (length t.table.live) (length (certificates_of start.stage.table.live) + length repaid.born) r (omega (arith, listed, count, room)) e) in
              let cost = legs_cost r in
              omega (arith, one, two, three, cost, few);
        }
          where
            -- so many legs have begun up to the failure
            begun_count : two_a_leg start now ≡ 2 * length crossed.begun
            begun_count = let all = ap length crossed.split ∙ length-append crossed.begun now.plan.legs in omega (arith, all)

            legs_cost : (r : ℕ) → sum_by (λ l. facts_as_begins (seen start) l * (2 * r + 1)) crossed.begun + two_a_leg start now + sum_by (λ l. facts_as_begins (seen mid) l * (2 * r + 1)) crossed'.begun ≤ cost_of_legs r (seen start) (seen end)
            legs_cost r =
                let f : Leg → ℕ = λ l. facts_as_begins (seen start) l * (2 * r + 1) in
                let all = ap (sum_by (λ l. f l + 4)) all_legs_begun ∙ more_a_leg f 4 all_begun in
                let sum = sum_by-append f crossed.begun crossed'.begun in
                let count = length-append crossed.begun crossed'.begun in
                let anew = same_sum (λ l. facts_as_begins (seen mid) l * (2 * r + 1)) f crossed'.begun (λ l in_begun. ap (λ n. n * (2 * r + 1)) (same_facts l in_begun)) in
                let few = begun_count in
                omega (arith, all, sum, count, anew, few)

    -- a step without a block
    pub moving_cost : more ≡ two_a_leg start now + 2 → IsStepCost (seen start) (seen now) None start.steps now.steps
    moving_cost few r e =
        let f : Leg → ℕ = λ l. facts_as_begins (seen start) l * (2 * r + 1) in
        let listed = length-map start.stage.table.live (λ (l : LiveFact). l.certificate) in
        let paid = crossed.paid r (enough (length start.stage.table.live) (length (certificates_of start.stage.table.live)) r (omega (arith, listed)) e) in
        let all = ap (sum_by (λ l. f l + 4)) legs_begun ∙ more_a_leg f 4 crossed.begun in
        let count = ap length crossed.split ∙ length-append crossed.begun now.plan.legs in
        omega (arith, paid, all, count, few)

    -- the next block after now is the next after the start
    pub next_since : (b : Block) → NoneIsPast b.moment now.plan.legs → IsNextBlock (setting now.stage) m b → IsNextBlock (world_setting (seen start)) start.stage.moment b
    next_since b none next =
        let not_before : ¬ (IsEarlier b.moment m) = λ early. never m there (through m b.moment m there next.canonical there next.later early) in
        let alike = start_alike crossed ahead b.moment next.canonical not_before none in
        quiet_times_add_no_block (world_setting (seen start)) start.stage.moment m b began.sound.in_order.canonical crossed.quiet (alike_blocks (setting now.stage) (world_setting (seen start)) m b there alike next)
