-- Legs that begin as time goes on: what stays so from the start of a step to each point of its way.
use Rattle.std.proofs.lemmas.List.{append_assoc}
use Rattle.std.proofs.lemmas.List.Elements.{Contains-append_cases, Contains-append_left}
use Rattle.std.proofs.lemmas.List.Folds.{fold-map}
use Rattle.std.proofs.lemmas.List.Sums.{sum_by-append}
use Rattle.std.specs.Prelude.{◌*◌, count_by, option_map}
use Rattle.kin_world.proofs.Vocabulary.{◌≡◌, ◌↔◌, inl, inr, refl, sym, ap, ◌∙◌, subst, arith, ℕ, ◌+◌, ◌≤◌, true, List, [], ◌∷◌, ◌++◌, map, length, Option, Some, slice_set, Contains}
use Rattle.kin_world.proofs.Vocabulary.{IsCanonical, IsEarlier, Moment, never, through, total, Course, motion_of, Certificate, IsLiveFact, ListsLive, FailsFirst, HoldsAt, Holds, Scene, scene_at}
use Rattle.kin_world.proofs.Vocabulary.{contains_map, NoneFailsUntil, IsLeastFailure, certificates_of, nothing_until}
use Rattle.kin_world.proofs.Vocabulary.{HasTakenUp, IsSound, MayTakeUp, Stage, setting, sight, Leg, AreAhead, AreFollowed, begins_at, piece_of, plans_of, Planning}
use Rattle.kin_world.proofs.Vocabulary.{Flight, HasCrossed, IsAtEase, IsReady, NoneIsPast, seen, FailsWithin, facts_as_begins, is_about, world_plans, world_setting}
use Rattle.kin_motion.specs.Agreements.{FitsSize}
use Rattle.kin_motion.specs.Moments.{IsFromUntil}
use Rattle.kin_motion.specs.Live.{live_facts}
use Rattle.kin_motion.specs.Plans.{Leg as Piece, Plan, is_begun, motions_in_force, plans_scene}
use Rattle.kin_motion.specs.Scene.{IsReal}
use Rattle.kin_motion.specs.Turning.{TurnsTo}
use Rattle.kin_motion.proofs.LiveFactLaws.{live_facts_agree}
use Rattle.kin_cert.specs.Cost.{IsEnough, TakesAtMost}
use Rattle.kin_cert.specs.Remade.{names_number}
use Rattle.kin_cert.specs.Facts.{Facts, LiveFact}
use Rattle.kin_algebra.proofs.Members.{contains_cases, contains_head, contains_none, contains_tail}
use Rattle.kin_legs.specs.Paths.{beginning, plans_left, IsFair, NoneBeginsBetween}
use Rattle.kin_legs.specs.Planned.{planned}
use Rattle.kin_legs.specs.Shown.{IsQuiet, ShowAlike}
use Rattle.kin_legs.proofs.AlikeLaws.{left_later_alike, scene_alike}
use Rattle.kin_legs.proofs.BeginLaws.{legs_begin_in_time, own_canonical}
use Rattle.kin_legs.proofs.FollowedLaws.{all_ahead, begun_followed, first_is_earliest, has_motion, leads_in, leg_fair, leg_listed}
use Rattle.kin_legs.proofs.JoinedLaws.{begun_legs_are_motions}
use Rattle.kin_legs.proofs.LeftLaws.{still_begun}
use Rattle.kin_legs.proofs.ShownLaws.{alike_journals, force_left, motions_show_alike}
use Rattle.kin_world.proofs.LegSums.{same_count}
use Rattle.kin_world.proofs.QuietTimes.{quiet_through, show_through}
use Rattle.kin_world.proofs.SoundLaws.{fits, in_time, least_fails, live_holds, lists_live, real, sound_later}

-- ---- a world that is ready
module _ {f : Flight} (ready : IsReady f) where
  abbrev paths_of : List (Option Plan)
  paths_of = world_plans (seen f)

  here : IsCanonical f.stage.moment.at
  here = ready.sound.in_order.canonical

  -- up to a moment before which no leg begins, the plans show what the motions show
  module _ (last : Moment) (there : IsCanonical last.at) (none : NoneIsPast last f.plan.legs) where
    pub none_between : (now : Moment) → NoneBeginsBetween now last paths_of
    none_between now leg of_these later sooner =
        let l = leg_listed ready.followed leg of_these in
        none l.0 l.1 (subst (λ (k : Piece). IsEarlier (beginning k) last) l.2 sooner)

  pub quiet_now : IsQuiet (world_setting (seen f)) f.stage.moment f.stage.moment
  quiet_now = record {
    canonical = here;
    not_before = never f.stage.moment here;
    none_fails = (λ c live m until. absurd (until.from until.until), λ c live. subst (λ (s : Scene). Holds s c.placed.fact) (sym ready.shown) (live_holds ready.sound c (subst (λ (s : Scene). IsLiveFact f.stage.size f.stage.keeps s c) ready.shown live)));
    same = λ c. (λ h. h, λ h. h);
  }

  pub crossed_nothing : HasCrossed 0 f f
  crossed_nothing = record {
    began = ready;
    ready = ready;
    frame = refl;
    left = refl;
    quiet = quiet_now;
    stay = λ c. (λ h. h, λ h. h);
    count = refl;
    begun = [];
    split = refl;
    begin = λ l there. absurd (contains_nothing l there);
    made = let counted = ready.sound.in_order.counted in omega (arith, counted);
    paid = λ r e. omega arith;
  }
    where
      contains_nothing : (l : Leg) → Contains [] l → ⊥
      contains_nothing l there = contains_none l there

-- more steps are allowed
pub allowed : {more : ℕ} {start now : Flight} → HasCrossed more start now → (enough steps : ℕ) → steps + more ≤ now.steps + enough → HasCrossed enough start (record now { steps = steps })
allowed {more} {start} {now} crossed enough steps within = record {
  began = crossed.began;
  ready = record { sound = crossed.ready.sound; size = crossed.ready.size; followed = crossed.ready.followed; none_past = crossed.ready.none_past; shown = crossed.ready.shown };
  frame = crossed.frame;
  left = crossed.left;
  quiet = crossed.quiet;
  stay = crossed.stay;
  count = crossed.count;
  begun = crossed.begun;
  split = crossed.split;
  begin = crossed.begin;
  made = crossed.made;
  paid = λ r e. let paid = crossed.paid r e in omega (arith, paid, within);
}

-- a world at ease is ready
pub at_ease_ready : {s : Stage} {plan : Planning} (steps : ℕ) → IsAtEase s plan → IsReady (record { stage = s; plan = plan; steps = steps })
at_ease_ready {s} {plan} steps ease = record {
  sound = ease.sound;
  size = ease.size;
  followed = ease.followed;
  none_past = λ l there early. never s.moment canonical (through s.moment (begins_at l) s.moment canonical (own_canonical (piece_of l) (leg_fair ease.followed l there)) canonical (ease.ahead l there) early);
  shown = ap (λ (ms : List (Option Course)). scene_at ms s.moment) (all_ahead ease.followed s.moment canonical ease.ahead).force;
}
  where
    canonical : IsCanonical s.moment.at
    canonical = ease.sound.in_order.canonical

-- ---- on the way
module _ {more : ℕ} {start now : Flight} (crossed : HasCrossed more start now) where
  began : IsReady start
  began = crossed.began

  abbrev ps : List (Option Plan)
  ps = world_plans (seen start)

  abbrev qs : List (Option Plan)
  qs = world_plans (seen now)

  abbrev m : Moment
  m = now.stage.moment

  there : IsCanonical m.at
  there = crossed.ready.sound.in_order.canonical

  pub same_size : now.stage.size ≡ start.stage.size
  same_size = ap (λ (s : Stage). s.size) crossed.frame

  pub same_keeps : now.stage.keeps ≡ start.stage.keeps
  same_keeps = ap (λ (s : Stage). s.keeps) crossed.frame

  -- from here on the plans of the start show what those of now do
  pub shown_since : (n : Moment) → IsCanonical n.at → ¬ (IsEarlier n m) → plans_scene ps n ≡ plans_scene qs n
  shown_since = scene_alike m there ps qs began.followed.paths crossed.ready.followed.paths crossed.left

  pub settings_alike : (last : Moment) → ShowAlike m last (planned qs now.stage.size now.stage.keeps) (world_setting (seen start))
  settings_alike last = record { size = same_size; keeps = same_keeps; scene = λ n can from until. sym (shown_since n can from) }

  pub shown_here : plans_scene ps m ≡ sight now.stage
  shown_here = shown_since m there (never m there) ∙ crossed.ready.shown

  -- the live facts there, seen from the start, are those of the table
  pub live_here : (c : Certificate) → IsLiveFact start.stage.size start.stage.keeps (plans_scene ps m) c ↔ Contains (certificates_of now.stage.table.live) c
  live_here c = (
    λ h. ((lists_live crossed.ready.sound).each c).1 (subst (λ (s : Scene). IsLiveFact now.stage.size now.stage.keeps s c) shown_here
        (subst (λ n. IsLiveFact n now.stage.keeps (plans_scene ps m) c) (sym same_size) (subst (λ keeps. IsLiveFact start.stage.size keeps (plans_scene ps m) c) (sym same_keeps) h))),
    λ h. subst (λ n. IsLiveFact n start.stage.keeps (plans_scene ps m) c) same_size (subst (λ keeps. IsLiveFact now.stage.size keeps (plans_scene ps m) c) same_keeps
        (subst (λ (s : Scene). IsLiveFact now.stage.size now.stage.keeps s c) (sym shown_here) (((lists_live crossed.ready.sound).each c).0 h))),
  )

  -- a leg that begins now has as many facts as the table
  pub facts_here : (l : Leg) → begins_at l ≡ m → facts_as_begins (seen start) l ≡ count_by (is_about l.no) (certificates_of now.stage.table.live)
  facts_here l is =
      let there_listed : ListsLive start.stage.size start.stage.keeps (plans_scene ps (begins_at l)) (live_facts start.stage.size start.stage.keeps (plans_scene ps (begins_at l))) =
      live_facts_agree start.stage.size start.stage.keeps (plans_scene ps (begins_at l)) (subst (λ (s : Scene). IsReal s) (sym same) (real crossed.ready.sound)) fit in
      same_count (is_about l.no) _ _ there_listed.once (lists_live crossed.ready.sound).once
      (λ c. (
        λ h. (live_here c).0 (subst (λ (n : Moment). IsLiveFact start.stage.size start.stage.keeps (plans_scene ps n) c) is ((there_listed.each c).0 h)),
        λ h. (there_listed.each c).1 (subst (λ (n : Moment). IsLiveFact start.stage.size start.stage.keeps (plans_scene ps n) c) (sym is) ((live_here c).1 h)),
      ))
    where
      same : plans_scene ps (begins_at l) ≡ sight now.stage
      same = ap (plans_scene ps) is ∙ shown_here

      fit : FitsSize start.stage.size (plans_scene ps (begins_at l))
      fit = subst (λ (s : Scene). FitsSize start.stage.size s) (sym same) (subst (λ n. FitsSize n (sight now.stage)) same_size (fits crossed.ready.sound))

  -- ---- up to a further moment before which no leg begins
  module _ (ahead : AreAhead m now.plan.legs) (stop : Moment) (canonical : IsCanonical stop.at) (from : ¬ (IsEarlier stop m)) (none_before : NoneIsPast stop now.plan.legs) where
    in_force : (n : Moment) → scene_at (motions_in_force qs m) n ≡ scene_at now.stage.motions n
    in_force n = ap (λ (ms : List (Option Course)). scene_at ms n) (all_ahead crossed.ready.followed m there ahead).force

    -- the plans of now show what the motions of now do
    pub motions_alike : ShowAlike m stop (setting now.stage) (planned qs now.stage.size now.stage.keeps)
    motions_alike = record {
      size = refl;
      keeps = refl;
      scene = λ n can since until.
          sym ((motions_show_alike qs now.stage.size now.stage.keeps m stop crossed.ready.followed.paths there canonical (none_between crossed.ready stop canonical none_before m)).scene n can since until ∙ in_force n);
    }

    -- and so do those of the start
    pub start_alike : ShowAlike m stop (setting now.stage) (world_setting (seen start))
    start_alike = show_through motions_alike (settings_alike stop)

    pub shown_until : (n : Moment) → IsCanonical n.at → ¬ (IsEarlier n m) → ¬ (IsEarlier stop n) → plans_scene ps n ≡ scene_at now.stage.motions n
    shown_until n can since until = sym (start_alike.scene n can since until)

    -- where nothing fails up to there, time may go on
    module _ (none : NoneFailsUntil now.stage.table.live stop) (k steps : ℕ) (within : steps ≤ now.steps + k) where
      abbrev later : Flight
      later = record { stage = record now.stage { moment = stop }; plan = now.plan; steps = steps }

      sound' : IsSound later.stage
      sound' = sound_later crossed.ready.sound stop canonical from none

      ready' : IsReady later
      ready' = record {
        sound = sound';
        size = crossed.ready.size;
        followed = crossed.ready.followed;
        none_past = none_before;
        shown = sym (motions_alike.scene stop canonical from (never stop canonical));
      }

      -- the same facts are live there
      live_there : (c : Certificate) → IsLiveFact start.stage.size start.stage.keeps (plans_scene ps stop) c ↔ Contains (certificates_of now.stage.table.live) c
      live_there c = (
        λ h. ((lists_live sound').each c).1 (subst (λ (s : Scene). IsLiveFact now.stage.size now.stage.keeps s c) same
            (subst (λ n. IsLiveFact n now.stage.keeps (plans_scene ps stop) c) (sym same_size) (subst (λ keeps. IsLiveFact start.stage.size keeps (plans_scene ps stop) c) (sym same_keeps) h))),
        λ h. subst (λ n. IsLiveFact n start.stage.keeps (plans_scene ps stop) c) same_size (subst (λ keeps. IsLiveFact now.stage.size keeps (plans_scene ps stop) c) same_keeps
            (subst (λ (s : Scene). IsLiveFact now.stage.size now.stage.keeps s c) (sym same) (((lists_live sound').each c).0 h))),
      )
        where
          same : plans_scene ps stop ≡ scene_at now.stage.motions stop
          same = shown_until stop canonical from (never stop canonical)

      quiet_on : IsQuiet (world_setting (seen start)) m stop
      quiet_on = record {
        canonical = canonical;
        not_before = from;
        none_fails = alike_journals (setting now.stage) (world_setting (seen start)) m stop [] there canonical from start_alike (nothing_until (setting now.stage) m now.stage.table.live (in_time crossed.ready.sound) stop canonical from none);
        same = λ c. (λ h. (live_there c).1 ((live_here c).0 h), λ h. (live_here c).1 ((live_there c).0 h));
      }

      pub moves_on : HasCrossed (more + k) start later
      moves_on = record {
        began = began;
        ready = ready';
        frame = ap (λ (s : Stage). record s { moment = stop }) crossed.frame;
        left = left_later_alike m there ps qs began.followed.paths crossed.ready.followed.paths crossed.left stop canonical from;
        quiet = quiet_through (world_setting (seen start)) start.stage.moment m stop began.sound.in_order.canonical crossed.quiet quiet_on;
        stay = crossed.stay;
        count = crossed.count;
        begun = crossed.begun;
        split = crossed.split;
        begin = λ l in_begun. still_begun m stop there canonical from (piece_of l) (leg_fair began.followed l (subst (λ (ls : List Leg). Contains ls l) (sym crossed.split) (Contains-append_left crossed.begun now.plan.legs l in_begun))) (crossed.begin l in_begun);
        made = crossed.made;
        paid = λ r e. let paid = crossed.paid r e in omega (arith, paid, within);
      }

    -- ---- a fact that fails up to there fails first, seen from the start
    module _ (due : Moment) (least : IsLeastFailure now.stage.table.live due) (in_time' : ¬ (IsEarlier stop due)) where
      first : FailsFirst (scene_at now.stage.motions) m due least.some.0.certificate.placed.fact
      first = least_fails crossed.ready.sound due least

      abbrev c : Certificate
      c = least.some.0.certificate

      was_live : IsLiveFact start.stage.size start.stage.keeps (sight start.stage) c
      was_live = ((lists_live began.sound).each c).0 ((crossed.stay c).0 (contains_map (λ (l : LiveFact). l.certificate) now.stage.table.live least.some.0 least.some.1))

      holds_before : (n : Moment) → IsFromUntil start.stage.moment due n → HoldsAt (plans_scene ps) n c.placed.fact
      holds_before n until = elim (total n m until.canonical there) [
        | inl sooner ↦ crossed.quiet.none_fails.0 c seen_live n (record { canonical = until.canonical; from = until.from; until = sooner })
        | inr (inl since) ↦ holds_since (λ early. never m there (through m n m there until.canonical there since early))
        | inr (inr same) ↦ holds_since (λ early. never m there (subst (λ (k : Moment). IsEarlier k m) same early))
      ]
        where
          seen_live : IsLiveFact start.stage.size start.stage.keeps (plans_scene ps start.stage.moment) c
          seen_live = subst (λ (s : Scene). IsLiveFact start.stage.size start.stage.keeps s c) (sym began.shown) was_live

          holds_since : ¬ (IsEarlier n m) → HoldsAt (plans_scene ps) n c.placed.fact
          holds_since since =
              subst (λ (s : Scene). Holds s c.placed.fact) (sym (shown_until n until.canonical since (λ far. in_time' (through stop n due canonical until.canonical first.canonical far until.until))))
              (first.holds_until n (record { canonical = until.canonical; from = since; until = until.until }))

      pub fails_within : (limit : Moment) → ¬ (IsEarlier limit due) → FailsWithin limit (seen start)
      fails_within limit in_limit = record {
        certificate = c;
        live = was_live;
        moment = due;
        fails = record {
          canonical = first.canonical;
          later_is_later = past_start;
          holds_until = holds_before;
          fails = λ h. first.fails (subst (λ (s : Scene). Holds s c.placed.fact) (shown_until due first.canonical (λ early. never m there (through m due m there first.canonical there first.later_is_later early)) in_time') h);
        };
        within = in_limit;
      }
        where
          past_start : IsEarlier start.stage.moment due
          past_start = elim (total start.stage.moment m began.sound.in_order.canonical there) [
            | inl sooner ↦ through start.stage.moment m due began.sound.in_order.canonical there first.canonical sooner first.later_is_later
            | inr (inl after) ↦ absurd (crossed.quiet.not_before after)
            | inr (inr same) ↦ subst (λ (k : Moment). IsEarlier k due) (sym same) first.later_is_later
          ]

  -- ---- the first leg begins
  module _ (l : Leg) (rest : List Leg) (is_first : now.plan.legs ≡ l ∷ rest) (begins : m ≡ begins_at l) where
    followed : AreFollowed now.stage.motions (l ∷ rest)
    followed = subst (AreFollowed now.stage.motions) is_first crossed.ready.followed

    in_plan : Contains now.plan.legs l
    in_plan = subst (λ (ls : List Leg). Contains ls l) (sym is_first) (contains_head l rest)

    is_begun_now : is_begun (piece_of l) m ≡ true
    is_begun_now = (legs_begin_in_time (piece_of l) m (leg_fair crossed.ready.followed l in_plan).soon there).1 (λ early. never m there (subst (IsEarlier m) (sym begins) early))

    -- its number may take its motion up
    pub leg_may : MayTakeUp l.no l.m now.stage
    leg_may =
        let had = has_motion (motion_of now.stage.motions l.no) (crossed.ready.followed.live l in_plan) in
        record {
          before = had.0;
          had = had.1;
          at = ap (λ (k : Moment). k.phase) begins;
          turns = subst (λ w. TurnsTo w l.m.u l.m.v had.0 l.m) (sym (ap (λ (k : Moment). k.at) begins)) (leads_in followed had.0 had.1);
          slow = (leg_fair crossed.ready.followed l in_plan).slow;
        }

    module _ (table : Facts) (taken : HasTakenUp l.no l.m now.stage (record now.stage { motions = slice_set now.stage.motions l.no (Some l.m); table = table })) (steps : ℕ)
        (takes : TakesAtMost (length now.stage.table.live) (λ r. count_by (names_number l.no) now.stage.table.live * (2 * r + 1)) now.steps steps) where
      abbrev next : Flight
      next = record { stage = record now.stage { motions = slice_set now.stage.motions l.no (Some l.m); table = table }; plan = record now.plan { legs = rest }; steps = steps }

      -- the same is left of the plans
      same_left : plans_left m qs ≡ plans_left m (world_plans (seen next))
      same_left =
          let had = has_motion (motion_of now.stage.motions l.no) (crossed.ready.followed.live l in_plan) in
          ap (λ (ls : List Leg). plans_left m (plans_of now.stage.motions ls)) is_first ∙ begun_legs_are_motions now.stage.motions l rest had.0 m had.1 is_begun_now

      shown_next : plans_scene (world_plans (seen next)) m ≡ sight next.stage
      shown_next =
          ap (λ (ms : List (Option Course)). scene_at ms m)
          (force_left m (world_plans (seen next)) ∙ ap (λ (rs : List (Option Plan)). map (option_map (λ (p : Plan). p.first)) rs) (sym same_left) ∙ sym (force_left m qs))
          ∙ crossed.ready.shown ∙ sym taken.same_sight

      abbrev facts_now : ℕ
      facts_now = facts_as_begins (seen start) l

      same_facts : facts_now ≡ count_by (is_about l.no) (certificates_of now.stage.table.live)
      same_facts = facts_here l (sym begins)

      pub begins_first : HasCrossed more start next
      begins_first = record {
        began = began;
        ready = record {
          sound = taken.sound;
          size = crossed.ready.size;
          followed = begun_followed followed;
          none_past = λ k in_rest. crossed.ready.none_past k (subst (λ (ls : List Leg). Contains ls k) (sym is_first) (contains_tail l k rest in_rest));
          shown = shown_next;
        };
        frame = ap (λ (s : Stage). record s { motions = slice_set now.stage.motions l.no (Some l.m); table = table }) crossed.frame;
        left = crossed.left ∙ same_left;
        quiet = crossed.quiet;
        stay = λ c. (λ h. (crossed.stay c).0 ((taken.stay c).0 h), λ h. (taken.stay c).1 ((crossed.stay c).1 h));
        count = taken.count ∙ crossed.count;
        begun = crossed.begun ++ l ∷ [];
        split = crossed.split ∙ ap (λ (ls : List Leg). crossed.begun ++ ls) is_first ∙ sym (append_assoc crossed.begun (l ∷ []) rest);
        begin = λ k in_begun. elim (Contains-append_cases crossed.begun (l ∷ []) k in_begun) [
          | inl old ↦ crossed.begin k old
          | inr own ↦ subst (λ (j : Leg). is_begun (piece_of j) m ≡ true) (only l k own) is_begun_now
        ];
        made =
            let before = crossed.made in
            let anew = taken.made in
            let sum = sum_by-append (facts_as_begins (seen start)) crossed.begun (l ∷ []) in
            omega (arith, before, anew, sum, same_facts);
        paid = λ r e.
            let before = crossed.paid r e in
            let step = takes r (subst (λ n. IsEnough n r) (sym crossed.count) e) in
            let listed : count_by (names_number l.no) now.stage.table.live ≡ facts_now = sym (same_facts ∙ by_facts now.stage.table.live) in
            let times = ap (λ n. n * (2 * r + 1)) listed in
            let sum = sum_by-append (λ (k : Leg). facts_as_begins (seen start) k * (2 * r + 1)) crossed.begun (l ∷ []) in
            omega (arith, before, step, times, sum);
      }
        where
          only : (x y : Leg) → Contains (x ∷ []) y → x ≡ y
          only x y h = elim (contains_cases x y [] h) [
            | inl e ↦ e
            | inr none ↦ absurd (contains_none y none)
          ]

          by_facts : (live : List LiveFact) → count_by (is_about l.no) (certificates_of live) ≡ count_by (names_number l.no) live
          by_facts live = rw fold-map refl

  -- ---- where no leg begins now all are ahead
  pub none_begins : ((l : Leg) (rest : List Leg) → now.plan.legs ≡ l ∷ rest → ¬ (begins_at l ≡ m)) → AreAhead m now.plan.legs
  none_begins apart l in_plan = at now.plan.legs refl
    where
      at : (ls : List Leg) → now.plan.legs ≡ ls → IsEarlier m (begins_at l)
      at [] e = absurd (contains_none l (subst (λ (ks : List Leg). Contains ks l) e in_plan))
      at (k ∷ ks) e = elim (total m (begins_at l) there (own_canonical (piece_of l) (leg_fair crossed.ready.followed l in_plan))) [
        | inl later ↦ later
        | inr (inl past) ↦ absurd (crossed.ready.none_past l in_plan past)
        | inr (inr same) ↦ absurd (elim (total (begins_at k) m (own_canonical (piece_of k) first_fair) there) [
          | inl early ↦ crossed.ready.none_past k first_in early
          | inr (inl after) ↦ first_is_earliest now.plan.legs crossed.ready.followed.rising (leg_fair crossed.ready.followed) k ks e l in_plan (subst (λ (n : Moment). IsEarlier n (begins_at k)) same after)
          | inr (inr also) ↦ apart k ks e also
        ])
      ]
        where
          first_in : Contains now.plan.legs k
          first_in = subst (λ (js : List Leg). Contains js k) (sym e) (contains_head k ks)

          first_fair : IsFair (piece_of k)
          first_fair = leg_fair crossed.ready.followed k first_in
