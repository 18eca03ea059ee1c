-- The first failure of several facts, and what comes first of facts and legs.
use Rattle.std.proofs.Common.{◌≡◌, ◌⊎◌, inl, inr, refl, sym, ap, ◌∙◌, subst, List, [], ◌∷◌, ◌++◌, ℕ, ◌≤◌, ◌<◌, ◌^◌, Option, Some, None}
use Rattle.std.specs.Prelude.{Contains, IfSome}
use Rattle.std.proofs.lemmas.List.Elements.{Contains-append_left, Contains-push, Contains-push_cases}
use Rattle.kin_num.specs.declared.instant.Moment.{Moment}
use Rattle.kin_num.specs.Canonical.{IsCanonical}
use Rattle.kin_num.specs.Order.{IsEarlier}
use Rattle.kin_num.proofs.MomentLaws.{never, through, total}
use Rattle.kin_num.specs.Instants.{sign_at}
use Rattle.kin_num.specs.Quadratic.{Quadratic}
use Rattle.kin_motion.specs.declared.fact.Fact.{Fact}
use Rattle.kin_motion.specs.Course.{Course}
use Rattle.kin_motion.specs.Forms.{polynomial_of, sign_of_form}
use Rattle.kin_motion.specs.Live.{Certificate}
use Rattle.kin_motion.specs.Moments.{HoldsAt, HoldsUntil, FailsFirst}
use Rattle.kin_motion.specs.Plans.{Leg, Plan, motions_in_force, plans_scene}
use Rattle.kin_motion.specs.Scene.{Scene, scene_at}
use Rattle.kin_motion.specs.Turning.{just_at}
use Rattle.kin_fail.specs.Failures.{IsFirstFailure, NeverFails, seen_by}
use Rattle.kin_fail.proofs.LeastFailure.{IsLeast}
use Rattle.kin_legs.specs.Paths.{ArePaths, IsFair, IsLegOf, NoneBeginsBetween, beginning, whole}
use Rattle.kin_legs.proofs.BeginLaws.{before_unbegun, own_canonical, unbegun_before}
use Rattle.kin_legs.proofs.NextLegs.{IsNextOf}
use Rattle.kin_legs.proofs.PlanExistence.{later_leg, none_before}
use Rattle.kin_legs.proofs.SceneLaws.{fair_leg}
use Rattle.kin_legs.proofs.ShownLaws.{motions_show_alike}
use Rattle.kin_check.specs.declared.event.Event.{Event}
use Rattle.kin_check.specs.declared.event.Event.TheVariants.{Failure, Leg as Begins, Nothing}
use Rattle.kin_check.specs.Beginnings.{BeginsNext, IsSoonest, all_legs}
use Rattle.kin_check.specs.Events.{BeginsSooner, FailsSooner, HoldThrough, IsFirst, IsFirstBy}
use Rattle.kin_check.specs.Least.{IsLeastFailure}
use Rattle.kin_check.proofs.Legs.{among_all, of_a_plan}

-- ---- the sooner one
-- of two moments, if there is one
abbrev pub IsSoonerOf : Option Moment → Option Moment → Option Moment → Type 0
IsSoonerOf None other result = result ≡ other
IsSoonerOf (Some a) None result = result ≡ Some a
IsSoonerOf (Some a) (Some b) result = ((result ≡ Some b) × IsEarlier b a) ⊎ ((result ≡ Some a) × ¬ (IsEarlier b a))

-- of a failure and of the beginning of a leg; where they come together, it is the failure
abbrev pub IsFirstOf : Option Moment → Option ℕ → Event → Type 0
IsFirstOf None None event = event ≡ Nothing
IsFirstOf (Some m) None event = event ≡ Failure m
IsFirstOf None (Some from) event = event ≡ Begins (just_at (whole from))
IsFirstOf (Some m) (Some from) event = ((event ≡ Begins (just_at (whole from))) × IsEarlier (just_at (whole from)) m)
    ⊎ ((event ≡ Failure m) × ¬ (IsEarlier (just_at (whole from)) m))

-- it comes after the last moment, or never
abbrev pub IsPast : Moment → Event → Type 0
IsPast last (Failure m) = IsEarlier last m
IsPast last (Begins m) = IsEarlier last m
IsPast last Nothing = Unit {0}

-- ---- one fact more
module _ (scene : Moment → Scene) (now : Moment) where
  holds_sooner : (f : Fact) (m n : Moment) → IsCanonical m.at → IsCanonical n.at → IsEarlier m n → HoldsUntil scene now n f → HoldsUntil scene now m f
  holds_sooner f m n a b sooner hold x u = hold x (record { canonical = u.canonical; from = u.from; until = through x m n u.canonical a b u.until sooner })

  -- what holds of those before and of one more
  of_each : (P : Certificate → Type 0) (cs : List Certificate) (c : Certificate) → ((d : Certificate) → Contains cs d → P d) → P c → (d : Certificate) → Contains (cs ++ c ∷ []) d → P d
  of_each P cs c others last d there = elim (Contains-push_cases cs c d there) [
    | inl h ↦ others d h
    | inr same ↦ subst P same last
  ]

  -- it is the first one to fail
  fails_now : (cs : List Certificate) (c : Certificate) (m : Moment) → ((d : Certificate) → Contains cs d → HoldsUntil scene now m d.placed.fact) → FailsFirst scene now m c.placed.fact
      → IsLeast scene now (cs ++ c ∷ []) m
  fails_now cs c m others fails = record {
    some = c;
    among = Contains-push cs c;
    fails = fails;
    hold_before = of_each (λ d. HoldsUntil scene now m d.placed.fact) cs c others fails.holds_until;
  }

  -- another one is
  fails_later : (cs : List Certificate) (c : Certificate) (m : Moment) → IsLeast scene now cs m → HoldsUntil scene now m c.placed.fact → IsLeast scene now (cs ++ c ∷ []) m
  fails_later cs c m least holds = record {
    some = least.some;
    among = Contains-append_left cs (c ∷ []) least.some least.among;
    fails = least.fails;
    hold_before = of_each (λ d. HoldsUntil scene now m d.placed.fact) cs c least.hold_before holds;
  }

  pub one_more : (cs : List Certificate) (c : Certificate) (least fails result : Option Moment) → IsLeastFailure scene now cs least → IsFirstFailure scene now c.placed.fact fails
      → IsSoonerOf least fails result
      → IsLeastFailure scene now (cs ++ c ∷ []) result
  one_more cs c None None result none never e = subst (IsLeastFailure scene now (cs ++ c ∷ [])) (sym e) (of_each (λ d. NeverFails scene now d.placed.fact) cs c none never)
  one_more cs c None (Some k) result none fails e = subst (IsLeastFailure scene now (cs ++ c ∷ [])) (sym e) (fails_now cs c k (λ d there x u. none d there x u.canonical u.from) fails)
  one_more cs c (Some a) None result least never e = subst (IsLeastFailure scene now (cs ++ c ∷ [])) (sym e) (fails_later cs c a least (λ x u. never x u.canonical u.from))
  one_more cs c (Some a) (Some b) result least fails (inl sooner) =
      subst (IsLeastFailure scene now (cs ++ c ∷ [])) (sym sooner.0)
      (fails_now cs c b (λ d there. holds_sooner d.placed.fact b a fails.canonical least.fails.canonical sooner.1 (least.hold_before d there)) fails)
  one_more cs c (Some a) (Some b) result least fails (inr not_sooner) =
      subst (IsLeastFailure scene now (cs ++ c ∷ [])) (sym not_sooner.0) (fails_later cs c a least (at (total a b least.fails.canonical fails.canonical)))
    where
      at : IsEarlier a b ⊎ (IsEarlier b a ⊎ (a ≡ b)) → HoldsUntil scene now a c.placed.fact
      at (inl before) = holds_sooner c.placed.fact a b least.fails.canonical fails.canonical before fails.holds_until
      at (inr (inl after)) = absurd (not_sooner.1 after)
      at (inr (inr same)) = subst (λ (x : Moment). HoldsUntil scene now x c.placed.fact) (sym same) fails.holds_until

-- ---- what comes first of facts and legs
-- a moment before another that isn't after a third is before that
before_it : (m n k : Moment) → IsCanonical m.at → IsCanonical n.at → IsCanonical k.at → ¬ (IsEarlier n m) → IsEarlier n k → IsEarlier m k
before_it m n k a b c not_after sooner = at (total m n a b)
  where
    at : IsEarlier m n ⊎ (IsEarlier n m ⊎ (m ≡ n)) → IsEarlier m k
    at (inl before) = through m n k a b c before sooner
    at (inr (inl after)) = absurd (not_after after)
    at (inr (inr same)) = subst (λ (x : Moment). IsEarlier x k) (sym same) sooner

pub not_back : (m n : Moment) → IsCanonical m.at → IsCanonical n.at → IsEarlier m n → ¬ (IsEarlier n m)
not_back m n a b later e = never m a (through m n m a b a later e)

module _ (plans : List (Option Plan)) (paths : ArePaths plans) (from : Moment) (here : IsCanonical from.at) where
  abbrev scene : Moment → Scene
  scene = plans_scene plans

  -- as the motions of now go on
  abbrev going : Moment → Scene
  going = scene_at (motions_in_force plans from)

  seen : (last : Moment) → IsCanonical last.at → NoneBeginsBetween from last plans → (m : Moment) → IsCanonical m.at → ¬ (IsEarlier m from) → ¬ (IsEarlier last m) → scene m ≡ going m
  seen last there none m = (motions_show_alike plans 0 [] from last paths here there none).scene m

  as_seen : (m : Moment) (f : Fact) → scene m ≡ going m → HoldsAt going m f → HoldsAt scene m f
  as_seen m f same = subst (λ (s : Scene). s.sign f.form ≡ f.sign) (sym same)

  -- ---- where no leg begins any more
  module _ (none : (k : Leg) → Contains (all_legs plans) k → ¬ (IsEarlier from (beginning k))) where
    none_at_all : (m : Moment) → NoneBeginsBetween from m plans
    none_at_all m k of_these later = absurd (none k (among_all plans k of_these) later)

    seen_always : (m : Moment) → IsCanonical m.at → ¬ (IsEarlier m from) → scene m ≡ going m
    seen_always m there not_before = seen m there (none_at_all m) m there not_before (never m there)

  -- ---- the next leg
  module _ (n : ℕ) (next : BeginsNext from (all_legs plans) n) where
    own_leg : IsLegOf plans next.leg
    own_leg = of_a_plan plans next.leg next.among

    fair : IsFair next.leg
    fair = fair_leg plans paths next.leg own_leg

    pub is_soon : n < 2 ^ 31
    is_soon = subst (λ i. i < 2 ^ 31) next.at_it fair.soon

    is_next : IsNextOf from (IsLegOf plans) next.leg
    is_next = record {
      one = own_leg;
      out = unbegun_before next.leg from fair here next.later;
      first = λ k of_these out. subst (λ i. i ≤ k.from) (sym next.at_it) (next.first k (among_all plans k of_these) (before_unbegun k from (fair_leg plans paths k of_these) here out));
    }

    abbrev begins : Moment
    begins = beginning next.leg

    begins_is : begins ≡ just_at (whole n)
    begins_is = ap (λ i. just_at (whole i)) next.at_it

    there : IsCanonical begins.at
    there = own_canonical next.leg fair

    none_sooner : (m : Moment) → IsCanonical m.at → ¬ (IsEarlier begins m) → NoneBeginsBetween from m plans
    none_sooner m = none_before plans paths from here next.leg is_next m

    begins_sooner : (cs : List Certificate) → HoldThrough going from begins cs → BeginsSooner plans from begins cs
    begins_sooner cs hold = record {
      leg = next.leg;
      of_these = own_leg;
      begins = refl;
      canonical = there;
      later = later_leg plans paths from here next.leg is_next;
      first = none_sooner begins there (never begins there);
      hold =
          λ c among m canonical not_before in_time. as_seen m c.placed.fact (seen begins there (none_sooner begins there (never begins there)) m canonical not_before in_time)
          (hold c among m canonical not_before in_time);
    }

  -- ---- a failure, before which no leg begins
  fails_sooner : (cs : List Certificate) (m : Moment) → IsLeast going from cs m → NoneBeginsBetween from m plans → FailsSooner plans from m cs
  fails_sooner cs m least none = record {
    least = record {
      some = least.some;
      among = least.among;
      fails = record {
        canonical = least.fails.canonical;
        later_is_later = least.fails.later_is_later;
        holds_until = until least.some least.among;
        fails = λ h. least.fails.fails (subst (λ (s : Scene). s.sign least.some.placed.fact.form ≡ least.some.placed.fact.sign)
            (seen m least.fails.canonical none m least.fails.canonical (not_back from m here least.fails.canonical least.fails.later_is_later) (never m least.fails.canonical)) h);
      };
      hold_before = until;
    };
    first = none;
  }
    where
      until : (c : Certificate) → Contains cs c → HoldsUntil scene from m c.placed.fact
      until c among x u = as_seen x c.placed.fact (seen m least.fails.canonical none x u.canonical u.from (not_back x m u.canonical least.fails.canonical u.until)) (least.hold_before c among x u)

  module _ (cs : List Certificate) where
    pub first_is : (fails : Option Moment) (begins : Option ℕ) (event : Event) → IsLeastFailure going from cs fails → IsSoonest from (all_legs plans) begins → IsFirstOf fails begins event
        → IsFirst plans from cs event
    first_is None None event least none e =
        subst (IsFirst plans from cs) (sym e) (record {
          hold = λ c among m canonical not_before. as_seen m c.placed.fact (seen_always none m canonical not_before) (least c among m canonical not_before);
          none_begins = λ k of_these. none k (among_all plans k of_these);
        })
    first_is (Some m) None event least none e = subst (IsFirst plans from cs) (sym e) (fails_sooner cs m least (none_at_all none m))
    first_is None (Some n) event least next e =
        subst (IsFirst plans from cs) (sym (e ∙ ap Begins (sym (begins_is n next)))) (begins_sooner n next cs (λ c among m canonical not_before in_time. least c among m canonical not_before))
    first_is (Some m) (Some n) event least next (inl sooner) =
        let first : IsEarlier (begins n next) m = subst (λ (x : Moment). IsEarlier x m) (sym (begins_is n next)) sooner.1 in
        subst (IsFirst plans from cs) (sym (sooner.0 ∙ ap Begins (sym (begins_is n next))))
        (begins_sooner n next cs (λ c among x canonical not_before in_time.
        least.hold_before c among x (record { canonical = canonical; from = not_before; until = before_it x (begins n next) m canonical (there n next) least.fails.canonical in_time first })))
    first_is (Some m) (Some n) event least next (inr not_sooner) =
        subst (IsFirst plans from cs) (sym not_sooner.0)
        (fails_sooner cs m least (none_sooner n next m least.fails.canonical (λ sooner. not_sooner.1 (subst (λ (x : Moment). IsEarlier x m) (begins_is n next) sooner))))

    pub all_soon : (begins : Option ℕ) → IsSoonest from (all_legs plans) begins → IfSome begins (λ n. n < 2 ^ 31)
    all_soon None none = tt
    all_soon (Some n) next = is_soon n next

-- ---- by a last moment
module _ (last : Moment) (in_range : IsCanonical last.at) (plans : List (Option Plan)) (from : Moment) (cs : List Certificate) where
  cut_short : {m : Moment} → FailsSooner plans from m cs → IsEarlier last m → HoldThrough (plans_scene plans) from last cs
  cut_short {m} fails past c among x canonical not_before in_time =
      fails.least.hold_before c among x (record { canonical = canonical; from = not_before; until = before_it x last m canonical in_range fails.least.fails.canonical in_time past })

  cut_off : {m : Moment} → BeginsSooner plans from m cs → IsEarlier last m → HoldThrough (plans_scene plans) from last cs
  cut_off {m} begins past c among x canonical not_before in_time =
      begins.hold c among x canonical not_before (not_back x m canonical begins.canonical (before_it x last m canonical in_range begins.canonical in_time past))

  -- what comes first after the last moment is nothing by it
  pub none_by : (event : Event) → IsFirst plans from cs event → IsPast last event → HoldThrough (plans_scene plans) from last cs
  none_by (Failure m) fails past = cut_short fails past
  none_by (Begins m) begins past = cut_off begins past
  none_by Nothing nothing past = λ c among x canonical not_before in_time. nothing.hold c among x canonical not_before

  -- and otherwise it is what comes first by it
  pub still_first : (event : Event) → IsFirst plans from cs event → ¬ (IsPast last event) → IsFirstBy plans from last cs event
  still_first (Failure m) fails in_time = (fails.least, in_time)
  still_first (Begins m) begins in_time = (begins, in_time)
  still_first Nothing nothing in_time = none_by Nothing nothing tt

-- ---- one fact, by the polynomial of its form
module _ (ms : List (Option Course)) (now : Moment) (f : Fact) (p : Quadratic) (same : p ≡ polynomial_of ms f.form) where
  seen_so : (m : Moment) → HoldsAt (scene_at ms) m f → HoldsAt (seen_by p) m f
  unfolding sign_of_form
  seen_so m h = ap (λ (q : Quadratic). sign_at q m) same ∙ h

  so_seen : (m : Moment) → HoldsAt (seen_by p) m f → HoldsAt (scene_at ms) m f
  unfolding sign_of_form
  so_seen m h = ap (λ (q : Quadratic). sign_at q m) (sym same) ∙ h

  pub holds_seen : HoldsAt (scene_at ms) now f → HoldsAt (seen_by p) now f
  holds_seen = seen_so now

  pub failure_seen : (later : Option Moment) → IsFirstFailure (seen_by p) now f later → IsFirstFailure (scene_at ms) now f later
  failure_seen None never = λ m canonical from. so_seen m (never m canonical from)
  failure_seen (Some k) fails = record {
    canonical = fails.canonical;
    later_is_later = fails.later_is_later;
    holds_until = λ m u. so_seen m (fails.holds_until m u);
    fails = λ h. fails.fails (seen_so k h);
  }
