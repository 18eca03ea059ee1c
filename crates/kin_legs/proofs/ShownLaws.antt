-- Settings that show alike have the same failures, and a quiet time adds none.
use Rattle.std.proofs.Common.{◌≡◌, inl, inr, refl, sym, ap, ◌∙◌, subst, List, [], ◌∷◌, Contains, map, Option, Some, None}
use Rattle.std.specs.Prelude.{option_map}
use Rattle.kin_num.specs.declared.instant.Moment.{Moment}
use Rattle.kin_num.specs.Canonical.{IsCanonical}
use Rattle.kin_num.specs.Order.{IsEarlier}
use Rattle.kin_num.proofs.MomentLaws.{never, through, total}
use Rattle.kin_num.proofs.MomentOrder.{not_earlier_trans}
use Rattle.kin_motion.specs.Journal.{Setting, Failure, Block, IsFailure, IsNextBlock, IsJournal}
use Rattle.kin_motion.specs.Live.{Certificate, IsLiveFact}
use Rattle.kin_motion.specs.Moments.{HoldsUntil}
use Rattle.kin_motion.specs.Course.{Course}
use Rattle.kin_motion.specs.Plans.{Leg, Plan, motion_in_force, motions_in_force}
use Rattle.kin_motion.specs.Scene.{Scene, scene_at}
use Rattle.kin_fail.proofs.JournalExistence.{earlier_or_not}
use Rattle.kin_legs.specs.Shown.{ShowAlike, AlikeBlocks, AlikeJournals, IsQuiet, QuietTimesAddNoBlock, QuietTimesAddNothing, PastLegsShowNothing, MotionsShowAlike}
use Rattle.kin_legs.specs.Paths.{IsLegOf, beginning, plans_left}
use Rattle.kin_legs.proofs.SceneLaws.{fair_leg, legs_keep_scene}
use Rattle.kin_legs.proofs.BeginLaws.{own_canonical}
use Rattle.kin_legs.proofs.LeftLaws.{past_legs_dont_matter}

-- a moment that comes later doesn't come sooner
later_not_back : (now m : Moment) → IsCanonical now.at → IsCanonical m.at → IsEarlier now m → ¬ (IsEarlier m now)
later_not_back now m here there later e = never now here (through now m now here there here later e)

-- ---- two settings that show alike
module _ (t u : Setting) (now last : Moment) (here : IsCanonical now.at) (canonical : IsCanonical last.at) (not_before : ¬ (IsEarlier last now)) (alike : ShowAlike now last t u) where
  -- the same facts are live at a moment between
  live_there : (m : Moment) → IsCanonical m.at → ¬ (IsEarlier m now) → ¬ (IsEarlier last m) → (c : Certificate) → IsLiveFact u.size u.keeps (u.scene m) c → IsLiveFact t.size t.keeps (t.scene m) c
  live_there m there from until c live =
      subst (λ (s : Scene). IsLiveFact t.size t.keeps s c) (sym (alike.scene m there from until))
      (subst (λ n. IsLiveFact n t.keeps (u.scene m) c) (sym alike.size) (subst (λ keeps. IsLiveFact u.size keeps (u.scene m) c) (sym alike.keeps) live))

  live_here : (m : Moment) → IsCanonical m.at → ¬ (IsEarlier m now) → ¬ (IsEarlier last m) → (c : Certificate) → IsLiveFact t.size t.keeps (t.scene m) c → IsLiveFact u.size u.keeps (u.scene m) c
  live_here m there from until c live =
      subst (λ (s : Scene). IsLiveFact u.size u.keeps s c) (alike.scene m there from until)
      (subst (λ n. IsLiveFact n u.keeps (t.scene m) c) alike.size (subst (λ keeps. IsLiveFact t.size keeps (t.scene m) c) alike.keeps live))

  until_last : (m k : Moment) → IsCanonical m.at → IsCanonical k.at → IsEarlier m k → ¬ (IsEarlier last k) → ¬ (IsEarlier last m)
  until_last m k there far sooner in_time e = in_time (through last m k canonical there far e sooner)

  -- a fact that holds in the one from a moment on and before another holds in the other
  still_holds : (first k : Moment) (c : Certificate) → IsCanonical first.at → IsCanonical k.at → ¬ (IsEarlier first now) → ¬ (IsEarlier last k) → HoldsUntil t.scene first k c.placed.fact → HoldsUntil u.scene first k c.placed.fact
  still_holds first k c there far from in_time hold m until =
      subst (λ (s : Scene). s.sign c.placed.fact.form ≡ c.placed.fact.sign)
      (alike.scene m until.canonical (not_earlier_trans now first m here.form there.form until.canonical.form from until.from) (until_last m k until.canonical far until.until in_time)) (hold m until)

  block_alike : (first : Moment) (b : Block) → IsCanonical first.at → ¬ (IsEarlier first now) → ¬ (IsEarlier last first) → ¬ (IsEarlier last b.moment) → IsNextBlock t first b → IsNextBlock u first b
  block_alike first b there from until in_time next = record {
    canonical = next.canonical;
    later = next.later;
    some = next.some;
    exact = λ f. (to f, from_failure f);
    in_order = next.in_order;
    hold_before = λ c live. still_holds first b.moment c there next.canonical from in_time (next.hold_before c (live_there first there from until c live));
  }
    where
      same_then : t.scene b.moment ≡ u.scene b.moment
      same_then =
          alike.scene b.moment next.canonical (not_earlier_trans now first b.moment here.form there.form next.canonical.form from (later_not_back first b.moment there next.canonical next.later)) in_time

      to : (f : Failure) → Contains b.failures f → IsFailure u first b.moment f
      to f h =
          let fails = (next.exact f).0 h in
          record {
            live = live_here first there from until f.was fails.live;
            fails = λ holds. fails.fails (subst (λ (s : Scene). s.sign f.was.placed.fact.form ≡ f.was.placed.fact.sign) (sym same_then) holds);
            sign = subst (λ (s : Scene). f.now ≡ s.sign f.was.placed.fact.form) same_then fails.sign;
          }

      from_failure : (f : Failure) → IsFailure u first b.moment f → Contains b.failures f
      from_failure f fails = (next.exact f).1 (record {
        live = live_there first there from until f.was fails.live;
        fails = λ holds. fails.fails (subst (λ (s : Scene). s.sign f.was.placed.fact.form ≡ f.was.placed.fact.sign) same_then holds);
        sign = subst (λ (s : Scene). f.now ≡ s.sign f.was.placed.fact.form) (sym same_then) fails.sign;
      })

  journal_alike : (first : Moment) (bs : List Block) → IsCanonical first.at → ¬ (IsEarlier first now) → ¬ (IsEarlier last first) → IsJournal t first last bs → IsJournal u first last bs
  journal_alike first [] there from until j = (
    λ c live. still_holds first last c there canonical from (never last canonical) (j.0 c (live_there first there from until c live)),
    λ c live. subst (λ (s : Scene). s.sign c.placed.fact.form ≡ c.placed.fact.sign) (alike.scene last canonical not_before (never last canonical)) (j.1 c (live_there first there from until c live)),
  )
  journal_alike first (b ∷ bs) there from until j = (
    block_alike first b there from until j.1 j.0,
    j.1,
    journal_alike b.moment bs j.0.canonical (not_earlier_trans now first b.moment here.form there.form j.0.canonical.form from (later_not_back first b.moment there j.0.canonical j.0.later)) j.1 j.2,
  )

pub alike_blocks : AlikeBlocks
alike_blocks t u now b here alike next =
    let not_before = later_not_back now b.moment here next.canonical next.later in
    block_alike t u now b.moment here next.canonical not_before alike now b here (never now here) not_before (never b.moment next.canonical) next

pub alike_journals : AlikeJournals
alike_journals t u now last bs here canonical not_before alike j = journal_alike t u now last here canonical not_before alike now bs here (never now here) not_before j

-- ---- a quiet time
module _ (t : Setting) (now then : Moment) (here : IsCanonical now.at) (quiet : IsQuiet t now then) where
  -- what holds through the quiet time and from its end on holds from its beginning on
  holds_on : (k : Moment) (c : Certificate) → IsLiveFact t.size t.keeps (t.scene now) c → HoldsUntil t.scene then k c.placed.fact → HoldsUntil t.scene now k c.placed.fact
  holds_on k c live hold m until = elim (earlier_or_not m then until.canonical quiet.canonical) [
    | inl before ↦ quiet.none_fails.0 c live m (record { canonical = until.canonical; from = until.from; until = before })
    | inr not_before ↦ hold m (record { canonical = until.canonical; from = not_before; until = until.until })
  ]

  pub block_after_quiet : (b : Block) → IsNextBlock t then b → IsNextBlock t now b
  block_after_quiet b next = record {
    canonical = next.canonical;
    later = elim (total now then here quiet.canonical) [
      | inl later ↦ through now then b.moment here quiet.canonical next.canonical later next.later
      | inr (inl before) ↦ absurd (quiet.not_before before)
      | inr (inr same) ↦ subst (λ (m : Moment). IsEarlier m b.moment) (sym same) next.later
    ];
    some = next.some;
    exact = λ f. (
      λ h. let fails = (next.exact f).0 h in record { live = (quiet.same f.was).1 fails.live; fails = fails.fails; sign = fails.sign },
      λ fails. (next.exact f).1 (record { live = (quiet.same f.was).0 fails.live; fails = fails.fails; sign = fails.sign }),
    );
    in_order = next.in_order;
    hold_before = λ c live. holds_on b.moment c live (next.hold_before c ((quiet.same c).0 live));
  }

  pub journal_after_quiet : (last : Moment) (bs : List Block) → IsJournal t then last bs → IsJournal t now last bs
  journal_after_quiet last [] j = (λ c live. holds_on last c live (j.0 c ((quiet.same c).0 live)), λ c live. j.1 c ((quiet.same c).0 live))
  journal_after_quiet last (b ∷ bs) j = (block_after_quiet b j.0, j.1, j.2)

pub quiet_times_add_no_block : QuietTimesAddNoBlock
quiet_times_add_no_block t now then b here quiet = block_after_quiet t now then here quiet b

pub quiet_times_add_nothing : QuietTimesAddNothing
quiet_times_add_nothing t now then last bs here canonical quiet = journal_after_quiet t now then here quiet last bs

-- ---- plans
-- the motions in force are the first ones of what is left
pub force_left : (m : Moment) (plans : List (Option Plan)) → motions_in_force plans m ≡ map (option_map (λ (p : Plan). p.first)) (plans_left m plans)
force_left m [] = refl
force_left m (None ∷ plans) = ap (λ (cs : List (Option Course)). None ∷ cs) (force_left m plans)
force_left m (Some plan ∷ plans) = ap (λ (cs : List (Option Course)). Some (motion_in_force m plan) ∷ cs) (force_left m plans)

pub past_legs_show_nothing : PastLegsShowNothing
past_legs_show_nothing plans size keeps now last paths here = record {
  size = refl;
  keeps = refl;
  scene = λ m canonical from until.
      ap (λ (ms : List (Option Course)). scene_at ms m)
      (force_left m (plans_left now plans) ∙ ap (λ (ps : List (Option Plan)). map (option_map (λ (p : Plan). p.first)) ps) (past_legs_dont_matter plans now m paths here canonical from) ∙ sym (force_left m plans));
}

pub motions_show_alike : MotionsShowAlike
motions_show_alike plans size keeps now last paths here there none = record {
  size = refl;
  keeps = refl;
  scene = λ m canonical from until. legs_keep_scene plans now m paths here canonical from (λ l of_these later sooner. none l of_these later (still l of_these m canonical until sooner));
}
  where
    still : (l : Leg) → IsLegOf plans l → (m : Moment) → IsCanonical m.at → ¬ (IsEarlier last m) → IsEarlier (beginning l) m → IsEarlier (beginning l) last
    still l of_these m canonical until sooner = elim (total m last canonical there) [
      | inl before ↦ through (beginning l) m last (own_canonical l (fair_leg plans paths l of_these)) canonical there sooner before
      | inr (inl after) ↦ absurd (until after)
      | inr (inr same) ↦ subst (IsEarlier (beginning l)) same sooner
    ]
