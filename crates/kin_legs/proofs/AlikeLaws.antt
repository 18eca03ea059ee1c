-- Plans of which the same is left at a moment: from then on they show the same, and the same comes next.
use Rattle.std.proofs.Common.{◌≡◌, refl, sym, ap, ◌∙◌, subst, ℕ, not, List, []}
use Rattle.std.specs.Prelude.{Option, Some, None, Contains, map, option_map}
use Rattle.std.proofs.lemmas.List.Elements.{All-contains}
use Rattle.std.proofs.lemmas.Option.{same_Some}
use Rattle.kin_num.specs.declared.instant.Moment.{Moment}
use Rattle.kin_num.specs.Canonical.{IsCanonical}
use Rattle.kin_num.specs.Order.{IsEarlier}
use Rattle.kin_num.proofs.MomentLaws.{never, through}
use Rattle.kin_motion.specs.declared.keep.Keep.{Keep}
use Rattle.kin_motion.specs.Journal.{NothingFails}
use Rattle.kin_motion.specs.Live.{IsLiveFact}
use Rattle.kin_motion.specs.Plans.{Leg, Plan, motions_in_force, plans_scene}
use Rattle.kin_motion.specs.Scene.{Scene, scene_at}
use Rattle.kin_motion.specs.Course.{Course}
use Rattle.kin_motion.proofs.SetLaws.{filter-sound, filter-complete}
use Rattle.kin_legs.specs.Nexts.{Next, block, leg, nothing, IsNext}
use Rattle.kin_legs.specs.Paths.{IsFair, IsPath, ArePaths, IsLegOf, NoneBeginsBetween, beginning, left_of, plan_of, plans_left}
use Rattle.kin_legs.specs.Planned.{planned}
use Rattle.kin_legs.specs.Shown.{ShowAlike}
use Rattle.kin_legs.proofs.BeginLaws.{is_left, unbegun_before}
use Rattle.kin_legs.proofs.JoinedLaws.{left_plan}
use Rattle.kin_legs.proofs.LeftLaws.{past_legs_dont_matter}
use Rattle.kin_legs.proofs.ShownLaws.{alike_blocks, alike_journals, force_left}

-- ---- one plan
-- a leg that is still to come is in both
leg_kept : (m : Moment) → IsCanonical m.at → (a b : Plan) → IsPath b → left_of m a ≡ left_of m b → (l : Leg) → Contains b.legs l → IsEarlier m (beginning l) → Contains a.legs l
leg_kept m canonical a b path same l there ahead =
    let fair = All-contains IsFair b.legs l path.fair there in
    let left : Contains (left_of m b).legs l = filter-complete (is_left m) b.legs l there (ap not (unbegun_before l m fair canonical ahead)) in
    (filter-sound (is_left m) a.legs l (subst (λ (p : Plan). Contains p.legs l) (sym same) left)).0

-- ---- the plans of all numbers
module _ (m : Moment) (canonical : IsCanonical m.at) (ps qs : List (Option Plan)) (paths : ArePaths ps) (others : ArePaths qs) (same : plans_left m ps ≡ plans_left m qs) where
  pub plan_alike : (i : ℕ) → option_map (left_of m) (plan_of ps i) ≡ option_map (left_of m) (plan_of qs i)
  plan_alike i = sym (left_plan m ps i) ∙ ap (λ (plans : List (Option Plan)). plan_of plans i) same ∙ left_plan m qs i

  leg_alike : (l : Leg) → IsLegOf qs l → IsEarlier m (beginning l) → IsLegOf ps l
  leg_alike l of_these ahead = at (plan_of ps of_these.number) refl
    where
      left : option_map (left_of m) (plan_of ps of_these.number) ≡ Some (left_of m of_these.plan)
      left = plan_alike of_these.number ∙ ap (option_map (left_of m)) of_these.is

      at : (p : Option Plan) → plan_of ps of_these.number ≡ p → IsLegOf ps l
      at None e = absurd (let clash : None ≡ Some (left_of m of_these.plan) = ap (option_map (left_of m)) (sym e) ∙ left in cc)
      at (Some a) e = record {
        number = of_these.number;
        plan = a;
        is = e;
        there = leg_kept m canonical a of_these.plan (others.each of_these.number of_these.plan of_these.is)
            (same_Some _ _ (ap (option_map (left_of m)) (sym e) ∙ left)) l of_these.there ahead;
      }

module _ (m : Moment) (canonical : IsCanonical m.at) (ps qs : List (Option Plan)) (paths : ArePaths ps) (others : ArePaths qs) (same : plans_left m ps ≡ plans_left m qs) where
  none_between_alike : (k : Moment) → NoneBeginsBetween m k ps → NoneBeginsBetween m k qs
  none_between_alike k none l of_these later = none l (leg_alike m canonical ps qs paths others same l of_these later) later

  module _ (k : Moment) (there : IsCanonical k.at) (not_before : ¬ (IsEarlier k m)) where
    -- the same is left later
    pub left_later_alike : plans_left k ps ≡ plans_left k qs
    left_later_alike = sym (past_legs_dont_matter ps m k paths canonical there not_before) ∙ ap (plans_left k) same ∙ past_legs_dont_matter qs m k others canonical there not_before

    pub force_alike : motions_in_force ps k ≡ motions_in_force qs k
    force_alike = force_left k ps ∙ ap (λ (plans : List (Option Plan)). map (option_map (λ (p : Plan). p.first)) plans) left_later_alike ∙ sym (force_left k qs)

    pub scene_alike : plans_scene ps k ≡ plans_scene qs k
    scene_alike = ap (λ (ms : List (Option Course)). scene_at ms k) force_alike

  module _ (size : ℕ) (keeps : List Keep) where
    pub show_alike : (last : Moment) → ShowAlike m last (planned ps size keeps) (planned qs size keeps)
    show_alike last = record { size = refl; keeps = refl; scene = λ k there from until. scene_alike k there from }

    nothing_fails_alike : NothingFails (planned ps size keeps) m → NothingFails (planned qs size keeps) m
    nothing_fails_alike holds c live k there from =
        subst (λ (s : Scene). s.sign c.placed.fact.form ≡ c.placed.fact.sign) (scene_alike k there from)
        (holds c (subst (λ (s : Scene). IsLiveFact size keeps s c) (sym (scene_alike m canonical (never m canonical))) live) k there from)

    -- the same comes next
    pub next_alike : (n : Next) → IsNext (record { plans = ps; size = size; keeps = keeps; now = m }) n → IsNext (record { plans = qs; size = size; keeps = keeps; now = m }) n
    next_alike (block b) h = record { next = alike_blocks (planned ps size keeps) (planned qs size keeps) m b canonical (show_alike b.moment) h.next; first = none_between_alike b.moment h.first }
    next_alike (leg k) h = record {
      leg = h.leg;
      of_these = leg_alike m canonical qs ps others paths (sym same) h.leg h.of_these (subst (IsEarlier m) h.begins h.later);
      begins = h.begins;
      canonical = h.canonical;
      later = h.later;
      first = none_between_alike k h.first;
      none_fails = alike_journals (planned ps size keeps) (planned qs size keeps) m k [] canonical h.canonical (λ e. never m canonical (through m k m canonical h.canonical canonical h.later e)) (show_alike k) h.none_fails;
    }
    next_alike nothing h = record { none_fails = nothing_fails_alike h.none_fails; none_begins = λ l of_these later. h.none_begins l (leg_alike m canonical ps qs paths others same l of_these later) later }
