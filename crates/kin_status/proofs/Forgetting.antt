-- Legs that are over don't matter: states that differ in nothing else are refused alike, print alike, pass the same blocks and go on alike.
use Rattle.std.proofs.Common.{◌≡◌, inl, inr, refl, sym, ap, ap₂, ◌∙◌, subst, ℕ, ◌<◌, ◌^◌, Bool, true, false, List, [], ◌∷◌, All, is_some, slice_set}
use Rattle.std.proofs.lemmas.List.{map-set}
use Rattle.std.specs.Prelude.{ℤ, Option, Some, None, IfSome, IsTrue, option_map, slice_get, unwrap_or}
use Rattle.std.proofs.lemmas.List.Elements.{All-head, All-tail}
use Rattle.kin_motion.specs.declared.keep.Keep.{Keep}
use Rattle.kin_motion.specs.Boxes.{points_in}
use Rattle.kin_motion.specs.Chains.{IsHullCycle}
use Rattle.kin_motion.specs.ClosestPairs.{IsClosest}
use Rattle.kin_motion.specs.Farthest.{IsFarthest}
use Rattle.kin_motion.specs.Live.{IsLiveCount}
use Rattle.kin_motion.specs.Nearest.{IsNearest}
use Rattle.kin_motion.specs.Plans.{is_begun}
use Rattle.kin_motion.specs.Scene.{Scene}
use Rattle.kin_legs.specs.Joined.{with_leg}
use Rattle.kin_legs.specs.Scheduling.{HasLegFrom, MayFollow, FollowsTooFast}
use Rattle.kin_legs.proofs.AlikeLaws.{plan_alike, left_later_alike, force_alike, scene_alike, show_alike, next_alike}
use Rattle.kin_legs.proofs.BeginLaws.{unbegun_before}
use Rattle.kin_legs.proofs.LeftLaws.{past_legs_dont_matter}
use Rattle.kin_legs.proofs.SchedulingLaws.{follows_too_fast_left, leg_from_left, left_extended, may_follow_left}
use Rattle.kin_legs.proofs.ShownLaws.{alike_journals}
use Rattle.kin_num.proofs.MomentLaws.{never}
use Rattle.kin_script.specs.declared.command.Command.TheVariants.{Order, Extreme, Hull, Closest, Inside, Nearest, Farthest, Overlaps, Live}
use Rattle.kin_script.specs.Changes.{IsRefusedLeg, IsRefusedTurn}
use Rattle.kin_script.specs.Printed.{list_line}
use Rattle.kin_script.specs.Questions.{IsOrderLine, IsExtremeLine, AreOverlapsLines, IsReplyLine}
use Rattle.kin_status.proofs.Vocabulary.{same_Some, IsCanonical, IsEarlier, Quadratic, Moment, Shape, Course, Plan, ArePaths, IsPath, lasting, left_of, motion_in_force, plan_of, plans_left, Block, IsJournal, Next, IsNext, block, leg, nothing, comes_at, PointChange, ChangesTo, IsChangeInRange, IsRefusedChange, enters, leaves, restarts, turns, schedules}
use Rattle.kin_status.proofs.Vocabulary.{Deed, asks, changes, deed_of, goes_on, goes_to, IsDeedInRange, IsCommandInRange, IsPresent, IsProvided, must_be_live, IsAllowed, IsNamedRoot, IsRefused, LeadsTo, State, IsAlike, IsOnPaths, just_at, state_scene, state_setting, state_view, IsPassedText, Prints, Step, Text, Ending, Command, Refusal, Past, deed_in_range, Passes, PassesInTurn}
use Rattle.kin_status.proofs.Determined.{next_canonical, stays}
use Rattle.kin_status.proofs.NamedRoots.{named_root_of}
use Rattle.kin_status.proofs.OnPaths.{IsPathIfSome, stays_on_paths}
use Rattle.kin_status.proofs.Passing.{not_back}

-- ---- one plan, of which the same is left
module _ (m : Moment) (canonical : IsCanonical m.at) (a b : Plan) (path : IsPath a) (other : IsPath b) (same : left_of m a ≡ left_of m b) where
  same_force : motion_in_force m a ≡ motion_in_force m b
  same_force = ap (λ (p : Plan). p.first) same

  module _ (at : ℕ) (u v : ℤ) where
    leg_refused_alike : (r : Refusal) → IsRefusedLeg m at u v a r → IsRefusedLeg m at u v b r
    leg_refused_alike r (inl past) = inl past
    leg_refused_alike r (inr (inl h)) = inr (inl (h.0, h.1, (leg_from_left m canonical b at other h.1).0 (subst (λ (p : Plan). HasLegFrom p at) same ((leg_from_left m canonical a at path h.1).1 h.2))))
    leg_refused_alike r (inr (inr h)) =
        inr (inr (h.0, (follows_too_fast_left m canonical b other at u v).0 (subst (λ (p : Plan). FollowsTooFast m p at u v) same ((follows_too_fast_left m canonical a path at u v).1 h.1))))

    follows_alike : (motion : Course) → MayFollow m a at u v motion → MayFollow m b at u v motion
    follows_alike motion h = (may_follow_left m canonical b other at u v motion).0 (subst (λ (p : Plan). MayFollow m p at u v motion) same ((may_follow_left m canonical a path at u v motion).1 h))

    extended_alike : at < 2 ^ 31 → (motion : Course) → MayFollow m a at u v motion → left_of m (with_leg a (record { from = at; motion = motion })) ≡ left_of m (with_leg b (record { from = at; motion = motion }))
    extended_alike low motion h =
        let out : is_begun (record { from = at; motion = motion }) m ≡ false = unbegun_before (record { from = at; motion = motion }) m (record { soon = low; slow = h.slow }) canonical h.ahead in
        left_extended m a (record { from = at; motion = motion }) out
        ∙ ap (λ (p : Plan). with_leg p (record { from = at; motion = motion })) same
        ∙ sym (left_extended m b (record { from = at; motion = motion }) out)

-- ---- the plan of one number, if it is live
module _ (m : Moment) where
  same_liveness : (p q : Option Plan) → option_map (left_of m) p ≡ option_map (left_of m) q → is_some p ≡ is_some q
  same_liveness None None same = refl
  same_liveness None (Some b) same = absurd cc
  same_liveness (Some a) None same = absurd cc
  same_liveness (Some a) (Some b) same = refl

  abbrev HasOther : Option Plan → Plan → Type 0
  HasOther q a = (b : Plan) × (q ≡ Some b) × (left_of m a ≡ left_of m b)

  live_other : (p q : Option Plan) → option_map (left_of m) p ≡ option_map (left_of m) q → (a : Plan) → p ≡ Some a → HasOther q a
  live_other p None same a is = absurd (let clash : Some (left_of m a) ≡ None = sym (ap (option_map (left_of m)) is) ∙ same in cc)
  live_other p (Some b) same a is = (b, refl, same_Some _ _ (sym (ap (option_map (left_of m)) is) ∙ same))

module _ (m : Moment) (canonical : IsCanonical m.at) (p q : Option Plan) (path : IsPathIfSome p) (other : IsPathIfSome q) (same : option_map (left_of m) p ≡ option_map (left_of m) q) where
  refused_change_alike : (c : PointChange) (r : Refusal) → IsRefusedChange m p c r → IsRefusedChange m q c r
  refused_change_alike (enters motion) r h = (h.0, sym (same_liveness m p q same) ∙ h.1)
  refused_change_alike leaves r h = (h.0, sym (same_liveness m p q same) ∙ h.1)
  refused_change_alike (restarts motion) r h = (h.0, sym (same_liveness m p q same) ∙ h.1)
  refused_change_alike (turns u v) r (inl h) = inl (h.0, sym (same_liveness m p q same) ∙ h.1)
  refused_change_alike (turns u v) r (inr (old, is, refused)) =
      let o = live_other m p q same old is in
      inr (o.0, o.1, subst (λ (c : Course). IsRefusedTurn m u v c r) (same_force m canonical old o.0 (path old is) (other o.0 o.1) o.2) refused)
  refused_change_alike (schedules at u v) r (inl h) = inl (h.0, sym (same_liveness m p q same) ∙ h.1)
  refused_change_alike (schedules at u v) r (inr (old, is, refused)) =
      let o = live_other m p q same old is in
      inr (o.0, o.1, leg_refused_alike m canonical old o.0 (path old is) (other o.0 o.1) o.2 at u v r refused)

  -- and then the same is left of what it changes to
  abbrev ChangesAlike : Option Plan → PointChange → Type 0
  ChangesAlike next c = (then : Option Plan) × ChangesTo m q c then × (option_map (left_of m) next ≡ option_map (left_of m) then)

  change_alike : (next : Option Plan) (c : PointChange) → IsChangeInRange c → ChangesTo m p c next → ChangesAlike next c
  change_alike next (enters motion) range to = (Some (lasting motion), refl, ap (option_map (left_of m)) to)
  change_alike next leaves range to = (None, refl, ap (option_map (left_of m)) to)
  change_alike next (restarts motion) range to = (Some (lasting motion), refl, ap (option_map (left_of m)) to)
  change_alike next (turns u v) range t =
      let o = live_other m p q same t.old t.was in (
        Some (lasting t.new),
        record { old = o.0; new = t.new; was = o.1; same_place = rw (← same_force m canonical t.old o.0 (path t.old t.was) (other o.0 o.1) o.2) t.same_place; is = refl },
        ap (option_map (left_of m)) t.is,
      )
  change_alike next (schedules at u v) range t =
      let o = live_other m p q same t.old t.was in
      let old_path = path t.old t.was in
      let new_path = other o.0 o.1 in (
        Some (with_leg o.0 (record { from = at; motion = t.new })),
        record { old = o.0; new = t.new; was = o.1; follows = follows_alike m canonical t.old o.0 old_path new_path o.2 at u v t.new t.follows; is = refl },
        ap (option_map (left_of m)) t.is ∙ ap (λ (x : Plan). Some x) (extended_alike m canonical t.old o.0 old_path new_path o.2 at u v range.0 t.new t.follows),
      )

-- ---- a question
provided_by_keeps : (s t : State) (q : Command) → s.keeps ≡ t.keeps → IsProvided s q → IsProvided t q
provided_by_keeps s t (Order k) e h = (h.0, h.1, ap (λ (ks : List Keep). slice_get ks k) (sym e) ∙ h.2)
provided_by_keeps s t (Extreme k) e h = (h.0, h.1, ap (λ (ks : List Keep). slice_get ks k) (sym e) ∙ h.2)
provided_by_keeps s t Hull e h = (h.0, ap (λ (ks : List Keep). slice_get ks h.0) (sym e) ∙ h.1)
provided_by_keeps s t Closest e h = (h.0, ap (λ (ks : List Keep). slice_get ks h.0) (sym e) ∙ h.1)
provided_by_keeps s t (Inside r) e h = (h.0, ap (λ (ks : List Keep). slice_get ks h.0) (sym e) ∙ h.1)
provided_by_keeps s t (Nearest n) e h = (h.0, ap (λ (ks : List Keep). slice_get ks h.0) (sym e) ∙ h.1)
provided_by_keeps s t Farthest e h = (h.0, ap (λ (ks : List Keep). slice_get ks h.0) (sym e) ∙ h.1)
provided_by_keeps s t Overlaps e h = (h.0, h.1, h.2, ap (λ (ks : List Keep). slice_get ks h.0) (sym e) ∙ h.3)
provided_by_keeps s t Live e h = tt
provided_by_keeps s t question e h = absurd h

-- ---- a state, and the same with other plans of which the same is left
-- what comes next doesn't come before now
not_before_now : (s : State) (n : Next) → IsCanonical s.moment.at → IsNext (state_view s) n → ¬ (IsEarlier (unwrap_or (comes_at n) s.moment) s.moment)
not_before_now s (block b) canonical is = not_back s.moment b.moment canonical is.next.canonical is.next.later
not_before_now s (leg m) canonical is = not_back s.moment m canonical is.canonical is.later
not_before_now s nothing canonical is = never s.moment canonical

abbrev with_plans : State → List (Option Plan) → State
with_plans s qs = record s { plans = qs }

-- the number that must be live is live in both
present_with : (s : State) (qs : List (Option Plan)) → IsOnPaths s → ArePaths qs → plans_left s.moment s.plans ≡ plans_left s.moment qs → (q : Command) → IsPresent s q → IsPresent (with_plans s qs) q
present_with s qs on others same q present = at (must_be_live q) present
  where
    at : (o : Option ℕ) → IfSome o (λ n. IsTrue (is_some (plan_of s.plans n))) → IfSome o (λ n. IsTrue (is_some (plan_of qs n)))
    at None live = tt
    at (Some n) live = sym (same_liveness s.moment (plan_of s.plans n) (plan_of qs n) (plan_alike s.moment on.canonical s.plans qs on.paths others same n)) ∙ live

refused_with : (s : State) (qs : List (Option Plan)) → IsOnPaths s → ArePaths qs → plans_left s.moment s.plans ≡ plans_left s.moment qs → (d : Deed) (r : Refusal) → IsRefused s d r → IsRefused (with_plans s qs) d r
refused_with s qs on others same (changes n c) r h =
    refused_change_alike s.moment on.canonical (plan_of s.plans n) (plan_of qs n) (on.paths.each n) (others.each n) (plan_alike s.moment on.canonical s.plans qs on.paths others same n) c r h
refused_with s qs on others same (goes_to upper p) r h = h
refused_with s qs on others same goes_on r h = h
refused_with s qs on others same (asks q) r (inl h) = inl (h.0, λ provided. h.1 (provided_by_keeps (with_plans s qs) s q refl provided))
refused_with s qs on others same (asks q) r (inr h) =
    let back : IsPresent (with_plans s qs) q → IsPresent s q = present_with (with_plans s qs) s.plans (record { paths = others; canonical = on.canonical }) on.paths (sym same) q in
    inr (h.0, provided_by_keeps s (with_plans s qs) q refl h.1, λ present. h.2 (back present))

module _ (s : State) (qs : List (Option Plan)) (on : IsOnPaths s) (others : ArePaths qs) (same : plans_left s.moment s.plans ≡ plans_left s.moment qs) where
  abbrev other_state : State
  other_state = with_plans s qs

  allowed_with : (d : Deed) → IsAllowed s d → IsAllowed other_state d
  allowed_with d allowed r h = allowed r (refused_with other_state s.plans (record { paths = others; canonical = on.canonical }) on.paths (sym same) d r h)

  journal_with : (w : Shape) (bs : List Block) → IsCanonical w → ¬ (IsEarlier (just_at w) s.moment) → IsJournal (state_setting s) s.moment (just_at w) bs → IsJournal (state_setting other_state) s.moment (just_at w) bs
  journal_with w bs there not_past = alike_journals (state_setting s) (state_setting other_state) s.moment (just_at w) bs on.canonical there not_past (show_alike s.moment on.canonical s.plans qs on.paths others same s.size s.keeps (just_at w))

  passed_text_with : (journal : Bool) (w : Shape) (text : List ℕ) → IsCanonical w → ¬ (IsEarlier (just_at w) s.moment) → IsPassedText journal s w text → IsPassedText journal other_state w text
  passed_text_with false w text there not_past h = h
  passed_text_with true w text there not_past h = (h.0, journal_with w h.0 there not_past h.1, h.2)

  next_with : (n : Next) → IsNext (state_view s) n → IsNext (state_view other_state) n
  next_with n h = next_alike s.moment on.canonical s.plans qs on.paths others same s.size s.keeps n h

  reply_with : (q : Command) (text : List ℕ) → IsReplyLine s q text → IsReplyLine other_state q text
  reply_with q text h = by_question q h
    where
      now : ¬ (IsEarlier s.moment s.moment)
      now = never s.moment on.canonical

      seen : state_scene s ≡ state_scene other_state
      seen = scene_alike s.moment on.canonical s.plans qs on.paths others same s.moment on.canonical now

      by_question : (q : Command) → IsReplyLine s q text → IsReplyLine other_state q text
      by_question (Order k) h = subst (λ (v : Scene). IsOrderLine s.keeps v k text) seen h
      by_question (Extreme k) h = subst (λ (v : Scene). IsExtremeLine s.keeps v k text) seen h
      by_question Hull h = (h.0, subst (λ (v : Scene). IsHullCycle v h.0) seen h.1, h.2)
      by_question Closest h = (h.0, subst (λ (v : Scene). IsClosest v h.0) seen h.1, h.2)
      by_question (Inside r) h = subst (λ (ms : List (Option Course)). text ≡ list_line (points_in ms s.moment r)) (force_alike s.moment on.canonical s.plans qs on.paths others same s.moment on.canonical now) h
      by_question (Nearest n) h = (h.0, subst (λ (v : Scene). IsNearest v n h.0) seen h.1, h.2)
      by_question Farthest h = (h.0, subst (λ (v : Scene). IsFarthest v h.0) seen h.1, h.2)
      by_question Overlaps h = subst (λ (v : Scene). AreOverlapsLines s.keeps v text) seen h
      by_question Live h = (h.0, subst (λ (v : Scene). IsLiveCount s.size s.keeps v h.0) seen h.1, h.2)
      by_question question h = absurd h

  -- a moment that isn't refused isn't past
  not_past_of : (upper : Bool) (p : Quadratic) → IsAllowed s (goes_to upper p) → (w : Shape) → IsNamedRoot upper p w → ¬ (IsEarlier (just_at w) s.moment)
  not_past_of upper p allowed w named e = allowed Past (inr (refl, (w, named, e)))

  prints_with : (d : Deed) (text : List ℕ) → IsAllowed s d → Prints s d text → Prints other_state d text
  prints_with (changes n c) text allowed h = h
  prints_with (goes_to upper p) text allowed h = (h.0, h.1, passed_text_with s.journal h.0 text (named_root_of upper p h.0 h.1).canonical (not_past_of upper p allowed h.0 h.1) h.2)
  prints_with goes_on text allowed h = (h.0, next_with h.0 h.1, h.2)
  prints_with (asks q) text allowed h = reply_with q text h

  passes_with : (d : Deed) (bs : List Block) → IsAllowed s d → Passes s d bs → Passes other_state d bs
  passes_with (changes n c) bs allowed h = h
  passes_with (goes_to upper p) bs allowed h = (h.0, h.1, journal_with h.0 bs (named_root_of upper p h.0 h.1).canonical (not_past_of upper p allowed h.0 h.1) h.2)
  passes_with goes_on bs allowed h = (h.0, next_with h.0 h.1, h.2)
  passes_with (asks q) bs allowed h = h

  -- a later moment
  later_with : (m : Moment) → IsCanonical m.at → ¬ (IsEarlier m s.moment) → IsAlike (record s { moment = m }) (record other_state { moment = m })
  later_with m there not_before = record { size = refl; keeps = refl; journal = refl; moment = refl; left = left_later_alike s.moment on.canonical s.plans qs on.paths others same m there not_before }

  leads_with : (d : Deed) (u : State) → IsDeedInRange d → IsAllowed s d → LeadsTo s d u → (v : State) × LeadsTo other_state d v × IsAlike u v
  leads_with (changes n c) u range allowed h =
      let o = change_alike s.moment on.canonical (plan_of s.plans n) (plan_of qs n) (on.paths.each n) (others.each n) (plan_alike s.moment on.canonical s.plans qs on.paths others same n) h.0 c range h.1 in
      let left = map-set (option_map (left_of s.moment)) s.plans n h.0 ∙ ap₂ (λ (ps : List (Option Plan)) (p : Option Plan). slice_set ps n p) same o.2 ∙ sym (map-set (option_map (left_of s.moment)) qs n o.0) in
      (record s { plans = slice_set qs n o.0 }, (o.0, o.1, refl), subst (λ (x : State). IsAlike x (record s { plans = slice_set qs n o.0 })) (sym h.2) (record { size = refl; keeps = refl; journal = refl; moment = refl; left = left }))
  leads_with (goes_to upper p) u range allowed h = (
    record other_state { moment = just_at h.0 },
    (h.0, h.1, refl),
    subst (λ (x : State). IsAlike x (record other_state { moment = just_at h.0 })) (sym h.2) (later_with (just_at h.0) (named_root_of upper p h.0 h.1).canonical (not_past_of upper p allowed h.0 h.1)),
  )
  leads_with goes_on u range allowed h =
      let m = unwrap_or (comes_at h.0) s.moment in
      (record other_state { moment = m }, (h.0, next_with h.0 h.1, refl), subst (λ (x : State). IsAlike x (record other_state { moment = m })) (sym h.2) (later_with m (next_canonical s h.0 on.canonical h.1) (not_before_now s h.0 on.canonical h.1)))
  leads_with (asks q) u range allowed h = (other_state, refl, subst (λ (x : State). IsAlike x other_state) (sym h) (record { size = refl; keeps = refl; journal = refl; moment = refl; left = same }))

-- ---- alike states
pub alike_itself : (s : State) → IsAlike s s
alike_itself s = record { size = refl; keeps = refl; journal = refl; moment = refl; left = refl }

pub alike_back : (s t : State) → IsAlike s t → IsAlike t s
alike_back s t a = record { size = sym a.size; keeps = sym a.keeps; journal = sym a.journal; moment = sym a.moment; left = subst (λ (m : Moment). plans_left m t.plans ≡ plans_left m s.plans) a.moment (sym a.left) }

-- what is left is alike
pub alike_left : (s : State) → IsOnPaths s → IsAlike s (record s { plans = plans_left s.moment s.plans })
alike_left s on = record { size = refl; keeps = refl; journal = refl; moment = refl; left = sym (past_legs_dont_matter s.plans s.moment s.moment on.paths on.canonical on.canonical (never s.moment on.canonical)) }

-- but for its plans one is the other
as_other : (s t : State) → IsAlike s t → with_plans s t.plans ≡ t
as_other s t a =
    let size = a.size in
    let keeps = a.keeps in
    let journal = a.journal in
    let moment = a.moment in
    λ i. record { size = size i; keeps = keeps i; journal = journal i; plans = t.plans; moment = moment i }

module _ (s t : State) (on : IsOnPaths s) (others : IsOnPaths t) (a : IsAlike s t) where
  pub refused_alike : (d : Deed) (r : Refusal) → IsRefused s d r → IsRefused t d r
  refused_alike d r h = subst (λ (x : State). IsRefused x d r) (as_other s t a) (refused_with s t.plans on others.paths a.left d r h)

  pub allowed_alike : (d : Deed) → IsAllowed s d → IsAllowed t d
  allowed_alike d allowed = subst (λ (x : State). IsAllowed x d) (as_other s t a) (allowed_with s t.plans on others.paths a.left d allowed)

  pub prints_alike : (d : Deed) (text : List ℕ) → IsAllowed s d → Prints s d text → Prints t d text
  prints_alike d text allowed h = subst (λ (x : State). Prints x d text) (as_other s t a) (prints_with s t.plans on others.paths a.left d text allowed h)

  pub passes_alike : (d : Deed) (bs : List Block) → IsAllowed s d → Passes s d bs → Passes t d bs
  passes_alike d bs allowed h = subst (λ (x : State). Passes x d bs) (as_other s t a) (passes_with s t.plans on others.paths a.left d bs allowed h)

  pub leads_alike : (d : Deed) (u : State) → IsDeedInRange d → IsAllowed s d → LeadsTo s d u → (v : State) × LeadsTo t d v × IsAlike u v
  leads_alike d u range allowed h = subst (λ (x : State). (v : State) × LeadsTo x d v × IsAlike u v) (as_other s t a) (leads_with s t.plans on others.paths a.left d u range allowed h)

  pub step_alike : (d : Deed) (text : List ℕ) (u : State) → IsDeedInRange d → Step s d text u → (v : State) × Step t d text v × IsAlike u v
  step_alike d text u range step =
      let l = leads_alike d u range step.allowed step.leads in
      (l.0, record { allowed = allowed_alike d step.allowed; prints = prints_alike d text step.allowed step.prints; leads = l.1 }, l.2)

-- ---- the commands that are left
-- the first is in its range, and so are the others from the state that it leads to
pub first_in_range : (s : State) (c : ℕ × Command) (cs : List (ℕ × Command)) → All (λ l. IsCommandInRange s.size l.1) (c ∷ cs) → IsDeedInRange (deed_of c.1)
first_in_range s c cs range = deed_in_range s.size c.1 (All-head (λ l. IsCommandInRange s.size l.1) c cs range)

pub rest_in_range : (s u : State) (c : ℕ × Command) (cs : List (ℕ × Command)) → IsCanonical s.moment.at → LeadsTo s (deed_of c.1) u → All (λ l. IsCommandInRange s.size l.1) (c ∷ cs) → All (λ l. IsCommandInRange u.size l.1) cs
rest_in_range s u c cs canonical leads range = subst (λ n. All (λ l. IsCommandInRange n l.1) cs) (sym (stays s (deed_of c.1) u canonical leads).0) (All-tail (λ l. IsCommandInRange s.size l.1) c cs range)

pub text_alike : (cs : List (ℕ × Command)) (s t : State) (text : List ℕ) (ending : Ending) → IsOnPaths s → IsOnPaths t → All (λ l. IsCommandInRange s.size l.1) cs → IsAlike s t → Text s cs text ending → Text t cs text ending
text_alike [] s t text ending on others range a h = h
text_alike (c ∷ cs) s t text ending on others range a (inl e) = inl (e.0, refused_alike s t on others a (deed_of c.1) e.0 e.1, e.2, e.3)
text_alike (c ∷ cs) s t text ending on others range a (inr g) =
    let d = deed_of c.1 in
    let first = first_in_range s c cs range in
    let v = step_alike s t on others a d g.0 g.2 first g.3 in
    let then = stays_on_paths s d g.2 on first g.3.allowed g.3.leads in
    let then_too = stays_on_paths t d v.0 others first v.1.allowed v.1.leads in
    inr (g.0, g.1, v.0, v.1, text_alike cs g.2 v.0 g.1 ending then then_too (rest_in_range s g.2 c cs on.canonical g.3.leads range) v.2 g.4, g.5)

pub passes_in_turn_alike : (cs : List (ℕ × Command)) (s t : State) (bs : List Block) → IsOnPaths s → IsOnPaths t → All (λ l. IsCommandInRange s.size l.1) cs → IsAlike s t → PassesInTurn s cs bs → PassesInTurn t cs bs
passes_in_turn_alike [] s t bs on others range a h = h
passes_in_turn_alike (c ∷ cs) s t bs on others range a g =
    let d = deed_of c.1 in
    let first = first_in_range s c cs range in
    let v = leads_alike s t on others a d g.2 first g.3 g.5 in
    let allowed = allowed_alike s t on others a d g.3 in
    let then = stays_on_paths s d g.2 on first g.3 g.5 in
    let then_too = stays_on_paths t d v.0 others first allowed v.1 in
    (g.0, g.1, v.0, allowed, passes_alike s t on others a d g.0 g.3 g.4, v.1, passes_in_turn_alike cs g.2 v.0 g.1 then then_too (rest_in_range s g.2 c cs on.canonical g.5 range) v.2 g.6, g.7)
