-- Every state of a run has its points on paths, and a canonical moment.
use Rattle.std.proofs.Common.{rules, arith, ◌≡◌, ◌⊎◌, inl, inr, ◌≤◌, ℤ, unsigned_abs, Option, Some, None, refl, sym, ◌∙◌, subst}
use Rattle.kin_num.specs.declared.instant.Phase.{Phase}
use Rattle.kin_legs.proofs.PathLaws.{lasting_path, paths_set}
use Rattle.kin_legs.proofs.SchedulingLaws.{extended_path}
use Rattle.kin_script.specs.Changes.{IsTurned}
use Rattle.kin_status.proofs.Vocabulary.{cases_lt, same_Some, Moment, After, At, Course, IsSlow, motion_limit, Plan, IsPath, lasting, plan_of, PointChange, ChangesTo, IsChangeInRange, IsRefusedChange, enters, leaves, restarts, turns, schedules, Deed, asks, changes, goes_on, goes_to}
use Rattle.kin_status.proofs.Vocabulary.{IsDeedInRange, IsAllowed, LeadsTo, State, IsOnPaths, Refusal, NotWhole, OutOfBounds}
use Rattle.kin_status.proofs.Determined.{next_canonical}
use Rattle.kin_status.proofs.NamedRoots.{named_root_of}

-- a motion with a slow velocity is slow or not
pub slow_or_not : (c : Course) → unsigned_abs c.u ≤ motion_limit → unsigned_abs c.v ≤ motion_limit → IsSlow c ⊎ ¬ (IsSlow c)
slow_or_not c u v = search (rules, arith, cases_lt)

-- a plan, if there is one, is a path
abbrev pub IsPathIfSome : Option Plan → Type 0
IsPathIfSome p = (plan : Plan) → p ≡ Some plan → IsPath plan

path_some : (plan : Plan) (p : Option Plan) → p ≡ Some plan → IsPath plan → IsPathIfSome p
path_some plan p is path other also = subst IsPath (same_Some plan other (sym is ∙ also)) path

-- ---- one number
module _ (m : Moment) (now next : Option Plan) where
  -- a turn that isn't refused is to a slow motion
  turned_slow : (u v : ℤ) → unsigned_abs u ≤ motion_limit → unsigned_abs v ≤ motion_limit → ((r : Refusal) → ¬ (IsRefusedChange m now (turns u v) r)) → (t : IsTurned m u v now next) → IsSlow t.new
  turned_slow u v u_small v_small allowed t = by_phase m.phase refl
    where
      by_phase : (p : Phase) → m.phase ≡ p → IsSlow t.new
      by_phase After after = absurd (allowed NotWhole (inr (t.old, t.was, inl (refl, inl after))))
      by_phase At at = elim (slow_or_not t.new (rw t.same_place.u_is u_small) (rw t.same_place.v_is v_small)) [
        | inl slow ↦ slow
        | inr far ↦ absurd (allowed OutOfBounds (inr (t.old, t.was, inr (refl, (at, (t.new, t.same_place, far))))))
      ]

  pub path_after : (c : PointChange) → IsPathIfSome now → IsChangeInRange c → ((r : Refusal) → ¬ (IsRefusedChange m now c r)) → ChangesTo m now c next → IsPathIfSome next
  path_after (enters motion) path range allowed to = path_some (lasting motion) next to (lasting_path motion range)
  path_after leaves path range allowed to = λ plan is. absurd (let clash : None ≡ Some plan = sym to ∙ is in cc)
  path_after (restarts motion) path range allowed to = path_some (lasting motion) next to (lasting_path motion range)
  path_after (turns u v) path range allowed t = path_some (lasting t.new) next t.is (lasting_path t.new (turned_slow u v range.u_small range.v_small allowed t))
  path_after (schedules at u v) path range allowed t = path_some _ next t.is (extended_path m t.old at u v t.new (path t.old t.was) range.0 t.follows)

-- ---- one deed
pub stays_on_paths : (s : State) (d : Deed) (t : State) → IsOnPaths s → IsDeedInRange d → IsAllowed s d → LeadsTo s d t → IsOnPaths t
stays_on_paths s (changes n c) t on range allowed leads = subst IsOnPaths (sym leads.2) (record {
  paths = paths_set s.plans n leads.0 on.paths (path_after s.moment (plan_of s.plans n) leads.0 c (on.paths.each n) range allowed leads.1);
  canonical = on.canonical;
})
stays_on_paths s (goes_to upper p) t on range allowed leads = subst IsOnPaths (sym leads.2) (record { paths = on.paths; canonical = (named_root_of upper p leads.0 leads.1).canonical })
stays_on_paths s goes_on t on range allowed leads = subst IsOnPaths (sym leads.2) (record { paths = on.paths; canonical = next_canonical s leads.0 on.canonical leads.1 })
stays_on_paths s (asks q) t on range allowed leads = subst IsOnPaths (sym leads) on
