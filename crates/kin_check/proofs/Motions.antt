-- The motions in force, slot by slot.
use Rattle.std.proofs.Common.{◌≡◌, inl, inr, sym, ap, ◌∙◌, subst, arith, List, ℕ, ◌+◌, ◌≤◌, ◌<◌, length, Option, Some, None}
use Rattle.std.specs.Prelude.{option_map, slice_set}
use Rattle.std.proofs.lemmas.Bool.{cases_eq, cases_lt}
use Rattle.std.proofs.lemmas.List.{ext_get_or, get_or-set_other, get_or-set_same, length-map, length-set}
use Rattle.kin_num.specs.declared.instant.Moment.{Moment}
use Rattle.kin_motion.specs.Course.{Course, motion_of}
use Rattle.kin_motion.specs.Plans.{Plan, motion_in_force, motions_in_force}
use Rattle.kin_legs.specs.Paths.{plan_of}
use Rattle.kin_legs.proofs.SceneLaws.{forced}

-- the slots below a place have the motions in force, and the others none
pub record AreUpTo (plans : List (Option Plan)) (m : Moment) (place : ℕ) (ms : List (Option Course)) : Type 0 where
  pub slots : length ms ≡ length plans
  pub done : (i : ℕ) → i < place → motion_of ms i ≡ motion_of (motions_in_force plans m) i
  pub rest : (i : ℕ) → place ≤ i → motion_of ms i ≡ None

module _ (plans : List (Option Plan)) (m : Moment) where
  pub none_yet : (ms : List (Option Course)) → length ms ≡ length plans → ((i : ℕ) → motion_of ms i ≡ None) → AreUpTo plans m 0 ms
  none_yet ms slots none = record { slots = slots; done = λ i low. absurd (omega arith); rest = λ i high. none i }

  -- one more slot, of a live number
  pub one_set : (place : ℕ) (ms : List (Option Course)) (plan : Plan) (c : Course) → place < length plans → plan_of plans place ≡ Some plan → c ≡ motion_in_force m plan → AreUpTo plans m place ms
      → AreUpTo plans m (place + 1) (slice_set ms place (Some c))
  one_set place ms plan c low is forced_is up = record {
    slots = length-set ms place (Some c) ∙ up.slots;
    done = λ i below. elim (cases_eq i place) [
      | inl same ↦ subst (λ j. motion_of (slice_set ms place (Some c)) j ≡ motion_of (motions_in_force plans m) j) (sym same)
          (get_or-set_same ms place (Some c) None (let e = up.slots in omega (arith, low, e)) ∙ ap (λ (d : Course). Some d) forced_is ∙ ap (option_map (motion_in_force m)) (sym is)
          ∙ sym (forced m plans place))
      | inr other ↦ get_or-set_other ms place i (Some c) None other ∙ up.done i (omega (arith, below, other))
    ];
    rest = λ i above. get_or-set_other ms place i (Some c) None (λ same. absurd (omega (arith, above, same))) ∙ up.rest i (omega (arith, above));
  }

  -- and of one that isn't live
  pub one_left : (place : ℕ) (ms : List (Option Course)) → plan_of plans place ≡ None → AreUpTo plans m place ms → AreUpTo plans m (place + 1) ms
  one_left place ms is up = record {
    slots = up.slots;
    done = λ i below. elim (cases_lt i place) [
      | inl low ↦ up.done i low
      | inr high ↦ let same : i ≡ place = omega (arith, below, high) in
          subst (λ j. motion_of ms j ≡ motion_of (motions_in_force plans m) j) (sym same) (up.rest place (omega arith) ∙ ap (option_map (motion_in_force m)) (sym is) ∙ sym (forced m plans place))
    ];
    rest = λ i above. up.rest i (omega (arith, above));
  }

  -- all slots
  pub all_set : (place : ℕ) (ms : List (Option Course)) → length plans ≤ place → AreUpTo plans m place ms → ms ≡ motions_in_force plans m
  all_set place ms high up =
      ext_get_or None ms (motions_in_force plans m) (up.slots ∙ sym (length-map plans (option_map (motion_in_force m)))) (λ i low. up.done i (let e = up.slots in omega (arith, low, high, e)))
