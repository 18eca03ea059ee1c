use Rattle.std.proofs.Common.{◌≡◌, refl, sym, ap, ◌∙◌, subst, arith, List, [], ◌∷◌, ℕ, ◌^◌, true, length, length-set, set, Option, Some, inl, inr}
use Rattle.std.specs.Prelude.{Contains}
use Rattle.kin_motion.specs.Course.{Course, live_of}
use Rattle.kin_motion.specs.Numbers.{is_in, IsIn}
use Rattle.kin_motion.proofs.Members.{in_cases}
use Rattle.kin_sorted.specs.declared.direction.Direction.{Direction}
use Rattle.kin_sorted.specs.Marks.{with_entering, with_leaving}
use Rattle.kin_motion.specs.declared.fact.Placed.{Placed}
use Rattle.kin_motion.specs.Deltas.{Change}
use Rattle.kin_motion.specs.Kinetics.{HasChanged}
use Rattle.kin_motion.specs.Scene.{Holds, scene_at}
use Rattle.kin_motion.specs.Sets.{ListsExactly}
use Rattle.kin_num.specs.declared.instant.Phase.TheVariants.{At}
use Rattle.kin_sorted.specs.DirectionLaws.{along_ranked}
use Rattle.kin_sorted.specs.Sorting.{Sorting}
use Rattle.kin_sorted_cases.proofs.Ready.{set_live, still_live, one_live, kept, ready_from, ready_again}
use Rattle.kin_sorted_cases.proofs.Failing.{facts_born, facts_askable, lists_failing}
use Rattle.kin_sorted_cases.proofs.points.places_at.Given as given
use Rattle.kin_sorted_cases.proofs.points.places_at.Goals as goal
use Rattle.kin_sorted_cases.proofs.points.places_at.Goals.{In_ok-settle}

pub settle-requires-clause-real : goal.settle-requires-clause-real
settle-requires-clause-real g c = record { motions = c.set-3.new.self; moment = _; canonical = c.recall_canonical.ensures; live = refl; sign = λ f. refl }

-- three numbers that were set
three : (ms m0 m1 m2 : List (Option Course)) (a b d : Course) → length ms ≡ 4 → m0 ≡ set ms 0 (Some a) → m1 ≡ set m0 1 (Some b) → m2 ≡ set m1 2 (Some d)
    → (IsIn 0 (live_of m2)) × (IsIn 1 (live_of m2)) × (IsIn 2 (live_of m2))
three ms m0 m1 m2 a b d room e f h =
    let long0 : length m0 ≡ 4 = ap length e ∙ length-set ms 0 (Some a) ∙ room in
    let long1 : length m1 ≡ 4 = ap length f ∙ length-set m0 1 (Some b) ∙ long0 in
    let first : IsIn 0 (live_of m0) = subst (λ (m : List (Option Course)). IsIn 0 (live_of m)) (sym e) (set_live ms 0 a (omega arith)) in
    let first1 : IsIn 0 (live_of m1) = subst (λ (m : List (Option Course)). IsIn 0 (live_of m)) (sym f) (still_live m0 1 0 b (omega arith) first) in
    let second1 : IsIn 1 (live_of m1) = subst (λ (m : List (Option Course)). IsIn 1 (live_of m)) (sym f) (set_live m0 1 b (omega arith)) in (
      subst (λ (m : List (Option Course)). IsIn 0 (live_of m)) (sym h) (still_live m1 2 0 d (omega arith) first1),
      subst (λ (m : List (Option Course)). IsIn 1 (live_of m)) (sym h) (still_live m1 2 1 d (omega arith) second1),
      subst (λ (m : List (Option Course)). IsIn 2 (live_of m)) (sym h) (set_live m1 2 d (omega arith)),
    )

each : (live : List ℕ) → (IsIn 0 live) × (IsIn 1 live) × (IsIn 2 live) → (i : ℕ) → is_in i (0 ∷ 1 ∷ 2 ∷ []) ≡ true → IsIn i live
each live all i h = elim (in_cases i 0 (1 ∷ 2 ∷ []) h) [
  | inl e ↦ subst (λ n. IsIn n live) (sym e) all.0
  | inr t ↦ elim (in_cases i 1 (2 ∷ []) t) [
    | inl e ↦ subst (λ n. IsIn n live) (sym e) all.1
    | inr u ↦ elim (in_cases i 2 [] u) [
      | inl e ↦ subst (λ n. IsIn n live) (sym e) all.2
      | inr v ↦ absurd cc
    ]
  ]
]

pub settle-requires-clause-ready : goal.settle-requires-clause-ready
settle-requires-clause-ready g c =
    let first = c.in_ok-list.ensures in
    let k1 = kept c.in_ok-list.list c.insert.new.self _ c.in_ok-insert.ensures.ok in
    let k2 = kept c.insert.new.self c.insert-2.new.self _ c.in_ok-insert-2.ensures.ok in
    let k3 = kept c.insert-2.new.self c.remove.new.self _ c.in_ok-remove.ensures.ok in
    let k4 = kept c.remove.new.self c.insert-3.new.self _ c.in_ok-insert-3.ensures.ok in
    let k5 = kept c.insert-3.new.self c.insert-4.new.self _ c.in_ok-insert-4.ensures.ok in
    let live = three c.in_ok-motions.motions c.set.new.self c.set-2.new.self c.set-3.new.self c.new-2.result c.new-3.result c.new-4.result
    (c.in_ok-motions.ensures.room ∙ (let q : 2 ^ 2 ≡ 4 = refl in q)) c.set.ensures.value c.set-2.ensures.value c.set-3.ensures.value in
    ready_from _ c.insert-4.new.self _ (0 ∷ 1 ∷ 2 ∷ [])
    (k5.0 ∙ k4.0 ∙ k3.0 ∙ k2.0 ∙ k1.0 ∙ ap (λ (k : Sorting Direction). k.whole) first)
    (k5.1 ∙ k4.1 ∙ k3.1 ∙ k2.1 ∙ k1.1 ∙ ap (λ (k : Sorting Direction). k.items) first)
    (k5.3 ∙ ap (with_entering 2) (k4.3 ∙ ap (with_entering 1) (k3.3 ∙ ap (with_leaving 2)
    (k2.3 ∙ ap (with_entering 0) (k1.3 ∙ ap (with_entering 2) (ap (λ (k : Sorting Direction). k.marks) first))))))
    (λ i h. one_live (live_of c.set-3.new.self) i (each (live_of c.set-3.new.self) live i h))

-- ---- the second settle
-- what was born at the first settle are its facts
listed : (g : given.Over) (c : In_ok-settle g) → ListsExactly c.settle.new.out.born (Contains c.settle.new.self.facts)
listed g c =
    let k1 = kept c.in_ok-list.list c.insert.new.self _ c.in_ok-insert.ensures.ok in
    let k2 = kept c.insert.new.self c.insert-2.new.self _ c.in_ok-insert-2.ensures.ok in
    let k3 = kept c.insert-2.new.self c.remove.new.self _ c.in_ok-remove.ensures.ok in
    let k4 = kept c.remove.new.self c.insert-3.new.self _ c.in_ok-insert-3.ensures.ok in
    let k5 = kept c.insert-3.new.self c.insert-4.new.self _ c.in_ok-insert-4.ensures.ok in
    let none = k5.2 ∙ k4.2 ∙ k3.2 ∙ k2.2 ∙ k1.2 ∙ ap (λ (k : Sorting Direction). k.facts) c.in_ok-list.ensures in
    let k = c.settle.new.self in
    facts_born k.facts c.new-out.result c.settle.new.out c.new-out.ensures (subst (λ (fs : List Placed). HasChanged fs k.facts c.new-out.result c.settle.new.out) none c.in_ok-settle.ensures.delta)

-- the same of the list that is handed on
handed : (facts born new : List Placed) → facts ≡ born → ListsExactly born (Contains new) → ListsExactly facts (Contains new)
handed facts born new e all = subst (λ (fs : List Placed). ListsExactly fs (Contains new)) (sym e) all

pub failing-requires-clause-apart : goal.failing-requires-clause-apart
failing-requires-clause-apart g c =
    (handed _ _ c.settle.new.self.facts (c.deref.ensures.value ∙ ap (λ (d : Change). d.born) c.out.view_is) (listed g (goal.at.failing-requires-clause-apart g c).In_ok-settle)).once

pub failing-requires-clause-askable : goal.failing-requires-clause-askable
failing-requires-clause-askable g c = λ p h.
    let k = c.settle.new.self in
    let law = along_ranked k.rank.slots k.rank.dx k.rank.dy k.rank.few k.rank.dx_small k.rank.dy_small in
    let all = handed _ _ k.facts (c.deref.ensures.value ∙ ap (λ (d : Change). d.born) c.out.view_is) (listed g (goal.at.failing-requires-clause-askable g c).In_ok-settle) in
    facts_askable _ law k _ c.in_ok-settle.ensures.settled p ((all.each p).0 h)

pub settle-requires-2-clause-real : goal.settle-requires-2-clause-real
settle-requires-2-clause-real g c = record { motions = c.set-3.new.self; moment = _; canonical = c.recall_canonical-2.ensures; live = refl; sign = λ f. refl }

pub settle-requires-2-clause-ready : goal.settle-requires-2-clause-ready
settle-requires-2-clause-ready g c = ready_again _ c.settle.new.self _ _ c.in_ok-settle.ensures.rest.whole c.in_ok-settle.ensures.rest.marks refl c.in_ok-settle.ensures.settled

pub settle-requires-2-clause-failing : goal.settle-requires-2-clause-failing
settle-requires-2-clause-failing g c =
    let k = c.settle.new.self in
    let law = along_ranked k.rank.slots k.rank.dx k.rank.dy k.rank.few k.rank.dx_small k.rank.dy_small in
    let all = handed _ _ k.facts (c.deref.ensures.value ∙ ap (λ (d : Change). d.born) c.out.view_is) (listed g (goal.at.settle-requires-2-clause-failing g c).In_ok-settle) in
    let later = scene_at c.set-3.new.self (record { at = c.ratio-2.result; phase = At }) in
    let picked = subst (λ (fs : List Placed). ListsExactly fs (λ p. Contains c.deref.result.now p × ¬ (Holds later p.fact))) (sym c.deref-2.ensures.value) c.in_ok-failed.ensures in
    lists_failing _ law k _ c.in_ok-settle.ensures.settled later c.deref.result.now _ c.in_ok-settle.ensures.rest.marks all picked
