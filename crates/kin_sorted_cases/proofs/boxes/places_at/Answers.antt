use Rattle.std.proofs.Common.{◌≡◌, refl, sym, ap, ap₂, ◌∙◌, subst, arith, List, [], ◌∷◌, ℕ, ◌/◌, ◌^◌, true, length, length-set, set, Option, Some, inl, inr}
use Rattle.kin_motion.specs.Course.{Course, live_of}
use Rattle.kin_motion.specs.Numbers.{is_in, IsIn}
use Rattle.kin_motion.proofs.Members.{in_cases}
use Rattle.kin_sorted.specs.declared.ends.End.{End}
use Rattle.kin_sorted.specs.declared.ends.Ends.{Ends}
use Rattle.kin_sorted.specs.EndSlots.{end_slot}
use Rattle.kin_sorted.specs.Marks.{Marks, with_entering}
use Rattle.kin_sorted.specs.Sorting.{Sorting}
use Rattle.kin_sorted_cases.proofs.Ready.{set_live, still_live, one_live, kept, ready_from}
use Rattle.kin_sorted_cases.proofs.boxes.places_at.Goals as goal

pub settle-requires-clause-real : goal.settle-requires-clause-real
settle-requires-clause-real g c = record { motions = c.set-2.new.self; moment = _; canonical = c.recall_canonical.ensures; live = refl; sign = λ f. refl }

-- two numbers that were set
two : (ms m0 m1 : List (Option Course)) (a b : Course) → length ms ≡ 2 → m0 ≡ set ms 0 (Some a) → m1 ≡ set m0 1 (Some b) → (IsIn 0 (live_of m1)) × (IsIn 1 (live_of m1))
two ms m0 m1 a b room e f =
    let long0 : length m0 ≡ 2 = ap length e ∙ length-set ms 0 (Some a) ∙ room in
    let first : IsIn 0 (live_of m0) = subst (λ (m : List (Option Course)). IsIn 0 (live_of m)) (sym e) (set_live ms 0 a (omega arith)) in (
      subst (λ (m : List (Option Course)). IsIn 0 (live_of m)) (sym f) (still_live m0 1 0 b (omega arith) first),
      subst (λ (m : List (Option Course)). IsIn 1 (live_of m)) (sym f) (set_live m0 1 b (omega arith)),
    )

-- the point of each end
each : (live : List ℕ) → (IsIn 0 live) × (IsIn 1 live) → (i : ℕ) → is_in i (3 ∷ 0 ∷ 2 ∷ 1 ∷ []) ≡ true → IsIn (i / 2) live
each live all i h = elim (in_cases i 3 (0 ∷ 2 ∷ 1 ∷ []) h) [
  | inl e ↦ subst (λ n. IsIn (n / 2) live) (sym e) all.1
  | inr t ↦ elim (in_cases i 0 (2 ∷ 1 ∷ []) t) [
    | inl e ↦ subst (λ n. IsIn (n / 2) live) (sym e) all.0
    | inr u ↦ elim (in_cases i 2 (1 ∷ []) u) [
      | inl e ↦ subst (λ n. IsIn (n / 2) live) (sym e) all.1
      | inr v ↦ elim (in_cases i 1 [] v) [
        | inl e ↦ subst (λ n. IsIn (n / 2) live) (sym e) all.0
        | inr w ↦ absurd cc
      ]
    ]
  ]
]

pub settle-requires-clause-ready : goal.settle-requires-clause-ready
settle-requires-clause-ready g c =
    let first = c.in_ok-list.ensures in
    let k1 = kept c.in_ok-list.list c.insert.new.self _ c.in_ok-insert.ensures.ok in
    let k2 = kept c.insert.new.self c.insert-2.new.self _ c.in_ok-insert-2.ensures.ok in
    let k3 = kept c.insert-2.new.self c.insert-3.new.self _ c.in_ok-insert-3.ensures.ok in
    let k4 = kept c.insert-3.new.self c.insert-4.new.self _ c.in_ok-insert-4.ensures.ok in
    let live = two c.in_ok-motions.motions c.set.new.self c.set-2.new.self c.new-2.result c.new-3.result
    (c.in_ok-motions.ensures.room ∙ (let q : 2 ^ 1 ≡ 2 = refl in q)) c.set.ensures.value c.set-2.ensures.value in
    ready_from _ c.insert-4.new.self _ (3 ∷ 0 ∷ 2 ∷ 1 ∷ [])
    (k4.0 ∙ k3.0 ∙ k2.0 ∙ k1.0 ∙ ap (λ (k : Sorting Ends). k.whole) first)
    (k4.1 ∙ k3.1 ∙ k2.1 ∙ k1.1 ∙ ap (λ (k : Sorting Ends). k.items) first)
    (k4.3 ∙ ap₂ (λ (e : End) (m : Marks). with_entering (end_slot e) m) c.high-2.ensures (k3.3
    ∙ ap₂ (λ (e : End) (m : Marks). with_entering (end_slot e) m) c.low-2.ensures (k2.3 ∙ ap₂ (λ (e : End) (m : Marks). with_entering (end_slot e) m) c.low.ensures
    (k1.3 ∙ ap₂ (λ (e : End) (m : Marks). with_entering (end_slot e) m) c.high.ensures (ap (λ (k : Sorting Ends). k.marks) first)))))
    (λ i h. one_live (live_of c.set-2.new.self) (i / 2) (each (live_of c.set-2.new.self) live i h))
