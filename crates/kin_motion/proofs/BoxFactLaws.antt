-- The facts of boxes by computation, how many there are, that they hold, and that they may be asked.
use Rattle.std.proofs.Common.{◌≡◌, inl, inr, refl, sym, ap, ap₂, ◌∙◌, subst, arith, List, [], ◌∷◌, ℕ, ◌+◌, ◌-◌, ◌*◌, ◌<◌, ◌≤◌, ◌^◌, ℤ, pos, Bool, true, false, ◌||◌, nat_eq, length}
use Rattle.std.specs.Prelude.{Contains, unsigned_abs}
use Rattle.std.proofs.lemmas.Bool.{eqb-true, eqb-false}
use Rattle.std.proofs.lemmas.Bool.Decides.{nat_tests}
use Rattle.std.proofs.lemmas.List.{length-append}
use Rattle.kin_motion.specs.declared.fact.Placed.{Placed}
use Rattle.kin_motion.specs.BoxEnds.{ends}
use Rattle.kin_motion.specs.BoxFacts.{low_end, high_end, kind, point, end_form, end_before, end_facts, ends_of, end_order_of, boxes_facts, IsEndOrder, IsEndFact, IsBoxFact, AreBoxes}
use Rattle.kin_motion.specs.BoxTheorems.{BoxFactsAgree}
use Rattle.kin_motion.specs.Forms.{IsAskable}
use Rattle.kin_motion.specs.Numbers.{is_in, IsOnce}
use Rattle.kin_motion.specs.RankTheorems.{OrderIsThatOfEnds}
use Rattle.kin_motion.specs.Ranks.{order_of, order_facts, neighbour_facts}
use Rattle.kin_motion.specs.Scene.{Scene, IsReal, Holds, placed_at}
use Rattle.kin_motion.specs.Sets.{ListsExactly}
use Rattle.kin_motion.proofs.EndOrders.{same_facts, to_order, from_order, to_facts, ends_live, end_part, end_fact_of}
use Rattle.kin_motion.proofs.EndRanks.{ends_strict, ends_left, small_offset}
use Rattle.kin_motion.proofs.FactLaws.{placed_holds}
use Rattle.kin_motion.proofs.OrderCounts.{sorted-length}
use Rattle.kin_motion.proofs.Proved.{live-once}
use Rattle.kin_motion.proofs.RankedLaws.{computed_order, computed_facts}
use Rattle.kin_motion.proofs.SetLaws.{exactly_both}

-- ---- the ends of all boxes
ends_one : (e x : ℕ) (rest r : Bool) → rest ≡ r → nat_eq e (low_end x) || (nat_eq e (high_end x) || rest) ≡ nat_eq (point e) x || r
ends_one e x rest r same = at (nat_eq e (low_end x)) refl (nat_eq e (high_end x)) refl (nat_eq (point e) x) refl
  where
    at : (a : Bool) → nat_eq e (low_end x) ≡ a → (b : Bool) → nat_eq e (high_end x) ≡ b → (c : Bool) → nat_eq (point e) x ≡ c → a || (b || rest) ≡ c || r
    at true f b g true h = refl
    at true f b g false h = absurd (let l = eqb-true e (low_end x) f in eqb-false (point e) x h (omega (arith, l)))
    at false f true g true h = refl
    at false f true g false h = absurd (let l = eqb-true e (high_end x) g in eqb-false (point e) x h (omega (arith, l)))
    at false f false g true h = absurd (let l = eqb-true (point e) x h in let a = eqb-false e (low_end x) f in let b = eqb-false e (high_end x) g in
        omega (arith, l, a, b))
    at false f false g false h = same

all_ends : (live : List ℕ) (e : ℕ) → is_in e (ends_of live) ≡ is_in (point e) live
all_ends [] e = refl
all_ends (x ∷ xs) e = ends_one e x (is_in e (ends_of xs)) (is_in (point e) xs) (all_ends xs e)

ends_once : (live : List ℕ) → IsOnce live → IsOnce (ends_of live)
ends_once [] once = tt
ends_once (x ∷ xs) once =
    let low : point (low_end x) ≡ x = omega arith in
    let high : point (high_end x) ≡ x = omega arith in
    let apart : nat_eq (low_end x) (high_end x) ≡ false = grind (arith, nat_tests) in (
      ap₂ (λ a b. a || b) apart (all_ends xs (low_end x) ∙ ap (λ n. is_in n xs) low ∙ once.0),
      (all_ends xs (high_end x) ∙ ap (λ n. is_in n xs) high ∙ once.0, ends_once xs once.1),
    )

ends_many : (live : List ℕ) → length (ends_of live) ≡ 2 * length live
ends_many [] = refl
ends_many (x ∷ xs) = let e = ends_many xs in omega (arith, e)

-- ---- the order by computation
pub end_order_agrees : (s : Scene) (dx dy size : ℤ) → IsReal s → IsEndOrder s dx dy size (end_order_of s dx dy size)
end_order_agrees s dx dy size real =
    let set = ends_of s.live in
    let all = all_ends s.live in
    to_order s 0 dx dy size set (end_order_of s dx dy size) all
    (computed_order s (ends 0 dx dy size) (ends_strict 0 dx dy size s real) set (ends_live s 0 dx dy size set all) (ends_once s.live (live-once s real)))

-- ---- the facts by computation
axis_agrees : (s : Scene) (dx dy size : ℤ) (first : ℕ) → IsReal s
    → ListsExactly (end_facts s dx dy size first (end_order_of s dx dy size)) (IsEndFact s dx dy size first)
axis_agrees s dx dy size first real =
    let r = ends 0 dx dy size in
    let set = ends_of s.live in
    let all = all_ends s.live in
    let exact = computed_facts s r (ends_strict 0 dx dy size s real) set (ends_live s 0 dx dy size set all) (ends_once s.live (live-once s real))
    (ends_left 0 dx dy size) in
    subst (λ (fs : List Placed). ListsExactly fs (IsEndFact s dx dy size first)) (same_facts s 0 dx dy size first (order_of s r set))
    (to_facts s 0 dx dy size first set (order_facts s r set) all exact)

pub facts_agree : BoxFactsAgree
facts_agree s width height real =
    exactly_both (end_facts s (pos 1) (pos 0) width 0 (end_order_of s (pos 1) (pos 0) width))
    (end_facts s (pos 0) (pos 1) height 4 (end_order_of s (pos 0) (pos 1) height))
    (IsEndFact s (pos 1) (pos 0) width 0) (IsEndFact s (pos 0) (pos 1) height 4)
    (axis_agrees s (pos 1) (pos 0) width 0 real) (axis_agrees s (pos 0) (pos 1) height 4 real) (λ p f g.
    let l = (end_part s (pos 1) (pos 0) width 0 f.order p f.listed).1 in
    let m = (end_part s (pos 0) (pos 1) height 4 g.order p g.listed).0 in
    omega (arith, l, m))

-- ---- the ends as ranked items
first_part : (s : Scene) (count : ℕ) (dx dy size : ℤ) (xs : List ℕ) → neighbour_facts s (ends count dx dy size) xs ≡ end_facts s dx dy size 0 xs
first_part s count dx dy size [] = refl
first_part s count dx dy size (a ∷ []) = refl
first_part s count dx dy size (a ∷ b ∷ xs) =
    let part : 2 * kind a + kind b ≡ 0 + (2 * kind a + kind b) = omega arith in
    ap₂ (λ (n : ℕ) (fs : List Placed). placed_at s n (end_form dx dy size a b) ∷ fs) part (first_part s count dx dy size (b ∷ xs))

pub order_of_ends : OrderIsThatOfEnds
order_of_ends s count dx dy size =
    let set = ends_of s.live in
    let all = all_ends s.live in (
      λ xs. (to_order s count dx dy size set xs all, from_order s count dx dy size set xs all),
      λ p. (
        λ f. record {
          order = f.order;
          ordered = to_order s count dx dy size set f.order all f.ordered;
          listed = subst (λ fs. Contains fs p) (first_part s count dx dy size f.order) f.listed;
        },
        λ f. record {
          order = f.order;
          ordered = from_order s count dx dy size set f.order all f.ordered;
          listed = subst (λ fs. Contains fs p) (sym (first_part s count dx dy size f.order)) f.listed;
        },
      ),
    )

-- ---- how many facts there are
neighbours_many : (s : Scene) (dx dy size : ℤ) (first : ℕ) (xs : List ℕ) → length (end_facts s dx dy size first xs) ≡ length xs - 1
neighbours_many s dx dy size first [] = refl
neighbours_many s dx dy size first (a ∷ []) = refl
neighbours_many s dx dy size first (a ∷ b ∷ xs) = let e = neighbours_many s dx dy size first (b ∷ xs) in omega (arith, e)

-- at most 4n - 2, and none without boxes
pub boxes_count : (s : Scene) (width height : ℤ) → IsReal s → length (boxes_facts s width height) ≤ 4 * length s.live - 2
boxes_count s width height real =
    let xs = end_order_of s (pos 1) (pos 0) width in
    let ys = end_order_of s (pos 0) (pos 1) height in
    let both = length-append (end_facts s (pos 1) (pos 0) width 0 xs) (end_facts s (pos 0) (pos 1) height 4 ys) in
    let a = neighbours_many s (pos 1) (pos 0) width 0 xs in
    let b = neighbours_many s (pos 0) (pos 1) height 4 ys in
    let c = sorted-length (end_before s (pos 1) (pos 0) width) (ends_of s.live) in
    let d = sorted-length (end_before s (pos 0) (pos 1) height) (ends_of s.live) in
    let many = ends_many s.live in
    omega (arith, both, a, b, c, d, many)

-- ---- what is settled
pub boxes_agree : (s : Scene) (width height : ℤ) → IsReal s
    → AreBoxes s width height (end_order_of s (pos 1) (pos 0) width) (end_order_of s (pos 0) (pos 1) height) (boxes_facts s width height)
boxes_agree s width height real = record {
  x_order = end_order_agrees s (pos 1) (pos 0) width real;
  y_order = end_order_agrees s (pos 0) (pos 1) height real;
  exact = facts_agree s width height real;
}

-- ---- each fact
end_fact_holds : (s : Scene) (dx dy size : ℤ) (first : ℕ) (p : Placed) → IsEndFact s dx dy size first p → Holds s p.fact
end_fact_holds s dx dy size first p f =
    let m = end_fact_of s dx dy size first f.order p f.listed in
    placed_holds s (first + (2 * kind m.0 + kind m.1)) (end_form dx dy size m.0 m.1) p m.4

pub box_fact_holds : (s : Scene) (width height : ℤ) (p : Placed) → IsBoxFact s width height p → Holds s p.fact
box_fact_holds s width height p (inl f) = end_fact_holds s (pos 1) (pos 0) width 0 p f
box_fact_holds s width height p (inr f) = end_fact_holds s (pos 0) (pos 1) height 4 p f

kind_low : (e : ℕ) → kind e < 2
kind_low e = omega arith

end_fact_askable : (s : Scene) (dx dy size : ℤ) (first : ℕ) (p : Placed) → unsigned_abs dx ≤ 16 → unsigned_abs dy ≤ 16 → unsigned_abs size ≤ 2 ^ 16
    → IsEndFact s dx dy size first p → IsAskable s.live p.fact.form
end_fact_askable s dx dy size first p dx_small dy_small small f =
    let m = end_fact_of s dx dy size first f.order p f.listed in
    subst (IsAskable s.live) (sym (ap (λ (q : Placed). q.fact.form) m.4)) (record {
      i_live = sym (f.ordered.all m.0) ∙ m.2;
      j_live = sym (f.ordered.all m.1) ∙ m.3;
      dx_small = dx_small;
      dy_small = dy_small;
      off_small = small_offset (kind m.1) (kind m.0) size (kind_low m.1) (kind_low m.0) small;
    })

pub box_fact_askable : (s : Scene) (width height : ℤ) (p : Placed) → unsigned_abs width ≤ 2 ^ 16 → unsigned_abs height ≤ 2 ^ 16 → IsBoxFact s width height p
    → IsAskable s.live p.fact.form
box_fact_askable s width height p small small' (inl f) = end_fact_askable s (pos 1) (pos 0) width 0 p (omega arith) (omega arith) small f
box_fact_askable s width height p small small' (inr f) = end_fact_askable s (pos 0) (pos 1) height 4 p (omega arith) (omega arith) small' f
