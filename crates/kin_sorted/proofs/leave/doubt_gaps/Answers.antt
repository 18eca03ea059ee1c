use Rattle.std.proofs.Common.{◌≡◌, sym, ap, ◌∙◌, arith, List, ℕ, ◌+◌, ◌<◌, ◌≤◌, Some, true, length, inl, inr}
use Rattle.std.specs.Prelude.{slice_get, ◌⊎◌}
use Rattle.std.proofs.lemmas.Bool.{cases_order}
use Rattle.std.proofs.lemmas.Option.{slice_get-get_or, slice_get_within, same_Some}
use Rattle.kin_motion.specs.Numbers.{is_in}
use Rattle.kin_sorted.proofs.RowLaws.{get_from_is_in}
use Rattle.kin_sorted.proofs.leave.doubt_gaps.Goals as goal

-- one item more is covered
covered_more : (items touched before after : List ℕ) (index who : ℕ) → slice_get touched index ≡ Some who
    → ((k i p : ℕ) → k < index → slice_get touched k ≡ Some i → slice_get items p ≡ Some i → p + 1 < length items → is_in i before ≡ true)
    → ((q : ℕ) → is_in q before ≡ true → is_in q after ≡ true)
    → ((p : ℕ) → slice_get items p ≡ Some who → p + 1 < length items → is_in who after ≡ true)
    → (k i p : ℕ) → k < index + 1 → slice_get touched k ≡ Some i → slice_get items p ≡ Some i → p + 1 < length items → is_in i after ≡ true
covered_more items touched before after index who at covered keeps here k i p l h a b = elim (cases_order k index) [
  | inl e ↦ (let same : i ≡ who = same_Some i who (sym h ∙ ap (slice_get touched) e ∙ at) in ap (λ (n : ℕ). is_in n after) same ∙ here p (a ∙ ap (λ (n : ℕ). Some n) same) b)
  | inr c ↦ elim c [
    | inl m ↦ keeps i (covered k i p m h a b)
    | inr g ↦ absurd (omega arith)
  ]
]

two_more : (q len : ℕ) (before start after : List ℕ) → ((is_in q after ≡ true) → (is_in q before ≡ true) ⊎ (2 ≤ len)) → ((is_in q before ≡ true) → (is_in q start ≡ true) ⊎ (2 ≤ len))
    → is_in q after ≡ true → (is_in q start ≡ true) ⊎ (2 ≤ len)
two_more q len before start after one two h = elim (one h) [
  | inl o ↦ two o
  | inr l ↦ inr l
]

pub loop-slot-preserved : goal.loop-slot-preserved
loop-slot-preserved c =
    let few = c.in_ok-doubt_gap.ensures.few in
    let few' = c.loop-slot.invariant.few in
    record {
      covered = covered_more c.args.row.now.items c.args.touched.now c.loop-slot.doubts c.doubt_gap.new.doubts c.loop-slot.slot-index _
          (slice_get-get_or c.args.touched.now c.loop-slot.slot-index _ c.loop-slot-test.true) c.loop-slot.invariant.covered c.in_ok-doubt_gap.ensures.keeps c.in_ok-doubt_gap.ensures.covered;
      keeps = λ q h. c.in_ok-doubt_gap.ensures.keeps q (c.loop-slot.invariant.keeps q h);
      two = λ q. two_more q (length c.args.row.now.items) c.loop-slot.doubts c.args.doubts.now c.doubt_gap.new.doubts (c.in_ok-doubt_gap.ensures.two q) (c.loop-slot.invariant.two q);
      few = omega (arith, few, few');
    }

pub returns : goal.returns
returns c = record {
  covered = λ p i t a l. let h = get_from_is_in c.args.touched.now i t in let w = slice_get_within c.args.touched.now h.0 i h.1 in c.loop-slot.invariant.covered h.0 i p
      (let o = c.loop-slot-test.false in omega arith) h.1 a l;
  keeps = c.loop-slot.invariant.keeps;
  two = c.loop-slot.invariant.two;
  few = let f = c.loop-slot.invariant.few in let e = c.loop-slot.auto.slot-index-end in omega arith;
}
