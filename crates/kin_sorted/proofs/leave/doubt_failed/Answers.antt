use Rattle.std.proofs.Common.{◌≡◌, sym, ap, ◌∙◌, arith, List, ℕ, ◌+◌, ◌<◌, Some, true, inl, inr}
use Rattle.std.specs.Prelude.{slice_get}
use Rattle.std.proofs.lemmas.Bool.{cases_order}
use Rattle.std.proofs.lemmas.Option.{slice_get-get_or}
use Rattle.kin_motion.specs.declared.fact.Placed.{Placed}
use Rattle.kin_motion.specs.Numbers.{is_in}
use Rattle.kin_motion.specs.Ranks.{Ranks}
use Rattle.kin_sorted.proofs.leave.doubt_failed.Goals as goal

-- one fact more is covered
covered_more : (r : Ranks) (items : List ℕ) (failed : List Placed) (before after : List ℕ) (index : ℕ) (f' : Placed)
    → slice_get failed index ≡ Some f'
    → ((k : ℕ) (f : Placed) (i j p : ℕ) → k < index → slice_get failed k ≡ Some f → f.part ≡ r.part i j → f.fact.form ≡ r.form i j → slice_get items p ≡ Some i → slice_get items (p + 1) ≡ Some j
    → is_in i before ≡ true)
    → ((q : ℕ) → is_in q before ≡ true → is_in q after ≡ true)
    → ((i j p : ℕ) → f'.part ≡ r.part i j → f'.fact.form ≡ r.form i j → slice_get items p ≡ Some i → slice_get items (p + 1) ≡ Some j → is_in i after ≡ true)
    → (k : ℕ) (f : Placed) (i j p : ℕ) → k < index + 1 → slice_get failed k ≡ Some f → f.part ≡ r.part i j → f.fact.form ≡ r.form i j → slice_get items p ≡ Some i
    → slice_get items (p + 1) ≡ Some j → is_in i after ≡ true
covered_more r items failed before after index f' at covered keeps here k f i j p l h part form a b = elim (cases_order k index) [
  | inl e ↦ (let o : Some f' ≡ Some f = sym at ∙ sym (ap (slice_get failed) e) ∙ h in
      let same : f' ≡ f = cc in
      here i j p (ap (λ (x : Placed). x.part) same ∙ part) (ap (λ (x : Placed). x.fact.form) same ∙ form) a b)
  | inr c ↦ elim c [
    | inl m ↦ keeps i (covered k f i j p m h part form a b)
    | inr g ↦ absurd (omega arith)
  ]
]

pub loop-placed-preserved : goal.loop-placed-preserved
loop-placed-preserved g c =
    let few = c.in_ok-doubt_fact.ensures.few in
    let few' = c.loop-placed.invariant.few in
    record {
      covered = covered_more (g.R.Ranked.ranks c.args.rank.now) c.args.row.now.items c.args.failed.now c.loop-placed.doubts c.doubt_fact.new.doubts c.loop-placed.placed-index _
          (slice_get-get_or c.args.failed.now c.loop-placed.placed-index _ c.loop-placed-test.true) c.loop-placed.invariant.covered c.in_ok-doubt_fact.ensures.keeps c.in_ok-doubt_fact.ensures.covered;
      keeps = λ q h. c.in_ok-doubt_fact.ensures.keeps q (c.loop-placed.invariant.keeps q h);
      few = omega (arith, few, few');
    }

pub returns : goal.returns
returns g c = record {
  covered = λ f i j p h part form a b. c.loop-placed.invariant.covered h.0 f i j p (let l = c.loop-placed-test.false in let m = h.1 in omega arith)
      (slice_get-get_or c.args.failed.now h.0 f h.1 ∙ ap (λ (x : Placed). Some x) h.2) part form a b;
  keeps = c.loop-placed.invariant.keeps;
  few = let f = c.loop-placed.invariant.few in let e = c.loop-placed.auto.placed-index-end in omega arith;
}
