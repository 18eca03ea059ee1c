use Rattle.std.proofs.Common.{◌≡◌, ◌∙◌, sym, ap, subst, refl, List, ℕ, ◌<◌, ◌≤◌, false, true, length}
use Rattle.std.specs.Prelude.{slice_get}
use Rattle.std.proofs.lemmas.Option.{slice_get_within, get_or_from_slice_get, slice_get-get_or}
use Rattle.std.proofs.lemmas.Bool.{false_from_ne_true, and_parts}
use Rattle.kin_motion.specs.Numbers.{is_in}
use Rattle.kin_list.proofs.RowLaws.{is_in_from_get}
use Rattle.kin_wedge.specs.Rows.{row_of, is_in_wedge}
use Rattle.kin_wedge.specs.Sides.{IsPlace}
use Rattle.kin_wedge.specs.Scans.{steps_in, step_to}
use Rattle.kin_wedge.specs.Seen.{octant_seen, rows_of}
use Rattle.kin_wedge.proofs.Scanning.{starts, goes_on, ends, behind_place, apex_there, found_first}
use Rattle.kin_wedge.proofs.orders.Orders.scan.Goals as goal

pub returns-in_default : goal.returns-in_default
returns-in_default c = λ q. false_from_ne_true _ (λ m.
    let t = apex_there _ c.args.octant.third.from_end c.args.apex q (c.requires.behind q m) in
    let f = ap (is_in c.args.apex) (sym c.list-list.ensures.row) ∙ c.in_default.ensures.none.0 refl in
    let e : true ≡ false = sym t ∙ f in
    cc)

pub returns-in_default-place_in : goal.returns-in_default-place_in
returns-in_default-place_in c = λ q. false_from_ne_true _ (λ m.
    let t = apex_there _ c.args.octant.first.from_end c.args.apex q (and_parts _ _ m).0 in
    let f = subst (IsPlace (row_of (rows_of c.args.self.now.lists.items) c.args.octant.first.part) c.args.apex) c.in_default-place_in.is c.place_in.ensures in
    let e : true ≡ false = sym t ∙ f in
    cc)

pub returns-in_default-place_in-2 : goal.returns-in_default-place_in-2
returns-in_default-place_in-2 c = λ q. false_from_ne_true _ (λ m.
    let t = apex_there _ c.args.octant.second.from_end c.args.apex q (and_parts _ _ m).1 in
    let f = subst (IsPlace (row_of (rows_of c.args.self.now.lists.items) c.args.octant.second.part) c.args.apex) c.in_default-place_in-2.is c.place_in-2.ensures in
    let e : true ≡ false = sym t ∙ f in
    cc)

pub loop-k-init : goal.loop-k-init
loop-k-init c = λ q t m h.
    starts _ (c.requires.rows.apart c.args.octant.third.part) c.args.octant.third.from_end c.in-Some.place t c.args.apex q
    (ap (λ (xs : List ℕ). slice_get xs c.in-Some.place) (sym c.list-list.ensures.row) ∙ c.in-Some.ensures.some)
    (ap (λ (xs : List ℕ). slice_get xs t) (sym (c.items-items.ensures ∙ c.list-list.ensures.row)) ∙ h) (c.requires.behind q m)

pub loop-k-preserved : goal.loop-k-preserved
loop-k-preserved c = λ q t m h.
    goes_on c.args.octant.third.from_end c.in-Some.place c.loop-k.k t (c.loop-k.invariant q t m h)
    (λ s.
    let same = get_or_from_slice_get c.items-items.result.now c.step_to.result q 0 (ap (slice_get c.items-items.result.now) (c.step_to.ensures.value ∙ sym s) ∙ h) in
    let e : true ≡ false = sym m ∙ ap (is_in_wedge (rows_of c.args.self.now.lists.items) (octant_seen c.args.octant) c.args.apex) (sym same) ∙ sym (c.is_in_octant_of_places.ensures c.args.apex (subst (IsPlace (row_of (rows_of c.args.self.now.lists.items) c.args.octant.first.part) c.args.apex) c.in-Some-place_in.is c.place_in.ensures) (subst (IsPlace (row_of (rows_of c.args.self.now.lists.items) c.args.octant.second.part) c.args.apex) c.in-Some-place_in-2.is c.place_in-2.ensures)) ∙ c.if-is_in_octant_of_places.false in
    cc)

pub returns-then-is_in_octant_of_places : goal.returns-then-is_in_octant_of_places
returns-then-is_in_octant_of_places c =
    let row = c.items-items.ensures ∙ c.list-list.ensures.row in
    record {
      member = sym (c.is_in_octant_of_places.ensures c.args.apex (subst (IsPlace (row_of (rows_of c.args.self.now.lists.items) c.args.octant.first.part) c.args.apex) c.in-Some-place_in.is c.place_in.ensures) (subst (IsPlace (row_of (rows_of c.args.self.now.lists.items) c.args.octant.second.part) c.args.apex) c.in-Some-place_in-2.is c.place_in-2.ensures)) ∙ c.if-is_in_octant_of_places.true;
      first = λ q m.
          let t = behind_place _ c.args.octant.third.from_end c.args.apex q (c.requires.behind q m) in
          let here = ap (λ (xs : List ℕ). slice_get xs t.0) row ∙ t.1 in
          found_first _ c.args.octant.third.from_end c.in-Some.place c.loop-k.k t.0 _ q
          (subst (λ (n : ℕ). c.loop-k.k < n) (c.steps_in-k-end.ensures ∙ ap (λ (xs : List ℕ). steps_in c.args.octant.third.from_end c.in-Some.place (length xs)) row) c.loop-k-test.true)
          (ap (λ (xs : List ℕ). slice_get xs (step_to c.args.octant.third.from_end c.in-Some.place c.loop-k.k)) (sym row) ∙ ap (slice_get c.items-items.result.now) (sym c.step_to.ensures.value) ∙ slice_get-get_or c.items-items.result.now c.step_to.result 0 c.step_to.ensures.within) t.1
          (c.loop-k.invariant q t.0 m here);
    }

pub returns : goal.returns
returns c = λ q. false_from_ne_true _ (λ m.
    let row = c.items-items.ensures ∙ c.list-list.ensures.row in
    let t = behind_place _ c.args.octant.third.from_end c.args.apex q (c.requires.behind q m) in
    let here = ap (λ (xs : List ℕ). slice_get xs t.0) row ∙ t.1 in
    let at-apex = ap (λ (xs : List ℕ). slice_get xs c.in-Some.place) c.items-items.ensures ∙ c.in-Some.ensures.some in
    ends c.args.octant.third.from_end c.in-Some.place t.0 (length c.items-items.result.now) c.loop-k.k (slice_get_within _ t.0 q here) (slice_get_within _ c.in-Some.place c.args.apex at-apex)
    (subst (λ (n : ℕ). n ≤ c.loop-k.k) c.steps_in-k-end.ensures c.loop-k-test.false) (c.loop-k.invariant q t.0 m here))

pub is_in_octant_of_places-requires-clause-member : goal.is_in_octant_of_places-requires-clause-member
is_in_octant_of_places-requires-clause-member c =
    let row = c.items-items.ensures ∙ c.list-list.ensures.row in
    let here = slice_get-get_or c.items-items.result.now c.step_to.result 0 c.step_to.ensures.within in
    sym (c.requires.alike c.args.octant.third.part _ c.requires.parts.third) ∙ ap (is_in _) (sym row) ∙ is_in_from_get c.items-items.result.now c.step_to.result _ here
