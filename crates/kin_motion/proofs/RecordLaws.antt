-- The facts of a merge are those of its records.
use Rattle.std.proofs.Common.{◌≡◌, ◌⊎◌, inl, inr, sym, ap, subst, List, [], ◌∷◌, ◌++◌, ℕ, map, Option, Some, None}
use Rattle.std.specs.Prelude.{Contains, ◌↔◌}
use Rattle.std.proofs.lemmas.List.Elements.{Contains-append_left, Contains-append_right, Contains-append_cases}
use Rattle.kin_algebra.proofs.Members.{contains_none, contains_head, contains_tail, contains_cases}
use Rattle.kin_motion.specs.declared.form.Form.{Form}
use Rattle.kin_motion.specs.declared.form.Form.TheVariants.{Turn}
use Rattle.kin_motion.specs.declared.fact.Fact.{Fact}
use Rattle.kin_motion.specs.declared.fact.Placed.{Placed}
use Rattle.kin_motion.specs.Scene.{Scene, fact_at, placed_at}
use Rattle.kin_motion.specs.Merges.{Half.{A, B}, Breakpoint, current_after, other_current, turns_from, slope_between, slopes_from, end_forms, last_of, forms_of_ends, IsListedForm, forms_of_merge}
use Rattle.kin_motion.specs.Records.{Record, Record.{Inner, LeftEnd, RightEnd}, facts_at, slope_before, slope_behind, inner_records, records_of}
use Rattle.kin_motion.specs.RecordFacts.{MergeState, IsFactIn, records_in, facts_of_record, IsRecorded, FactsAreRecorded}
use Rattle.kin_motion.proofs.CurrentLaws.{turns_agree, forms_agree}
use Rattle.kin_motion.proofs.SetLaws.{contains_map, contains_mapped}

-- ---- one record more
recorded_first : (r : Record) (rs : List Record) (f : Fact) → Contains (facts_of_record r) f → IsRecorded (r ∷ rs) f
recorded_first r rs f c = (r, contains_head r rs, c)

recorded_later : (r : Record) (rs : List Record) (f : Fact) → IsRecorded rs f → IsRecorded (r ∷ rs) f
recorded_later r rs f (q, c, h) = (q, contains_tail r q rs c, h)

recorded_cases : (r : Record) (rs : List Record) (f : Fact) → IsRecorded (r ∷ rs) f → Contains (facts_of_record r) f ⊎ IsRecorded rs f
recorded_cases r rs f (q, c, h) = at (contains_cases r q rs c)
  where
    at : (r ≡ q) ⊎ Contains rs q → Contains (facts_of_record r) f ⊎ IsRecorded rs f
    at (inl e) = inl (subst (λ (x : Record). Contains (facts_of_record x) f) (sym e) h)
    at (inr k) = inr (q, k, h)

-- ---- the forms of the breakpoints
-- the turn at the first breakpoint, and those behind it
abbrev first_turn : ℕ → ℕ → Breakpoint → Form
first_turn a b e = Turn e.left e.right (other_current e.half a b)

abbrev later_turns : ℕ → ℕ → Breakpoint → List Breakpoint → List Form
later_turns a b e es = turns_from (current_after A e a) (current_after B e b) es

-- the forms in the record of the first breakpoint
abbrev pub first_forms : ℕ → ℕ → Option Breakpoint → Breakpoint → List Breakpoint → List Form
first_forms a b before e es = first_turn a b e ∷ slope_before before e ++ slope_behind e es

-- the slopes along a list that begins right behind a breakpoint
abbrev slopes_behind : Option Breakpoint → List Breakpoint → List Form
slopes_behind None es = slopes_from es
slopes_behind (Some d) es = slopes_from (d ∷ es)

abbrev IsInnerForm : ℕ → ℕ → Option Breakpoint → List Breakpoint → Form → Type 0
IsInnerForm a b before es g = Contains (turns_from a b es) g ⊎ Contains (slopes_behind before es) g

module _ (a b : ℕ) (before : Option Breakpoint) (e : Breakpoint) (es : List Breakpoint) (g : Form) where
  slope_to_first : (d : Option Breakpoint) → Contains (slope_before d e) g → Contains (slopes_behind d (e ∷ es)) g
  slope_to_first None c = absurd (contains_none g c)
  slope_to_first (Some d) c = Contains-append_left (slope_between d e) (slopes_from (e ∷ es)) g c

  slope_along : (d : Option Breakpoint) → Contains (slopes_from (e ∷ es)) g → Contains (slopes_behind d (e ∷ es)) g
  slope_along None c = c
  slope_along (Some d) c = Contains-append_right (slope_between d e) (slopes_from (e ∷ es)) g c

  slope_from_first : (fs : List Breakpoint) → Contains (slope_behind e fs) g → Contains (slopes_from (e ∷ fs)) g
  slope_from_first [] c = absurd (contains_none g c)
  slope_from_first (f ∷ fs) c = Contains-append_left (slope_between e f) (slopes_from (f ∷ fs)) g c

  first_is_inner : Contains (first_forms a b before e es) g → IsInnerForm a b before (e ∷ es) g
  first_is_inner c = at (contains_cases (first_turn a b e) g (slope_before before e ++ slope_behind e es) c)
    where
      slope : Contains (slope_before before e) g ⊎ Contains (slope_behind e es) g → Contains (slopes_behind before (e ∷ es)) g
      slope (inl k) = slope_to_first before k
      slope (inr k) = slope_along before (slope_from_first es k)

      at : (first_turn a b e ≡ g) ⊎ Contains (slope_before before e ++ slope_behind e es) g → IsInnerForm a b before (e ∷ es) g
      at (inl q) = inl (subst (λ (h : Form). Contains (turns_from a b (e ∷ es)) h) q (contains_head (first_turn a b e) (later_turns a b e es)))
      at (inr k) = inr (slope (Contains-append_cases (slope_before before e) (slope_behind e es) g k))

  later_is_inner : IsInnerForm (current_after A e a) (current_after B e b) (Some e) es g → IsInnerForm a b before (e ∷ es) g
  later_is_inner (inl c) = inl (contains_tail (first_turn a b e) g (later_turns a b e es) c)
  later_is_inner (inr c) = inr (slope_along before c)

module _ (s : Scene) where
  -- ---- the records of the breakpoints
  -- the first, and those behind it
  abbrev pub first_record : ℕ → ℕ → Option Breakpoint → Breakpoint → List Breakpoint → Record
  first_record a b before e es = Inner e (facts_at s (first_forms a b before e es))

  abbrev pub later_records : ℕ → ℕ → Breakpoint → List Breakpoint → List Record
  later_records a b e es = inner_records s (current_after A e a) (current_after B e b) (Some e) es

  -- a fact of a record has a form of the breakpoints
  inner_form : (a b : ℕ) (before : Option Breakpoint) (es : List Breakpoint) (f : Fact)
      → IsRecorded (inner_records s a b before es) f → (g : Form) × IsInnerForm a b before es g × (f ≡ fact_at s g)
  inner_form a b before [] f (r, c, h) = absurd (contains_none r c)
  inner_form a b before (e ∷ es) f c =
      at (recorded_cases (first_record a b before e es) (later_records a b e es) f c) (inner_form (current_after A e a) (current_after B e b) (Some e) es f)
    where
      at : Contains (facts_at s (first_forms a b before e es)) f ⊎ IsRecorded (later_records a b e es) f
          → (IsRecorded (later_records a b e es) f → (g : Form) × IsInnerForm (current_after A e a) (current_after B e b) (Some e) es g × (f ≡ fact_at s g))
          → (g : Form) × IsInnerForm a b before (e ∷ es) g × (f ≡ fact_at s g)
      at (inl k) rest = let m = contains_mapped (fact_at s) (first_forms a b before e es) f k in (m.0, first_is_inner a b before e es m.0 m.1, m.2)
      at (inr k) rest = let m = rest k in (m.0, later_is_inner a b before e es m.0 m.1, m.2)

  -- a form of the breakpoints is in a record
  module _ (a b : ℕ) (before : Option Breakpoint) (e : Breakpoint) (es : List Breakpoint) (g : Form) where
    at_first : Contains (first_forms a b before e es) g → IsRecorded (inner_records s a b before (e ∷ es)) (fact_at s g)
    at_first c =
        recorded_first (first_record a b before e es) (later_records a b e es) (fact_at s g) (contains_map (fact_at s) (first_forms a b before e es) g c)

    later : IsRecorded (later_records a b e es) (fact_at s g) → IsRecorded (inner_records s a b before (e ∷ es)) (fact_at s g)
    later = recorded_later (first_record a b before e es) (later_records a b e es) (fact_at s g)

  turn_recorded : (a b : ℕ) (before : Option Breakpoint) (es : List Breakpoint) (g : Form)
      → Contains (turns_from a b es) g → IsRecorded (inner_records s a b before es) (fact_at s g)
  turn_recorded a b before [] g c = absurd (contains_none g c)
  turn_recorded a b before (e ∷ es) g c =
      at (contains_cases (first_turn a b e) g (later_turns a b e es) c) (turn_recorded (current_after A e a) (current_after B e b) (Some e) es g)
    where
      at : (first_turn a b e ≡ g) ⊎ Contains (later_turns a b e es) g → (Contains (later_turns a b e es) g → IsRecorded (later_records a b e es) (fact_at s g))
          → IsRecorded (inner_records s a b before (e ∷ es)) (fact_at s g)
      at (inl q) rest =
          at_first a b before e es g
          (subst (λ (h : Form). Contains (first_forms a b before e es) h) q (contains_head (first_turn a b e) (slope_before before e ++ slope_behind e es)))
      at (inr k) rest = later a b before e es g (rest k)

  slope_recorded : (a b : ℕ) (before : Option Breakpoint) (es : List Breakpoint) (g : Form)
      → Contains (slopes_from es) g → IsRecorded (inner_records s a b before es) (fact_at s g)
  slope_recorded a b before [] g c = absurd (contains_none g c)
  slope_recorded a b before (e ∷ []) g c = absurd (contains_none g c)
  slope_recorded a b before (e ∷ f ∷ es) g c =
      at (Contains-append_cases (slope_between e f) (slopes_from (f ∷ es)) g c) (slope_recorded (current_after A e a) (current_after B e b) (Some e) (f ∷ es) g)
    where
      at : Contains (slope_between e f) g ⊎ Contains (slopes_from (f ∷ es)) g
          → (Contains (slopes_from (f ∷ es)) g → IsRecorded (later_records a b e (f ∷ es)) (fact_at s g))
          → IsRecorded (inner_records s a b before (e ∷ f ∷ es)) (fact_at s g)
      at (inl k) rest =
          let there = Contains-append_right (slope_before before e) (slope_between e f) g k in
          at_first a b before e (f ∷ es) g (contains_tail (first_turn a b e) g (slope_before before e ++ slope_between e f) there)
      at (inr k) rest = later a b before e (f ∷ es) g (rest k)

  -- ---- the outer ends
  joined : {T : Type 0} (xs ys : List T) (z : T) → Contains (xs ++ ys) z ↔ (Contains xs z ⊎ Contains ys z)
  joined {T} xs ys z = (Contains-append_cases xs ys z, from)
    where
      from : Contains xs z ⊎ Contains ys z → Contains (xs ++ ys) z
      from (inl c) = Contains-append_left xs ys z c
      from (inr c) = Contains-append_right xs ys z c

  ends_are_both : (a : ℕ) (as' : List ℕ) (b : ℕ) (bs : List ℕ) (g : Form)
      → Contains (forms_of_ends s a as' b bs) g ↔ (Contains (end_forms s a b) g ⊎ Contains (end_forms s (last_of a as') (last_of b bs)) g)
  ends_are_both a [] b [] g = (λ c. inl c, either)
    where
      either : Contains (end_forms s a b) g ⊎ Contains (end_forms s a b) g → Contains (end_forms s a b) g
      either (inl c) = c
      either (inr c) = c
  ends_are_both a [] b (q ∷ bs) g = joined (end_forms s a b) (end_forms s a (last_of q bs)) g
  ends_are_both a (p ∷ as') b [] g = joined (end_forms s a b) (end_forms s (last_of p as') b) g
  ends_are_both a (p ∷ as') b (q ∷ bs) g = joined (end_forms s a b) (end_forms s (last_of p as') (last_of q bs)) g

  -- ---- all records of the merge of two chains that aren't empty
  module _ (a : ℕ) (as' : List ℕ) (b : ℕ) (bs : List ℕ) (es : List Breakpoint) where
    abbrev left_forms : List Form
    left_forms = end_forms s a b

    abbrev right_forms : List Form
    right_forms = end_forms s (last_of a as') (last_of b bs)

    abbrev pub left_end : Record
    left_end = LeftEnd a b (facts_at s left_forms)

    abbrev pub right_end : Record
    right_end = RightEnd (last_of a as') (last_of b bs) (facts_at s right_forms)

    abbrev pub inner : List Record
    inner = inner_records s a b None es

    abbrev Listed : Form → Type 0
    Listed g = IsListedForm s (a ∷ as') (b ∷ bs) es g

    -- each form is in a record
    all_recorded : (g : Form) → Listed g → IsRecorded (left_end ∷ right_end ∷ inner) (fact_at s g)
    all_recorded g l = at l
      where
        behind : IsRecorded inner (fact_at s g) → IsRecorded (left_end ∷ right_end ∷ inner) (fact_at s g)
        behind h = recorded_later left_end (right_end ∷ inner) (fact_at s g) (recorded_later right_end inner (fact_at s g) h)

        end : Contains left_forms g ⊎ Contains right_forms g → IsRecorded (left_end ∷ right_end ∷ inner) (fact_at s g)
        end (inl c) = recorded_first left_end (right_end ∷ inner) (fact_at s g) (contains_map (fact_at s) left_forms g c)
        end (inr c) =
            recorded_later left_end (right_end ∷ inner) (fact_at s g) (recorded_first right_end inner (fact_at s g) (contains_map (fact_at s) right_forms g c))

        at : Listed g → IsRecorded (left_end ∷ right_end ∷ inner) (fact_at s g)
        at (inl t) = behind (turn_recorded a b None es g ((turns_agree a b es g).1 t))
        at (inr (inl c)) = behind (slope_recorded a b None es g c)
        at (inr (inr c)) = end ((ends_are_both a as' b bs g).0 c)

    -- each fact of a record has a form
    all_listed : (f : Fact) → IsRecorded (left_end ∷ right_end ∷ inner) f → (g : Form) × Listed g × (f ≡ fact_at s g)
    all_listed f h = left (recorded_cases left_end (right_end ∷ inner) f h)
      where
        inside : (g : Form) → IsInnerForm a b None es g → Listed g
        inside g (inl c) = inl ((turns_agree a b es g).0 c)
        inside g (inr c) = inr (inl c)

        end : (g : Form) → Contains left_forms g ⊎ Contains right_forms g → Listed g
        end g c = inr (inr ((ends_are_both a as' b bs g).1 c))

        right : Contains (facts_at s right_forms) f ⊎ IsRecorded inner f → (g : Form) × Listed g × (f ≡ fact_at s g)
        right (inl c) = let m = contains_mapped (fact_at s) right_forms f c in (m.0, end m.0 (inr m.1), m.2)
        right (inr k) = let m = inner_form a b None es f k in (m.0, inside m.0 m.1, m.2)

        left : Contains (facts_at s left_forms) f ⊎ IsRecorded (right_end ∷ inner) f → (g : Form) × Listed g × (f ≡ fact_at s g)
        left (inl c) = let m = contains_mapped (fact_at s) left_forms f c in (m.0, end m.0 (inl m.1), m.2)
        left (inr k) = right (recorded_cases right_end inner f k)

  -- a form of a merge is in one of its records
  form_recorded : (a b : List ℕ) (es : List Breakpoint) (g : Form) → IsListedForm s a b es g → IsRecorded (records_of s a b es) (fact_at s g)
  form_recorded [] b es g n = absurd n
  form_recorded (a ∷ as') [] es g n = absurd n
  form_recorded (a ∷ as') (b ∷ bs) es g l = all_recorded a as' b bs es g l

  -- a fact of a record has a form of the merge
  recorded_form : (a b : List ℕ) (es : List Breakpoint) (f : Fact) → IsRecorded (records_of s a b es) f
      → (g : Form) × IsListedForm s a b es g × (f ≡ fact_at s g)
  recorded_form [] b es f (r, c, h) = absurd (contains_none r c)
  recorded_form (a ∷ as') [] es f (r, c, h) = absurd (contains_none r c)
  recorded_form (a ∷ as') (b ∷ bs) es f h = all_listed a as' b bs es f h

pub facts_are_recorded : FactsAreRecorded
facts_are_recorded m part p = (to, from)
  where
    to : IsFactIn m part p → (p.part ≡ part) × IsRecorded (records_in m) p.fact
    to h =
        let there = form_recorded m.scene m.a m.b m.breakpoints h.form h.listed in
        (ap (λ (q : Placed). q.part) h.fact, subst (λ (q : Placed). IsRecorded (records_in m) q.fact) (sym h.fact) there)

    from : (p.part ≡ part) × IsRecorded (records_in m) p.fact → IsFactIn m part p
    from (here, h) =
        let r = recorded_form m.scene m.a m.b m.breakpoints p.fact h in
        record { form = r.0; listed = r.1; fact = λ t. record { part = here t; fact = r.2 t } }

-- ---- the facts of a merge by computation
abbrev pub merge_facts : MergeState → ℕ → List Placed
merge_facts m part = map (placed_at m.scene part) (forms_of_merge m.scene m.a m.b m.breakpoints)

pub merge_facts_agree : (m : MergeState) (part : ℕ) (p : Placed) → Contains (merge_facts m part) p ↔ IsFactIn m part p
merge_facts_agree m part p = (to, from)
  where
    to : Contains (merge_facts m part) p → IsFactIn m part p
    to c =
        let l = contains_mapped (placed_at m.scene part) (forms_of_merge m.scene m.a m.b m.breakpoints) p c in
        record { form = l.0; listed = (forms_agree m.scene m.a m.b m.breakpoints l.0).0 l.1; fact = l.2 }

    from : IsFactIn m part p → Contains (merge_facts m part) p
    from h =
        let there = (forms_agree m.scene m.a m.b m.breakpoints h.form).1 h.listed in
        let mapped = contains_map (placed_at m.scene part) (forms_of_merge m.scene m.a m.b m.breakpoints) h.form there in
        subst (λ (q : Placed). Contains (merge_facts m part) q) (sym h.fact) mapped
