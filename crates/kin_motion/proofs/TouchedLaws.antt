-- A record of a merge has three facts at most, so few facts change where few records are touched.
use Rattle.std.proofs.Common.{◌≡◌, ◌⊎◌, inl, inr, sym, ap, ◌∙◌, subst, arith, List, [], ◌∷◌, ◌++◌, ℕ, ◌≤◌, Bool, true, false, cond, map, length, Option, Some, None, pos}
use Rattle.std.specs.Prelude.{Contains, flat_map}
use Rattle.std.proofs.lemmas.List.{length-append, length-map}
use Rattle.kin_algebra.proofs.Members.{contains_none, contains_cases}
use Rattle.kin_motion.specs.declared.form.Form.TheVariants.{Line}
use Rattle.kin_motion.specs.declared.fact.Fact.{Fact}
use Rattle.kin_motion.specs.declared.fact.Placed.{Placed}
use Rattle.kin_motion.specs.Scene.{Scene, x_sign, fact_at}
use Rattle.kin_motion.specs.Chains.{is_zero}
use Rattle.kin_motion.specs.Merges.{Half.{A, B}, Breakpoint, is_of, slope_form, current_after, slope_between, end_forms, last_of}
use Rattle.kin_motion.specs.Records.{Record, facts_at, slope_before, slope_behind, inner_records, records_of}
use Rattle.kin_motion.specs.RecordFacts.{MergeState, IsFactIn, IsChanged, records_in, facts_of_record, FewFactsChange, FewFactsAreReported}
use Rattle.kin_motion.proofs.RecordLaws.{first_forms, first_record, later_records, left_end, right_end, inner, facts_are_recorded}
use Rattle.kin_motion.proofs.SetLaws.{contains_map, exactly_both, exactly_in_words}
use Rattle.kin_motion.proofs.ChangeLaws.{IsLost}
use Rattle.kin_motion.proofs.SetSizes.{no_longer, contains_joined, length_joined}

module _ (s : Scene) where
  -- ---- a record has at most three facts
  one_slope : (e f : Breakpoint) → length (slope_between e f) ≤ 1
  one_slope e f = at (is_of e.half f.half)
    where
      at : (t : Bool) → length (cond t [] (slope_form e f ∷ [])) ≤ 1
      at true = omega arith
      at false = omega arith

  one_before : (before : Option Breakpoint) (e : Breakpoint) → length (slope_before before e) ≤ 1
  one_before None e = omega arith
  one_before (Some d) e = one_slope d e

  one_behind : (e : Breakpoint) (es : List Breakpoint) → length (slope_behind e es) ≤ 1
  one_behind e [] = omega arith
  one_behind e (f ∷ fs) = one_slope e f

  three_at_first : (a b : ℕ) (before : Option Breakpoint) (e : Breakpoint) (es : List Breakpoint) → length (facts_at s (first_forms a b before e es)) ≤ 3
  three_at_first a b before e es =
      let same = length-map (first_forms a b before e es) (fact_at s) in
      let both = length-append (slope_before before e) (slope_behind e es) in
      let x = one_before before e in
      let y = one_behind e es in
      omega (arith, same, both, x, y)

  three_at_end : (a b : ℕ) → length (facts_at s (end_forms s a b)) ≤ 3
  three_at_end a b = let same = length-map (end_forms s a b) (fact_at s) in let few = at (is_zero (x_sign s a b)) in omega (arith, same, few)
    where
      at : (t : Bool) → length (cond t (Line (pos 0) (pos 1) (pos 0) a b ∷ []) []) ≤ 1
      at true = omega arith
      at false = omega arith

  three_inside : (a b : ℕ) (before : Option Breakpoint) (es : List Breakpoint) (r : Record)
      → Contains (inner_records s a b before es) r → length (facts_of_record r) ≤ 3
  three_inside a b before [] r c = absurd (contains_none r c)
  three_inside a b before (e ∷ es) r c =
      at (contains_cases (first_record s a b before e es) r (later_records s a b e es) c)
      (three_inside (current_after A e a) (current_after B e b) (Some e) es r)
    where
      at : (first_record s a b before e es ≡ r) ⊎ Contains (later_records s a b e es) r
          → (Contains (later_records s a b e es) r → length (facts_of_record r) ≤ 3) → length (facts_of_record r) ≤ 3
      at (inl q) rest = subst (λ (x : Record). length (facts_of_record x) ≤ 3) q (three_at_first a b before e es)
      at (inr k) rest = rest k

  three_facts : (a b : List ℕ) (es : List Breakpoint) (r : Record) → Contains (records_of s a b es) r → length (facts_of_record r) ≤ 3
  three_facts [] b es r c = absurd (contains_none r c)
  three_facts (a ∷ as') [] es r c = absurd (contains_none r c)
  three_facts (a ∷ as') (b ∷ bs) es r c = left (contains_cases (left_end s a as' b bs es) r (right_end s a as' b bs es ∷ inner s a as' b bs es) c)
    where
      right : (right_end s a as' b bs es ≡ r) ⊎ Contains (inner s a as' b bs es) r → length (facts_of_record r) ≤ 3
      right (inl q) = subst (λ (x : Record). length (facts_of_record x) ≤ 3) q (three_at_end (last_of a as') (last_of b bs))
      right (inr k) = three_inside a b None es r k

      left : (left_end s a as' b bs es ≡ r) ⊎ Contains (right_end s a as' b bs es ∷ inner s a as' b bs es) r → length (facts_of_record r) ≤ 3
      left (inl q) = subst (λ (x : Record). length (facts_of_record x) ≤ 3) q (three_at_end a b)
      left (inr k) = right (contains_cases (right_end s a as' b bs es) r (inner s a as' b bs es) k)

-- ---- two states
-- a fact in the part
abbrev placed : ℕ → Fact → Placed
placed part f = record { part = part; fact = f }

-- the facts of these records in the part
abbrev all_placed : ℕ → List Record → List Placed
all_placed part rs = map (placed part) (flat_map facts_of_record rs)

is_placed : (part : ℕ) (rs : List Record) (p : Placed) (r : Record) → p.part ≡ part → Contains rs r → Contains (facts_of_record r) p.fact
    → Contains (all_placed part rs) p
is_placed part rs p r e c h =
    let same : placed part p.fact ≡ p = ap (λ n. placed n p.fact) (sym e) in
    let joined = contains_joined facts_of_record rs r p.fact c h in
    subst (λ (q : Placed). Contains (all_placed part rs) q) same (contains_map (placed part) (flat_map facts_of_record rs) p.fact joined)

-- a record that the first of two states alone has
abbrev IsAlone : MergeState → MergeState → Record → Type 0
IsAlone old new r = Contains (records_in old) r × ¬ (Contains (records_in new) r)

-- a fact that it alone has is in such a record
alone : (old new : MergeState) (part : ℕ) (p : Placed) → IsFactIn old part p → ¬ (IsFactIn new part p)
    → (p.part ≡ part) × ((r : Record) × IsAlone old new r × Contains (facts_of_record r) p.fact)
alone old new part p f n =
    let (here, (r, in_old, has)) = (facts_are_recorded old part p).0 f in
    (here, (r, (in_old, λ in_new. n ((facts_are_recorded new part p).1 (here, (r, in_new, has)))), has))

pub few_facts_change : FewFactsChange
few_facts_change old new part n changed exact (touched, lists, count) =
    let few = no_longer changed (all_placed part touched) exact.once (λ p c. there p ((exact.each p).0 c)) in
    let same = length-map (flat_map facts_of_record touched) (placed part) in
    let most = length_joined facts_of_record 3 touched (λ r c. three r ((lists.each r).0 c)) in
    omega (arith, few, same, most, count)
  where
    three : (r : Record) → IsAlone old new r ⊎ IsAlone new old r → length (facts_of_record r) ≤ 3
    three r (inl c) = three_facts old.scene old.a old.b old.breakpoints r c.0
    three r (inr c) = three_facts new.scene new.a new.b new.breakpoints r c.0

    there : (p : Placed) → IsChanged old new part p → Contains (all_placed part touched) p
    there p (inl (f, n)) = let r = alone old new part p f n in is_placed part touched p r.1.0 r.0 ((lists.each r.1.0).1 (inl r.1.1)) r.1.2
    there p (inr (f, n)) = let r = alone new old part p f n in is_placed part touched p r.1.0 r.0 ((lists.each r.1.0).1 (inr r.1.1)) r.1.2

pub few_facts_are_reported : FewFactsAreReported
few_facts_are_reported old new part n old_facts new_facts before after was is report count =
    let all = report.dropped.more ++ report.born.more in
    let both = exactly_both report.dropped.more report.born.more _ _ report.dropped.exactly report.born.exactly (λ p c k. k.1 c.0) in
    let few = few_facts_change old new part n all (exactly_in_words all _ (IsChanged old new part) (λ p. (to p, from p)) both) count in
    let sum = length-append report.dropped.more report.born.more in
    let dropped = ap length report.dropped.joined ∙ length-append before.dropped report.dropped.more in
    let born = ap length report.born.joined ∙ length-append before.born report.born.more in
    omega (arith, few, sum, dropped, born)
  where
    to : (p : Placed) → IsLost old_facts new_facts p ⊎ IsLost new_facts old_facts p → IsChanged old new part p
    to p (inl (c, n)) = inl ((was.each p).0 c, λ f. n ((is.each p).1 f))
    to p (inr (c, n)) = inr ((is.each p).0 c, λ f. n ((was.each p).1 f))

    from : (p : Placed) → IsChanged old new part p → IsLost old_facts new_facts p ⊎ IsLost new_facts old_facts p
    from p (inl (f, n)) = inl ((was.each p).1 f, λ c. n ((is.each p).0 c))
    from p (inr (f, n)) = inr ((is.each p).1 f, λ c. n ((was.each p).0 c))
