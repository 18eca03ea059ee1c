-- The facts of a tree are those of its nodes, so few of them change where few records are touched.
use Rattle.std.proofs.Common.{◌≡◌, ◌⊎◌, inl, inr, refl, sym, ap, ◌∙◌, subst, arith, List, [], ◌∷◌, ◌++◌, ℕ, zero, suc, ◌+◌, ◌*◌, ◌-◌, ◌^◌, ◌<◌, ◌≤◌, Bool, true, false, cond, not, nat_eq, length}
use Rattle.std.specs.Prelude.{Contains, ◌↔◌, filter, sum_by}
use Rattle.std.proofs.lemmas.Bool.Decides.{nat_tests}
use Rattle.std.proofs.lemmas.List.{length-append}
use Rattle.std.proofs.lemmas.List.Sums.{sum_by-cons}
use Rattle.kin_algebra.proofs.Members.{contains_none, contains_head, contains_tail, contains_cases}
use Rattle.kin_motion.specs.declared.fact.Placed.{Placed}
use Rattle.kin_motion.specs.declared.form.Form.{Form}
use Rattle.kin_motion.specs.Agreements.{FitsSize}
use Rattle.kin_motion.specs.Chains.{IsUpperChain}
use Rattle.kin_motion.specs.Deltas.{Change}
use Rattle.kin_motion.specs.Kinetics.{HasChanged}
use Rattle.kin_motion.specs.Merges.{Breakpoint, IsBreakpointList, IsListedForm, IsMergeForm, IsMergeFact, IsTreeFact, points_under}
use Rattle.kin_motion.specs.Numbers.{numbers_from}
use Rattle.kin_motion.specs.RecordFacts.{MergeState, IsFactIn, IsChanged}
use Rattle.kin_motion.specs.Scene.{Scene, IsReal, placed_at}
use Rattle.kin_motion.specs.Sets.{ListsExactly}
use Rattle.kin_motion.proofs.BreakpointLaws.{one_breakpoint_list}
use Rattle.kin_motion.proofs.ChainLaws.{one_upper_chain}
use Rattle.kin_motion.proofs.ChangeLaws.{IsLost}
use Rattle.kin_motion.proofs.HullFactLaws.{node_is_inner}
use Rattle.kin_motion.proofs.RealLaws.{real_line_laws}
use Rattle.kin_motion.proofs.SlopeLaws.{real_slope_laws}
use Rattle.kin_motion.proofs.SetLaws.{filter-sound, filter-complete, distinct_filter, exactly_both, exactly_in_words}
use Rattle.kin_motion.proofs.TouchedLaws.{few_facts_change, few_facts_are_reported}
use Rattle.kin_hull.specs.RecordSums.{IsStateOf, AreMerges, sum_over_nodes, AreTreeStates, AreFitScenes, AtMostReported, FewTreeFactsAreReported, IsPaidByFacts, FewMergeSigns, FewTreeSigns}

-- ---- the facts of a merge are those of its state
-- a form of the merge of two sets is one of their chains and their list
abbrev IsStateForm : Scene → MergeState → Form → Type 0
IsStateForm s m f = IsListedForm s m.a m.b m.breakpoints f

pub same_form : (s : Scene) (left right : List ℕ) (m : MergeState) (f : Form) → IsReal s → IsUpperChain s left m.a → IsUpperChain s right m.b → IsBreakpointList s m.a m.b m.breakpoints
    → IsMergeForm s left right f → IsStateForm s m f
same_form s left right m f real a_chain b_chain list g =
    let same_a : g.a ≡ m.a = one_upper_chain s (real_line_laws s real) left g.a m.a g.a_chain a_chain in
    let same_b : g.b ≡ m.b = one_upper_chain s (real_line_laws s real) right g.b m.b g.b_chain b_chain in
    let sorted = subst (λ (xs : List ℕ). IsBreakpointList s xs m.b g.breakpoints) same_a (subst (λ (ys : List ℕ). IsBreakpointList s g.a ys g.breakpoints) same_b g.sorted) in
    let same : g.breakpoints ≡ m.breakpoints = one_breakpoint_list s (real_slope_laws s real) m.a m.b g.breakpoints m.breakpoints a_chain.rising b_chain.rising sorted list in
    subst (λ (es : List Breakpoint). IsListedForm s m.a m.b es f) same
    (subst (λ (xs : List ℕ). IsListedForm s xs m.b g.breakpoints f) same_a (subst (λ (ys : List ℕ). IsListedForm s g.a ys g.breakpoints f) same_b g.listed))

-- of a settled merge
pub settled_facts : (m : MergeState) (part : ℕ) (facts : List Placed) → IsStateOf m part facts → ListsExactly facts (IsFactIn m part)
settled_facts m part facts is = exactly_in_words facts (IsMergeFact m.scene m.a m.b part) (IsFactIn m part) (λ p. (to p, from p)) is.settled.exact
  where
    to : (p : Placed) → IsMergeFact m.scene m.a m.b part p → IsFactIn m part p
    to p f = record { form = f.form; listed = same_form m.scene m.a m.b m f.form is.real is.settled.a_chain is.settled.b_chain is.sorted f.merge; fact = f.fact }

    from : (p : Placed) → IsFactIn m part p → IsMergeFact m.scene m.a m.b part p
    from p i = record {
      form = i.form;
      merge = record { a = m.a; b = m.b; breakpoints = m.breakpoints; a_chain = is.settled.a_chain; b_chain = is.settled.b_chain; sorted = is.sorted; listed = i.listed };
      fact = i.fact;
    }

-- of a node
module _ (size : ℕ) (s : Scene) (real : IsReal s) (fits : FitsSize size s) (merges : ℕ → MergeState) (are : AreMerges size s merges) where
  pub inner : (p : Placed) → IsTreeFact size s p → (1 ≤ p.part) × (p.part < 2 ^ size)
  inner p f = node_is_inner size s real fits p.part f.form f.merge

  pub in_state : (p : Placed) → IsTreeFact size s p → IsFactIn (merges p.part) p.part p
  in_state p f =
      let state = merges p.part in
      let at = inner p f in
      let here = are p.part at.0 at.1 in
      let listed = same_form s (points_under size s (2 * p.part)) (points_under size s (2 * p.part + 1)) state f.form real here.a_chain here.b_chain here.sorted f.merge in
      record {
        form = f.form;
        listed = subst (λ (q : Scene). IsListedForm q state.a state.b state.breakpoints f.form) (sym here.scene) listed;
        fact = subst (λ (q : Scene). p ≡ placed_at q p.part f.form) (sym here.scene) f.fact;
      }

  pub from_state : (p : Placed) → 1 ≤ p.part → p.part < 2 ^ size → IsFactIn (merges p.part) p.part p → IsTreeFact size s p
  from_state p low high i =
      let state = merges p.part in
      let here = are p.part low high in
      record {
        form = i.form;
        merge = record {
          a = state.a;
          b = state.b;
          breakpoints = state.breakpoints;
          a_chain = here.a_chain;
          b_chain = here.b_chain;
          sorted = here.sorted;
          listed = subst (λ (q : Scene). IsListedForm q state.a state.b state.breakpoints i.form) here.scene i.listed;
        };
        fact = subst (λ (q : Scene). p ≡ placed_at q p.part i.form) here.scene i.fact;
      }

-- ---- a list is no longer than all its parts together
abbrev pub is_part : ℕ → Placed → Bool
is_part n p = nat_eq p.part n

sum_more : (f g : ℕ → ℕ) (ns : List ℕ) → ((n : ℕ) → Contains ns n → f n ≤ g n) → sum_by f ns ≤ sum_by g ns
sum_more f g [] k = omega arith
sum_more f g (n ∷ ns) k = let here = k n (contains_head n ns) in let rest = sum_more f g ns (λ m c. k m (contains_tail n m ns c)) in let one = sum_by-cons f n ns in let other = sum_by-cons g n ns in omega (arith, here, rest, one, other)

-- a filter keeps no more of fewer
fewer : (keep test : Placed → Bool) (xs : List Placed) → length (filter test (filter keep xs)) ≤ length (filter test xs)
fewer keep test [] = omega arith
fewer keep test (x ∷ xs) = at (keep x) (fewer keep test xs)
  where
    also : (c : Bool) → length (filter test (filter keep xs)) ≤ length (filter test xs) → length (cond c (x ∷ filter test (filter keep xs)) (filter test (filter keep xs))) ≤ length (cond c (x ∷ filter test xs) (filter test xs))
    also true k = omega (arith, k)
    also false k = k

    more : (c : Bool) → length (filter test xs) ≤ length (cond c (x ∷ filter test xs) (filter test xs))
    more true = omega arith
    more false = omega arith

    at : (b : Bool) → length (filter test (filter keep xs)) ≤ length (filter test xs) → length (filter test (cond b (x ∷ filter keep xs) (filter keep xs))) ≤ length (filter test (x ∷ xs))
    at true k = also (test x) k
    at false k = let m = more (test x) in omega (arith, k, m)

pub split : (test : Placed → Bool) (xs : List Placed) → length xs ≡ length (filter test xs) + length (filter (λ x. not (test x)) xs)
split test [] = omega arith
split test (x ∷ xs) = at (test x) (split test xs)
  where
    at : (b : Bool) → length xs ≡ length (filter test xs) + length (filter (λ x. not (test x)) xs)
        → length (x ∷ xs) ≡ length (cond b (x ∷ filter test xs) (filter test xs)) + length (cond (not b) (x ∷ filter (λ x. not (test x)) xs) (filter (λ x. not (test x)) xs))
    at true k = omega (arith, k)
    at false k = omega (arith, k)

other_part : (n : ℕ) (ns : List ℕ) (p : Placed) → Contains (n ∷ ns) p.part → not (is_part n p) ≡ true → Contains ns p.part
other_part n ns p c out = at (contains_cases n p.part ns c)
  where
    at : (n ≡ p.part) ⊎ Contains ns p.part → Contains ns p.part
    at (inl e) = absurd (let yes : nat_eq p.part n ≡ true = grind (arith, e, nat_tests) in let no : not (nat_eq p.part n) ≡ false = ap not yes in let clash : false ≡ true = sym no ∙ out in cc)
    at (inr k) = k

pub in_parts : (ns : List ℕ) (xs : List Placed) → ((p : Placed) → Contains xs p → Contains ns p.part) → length xs ≤ sum_by (λ n. length (filter (is_part n) xs)) ns
in_parts [] [] k = omega arith
in_parts [] (x ∷ xs) k = absurd (contains_none x.part (k x (contains_head x xs)))
in_parts (n ∷ ns) xs k =
    let others = filter (λ p. not (is_part n p)) xs in
    let rest = in_parts ns others (λ p c. let has = filter-sound (λ q. not (is_part n q)) xs p c in other_part n ns p (k p has.0) has.1) in
    let less = sum_more (λ m. length (filter (is_part m) others)) (λ m. length (filter (is_part m) xs)) ns (λ m c. fewer (λ p. not (is_part n p)) (is_part m) xs) in
    let both = split (is_part n) xs in
    let sum = sum_by-cons (λ m. length (filter (is_part m) xs)) n ns in
    omega (arith, rest, less, both, sum)

in_numbers : (a n v : ℕ) → a ≤ v → v < a + n → Contains (numbers_from a n) v
in_numbers a zero v low high = absurd (omega (arith, low, high))
in_numbers a (suc n) v low high = at (nat_eq a v) refl (λ l. in_numbers (a + 1) n v l (omega (arith, high)))
  where
    at : (b : Bool) → nat_eq a v ≡ b → (a + 1 ≤ v → Contains (numbers_from (a + 1) n) v) → Contains (a ∷ numbers_from (a + 1) n) v
    at true e rest = let same : a ≡ v = grind (arith, e, nat_tests) in subst (λ (x : ℕ). Contains (a ∷ numbers_from (a + 1) n) x) same (contains_head a (numbers_from (a + 1) n))
    at false e rest = let more : a + 1 ≤ v = grind (arith, e, low, nat_tests) in contains_tail a v (numbers_from (a + 1) n) (rest more)

numbers_within : (a n v : ℕ) → Contains (numbers_from a n) v → (a ≤ v) × (v < a + n)
numbers_within a zero v c = absurd (contains_none v c)
numbers_within a (suc n) v c = at (contains_cases a v (numbers_from (a + 1) n) c) (numbers_within (a + 1) n v)
  where
    at : (a ≡ v) ⊎ Contains (numbers_from (a + 1) n) v → (Contains (numbers_from (a + 1) n) v → (a + 1 ≤ v) × (v < a + 1 + n)) → (a ≤ v) × (v < a + suc n)
    at (inl e) rest = (omega (arith, e), omega (arith, e))
    at (inr k) rest = let b = rest k in let l = b.0 in let h = b.1 in (omega (arith, l), omega (arith, h))

-- ---- two states of a tree
-- a fact of the tree in one of two scenes alone
abbrev pub IsTreeChange : ℕ → Scene → Scene → Placed → Type 0
IsTreeChange size v w p = (IsTreeFact size v p × ¬ (IsTreeFact size w p)) ⊎ (IsTreeFact size w p × ¬ (IsTreeFact size v p))

pub few_tree_facts_change : (size : ℕ) (v w : Scene) (touched : ℕ → ℕ) (changed : List Placed) → AreFitScenes size v w → AreTreeStates size v w touched → ListsExactly changed (IsTreeChange size v w)
    → length changed ≤ 3 * sum_over_nodes size touched
few_tree_facts_change size v w touched changed fit states exact =
    let nodes = numbers_from 1 (2 ^ size - 1) in
    let most = in_parts nodes changed (λ p c. node_of p ((exact.each p).0 c)) in
    let few = sum_more (λ n. length (filter (is_part n) changed)) (λ n. 3 * touched n) nodes
    (λ n c. let b = within n c in few_facts_change (states.old n) (states.new n) n (touched n) (filter (is_part n) changed) (at_node n b.0 b.1) (states.counts n b.0 b.1)) in
    let three = times_three touched nodes in
    omega (arith, most, few, three)
  where
    times_three : (f : ℕ → ℕ) (ns : List ℕ) → sum_by (λ n. 3 * f n) ns ≡ 3 * sum_by f ns
    times_three f [] = omega arith
    times_three f (n ∷ ns) = let rest = times_three f ns in let one = sum_by-cons (λ m. 3 * f m) n ns in let other = sum_by-cons f n ns in omega (arith, rest, one, other)

    within : (n : ℕ) → Contains (numbers_from 1 (2 ^ size - 1)) n → (1 ≤ n) × (n < 2 ^ size)
    within n c = let b = numbers_within 1 (2 ^ size - 1) n c in let l = b.0 in let h = b.1 in (l, omega (arith, l, h))

    bounds : (p : Placed) → IsTreeChange size v w p → (1 ≤ p.part) × (p.part < 2 ^ size)
    bounds p (inl (f, n)) = inner size v fit.old_real fit.old_fits states.old states.old_merges p f
    bounds p (inr (f, n)) = inner size w fit.new_real fit.new_fits states.new states.new_merges p f

    node_of : (p : Placed) → IsTreeChange size v w p → Contains (numbers_from 1 (2 ^ size - 1)) p.part
    node_of p c = let b = bounds p c in let l = b.0 in let h = b.1 in in_numbers 1 (2 ^ size - 1) p.part l (omega (arith, l, h))

    old_in : (p : Placed) → IsTreeFact size v p → IsFactIn (states.old p.part) p.part p
    old_in p f = in_state size v fit.old_real fit.old_fits states.old states.old_merges p f

    new_in : (p : Placed) → IsTreeFact size w p → IsFactIn (states.new p.part) p.part p
    new_in p f = in_state size w fit.new_real fit.new_fits states.new states.new_merges p f

    old_from : (p : Placed) → 1 ≤ p.part → p.part < 2 ^ size → IsFactIn (states.old p.part) p.part p → IsTreeFact size v p
    old_from p l h i = from_state size v fit.old_real fit.old_fits states.old states.old_merges p l h i

    new_from : (p : Placed) → 1 ≤ p.part → p.part < 2 ^ size → IsFactIn (states.new p.part) p.part p → IsTreeFact size w p
    new_from p l h i = from_state size w fit.new_real fit.new_fits states.new states.new_merges p l h i

    to : (p : Placed) → 1 ≤ p.part → p.part < 2 ^ size → IsTreeChange size v w p → IsChanged (states.old p.part) (states.new p.part) p.part p
    to p l h (inl (f, n)) = inl (old_in p f, λ g. n (new_from p l h g))
    to p l h (inr (f, n)) = inr (new_in p f, λ g. n (old_from p l h g))

    from : (p : Placed) → 1 ≤ p.part → p.part < 2 ^ size → IsChanged (states.old p.part) (states.new p.part) p.part p → IsTreeChange size v w p
    from p l h (inl (f, n)) = inl (old_from p l h f, λ g. n (new_in p g))
    from p l h (inr (f, n)) = inr (new_from p l h f, λ g. n (old_in p g))

    part_is : (n : ℕ) (p : Placed) → IsChanged (states.old n) (states.new n) n p → p.part ≡ n
    part_is n p (inl (f, k)) = ap (λ (q : Placed). q.part) f.fact
    part_is n p (inr (f, k)) = ap (λ (q : Placed). q.part) f.fact

    at_node : (n : ℕ) → 1 ≤ n → n < 2 ^ size → ListsExactly (filter (is_part n) changed) (IsChanged (states.old n) (states.new n) n)
    at_node n low high = record {
      once = distinct_filter (is_part n) changed exact.once;
      each = λ p. (
        λ c.
            let has = filter-sound (is_part n) changed p c in
            let is : p.part ≡ n = grind (arith, has.1, nat_tests) in
            let l : 1 ≤ p.part = omega (arith, is, low) in
            let h : p.part < 2 ^ size = subst (λ (m : ℕ). m < 2 ^ size) (sym is) high in
            subst (λ (m : ℕ). IsChanged (states.old m) (states.new m) m p) is (to p l h ((exact.each p).0 has.0)),
        λ c.
            let is = part_is n p c in
            let l : 1 ≤ p.part = omega (arith, is, low) in
            let h : p.part < 2 ^ size = subst (λ (m : ℕ). m < 2 ^ size) (sym is) high in
            let yes : nat_eq p.part n ≡ true = grind (arith, is, nat_tests) in
            filter-complete (is_part n) changed p ((exact.each p).1 (from p l h (subst (λ (m : ℕ). IsChanged (states.old m) (states.new m) m p) (sym is) c))) yes,
      );
    }

-- ---- what is reported
-- the facts that one list alone has, by what the lists are of
module _ (old_facts new_facts : List Placed) (IsOld IsNew : Placed → Type 0) (was : ListsExactly old_facts IsOld) (is : ListsExactly new_facts IsNew) where
  abbrev IsEither : Placed → Type 0
  IsEither p = (IsOld p × ¬ (IsNew p)) ⊎ (IsNew p × ¬ (IsOld p))

  either : (p : Placed) → (IsLost old_facts new_facts p ⊎ IsLost new_facts old_facts p) ↔ IsEither p
  either p = (to, from)
    where
      to : IsLost old_facts new_facts p ⊎ IsLost new_facts old_facts p → IsEither p
      to (inl (c, n)) = inl ((was.each p).0 c, λ f. n ((is.each p).1 f))
      to (inr (c, n)) = inr ((is.each p).0 c, λ f. n ((was.each p).1 f))

      from : IsEither p → IsLost old_facts new_facts p ⊎ IsLost new_facts old_facts p
      from (inl (f, n)) = inl ((was.each p).1 f, λ c. n ((is.each p).0 c))
      from (inr (f, n)) = inr ((is.each p).1 f, λ c. n ((was.each p).0 c))

  -- one list has all that is reported, and is as long
  pub reported : (before after : Change) → HasChanged old_facts new_facts before after
      → (all : List Placed) × ListsExactly all IsEither × (length after.dropped + length after.born ≡ length before.dropped + length before.born + length all)
  reported before after report =
      let both = exactly_both report.dropped.more report.born.more _ _ report.dropped.exactly report.born.exactly (λ p c k. k.1 c.0) in
      let sum = length-append report.dropped.more report.born.more in
      let dropped = ap length report.dropped.joined ∙ length-append before.dropped report.dropped.more in
      let born = ap length report.born.joined ∙ length-append before.born report.born.more in
      (report.dropped.more ++ report.born.more, exactly_in_words (report.dropped.more ++ report.born.more) _ IsEither either both, omega (arith, sum, dropped, born))

pub few_tree_facts_are_reported : FewTreeFactsAreReported
few_tree_facts_are_reported size v w touched old_facts new_facts before after fit states was is report =
    let r = reported old_facts new_facts (IsTreeFact size v) (IsTreeFact size w) was is before after report in
    let few = few_tree_facts_change size v w touched r.0 fit states r.1 in
    let sum = r.2 in
    omega (arith, few, sum)

-- ---- signs
-- reports only grow, so what is paid by facts is paid by what is reported
pub paid_by_records : (old_facts new_facts : List Placed) (before after : Change) (n asked : ℕ) → HasChanged old_facts new_facts before after → AtMostReported before after (3 * n) → IsPaidByFacts before after asked
    → asked ≤ 15 * n
paid_by_records old_facts new_facts before after n asked report few paid =
    let dropped = ap length report.dropped.joined ∙ length-append before.dropped report.dropped.more in
    let born = ap length report.born.joined ∙ length-append before.born report.born.more in
    omega (arith, few, paid, dropped, born)

pub few_merge_signs : FewMergeSigns
few_merge_signs old new part n asked old_facts new_facts before after was is report count paid =
    paid_by_records old_facts new_facts before after n asked report
    (few_facts_are_reported old new part n old_facts new_facts before after (settled_facts old part old_facts was) (settled_facts new part new_facts is) report count) paid

pub few_tree_signs : FewTreeSigns
few_tree_signs size asked v w touched old_facts new_facts before after fit states was is report paid =
    paid_by_records old_facts new_facts before after (sum_over_nodes size touched) asked report (few_tree_facts_are_reported size v w touched old_facts new_facts before after fit states was is report) paid
