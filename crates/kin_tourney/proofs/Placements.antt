-- The facts of the nodes xs a list, and what changes with one node.
use Rattle.std.proofs.Common.{◌≡◌, ◌≢◌, ◌⊎◌, inl, inr, refl, sym, ap, ap₂, ◌∙◌, subst, arith, List, [], ◌∷◌, ◌++◌, ℕ, zero, suc, ◌+◌}
use Rattle.std.specs.Option.{option_map, option_to_list}
use Rattle.std.specs.Prelude.{Option, Some, None, Contains, slice_get, ◌↔◌}
use Rattle.std.proofs.lemmas.Option.{same_Some, none-some}
use Rattle.std.proofs.lemmas.Bool.{cases_eq}
use Rattle.kin_algebra.proofs.Members.{contains_none, contains_from_get, contains_cases, contains_tail}
use Rattle.kin_motion.specs.declared.fact.Fact.{Fact}
use Rattle.kin_motion.specs.declared.fact.Placed.{Placed}
use Rattle.kin_motion.specs.Deltas.{Change}
use Rattle.kin_motion.specs.Kinetics.{AreDistinct, HasChanged}
use Rattle.kin_motion.proofs.SlotChanges.{DifferThere, changed_alike, changed_there}
use Rattle.kin_tourney.specs.Standings.{fact_in, placed_of, placed_from}
use Rattle.kin_tourney.specs.Repairs.{IsReported}

-- ---- which facts stand in the list
pub fact_from_placed : (n : ℕ) (fs : List (Option Fact)) (p : Placed) → Contains (placed_from n fs) p → (k : ℕ) × (p.part ≡ n + k) × (fact_in fs k ≡ Some p.fact)
fact_from_placed n [] p h = absurd (contains_none p h)
fact_from_placed n (None ∷ fs) p h = next (fact_from_placed (n + 1) fs p h)
  where
    next : (k : ℕ) × (p.part ≡ n + 1 + k) × (fact_in fs k ≡ Some p.fact) → (k : ℕ) × (p.part ≡ n + k) × (fact_in (None ∷ fs) k ≡ Some p.fact)
    next (k, e, f) = (suc k, omega arith, f)
fact_from_placed n (Some g ∷ fs) p h = at (contains_cases (record { part = n; fact = g }) p (placed_from (n + 1) fs) h) (fact_from_placed (n + 1) fs p)
  where
    at : (record { part = n; fact = g } ≡ p) ⊎ Contains (placed_from (n + 1) fs) p → (Contains (placed_from (n + 1) fs) p → (k : ℕ) × (p.part ≡ n + 1 + k) × (fact_in fs k ≡ Some p.fact)) → (k : ℕ) × (p.part ≡ n + k) × (fact_in (Some g ∷ fs) k ≡ Some p.fact)
    at (inl e) rest = (zero, let k : n ≡ p.part = ap (λ (x : Placed). x.part) e in omega arith, ap (λ (x : Placed). Some x.fact) e)
    at (inr h) rest = next (rest h)
      where
        next : (k : ℕ) × (p.part ≡ n + 1 + k) × (fact_in fs k ≡ Some p.fact) → (k : ℕ) × (p.part ≡ n + k) × (fact_in (Some g ∷ fs) k ≡ Some p.fact)
        next (k, e, f) = (suc k, omega arith, f)

pub placed_from_fact : (n : ℕ) (fs : List (Option Fact)) (k : ℕ) (p : Placed) → p.part ≡ n + k → fact_in fs k ≡ Some p.fact → Contains (placed_from n fs) p
placed_from_fact n [] k p e f = absurd (none-some _ f)
placed_from_fact n (None ∷ fs) zero p e f = absurd (none-some _ f)
placed_from_fact n (Some g ∷ fs) zero p e f = (zero, omega arith, same)
  where
    same : record { part = n; fact = g } ≡ p
    same = let k : n ≡ p.part = omega arith in let m : g ≡ p.fact = same_Some _ _ f in λ t. record { part = k t; fact = m t }
placed_from_fact n (None ∷ fs) (suc k) p e f = placed_from_fact (n + 1) fs k p (omega arith) f
placed_from_fact n (Some g ∷ fs) (suc k) p e f = contains_tail (record { part = n; fact = g }) p (placed_from (n + 1) fs) (placed_from_fact (n + 1) fs k p (omega arith) f)

pub fact_of_placed : (fs : List (Option Fact)) (p : Placed) → Contains (placed_from 0 fs) p → fact_in fs p.part ≡ Some p.fact
fact_of_placed fs p h = at (fact_from_placed 0 fs p h)
  where
    at : (k : ℕ) × (p.part ≡ 0 + k) × (fact_in fs k ≡ Some p.fact) → fact_in fs p.part ≡ Some p.fact
    at (k, e, f) = let same : p.part ≡ k = omega arith in ap (fact_in fs) same ∙ f

pub placed_of_fact : (fs : List (Option Fact)) (p : Placed) → fact_in fs p.part ≡ Some p.fact → Contains (placed_from 0 fs) p
placed_of_fact fs p f = placed_from_fact 0 fs p.part p (omega arith) f

-- ---- each once
late : (n : ℕ) (fs : List (Option Fact)) (f : Fact) (i : ℕ) (p : Placed) → record { part = n; fact = f } ≡ p → slice_get (placed_from (n + 1) fs) i ≡ Some p → ⊥
late n fs f i p e h = at (fact_from_placed (n + 1) fs p (contains_from_get (placed_from (n + 1) fs) i p h))
  where
    at : (k : ℕ) × (p.part ≡ n + 1 + k) × (fact_in fs k ≡ Some p.fact) → ⊥
    at (k, same, f) = let here : n ≡ p.part = ap (λ (x : Placed). x.part) e in absurd (omega arith)

placed_once : (n : ℕ) (fs : List (Option Fact)) → AreDistinct (placed_from n fs)
placed_once n [] i j p e f = absurd (none-some _ e)
placed_once n (None ∷ fs) i j p e f = placed_once (n + 1) fs i j p e f
placed_once n (Some g ∷ fs) zero zero p e f = refl
placed_once n (Some g ∷ fs) zero (suc j) p e f = absurd (late n fs g j p (same_Some _ _ e) f)
placed_once n (Some g ∷ fs) (suc i) zero p e f = absurd (late n fs g i p (same_Some _ _ f) e)
placed_once n (Some g ∷ fs) (suc i) (suc j) p e f = ap suc (placed_once (n + 1) fs i j p e f)

pub placed_facts_once : (fs : List (Option Fact)) → AreDistinct (placed_from 0 fs)
placed_facts_once fs = placed_once 0 fs

-- ---- one node's fact changes
-- the fact of a node, in its part
abbrev placed_at : ℕ → Option Fact → Option Placed
placed_at node u = option_map (λ (f : Fact). record { part = node; fact = f }) u

placed_fact : (node : ℕ) (u : Option Fact) (p : Placed) → placed_at node u ≡ Some p → (f : Fact) × (u ≡ Some f) × (record { part = node; fact = f } ≡ p)
placed_fact node None p e = absurd cc
placed_fact node (Some f) p e = (f, refl, same_Some _ _ e)

placed_list : (node : ℕ) (u : Option Fact) → option_to_list (placed_at node u) ≡ placed_of node u
placed_list node None = refl
placed_list node (Some f) = refl

-- what a list has at a node
at_node : (fs : List (Option Fact)) (node : ℕ) (u : Option Fact) → fact_in fs node ≡ u → (p : Placed) → p.part ≡ node → Contains (placed_from 0 fs) p ↔ (placed_at node u ≡ Some p)
at_node fs node u is p here = (to, from)
  where
    to : Contains (placed_from 0 fs) p → placed_at node u ≡ Some p
    to c = ap (placed_at node) (sym is ∙ ap (fact_in fs) (sym here) ∙ fact_of_placed fs p c) ∙ ap (λ n. Some (record { part = n; fact = p.fact })) (sym here)

    from : placed_at node u ≡ Some p → Contains (placed_from 0 fs) p
    from e =
        let f = placed_fact node u p e in
        placed_of_fact fs p (ap (fact_in fs) here ∙ is ∙ f.1 ∙ ap (λ (q : Placed). Some q.fact) f.2)

elsewhere : (fs gs : List (Option Fact)) (node : ℕ) → ((v : ℕ) → v ≢ node → fact_in gs v ≡ fact_in fs v) → (p : Placed) → p.part ≢ node → Contains (placed_from 0 fs) p → Contains (placed_from 0 gs) p
elsewhere fs gs node others p n c = placed_of_fact gs p (others p.part n ∙ fact_of_placed fs p c)

-- a report of one node keeps the delta exact
pub changed_on : (start now next : List (Option Fact)) (node : ℕ) (before middle after : Change)
    → HasChanged (placed_from 0 start) (placed_from 0 now) before middle
    → fact_in now node ≡ fact_in start node → ((v : ℕ) → v ≢ node → fact_in next v ≡ fact_in now v)
    → IsReported node (fact_in now node) (fact_in next node) middle after
    → HasChanged (placed_from 0 start) (placed_from 0 next) before after
changed_on start now next node before middle after h untouched others (inl (same, still)) =
    subst (λ (c : Change). HasChanged (placed_from 0 start) (placed_from 0 next) before c) (sym still)
    (changed_alike (placed_from 0 start) (placed_from 0 now) (placed_from 0 next) before middle (λ p. (onward p, back p)) h)
  where
    all : (v : ℕ) → fact_in next v ≡ fact_in now v
    all v = at (cases_eq v node)
      where
        at : (v ≡ node) ⊎ (v ≢ node) → fact_in next v ≡ fact_in now v
        at (inl e) = ap (fact_in next) e ∙ sym same ∙ ap (fact_in now) (sym e)
        at (inr n) = others v n

    onward : (p : Placed) → Contains (placed_from 0 now) p → Contains (placed_from 0 next) p
    onward p c = placed_of_fact next p (all p.part ∙ fact_of_placed now p c)

    back : (p : Placed) → Contains (placed_from 0 next) p → Contains (placed_from 0 now) p
    back p c = placed_of_fact now p (sym (all p.part) ∙ fact_of_placed next p c)
changed_on start now next node before middle after h untouched others (inr (differ, told)) =
    subst (λ (c : Change). HasChanged (placed_from 0 start) (placed_from 0 next) before c)
    (ap₂ (λ (ds bs : List Placed). record { dropped = middle.dropped ++ ds; born = middle.born ++ bs }) (placed_list node (fact_in now node)) (placed_list node (fact_in next node)) ∙ sym told)
    (changed_there (placed_from 0 start) (placed_from 0 now) (placed_from 0 next) (λ p. p.part ≡ node) (placed_at node (fact_in now node)) (placed_at node (fact_in next node)) one_differs before middle h)
  where
    there : (p : Placed) → (placed_at node (fact_in now node) ≡ Some p) ⊎ (placed_at node (fact_in next node) ≡ Some p) → p.part ≡ node
    there p (inl e) = sym (ap (λ (q : Placed). q.part) (placed_fact node (fact_in now node) p e).2)
    there p (inr e) = sym (ap (λ (q : Placed). q.part) (placed_fact node (fact_in next node) p e).2)

    another : (p : Placed) → placed_at node (fact_in now node) ≡ Some p → placed_at node (fact_in next node) ≡ Some p → ⊥
    another p e f =
        let a = placed_fact node (fact_in now node) p e in
        let b = placed_fact node (fact_in next node) p f in
        differ (a.1 ∙ ap (λ (q : Placed). Some q.fact) (a.2 ∙ sym b.2) ∙ sym b.1)

    one_differs : DifferThere (placed_from 0 start) (placed_from 0 now) (placed_from 0 next) (λ p. p.part ≡ node) (placed_at node (fact_in now node)) (placed_at node (fact_in next node))
    one_differs = record {
      decided = λ p. cases_eq p.part node;
      elsewhere = λ p n. (elsewhere now next node others p n, elsewhere next now node (λ v m. sym (others v m)) p n);
      there = there;
      at_first = at_node start node (fact_in now node) (sym untouched);
      at_now = at_node now node (fact_in now node) refl;
      at_next = at_node next node (fact_in next node) refl;
      another = another;
    }
