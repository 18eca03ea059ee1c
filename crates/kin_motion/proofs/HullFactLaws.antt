-- The computed facts of the hull are its facts.
use Rattle.std.proofs.Common.{◌≡◌, ◌⊎◌, inl, inr, sym, ap, ◌∙◌, subst, arith, List, [], ◌∷◌, ◌++◌, ℕ, ◌+◌, ◌*◌, ◌-◌, ◌/◌, ◌^◌, ◌<◌, ◌≤◌, true, false, ◌||◌, nat_eq, map}
use Rattle.std.specs.Prelude.{Contains, filter}
use Rattle.std.proofs.lemmas.List.Elements.{Contains-append_cases}
use Rattle.std.proofs.lemmas.Bool.Decides.{nat_tests}
use Rattle.std.proofs.lemmas.Bool.{and_parts}
use Rattle.kin_algebra.proofs.Members.{contains_none, contains_cases}
use Rattle.kin_motion.specs.declared.form.Form.{Form}
use Rattle.kin_motion.specs.declared.fact.Placed.{Placed}
use Rattle.kin_motion.specs.Numbers.{is_in, IsOnce, IsChain}
use Rattle.kin_motion.specs.Sets.{AreDistinct, ListsExactly}
use Rattle.kin_motion.specs.Scene.{Scene, IsReal, placed_at, reflected}
use Rattle.kin_motion.specs.Tournaments.{is_under}
use Rattle.kin_motion.specs.Chains.{is_left, is_bare, IsUpperChain, upper_chain_of}
use Rattle.kin_motion.specs.Merges.{Half.{A, B}, Half, Breakpoint, breakpoints_of, IsBreakpointList, breakpoint_list, turns_from, slopes_from, forms_of_ends, forms_of_merge, IsMergeForm, merge_forms, points_under, IsNodeForm, node_forms, IsHullFact, hull_facts_of_node, hull_facts}
use Rattle.kin_motion.specs.Agreements.{FitsSize, HullFactsAgree}
use Rattle.kin_motion.proofs.SetLaws.{distinct_none, distinct_append, distinct_mapped_on, exactly_both, exactly_in_words, exactly_mapped, exactly_in_turn}
use Rattle.kin_motion.proofs.RealLaws.{real_line_laws, real_turn_laws}
use Rattle.kin_motion.proofs.SlopeLaws.{real_slope_laws}
use Rattle.kin_motion.proofs.ReflectedLaws.{reflected-real}
use Rattle.kin_motion.proofs.ChainLaws.{one_upper_chain, chain_within}
use Rattle.kin_motion.proofs.Sorting.{sorted-once}
use Rattle.kin_motion.proofs.AgreementLaws.{chain_agrees, kept-members, kept-once}
use Rattle.kin_motion.proofs.NodeLaws.{node_with_slot, not_both_halves}
use Rattle.kin_motion.proofs.BreakpointLaws.{members_of, breakpoints_agree, one_breakpoint_list, chain_of_list, list_distinct}
use Rattle.kin_motion.proofs.CurrentLaws.{forms_agree}
use Rattle.kin_motion.proofs.MergeFormLaws.{lefts, kind, turn_first, turns_distinct, slope_first, slopes_distinct, ends_distinct, ends_kind}
use Rattle.kin_motion.proofs.Proved.{live-once}
use Rattle.kin_motion.proofs.Members.{in_front, in_tail}

-- ---- left points
left_in : (h : Half) (a : List ℕ) (e : Breakpoint) → Contains (breakpoints_of h a) e → is_in e.left a ≡ true
left_in h [] e c = absurd (contains_none e c)
left_in h (i ∷ []) e c = absurd (contains_none e c)
left_in h (i ∷ j ∷ ps) e c = at (contains_cases (record { half = h; left = i; right = j }) e (breakpoints_of h (j ∷ ps)) c) (left_in h (j ∷ ps) e)
  where
    at : (record { half = h; left = i; right = j } ≡ e) ⊎ Contains (breakpoints_of h (j ∷ ps)) e → (Contains (breakpoints_of h (j ∷ ps)) e → is_in e.left (j ∷ ps) ≡ true) → is_in e.left (i ∷ j ∷ ps) ≡ true
    at (inl q) rest = in_front e.left i (j ∷ ps) (ap (λ (x : Breakpoint). x.left) q)
    at (inr k) rest = in_tail e.left i (j ∷ ps) (rest k)

same_left : (h : Half) (a : List ℕ) → IsOnce a → (e f : Breakpoint) → Contains (breakpoints_of h a) e → Contains (breakpoints_of h a) f → e.left ≡ f.left → e ≡ f
same_left h [] o e f c k q = absurd (contains_none e c)
same_left h (i ∷ []) o e f c k q = absurd (contains_none e c)
same_left h (i ∷ j ∷ ps) o e f c k q =
    at (contains_cases (record { half = h; left = i; right = j }) e (breakpoints_of h (j ∷ ps)) c) (contains_cases (record { half = h; left = i; right = j }) f (breakpoints_of h (j ∷ ps)) k)
    (λ l m. same_left h (j ∷ ps) o.1 e f l m q)
  where
    clash : (x y : Breakpoint) → record { half = h; left = i; right = j } ≡ x → Contains (breakpoints_of h (j ∷ ps)) y → x.left ≡ y.left → ⊥
    clash x y p l r =
        let there : is_in i (j ∷ ps) ≡ true = ap (λ n. is_in n (j ∷ ps)) (ap (λ (z : Breakpoint). z.left) p ∙ r) ∙ left_in h (j ∷ ps) y l in
        let g : true ≡ false = sym there ∙ o.0 in cc

    at : (record { half = h; left = i; right = j } ≡ e) ⊎ Contains (breakpoints_of h (j ∷ ps)) e → (record { half = h; left = i; right = j } ≡ f) ⊎ Contains (breakpoints_of h (j ∷ ps)) f
        → (Contains (breakpoints_of h (j ∷ ps)) e → Contains (breakpoints_of h (j ∷ ps)) f → e ≡ f) → e ≡ f
    at (inl p) (inl r) rest = sym p ∙ r
    at (inl p) (inr l) rest = absurd (clash e f p l q)
    at (inr l) (inl p) rest = absurd (clash f e p l (sym q))
    at (inr l) (inr m) rest = rest l m

unfoldable pub AreDisjoint : List ℕ → List ℕ → Type 0
AreDisjoint a b = (i : ℕ) → is_in i a ≡ true → is_in i b ≡ true → ⊥

-- ---- one merge
module _ (s : Scene) (real : IsReal s) where
  lefts_distinct : (a b : List ℕ) (es : List Breakpoint) → IsOnce a → IsOnce b → AreDisjoint a b → IsChain (is_left s) a → IsChain (is_left s) b → IsBreakpointList s a b es → AreDistinct (lefts es)
  unfolding lefts AreDisjoint
  lefts_distinct a b es oa ob apart ca cb l =
      let slopes = real_slope_laws s real in
      distinct_mapped_on (λ (e : Breakpoint). e.left) es
      (λ e f c k q. at e f q (members_of s slopes a b es l e c) (members_of s slopes a b es l f k))
      (list_distinct s slopes es (chain_of_list s slopes a b es ca cb l))
    where
      at : (e f : Breakpoint) → e.left ≡ f.left → Contains (breakpoints_of A a) e ⊎ Contains (breakpoints_of B b) e → Contains (breakpoints_of A a) f ⊎ Contains (breakpoints_of B b) f → e ≡ f
      at e f q (inl c) (inl k) = same_left A a oa e f c k q
      at e f q (inr c) (inr k) = same_left B b ob e f c k q
      at e f q (inl c) (inr k) = absurd (apart f.left (ap (λ n. is_in n a) (sym q) ∙ left_in A a e c) (left_in B b f k))
      at e f q (inr c) (inl k) = absurd (apart e.left (ap (λ n. is_in n a) q ∙ left_in A a f k) (left_in B b e c))

  forms_distinct : (a b : List ℕ) (es : List Breakpoint) → IsOnce a → IsOnce b → AreDistinct (lefts es) → AreDistinct (forms_of_merge s a b es)
  forms_distinct [] b es oa ob d = distinct_none
  forms_distinct (a ∷ as') [] es oa ob d = distinct_none
  forms_distinct (a ∷ as') (b ∷ bs) es oa ob d =
      distinct_append (turns_from a b es ++ slopes_from es) (forms_of_ends s a as' b bs)
      (distinct_append (turns_from a b es) (slopes_from es) (turns_distinct a b es d) (slopes_distinct es d)
      (λ f c k. let p = (turn_first a b es f c).1 in let q = (slope_first es f k).1 in let g : 1 ≡ 2 = sym p ∙ q in omega (arith, g)))
      (ends_distinct s a as' b bs oa ob)
      (λ f c k. not_a_line f (ends_kind s a as' b bs f k) (Contains-append_cases (turns_from a b es) (slopes_from es) f c))
    where
      not_a_line : (f : Form) → kind f ≡ 0 → Contains (turns_from a b es) f ⊎ Contains (slopes_from es) f → ⊥
      not_a_line f z (inl c) = let g : 0 ≡ 1 = sym z ∙ (turn_first a b es f c).1 in omega (arith, g)
      not_a_line f z (inr c) = let g : 0 ≡ 2 = sym z ∙ (slope_first es f c).1 in omega (arith, g)

  chain_once : (set : List ℕ) → IsOnce set → IsOnce (upper_chain_of s set)
  chain_once set o = sorted-once (is_left s) (filter (is_bare s set) set) (kept-once (is_bare s set) set o)

  -- by two upper chains and their breakpoint list the forms are listed exactly
  pub forms_exact : (left right a b : List ℕ) (es : List Breakpoint) → IsUpperChain s left a → IsUpperChain s right b → IsOnce a → IsOnce b → AreDisjoint a b → IsBreakpointList s a b es
      → ListsExactly (forms_of_merge s a b es) (IsMergeForm s left right)
  forms_exact left right a b es ua ub oa ob apart list = record {
    once = forms_distinct a b es oa ob (lefts_distinct a b es oa ob apart ua.rising ub.rising list);
    each = λ f. (to f, from f);
  }
    where
      to : (f : Form) → Contains (forms_of_merge s a b es) f → IsMergeForm s left right f
      to f c = record { a = a; b = b; breakpoints = es; a_chain = ua; b_chain = ub; sorted = list; listed = (forms_agree s a b es f).0 c }

      from : (f : Form) → IsMergeForm s left right f → Contains (forms_of_merge s a b es) f
      from f m =
          let ea : m.a ≡ a = one_upper_chain s (real_line_laws s real) left m.a a m.a_chain ua in
          let eb : m.b ≡ b = one_upper_chain s (real_line_laws s real) right m.b b m.b_chain ub in
          let sorted = subst (λ (xs : List ℕ). IsBreakpointList s xs b m.breakpoints) ea (subst (λ (ys : List ℕ). IsBreakpointList s m.a ys m.breakpoints) eb m.sorted) in
          let ee : m.breakpoints ≡ es = one_breakpoint_list s (real_slope_laws s real) a b m.breakpoints es ua.rising ub.rising sorted list in
          subst (λ (fs : List Breakpoint). Contains (forms_of_merge s a b fs) f) ee
          (subst (λ (xs : List ℕ). Contains (forms_of_merge s xs b m.breakpoints) f) ea (subst (λ (ys : List ℕ). Contains (forms_of_merge s m.a ys m.breakpoints) f) eb ((forms_agree s m.a m.b m.breakpoints f).1 m.listed)))

  pub merge_exact : (left right : List ℕ) → IsOnce left → IsOnce right → AreDisjoint left right → ListsExactly (merge_forms s left right) (IsMergeForm s left right)
  unfolding AreDisjoint
  merge_exact left right ol or apart =
      forms_exact left right (upper_chain_of s left) (upper_chain_of s right) (breakpoint_list s (upper_chain_of s left) (upper_chain_of s right)) left_chain right_chain (chain_once left ol) (chain_once right or)
      (λ i h k. apart i (chain_within s left (upper_chain_of s left) left_chain i h) (chain_within s right (upper_chain_of s right) right_chain i k))
      (breakpoints_agree s (real_slope_laws s real) (real_turn_laws s real) left right (upper_chain_of s left) (upper_chain_of s right) left_chain right_chain)
    where
      left_chain : IsUpperChain s left (upper_chain_of s left)
      left_chain = chain_agrees s (real_line_laws s real) left ol

      right_chain : IsUpperChain s right (upper_chain_of s right)
      right_chain = chain_agrees s (real_line_laws s real) right or

-- ---- nodes
module _ (size : ℕ) (s : Scene) (real : IsReal s) (fits : FitsSize size s) where
  live_under : (v i : ℕ) → is_in i (points_under size s v) ≡ true → (is_in i s.live ≡ true) × (is_under size v i ≡ true)
  live_under v i h = and_parts (is_in i s.live) (is_under size v i) (sym (kept-members (is_under size v) s.live i) ∙ h)

  under_once : (v : ℕ) → IsOnce (points_under size s v)
  under_once v = kept-once (is_under size v) s.live (live-once s real)

  under_apart : (v : ℕ) → AreDisjoint (points_under size s (2 * v)) (points_under size s (2 * v + 1))
  unfolding AreDisjoint
  under_apart v i h k =
      let p = live_under (2 * v) i h in
      let q = live_under (2 * v + 1) i k in
      let some = (node_with_slot size v i (fits i p.0) p.1).0 in
      not_both_halves size (2 ^ size + i) v (omega (arith, some)) p.1 q.1

  pub node_exact : (v : ℕ) → ListsExactly (node_forms size s v) (IsNodeForm size s v)
  node_exact v = merge_exact s real (points_under size s (2 * v)) (points_under size s (2 * v + 1)) (under_once (2 * v)) (under_once (2 * v + 1)) (under_apart v)

  -- a node with a form is an inner node
  pub node_is_inner : (v : ℕ) (f : Form) → IsNodeForm size s v f → (1 ≤ v) × (v < 2 ^ size)
  node_is_inner v f m = at m.a (λ i h. (and_parts (is_in i (points_under size s (2 * v))) (is_bare s (points_under size s (2 * v)) i) (sym (m.a_chain.members i) ∙ h)).0) ((forms_agree s m.a m.b m.breakpoints f).1 m.listed)
    where
      at : (a : List ℕ) → ((i : ℕ) → is_in i a ≡ true → is_in i (points_under size s (2 * v)) ≡ true) → Contains (forms_of_merge s a m.b m.breakpoints) f → (1 ≤ v) × (v < 2 ^ size)
      at [] part c = absurd (contains_none f c)
      at (i ∷ is) part c =
          let p = live_under (2 * v) i (part i (front i is)) in
          node_with_slot size v i (fits i p.0) p.1
        where
          front : (i : ℕ) (is : List ℕ) → is_in i (i ∷ is) ≡ true
          front i is = let same : nat_eq i i ≡ true = grind (arith, nat_tests) in ap (λ t. t || is_in i is) same

-- ---- both trees
pub one_form : (s : Scene) (part : ℕ) (f g : Form) → placed_at s part f ≡ placed_at s part g → f ≡ g
one_form s part f g e = ap (λ (p : Placed). p.fact.form) e

abbrev IsUpperOf : ℕ → Scene → ℕ → Placed → Type 0
IsUpperOf size s v p = (f : Form) × IsNodeForm size s v f × (p ≡ placed_at s (2 * v) f)

abbrev IsLowerOf : ℕ → Scene → ℕ → Placed → Type 0
IsLowerOf size s v p = (f : Form) × IsNodeForm size (reflected s) v f × (p ≡ placed_at s (2 * v + 1) f)

pub part_of : (s : Scene) (part : ℕ) (f : Form) (p : Placed) → p ≡ placed_at s part f → p.part ≡ part
part_of s part f p e = ap (λ (q : Placed). q.part) e

both_exact : (size : ℕ) (s : Scene) → IsReal s → FitsSize size s → (v : ℕ) → ListsExactly (hull_facts_of_node size s v) (λ p. IsUpperOf size s v p ⊎ IsLowerOf size s v p)
both_exact size s real fits v =
    exactly_both (map (placed_at s (2 * v)) (node_forms size s v)) (map (placed_at s (2 * v + 1)) (node_forms size (reflected s) v)) (IsUpperOf size s v) (IsLowerOf size s v)
    (exactly_mapped (placed_at s (2 * v)) (node_forms size s v) (IsNodeForm size s v) (one_form s (2 * v)) (node_exact size s real fits v))
    (exactly_mapped (placed_at s (2 * v + 1)) (node_forms size (reflected s) v) (IsNodeForm size (reflected s) v) (one_form s (2 * v + 1)) (node_exact size (reflected s) (reflected-real s real) fits v))
    (λ p w x. let e = part_of s (2 * v) w.0 p w.2 in let g = part_of s (2 * v + 1) x.0 p x.2 in omega (arith, e, g))

-- the node by the part
node_of : (size : ℕ) (s : Scene) (v : ℕ) (p : Placed) → IsUpperOf size s v p ⊎ IsLowerOf size s v p → p.part / 2 ≡ v
node_of size s v p (inl w) = let e = part_of s (2 * v) w.0 p w.2 in omega (arith, e)
node_of size s v p (inr w) = let e = part_of s (2 * v + 1) w.0 p w.2 in omega (arith, e)

pub hull_facts_agree : HullFactsAgree
hull_facts_agree size s real fits =
    exactly_in_words (hull_facts size s) _ _ (λ p. (to p, from p))
    (exactly_in_turn (hull_facts_of_node size s) (λ v p. IsUpperOf size s v p ⊎ IsLowerOf size s v p) (both_exact size s real fits)
    (λ m n p w x. sym (node_of size s m p w) ∙ node_of size s n p x) 1 (2 ^ size - 1))
  where
    to : (p : Placed) → (n : ℕ) × (1 ≤ n) × (n < 1 + (2 ^ size - 1)) × (IsUpperOf size s n p ⊎ IsLowerOf size s n p) → IsHullFact size s p
    to p (v, h, g, inl w) = inl (record { node = v; form = w.0; merge = w.1; fact = w.2 })
    to p (v, h, g, inr w) = inr (record { node = v; form = w.0; merge = w.1; fact = w.2 })

    from : (p : Placed) → IsHullFact size s p → (n : ℕ) × (1 ≤ n) × (n < 1 + (2 ^ size - 1)) × (IsUpperOf size s n p ⊎ IsLowerOf size s n p)
    from p (inl w) =
        let r = node_is_inner size s real fits w.node w.form w.merge in
        let h : 1 ≤ w.node = r.0 in
        let g : w.node < 2 ^ size = r.1 in
        (w.node, h, omega (arith, g), inl (w.form, w.merge, w.fact))
    from p (inr w) =
        let r = node_is_inner size (reflected s) (reflected-real s real) fits w.node w.form w.merge in
        let h : 1 ≤ w.node = r.0 in
        let g : w.node < 2 ^ size = r.1 in
        (w.node, h, omega (arith, g), inr (w.form, w.merge, w.fact))
