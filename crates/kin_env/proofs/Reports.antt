-- What a repair reports, node by node.
use Rattle.std.proofs.Common.{◌≡◌, ◌≢◌, ◌⊎◌, inl, inr, refl, sym, ap, ◌∙◌, subst, arith, List, ℕ, ◌+◌, ◌-◌, ◌^◌, ◌<◌, ◌≤◌, Bool, true, false, nat_lt}
use Rattle.std.specs.Prelude.{Option, Some, None, Contains, ◌↔◌, flat_map}
use Rattle.std.proofs.lemmas.Bool.{cases_eq}
use Rattle.std.proofs.lemmas.Bool.Decides.{nat_tests}
use Rattle.kin_algebra.proofs.Members.{contains_none}
use Rattle.kin_motion.specs.declared.fact.Placed.{Placed}
use Rattle.kin_motion.specs.Deltas.{Change}
use Rattle.kin_motion.specs.Kinetics.{HasChanged}
use Rattle.kin_motion.specs.Numbers.{numbers_from}
use Rattle.kin_motion.specs.Sets.{AreDistinct, ListsExactly}
use Rattle.kin_motion.proofs.ChangeLaws.{IsLost, nothing_changed}
use Rattle.kin_motion.proofs.Gains.{gained_both, lost_more}
use Rattle.kin_motion.proofs.SetLaws.{distinct_none, exactly_in_turn}
use Rattle.kin_overlay.specs.Overlays.{Merge}
use Rattle.kin_tourney.specs.declared.doubt.Doubt.TheVariants.{Clear}
use Rattle.kin_tourney.specs.Standings.{doubt_in}
use Rattle.kin_env.specs.declared.node.Node.{Node}
use Rattle.kin_env.specs.declared.branches.Branches.{Branches}
use Rattle.kin_env.specs.Nodes.{facts_with, merge_at, passed_at, chain_at, facts_at}
use Rattle.kin_env.specs.Joints.{IsJoint}
use Rattle.kin_env.specs.Walks.{AreJoined, IsRenewed, tree_facts}

-- ---- the facts of the tree
part_of_merge : (v : ℕ) (o : Option Merge) (xs a b : List ℕ) → IsJoint v o xs a b → (p : Placed) → Contains (facts_with o) p → p.part ≡ v
part_of_merge v None xs a b j p c = absurd (contains_none p c)
part_of_merge v (Some m) xs a b j p c = let f = (j.settled.exact.each p).0 c in ap (λ (q : Placed). q.part) f.fact ∙ j.part

once_of_merge : (v : ℕ) (o : Option Merge) (xs a b : List ℕ) → IsJoint v o xs a b → AreDistinct (facts_with o)
once_of_merge v None xs a b j = distinct_none
once_of_merge v (Some m) xs a b j = j.settled.exact.once

module _ (size : ℕ) (ns : List Node) (joined : AreJoined size ns) where
  none_there : (v : ℕ) → merge_at ns v ≡ None → (p : Placed) → Contains (facts_at ns v) p → ⊥
  none_there v e p c = contains_none p (subst (λ (o : Option Merge). Contains (facts_with o) p) e c)

  inner_or_none : (v : ℕ) → ((0 < v) × (v < 2 ^ size)) ⊎ (merge_at ns v ≡ None)
  inner_or_none v = at (cases_eq v 0) (nat_lt v (2 ^ size)) refl
    where
      at : (v ≡ 0) ⊎ (v ≢ 0) → (t : Bool) → nat_lt v (2 ^ size) ≡ t → ((0 < v) × (v < 2 ^ size)) ⊎ (merge_at ns v ≡ None)
      at (inl e) t f = inr (ap (merge_at ns) e ∙ joined.no_root)
      at (inr m) true f = inl (omega arith, grind (arith, nat_tests, f))
      at (inr m) false f = inr (joined.leaves v (grind (arith, nat_tests, f)))

  -- a fact of a node stands in its part
  pub part_is : (v : ℕ) (p : Placed) → Contains (facts_at ns v) p → p.part ≡ v
  part_is v p c = at (inner_or_none v)
    where
      at : ((0 < v) × (v < 2 ^ size)) ⊎ (merge_at ns v ≡ None) → p.part ≡ v
      at (inl k) = let i = joined.inner v k.0 k.1 in part_of_merge v (merge_at ns v) (passed_at ns v) i.a i.b i.joint p c
      at (inr e) = absurd (none_there v e p c)

  once_at : (v : ℕ) → AreDistinct (facts_at ns v)
  once_at v = at (inner_or_none v)
    where
      at : ((0 < v) × (v < 2 ^ size)) ⊎ (merge_at ns v ≡ None) → AreDistinct (facts_at ns v)
      at (inl k) = let i = joined.inner v k.0 k.1 in once_of_merge v (merge_at ns v) (passed_at ns v) i.a i.b i.joint
      at (inr e) = subst (λ (o : Option Merge). AreDistinct (facts_with o)) (sym e) distinct_none

  tree_exact : ListsExactly (tree_facts size ns) (λ p. (n : ℕ) × (1 ≤ n) × (n < 1 + (2 ^ size - 1)) × Contains (facts_at ns n) p)
  tree_exact =
      exactly_in_turn (facts_at ns) (λ n p. Contains (facts_at ns n) p) (λ n. record { once = once_at n; each = λ p. ((λ c. c), (λ c. c)) })
      (λ m n p c d. sym (part_is m p c) ∙ part_is n p d) 1 (2 ^ size - 1)

  -- no fact of the tree stands twice
  pub tree_once : AreDistinct (tree_facts size ns)
  tree_once = tree_exact.once

  -- the facts of the tree are those of the nodes, each in its part
  pub in_tree : (p : Placed) → Contains (tree_facts size ns) p ↔ Contains (facts_at ns p.part) p
  in_tree p = (
    λ c. (let w = (tree_exact.each p).0 c in subst (λ v. Contains (facts_at ns v) p) (sym (part_is w.0 p w.3)) w.3),
    λ c. at c (inner_or_none p.part),
  )
    where
      at : Contains (facts_at ns p.part) p → ((0 < p.part) × (p.part < 2 ^ size)) ⊎ (merge_at ns p.part ≡ None) → Contains (tree_facts size ns) p
      at c (inl k) = let lo = k.0 in let hi = k.1 in (tree_exact.each p).1 (p.part, omega arith, omega arith, c)
      at c (inr e) = absurd (none_there p.part e p c)

  -- a fact of the tree stands at an inner node
  pub inner_part : (p : Placed) → Contains (tree_facts size ns) p → (0 < p.part) × (p.part < 2 ^ size)
  inner_part p c = at (inner_or_none p.part)
    where
      at : ((0 < p.part) × (p.part < 2 ^ size)) ⊎ (merge_at ns p.part ≡ None) → (0 < p.part) × (p.part < 2 ^ size)
      at (inl k) = k
      at (inr e) = absurd (none_there p.part e p ((in_tree p).0 c))

-- where each node has the facts that it had, so has the tree
pub tree_same : (size : ℕ) (ns ms : List Node) → ((v : ℕ) → facts_at ms v ≡ facts_at ns v) → tree_facts size ms ≡ tree_facts size ns
tree_same size ns ms h = ap (λ (f : ℕ → List Placed). flat_map f (numbers_from 1 (2 ^ size - 1))) {x = facts_at ms} {y = facts_at ns} (λ i v. h v i)

-- ---- the facts of one part change
module _ (first now next old new : List Placed) (v : ℕ)
    (old_part : (p : Placed) → Contains old p → p.part ≡ v) (new_part : (p : Placed) → Contains new p → p.part ≡ v)
    (elsewhere : (p : Placed) → p.part ≢ v → Contains now p ↔ Contains next p)
    (at_first : (p : Placed) → p.part ≡ v → Contains first p ↔ Contains old p) (at_now : (p : Placed) → p.part ≡ v → Contains now p ↔ Contains old p) (at_next : (p : Placed) → p.part ≡ v → Contains next p ↔ Contains new p) where
  at_part : (p : Placed) → (p.part ≡ v) ⊎ ¬ (p.part ≡ v)
  at_part p = cases_eq p.part v

  dropped_more : (p : Placed) → (IsLost first now p ⊎ IsLost old new p) ↔ IsLost first next p
  dropped_more p =
      lost_more (at_part p) (λ e w. w.1 ((at_now p e).1 ((at_first p e).0 w.0)))
      (λ m. ((λ w. (w.0, λ c. w.1 ((elsewhere p m).1 c))), (λ w. (w.0, λ c. w.1 ((elsewhere p m).0 c)))))
      (λ e w. ((at_first p e).0 w.0, λ c. w.1 ((at_next p e).1 c)))
      (λ w. let e = old_part p w.0 in ((at_first p e).1 w.0, λ c. w.1 ((at_next p e).0 c)))

  born_more : (p : Placed) → (IsLost now first p ⊎ IsLost new old p) ↔ IsLost next first p
  born_more p =
      lost_more (at_part p) (λ e w. w.1 ((at_first p e).1 ((at_now p e).0 w.0)))
      (λ m. ((λ w. ((elsewhere p m).0 w.0, w.1)), (λ w. ((elsewhere p m).1 w.0, w.1))))
      (λ e w. ((at_next p e).0 w.0, λ c. w.1 ((at_first p e).1 c)))
      (λ w. let e = new_part p w.0 in ((at_next p e).1 w.0, λ c. w.1 ((at_first p e).0 c)))

  pub changed_part : (before middle after : Change) → HasChanged first now before middle → HasChanged old new middle after → HasChanged first next before after
  changed_part before middle after g h = record {
    dropped = gained_both before.dropped middle.dropped after.dropped (IsLost first now) (IsLost old new) (IsLost first next) (λ p w x. let e = old_part p x.0 in w.1 ((at_now p e).1 x.0)) dropped_more g.dropped h.dropped;
    born = gained_both before.born middle.born after.born (IsLost now first) (IsLost new old) (IsLost next first) (λ p w x. let e = new_part p x.0 in x.1 ((at_now p e).0 w.0)) born_more g.born h.born;
  }

-- ---- from the start of a repair on
pub record IsReporting (start t : Branches) (before after : Change) : Type 0 where
  pub joined : AreJoined start.size start.nodes.items
  pub same_size : t.size ≡ start.size
  pub same_slots : t.slots.items ≡ start.slots.items
  pub same_merge : (v : ℕ) → doubt_in t.doubts.items v ≢ Clear → merge_at t.nodes.items v ≡ merge_at start.nodes.items v
  pub same_chain : (v : ℕ) → doubt_in t.doubts.items v ≢ Clear → chain_at t.nodes.items v ≡ chain_at start.nodes.items v
  pub changed : HasChanged (tree_facts start.size start.nodes.items) (tree_facts start.size t.nodes.items) before after

pub reporting_starts : (t : Branches) (c : Change) → AreJoined t.size t.nodes.items → IsReporting t t c c
reporting_starts t c joined = record { joined = joined; same_size = refl; same_slots = refl; same_merge = λ v d. refl; same_chain = λ v d. refl; changed = nothing_changed (tree_facts t.size t.nodes.items) c }

-- one node more
pub reporting_on : (start t x : Branches) (before middle after : Change) (v : ℕ) → doubt_in t.doubts.items v ≢ Clear → AreJoined t.size t.nodes.items → AreJoined x.size x.nodes.items
    → IsReporting start t before middle → IsRenewed v t x middle after → IsReporting start x before after
reporting_on start t x before middle after v doubted tj xj h r = record {
  joined = h.joined;
  same_size = r.same_size ∙ h.same_size;
  same_slots = r.same_slots ∙ h.same_slots;
  same_merge = λ u d. merge u d (cases_eq u v);
  same_chain = λ u d. chain u d (cases_eq u v);
  changed = changed_part (tree_facts start.size start.nodes.items) (tree_facts start.size t.nodes.items) (tree_facts start.size x.nodes.items) (facts_at t.nodes.items v) (facts_at x.nodes.items v) v
      (part_is t.size t.nodes.items tj v) (part_is x.size x.nodes.items xj v)
      (λ p m. both p p.part (facts_at x.nodes.items p.part) refl (in_t p) (in_x p) (ap facts_with (sym (r.merge p.part m))))
      (λ p e. through start.nodes.items p e (in_start p) (ap facts_with (sym (h.same_merge v doubted))))
      (λ p e. through t.nodes.items p e (in_t p) refl)
      (λ p e. through x.nodes.items p e (in_x p) refl)
      before middle after h.changed r.changed;
}
  where
    in_start : (p : Placed) → Contains (tree_facts start.size start.nodes.items) p ↔ Contains (facts_at start.nodes.items p.part) p
    in_start = in_tree start.size start.nodes.items h.joined

    in_t : (p : Placed) → Contains (tree_facts start.size t.nodes.items) p ↔ Contains (facts_at t.nodes.items p.part) p
    in_t = in_tree start.size t.nodes.items (subst (λ n. AreJoined n t.nodes.items) h.same_size tj)

    in_x : (p : Placed) → Contains (tree_facts start.size x.nodes.items) p ↔ Contains (facts_at x.nodes.items p.part) p
    in_x = in_tree start.size x.nodes.items (subst (λ n. AreJoined n x.nodes.items) (r.same_size ∙ h.same_size) xj)

    both : (p : Placed) (u : ℕ) (l : List Placed) → facts_at x.nodes.items u ≡ l → {A B : Type 0} → (A ↔ Contains (facts_at t.nodes.items u) p) → (B ↔ Contains l p) → facts_at t.nodes.items u ≡ l → A ↔ B
    both p u l k f g e = (λ a. g.1 (subst (λ (q : List Placed). Contains q p) e (f.0 a)), λ b. f.1 (subst (λ (q : List Placed). Contains q p) (sym e) (g.0 b)))

    through : {A : Type 0} (ns : List Node) {l : List Placed} (p : Placed) → p.part ≡ v → (A ↔ Contains (facts_at ns p.part) p) → facts_at ns v ≡ l → A ↔ Contains l p
    through {A} ns {l} p e f k = (λ a. subst (λ (q : List Placed). Contains q p) k (subst (λ u. Contains (facts_at ns u) p) e (f.0 a)), λ c. f.1 (subst (λ u. Contains (facts_at ns u) p) (sym e) (subst (λ (q : List Placed). Contains q p) (sym k) c)))

    merge : (u : ℕ) → doubt_in x.doubts.items u ≢ Clear → (u ≡ v) ⊎ (u ≢ v) → merge_at x.nodes.items u ≡ merge_at start.nodes.items u
    merge u d (inl e) = absurd (d (ap (doubt_in x.doubts.items) e ∙ r.cleared))
    merge u d (inr m) = r.merge u m ∙ h.same_merge u (λ e. d (r.clear_stays u m e))

    chain : (u : ℕ) → doubt_in x.doubts.items u ≢ Clear → (u ≡ v) ⊎ (u ≢ v) → chain_at x.nodes.items u ≡ chain_at start.nodes.items u
    chain u d (inl e) = absurd (d (ap (doubt_in x.doubts.items) e ∙ r.cleared))
    chain u d (inr m) = r.chain u m ∙ h.same_chain u (λ e. d (r.clear_stays u m e))
