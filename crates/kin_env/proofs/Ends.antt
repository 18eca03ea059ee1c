-- A repair begins after failed facts are given to their nodes, and ends where every node is clear.
use Rattle.std.proofs.Common.{◌≡◌, ◌≢◌, ◌⊎◌, inl, inr, refl, sym, ap, ap₂, ◌∙◌, subst, arith, List, [], ◌∷◌, ◌++◌, ℕ, zero, suc, ◌+◌, ◌-◌, ◌*◌, ◌/◌, ◌^◌, ◌<◌, ◌≤◌, length, Bool, true, false, nat_eq, nat_lt}
use Rattle.std.specs.Prelude.{Option, Contains, IsFalse, slice_index_or, filter, slice_get}
use Rattle.std.proofs.lemmas.Bool.{cases_eq}
use Rattle.std.proofs.lemmas.Bool.Decides.{nat_tests}
use Rattle.std.proofs.lemmas.Option.{slice_get_within, get_or_from_slice_get}
use Rattle.kin_algebra.proofs.Members.{contains_head, get_from_contains}
use Rattle.kin_motion.specs.declared.fact.Placed.{Placed}
use Rattle.kin_motion.specs.Chains.{IsUpperChain}
use Rattle.kin_motion.specs.Edits.{Edit}
use Rattle.kin_motion.specs.Kinetics.{ListsFailing}
use Rattle.kin_motion.specs.Merges.{points_under}
use Rattle.kin_motion.specs.Numbers.{is_in, IsIn}
use Rattle.kin_motion.specs.Scene.{Scene, IsReal, Holds}
use Rattle.kin_motion.proofs.ChainLaws.{one_upper_chain}
use Rattle.kin_motion.proofs.RealLaws.{real_line_laws}
use Rattle.kin_motion.proofs.SetLaws.{filter-sound, filter-complete, distinct_filter}
use Rattle.kin_overlay.specs.Overlays.{Merge}
use Rattle.kin_tourney.specs.declared.doubt.Doubt.{Doubt}
use Rattle.kin_tourney.specs.declared.doubt.Doubt.TheVariants.{Clear, Here}
use Rattle.kin_tourney.specs.Standings.{IsClosed, doubt_in}
use Rattle.kin_tourney.specs.Repairs.{IsDoubted}
use Rattle.kin_tourney.proofs.Doubts.{here_is_doubt}
use Rattle.kin_tourney.proofs.Trees.{all_clear}
use Rattle.kin_env.specs.declared.node.Node.{Node}
use Rattle.kin_env.specs.declared.branches.Branches.{Branches}
use Rattle.kin_env.specs.Nodes.{chain_with, facts_with, merge_from, passed_from, edits_from, failed_from, merge_at, passed_at, chain_at, edits_at, failed_at, facts_at}
use Rattle.kin_env.specs.Joints.{Leads, IsJoint, IsSettledThere, AreSpared}
use Rattle.kin_env.specs.Walks.{slot_in, own_chain, IsShaped, AreJoined, IsInner, IsSound, IsWalked, IsRight, AreRight, AreGiven, IsAtPeace, tree_facts}
use Rattle.kin_chain.proofs.NodeChains.{leaf_right}
use Rattle.kin_env.specs.Halves.{are_halves, right_above}
use Rattle.kin_env.proofs.Idle.{settled_still}
use Rattle.kin_env.proofs.Reports.{in_tree, part_is, tree_same}
use Rattle.kin_env.proofs.Works.{joint_now, live_fits}

-- where merges, chains and the edits below the root are the same, what is true of all nodes is so still
joined_same : (size : ℕ) (ns ms : List Node) → ((v : ℕ) → merge_at ms v ≡ merge_at ns v) → ((v : ℕ) → passed_at ms v ≡ passed_at ns v) → ((v : ℕ) → 1 < v → edits_at ms v ≡ edits_at ns v) → AreJoined size ns → AreJoined size ms
joined_same size ns ms merge passed edits j = record {
  under = λ v i some h. j.under v i some (subst (λ (c : List ℕ). IsIn i c) (chain v) h);
  inner = λ v some low. inner v some (j.inner v some low);
  leaves = λ v high. merge v ∙ j.leaves v high;
  no_root = merge 0 ∙ j.no_root;
}
  where
    chain : (v : ℕ) → chain_at ms v ≡ chain_at ns v
    chain v = ap₂ chain_with (merge v) (passed v)

    leads : (v : ℕ) (a : List ℕ) → 1 < v → Leads (edits_at ns v) a (chain_at ns v) → Leads (edits_at ms v) a (chain_at ms v)
    leads v a big l = subst (λ (es : List Edit). Leads es a (chain_at ms v)) (sym (edits v big)) (subst (λ (c : List ℕ). Leads (edits_at ns v) a c) (sym (chain v)) l)

    inner : (v : ℕ) → 0 < v → IsInner size ns v → IsInner size ms v
    inner v some i = record {
      a = i.a;
      b = i.b;
      a_leads = leads (2 * v) i.a (omega arith) i.a_leads;
      b_leads = leads (2 * v + 1) i.b (omega arith) i.b_leads;
      joint = subst (λ (o : Option Merge). IsJoint v o (passed_at ms v) i.a i.b) (sym (merge v)) (subst (λ (l : List ℕ). IsJoint v (merge_at ns v) l i.a i.b) (sym (passed v)) i.joint);
      b_under = i.b_under;
    }

-- ---- the start
module _ (s : Scene) (real : IsReal s) (t x : Branches) (sound : IsSound t) (shape : IsShaped x) (size_is : x.size ≡ t.size) (slots_is : x.slots.items ≡ t.slots.items)
    (failed : List Placed) (g : AreGiven t.nodes.items x.nodes.items failed) (d : IsDoubted t.doubts.items x.doubts.items failed (length failed))
    (live : (i : ℕ) → is_in i s.live ≡ slot_in t.slots.items i) (spared : Placed → Bool) (are_spared : AreSpared s spared) (failing : ListsFailing (tree_facts t.size t.nodes.items) spared s failed) where
  abbrev ns : List Node
  ns = x.nodes.items

  joined : AreJoined t.size ns
  joined = joined_same t.size t.nodes.items ns g.merge g.passed (λ v big. g.edits v) sound.joined

  quiet : (v : ℕ) → 0 < v → edits_at ns v ≡ []
  quiet v some = g.edits v ∙ sound.quiet v some

  failed_is : (v : ℕ) → 0 < v → failed_at ns v ≡ filter (λ p. nat_eq p.part v) failed
  failed_is v some = g.failed v ∙ ap (λ (l : List Placed). l ++ filter (λ p. nat_eq p.part v) failed) (sound.unfailed v some)

  none_here : (v : ℕ) → doubt_in x.doubts.items v ≢ Here → (l : List Placed) → ((p : Placed) → Contains l p → Contains failed p × (nat_eq p.part v ≡ true)) → l ≡ []
  none_here v n [] h = refl
  none_here v n (p ∷ ps) h =
      let k = h p (contains_head p ps) in
      let w = get_from_contains failed p k.0 in
      let here = d.failed_here w.0 p (slice_get_within failed w.0 p w.1) in
      let same : (slice_index_or failed w.0 p).part ≡ v = ap (λ (q : Placed). q.part) (get_or_from_slice_get failed w.0 p p w.1) ∙ (let e = k.1 in grind (arith, nat_tests, e)) in
      absurd (n (sym (ap (doubt_in x.doubts.items) same) ∙ here))

  unfailed : (v : ℕ) → 0 < v → doubt_in x.doubts.items v ≢ Here → failed_at ns v ≡ []
  unfailed v some n = failed_is v some ∙ none_here v n (filter (λ p. nat_eq p.part v) failed) (λ p c. filter-sound (λ p. nat_eq p.part v) failed p c)

  lists_here : (v : ℕ) → ListsFailing (facts_at ns v) spared s (filter (λ p. nat_eq p.part v) failed)
  lists_here v = record { once = distinct_filter (λ p. nat_eq p.part v) failed failing.once; each = λ p. (to p, from p) }
    where
      at_v : (p : Placed) → p.part ≡ v → (Contains (facts_at t.nodes.items p.part) p → Contains (facts_at ns v) p) × (Contains (facts_at ns v) p → Contains (facts_at t.nodes.items p.part) p)
      at_v p e =
          let same : facts_at ns v ≡ facts_at t.nodes.items p.part = ap facts_with (g.merge v) ∙ ap (facts_at t.nodes.items) (sym e) in
          (λ c. subst (λ (l : List Placed). Contains l p) (sym same) c, λ c. subst (λ (l : List Placed). Contains l p) same c)

      to : (p : Placed) → Contains (filter (λ p. nat_eq p.part v) failed) p → Contains (facts_at ns v) p × IsFalse (spared p) × ¬ (Holds s p.fact)
      to p c =
          let k = filter-sound (λ p. nat_eq p.part v) failed p c in
          let w = (failing.each p).0 k.0 in
          ((at_v p (let e = k.1 in grind (arith, nat_tests, e))).0 ((in_tree t.size t.nodes.items sound.joined p).0 w.0), w.1, w.2)

      from : (p : Placed) → Contains (facts_at ns v) p × IsFalse (spared p) × ¬ (Holds s p.fact) → Contains (filter (λ p. nat_eq p.part v) failed) p
      from p (c, stays, fails) =
          let e : p.part ≡ v = part_is t.size ns joined v p c in
          filter-complete (λ p. nat_eq p.part v) failed p ((failing.each p).1 ((in_tree t.size t.nodes.items sound.joined p).1 ((at_v p e).1 c), stays, fails)) (grind (arith, nat_tests, e))

  lists : (v : ℕ) → 0 < v → ListsFailing (facts_at ns v) spared s (failed_at ns v)
  lists v some = subst (λ (l : List Placed). ListsFailing (facts_at ns v) spared s l) (sym (failed_is v some)) (lists_here v)

  fits : (i : ℕ) → IsIn i s.live → i < 2 ^ t.size
  fits = live_fits s t.size t.slots.items sound.shape.slots_room live

  -- a clear node is as it is in the scene: from the leaves up, by the distance to the last node
  clear_right : (far v : ℕ) → 0 < v → v < 2 * 2 ^ t.size → 2 * 2 ^ t.size ≤ v + far → doubt_in x.doubts.items v ≡ Clear → IsRight s t.size ns v
  clear_right zero v some inside near clear = absurd (omega arith)
  clear_right (suc far) v some inside near clear = at (nat_lt v (2 ^ t.size)) refl (λ h e. clear_right far (2 * v) (omega arith) h (omega arith) e) (λ h e. clear_right far (2 * v + 1) (omega arith) h (omega arith) e)
    where
      at : (b : Bool) → nat_lt v (2 ^ t.size) ≡ b → (2 * v < 2 * 2 ^ t.size → doubt_in x.doubts.items (2 * v) ≡ Clear → IsRight s t.size ns (2 * v))
          → (2 * v + 1 < 2 * 2 ^ t.size → doubt_in x.doubts.items (2 * v + 1) ≡ Clear → IsRight s t.size ns (2 * v + 1)) → IsRight s t.size ns v
      at true e left right =
          let inner : v < 2 ^ t.size = grind (arith, nat_tests, e) in
          let l = left (omega arith) (shape.closed.below (2 * v) (omega arith) (subst (λ u. doubt_in x.doubts.items u ≡ Clear) (let q : v ≡ 2 * v / 2 = omega arith in q) clear)) in
          let r = right (omega arith) (shape.closed.below (2 * v + 1) (omega arith) (subst (λ u. doubt_in x.doubts.items u ≡ Clear) (let q : v ≡ (2 * v + 1) / 2 = omega arith in q) clear)) in
          let joint = joint_now t.size ns joined v some inner (quiet (2 * v) (omega arith)) (quiet (2 * v + 1) (omega arith)) in
          let halves = are_halves s t.size fits v some inner real (chain_at ns (2 * v)) (chain_at ns (2 * v + 1)) l.chain r.chain in
          let none = unfailed v some (λ h. here_is_doubt (sym h ∙ clear)) in
          let now = settled_still s real v (merge_at ns v) (passed_at ns v) (chain_at ns (2 * v)) (chain_at ns (2 * v + 1)) spared halves are_spared joint (subst (λ (q : List Placed). ListsFailing (facts_at ns v) spared s q) none (lists v some)) in
          record { chain = right_above s t.size fits v some inner real (chain_at ns (2 * v)) (chain_at ns (2 * v + 1)) l.chain r.chain (merge_at ns v) (passed_at ns v) joint now; now = now }
      at false e left right =
          let high : 2 ^ t.size ≤ v = grind (arith, nat_tests, e) in
          let same : 2 ^ t.size + (v - 2 ^ t.size) ≡ v = omega arith in
          let is : chain_at ns (2 ^ t.size + (v - 2 ^ t.size)) ≡ own_chain (v - 2 ^ t.size) (slot_in t.slots.items (v - 2 ^ t.size)) =
          ap₂ chain_with (g.merge (2 ^ t.size + (v - 2 ^ t.size))) (g.passed (2 ^ t.size + (v - 2 ^ t.size)))
          ∙ sound.clear_leaves (v - 2 ^ t.size) (omega arith) (d.kept (2 ^ t.size + (v - 2 ^ t.size)) (ap (doubt_in x.doubts.items) same ∙ clear)) in
          record {
            chain = subst (λ u. IsUpperChain s (points_under t.size s u) (chain_at ns u)) same
                (subst (λ (l : List ℕ). IsUpperChain s (points_under t.size s (2 ^ t.size + (v - 2 ^ t.size))) l) (sym is) (leaf_right s real t.size (v - 2 ^ t.size) (slot_in t.slots.items (v - 2 ^ t.size)) (omega arith) fits (live (v - 2 ^ t.size))));
            now = subst (IsSettledThere s) (sym (joined.leaves v high)) tt;
          }

  pub walk_starts : IsWalked s x
  walk_starts = record {
    shape = shape;
    joined = subst (λ n. AreJoined n ns) (sym size_is) joined;
    live = λ i. live i ∙ ap (λ l. slot_in l i) (sym slots_is);
    quiet = λ v some h. quiet v some;
    untold = λ v some h. quiet v some;
    unfailed = unfailed;
    spared = spared;
    are_spared = are_spared;
    failing = lists;
    right = λ v some low h. subst (λ n. IsRight s n ns v) (sym size_is) (clear_right (2 * 2 ^ t.size) v some (subst (λ n. v < 2 * 2 ^ n) size_is low) (omega arith) h);
  }

-- ---- the end
module _ (s : Scene) (real : IsReal s) (t x : Branches) (w : IsWalked s t) (root : doubt_in t.doubts.items 1 ≡ Clear) (q : IsAtPeace t x) where
  clear : (v : ℕ) → 0 < v → doubt_in t.doubts.items v ≡ Clear
  clear = all_clear t.doubts.items w.shape.closed root

  -- what is the same at the root is the same at each node
  same_read : {A : Type 0} (read : Option Node → A) → read (slice_get x.nodes.items 1) ≡ read (slice_get t.nodes.items 1) → (v : ℕ) → read (slice_get x.nodes.items v) ≡ read (slice_get t.nodes.items v)
  same_read {A} read here v = at (cases_eq v 1)
    where
      at : (v ≡ 1) ⊎ (v ≢ 1) → read (slice_get x.nodes.items v) ≡ read (slice_get t.nodes.items v)
      at (inl e) = subst (λ u. read (slice_get x.nodes.items u) ≡ read (slice_get t.nodes.items u)) (sym e) here
      at (inr n) = ap read (q.others v n)

  merge_is : (v : ℕ) → merge_at x.nodes.items v ≡ merge_at t.nodes.items v
  merge_is = same_read merge_from q.root.merge

  passed_is : (v : ℕ) → passed_at x.nodes.items v ≡ passed_at t.nodes.items v
  passed_is = same_read passed_from q.root.passed

  failed_same : (v : ℕ) → failed_at x.nodes.items v ≡ failed_at t.nodes.items v
  failed_same = same_read failed_from q.root.failed

  pub chains_stay : (v : ℕ) → chain_at x.nodes.items v ≡ chain_at t.nodes.items v
  chains_stay v = ap₂ chain_with (merge_is v) (passed_is v)

  edits_none : (v : ℕ) → 0 < v → edits_at x.nodes.items v ≡ []
  edits_none v some = at (cases_eq v 1)
    where
      at : (v ≡ 1) ⊎ (v ≢ 1) → edits_at x.nodes.items v ≡ []
      at (inl e) = ap (edits_at x.nodes.items) e ∙ q.root.edits
      at (inr n) = ap edits_from (q.others v n) ∙ w.quiet v some (λ h. here_is_doubt (sym h ∙ clear (v / 2) (omega arith)))

  size_is' : x.size ≡ t.size
  size_is' = ap (λ (b : Branches). b.size) q.same

  slots_is' : x.slots.items ≡ t.slots.items
  slots_is' = ap (λ (b : Branches). b.slots.items) q.same

  doubts_is' : x.doubts.items ≡ t.doubts.items
  doubts_is' = ap (λ (b : Branches). b.doubts.items) q.same

  right_of : (v : ℕ) → 0 < v → v < 2 * 2 ^ t.size → IsRight s t.size x.nodes.items v
  right_of v some low =
      let r = w.right v some low (clear v some) in
      record {
        chain = subst (λ (c : List ℕ). IsUpperChain s (points_under t.size s v) c) (sym (chains_stay v)) r.chain;
        now = subst (IsSettledThere s) (sym (merge_is v)) r.now;
      }

  pub all_right : AreRight s x
  all_right v some low = subst (λ n. IsRight s n x.nodes.items v) (sym size_is') (right_of v some (subst (λ n. v < 2 * 2 ^ n) size_is' low))

  leaf_is : (i : ℕ) → i < 2 ^ t.size → chain_at x.nodes.items (2 ^ t.size + i) ≡ own_chain i (slot_in t.slots.items i)
  leaf_is i low =
      one_upper_chain s (real_line_laws s real) (points_under t.size s (2 ^ t.size + i)) (chain_at x.nodes.items (2 ^ t.size + i)) (own_chain i (slot_in t.slots.items i))
      (right_of (2 ^ t.size + i) (omega arith) (omega arith)).chain
      (leaf_right s real t.size i (slot_in t.slots.items i) low (live_fits s t.size t.slots.items w.shape.slots_room w.live) (w.live i))

  pub all_sound : IsSound x
  all_sound = record {
    shape = record {
      some = subst (λ n. 1 ≤ n) (sym size_is') w.shape.some;
      small = subst (λ n. n ≤ 15) (sym size_is') w.shape.small;
      slots_room = ap length slots_is' ∙ w.shape.slots_room ∙ ap (λ n. 2 ^ n) (sym size_is');
      nodes_room = q.room ∙ w.shape.nodes_room ∙ ap (λ n. 2 * 2 ^ n) (sym size_is');
      doubts_room = ap length doubts_is' ∙ w.shape.doubts_room ∙ ap (λ n. 2 * 2 ^ n) (sym size_is');
      closed = subst (λ (l : List Doubt). IsClosed l) (sym doubts_is') w.shape.closed;
    };
    joined = subst (λ n. AreJoined n x.nodes.items) (sym size_is') (joined_same t.size t.nodes.items x.nodes.items merge_is passed_is (λ v big. ap edits_from (q.others v (omega arith))) w.joined);
    quiet = edits_none;
    unfailed = λ v some. failed_same v ∙ w.unfailed v some (λ h. here_is_doubt (sym h ∙ clear v some));
    undoubted = λ v some h. here_is_doubt (sym h ∙ ap (λ l. doubt_in l v) doubts_is' ∙ clear v some);
    clear_leaves = λ i low h.
        subst (λ n. chain_at x.nodes.items (2 ^ n + i) ≡ own_chain i (slot_in x.slots.items i)) (sym size_is')
        (leaf_is i (subst (λ n. i < 2 ^ n) size_is' low) ∙ ap (λ l. own_chain i (slot_in l i)) (sym slots_is'));
  }

  pub facts_stay : (size : ℕ) → tree_facts size x.nodes.items ≡ tree_facts size t.nodes.items
  facts_stay size = tree_same size t.nodes.items x.nodes.items (λ v. ap facts_with (merge_is v))
