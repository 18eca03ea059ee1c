-- What callers see of a tree of nodes, before and after a settle.
use Rattle.std.proofs.Common.{◌≡◌, refl, sym, ap, ◌∙◌, subst, arith, List, [], ◌∷◌, ℕ, zero, suc, ◌+◌, ◌*◌, ◌^◌, ◌<◌, Bool, true, not, map}
use Rattle.std.specs.Prelude.{slice_index_or}
use Rattle.std.proofs.lemmas.Bool.{and_parts, not-true}
use Rattle.std.proofs.Math.Pow.{pow_pos}
use Rattle.kin_motion.specs.declared.fact.Placed.{Placed}
use Rattle.kin_motion.specs.Agreements.{FitsSize}
use Rattle.kin_motion.specs.Chains.{IsUpperChain}
use Rattle.kin_motion.specs.Kinetics.{ListsFailing}
use Rattle.kin_motion.specs.Merges.{IsTreeFact, points_under}
use Rattle.kin_motion.specs.Numbers.{is_in, numbers_from}
use Rattle.kin_motion.specs.Scene.{Scene, IsReal}
use Rattle.kin_motion.specs.Sets.{ListsExactly}
use Rattle.kin_motion.proofs.ChainLaws.{one_upper_chain}
use Rattle.kin_motion.proofs.RealLaws.{real_line_laws}
use Rattle.kin_motion.proofs.SetLaws.{filter-sound}
use Rattle.kin_overlay.specs.Diffs.{KeepOrder}
use Rattle.kin_env.specs.declared.node.Node.{Node}
use Rattle.kin_env.specs.declared.branches.Branches.{Branches}
use Rattle.kin_chain.proofs.NodeChains.{at_root, leaf_right}
use Rattle.kin_env.specs.Halves.{facts_above}
use Rattle.kin_env.specs.Joints.{AreSpared}
use Rattle.kin_env.specs.MarkLaws.{some_named}
use Rattle.kin_env.specs.Nodes.{chain_of, merge_at, passed_at, chain_at, facts_at}
use Rattle.kin_chain.proofs.NodeFacts.{IsFactOfNode, exact_by_node}
use Rattle.kin_env.specs.Trees.{Envelope, chain_told, top_of, chain_of_slot, is_leaving, leaving_of, names_leaving, IsEnvelopeAtRest, IsReadyEnvelope, IsSettledEnvelope, ChainsKeepOrder, seen_as}
use Rattle.kin_env.specs.Walks.{slot_in, own_chain, IsSound, IsReady, AreRight, NodesKeepOrder, tree_facts}
use Rattle.kin_env.proofs.Reports.{tree_once, in_tree, inner_part}
use Rattle.kin_env.proofs.Works.{joint_now, live_fits}

-- the chain of a node, by number
pub told_is : (ns : List Node) (v : ℕ) → slice_index_or (map chain_of ns) v [] ≡ chain_at ns v
told_is [] v = refl
told_is (n ∷ ns) zero = refl
told_is (n ∷ ns) (suc v) = told_is ns v

-- where callers see that the chains keep their order, those of the nodes do
pub orders_within : (b x : Branches) (whole whole' : Bool) (seen : Envelope) → seen_as b whole ≡ seen → ChainsKeepOrder seen (seen_as x whole') → NodesKeepOrder b.size b.nodes.items x.nodes.items
orders_within b x whole whole' seen view keep v some low =
    subst (λ (c : List ℕ). KeepOrder c (chain_at x.nodes.items v)) (told_is b.nodes.items v)
    (subst (λ (c : List ℕ). KeepOrder (chain_told (seen_as b whole) v) c) (told_is x.nodes.items v)
    (subst (λ (t : Envelope). ChainsKeepOrder t (seen_as x whole')) (sym view) keep v some low))

-- ---- before
-- a leaving number isn't live
leaving_gone : (t : Envelope) (s : Scene) → IsReadyEnvelope t s → AreSpared s (names_leaving t)
leaving_gone t s ready p e =
    let w = some_named p.fact.form (leaving_of t) e in
    let k = filter-sound (is_leaving t) (numbers_from 0 (2 ^ t.size)) w.0 w.1 in
    (w.0, w.2, ready.members w.0 ∙ not-true (slot_in t.slots w.0) (and_parts (is_in w.0 (chain_of_slot t w.0)) (not (slot_in t.slots w.0)) k.1).1)

-- callers see the tree as another one, which is ready
module _ (b : Branches) (whole : Bool) (s : Scene) (seen : Envelope) (view : seen_as b whole ≡ seen) (may : IsReadyEnvelope seen s) where
  ready : IsReadyEnvelope (seen_as b whole) s
  ready = subst (λ (t : Envelope). IsReadyEnvelope t s) (sym view) may

  pub ready_told : (failed : List Placed) → ListsFailing seen.facts (names_leaving seen) s failed → IsReady s b failed
  ready_told failed failing = record {
    live = ready.members;
    spared = names_leaving (seen_as b whole);
    are_spared = leaving_gone (seen_as b whole) s ready;
    failing = subst (λ (t : Envelope). ListsFailing t.facts (names_leaving t) s failed) (sym view) failing;
  }

  -- the members stay
  pub live_still : (x : Branches) → x.slots.items ≡ b.slots.items → (i : ℕ) → is_in i s.live ≡ slot_in x.slots.items i
  live_still x same i = ready.members i ∙ ap (λ l. slot_in l i) (sym same)

-- ---- after
module _ (s : Scene) (real : IsReal s) (b : Branches) (sound : IsSound b) (right : AreRight s b) (live : (i : ℕ) → is_in i s.live ≡ slot_in b.slots.items i) where
  fits : FitsSize b.size s
  fits = live_fits s b.size b.slots.items sound.shape.slots_room live

  chain_is : (v : ℕ) → 0 < v → v < 2 * 2 ^ b.size → IsUpperChain s (points_under b.size s v) (chain_told (seen_as b true) v)
  chain_is v some low = subst (λ (l : List ℕ). IsUpperChain s (points_under b.size s v) l) (sym (told_is b.nodes.items v)) (right v some low).chain

  facts_are : (v : ℕ) → 0 < v → v < 2 ^ b.size → ListsExactly (facts_at b.nodes.items v) (IsFactOfNode b.size s v)
  facts_are v some inner =
      facts_above s b.size fits v some inner real (chain_at b.nodes.items (2 * v)) (chain_at b.nodes.items (2 * v + 1))
      (right (2 * v) (omega arith) (omega arith)).chain (right (2 * v + 1) (omega arith) (omega arith)).chain (merge_at b.nodes.items v) (passed_at b.nodes.items v) (joint_now b.size b.nodes.items sound.joined v some inner (sound.quiet (2 * v) (omega arith)) (sound.quiet (2 * v + 1) (omega arith))) (right v some (omega arith)).now

  exact : ListsExactly (tree_facts b.size b.nodes.items) (IsTreeFact b.size s)
  exact = exact_by_node b.size (tree_facts b.size b.nodes.items) s real fits (tree_once b.size b.nodes.items sound.joined) (inner_part b.size b.nodes.items sound.joined)
      (λ p some inner. let k = in_tree b.size b.nodes.items sound.joined p in let e = (facts_are p.part some inner).each p in ((λ c. e.0 (k.0 c)), (λ m. k.1 (e.1 m))))

  pub settled_now : IsSettledEnvelope (seen_as b true) s
  settled_now = record {
    tree = record { chain = at_root s b.size fits (top_of (seen_as b true)) real (chain_is 1 (omega arith) (omega (arith, pow_pos b.size))); exact = exact };
    chains = chain_is;
    fits = fits;
  }

  pub rest_now : IsEnvelopeAtRest (seen_as b true)
  rest_now = record {
    unmarked = λ i low. one_upper_chain s (real_line_laws s real) (points_under b.size s (2 ^ b.size + i)) (chain_of_slot (seen_as b true) i) (own_chain i (slot_in b.slots.items i))
        (chain_is (2 ^ b.size + i) (omega (arith, pow_pos b.size)) (omega arith)) (leaf_right s real b.size i (slot_in b.slots.items i) low fits (live i));
    room = sound.shape.slots_room;
    whole = refl;
  }
