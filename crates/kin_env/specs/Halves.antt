-- What the halves of a node make of it in a scene.
use Rattle.std.proofs.Common.{inl, inr, sym, subst, List, ◌++◌, ℕ, ◌+◌, ◌*◌, ◌^◌, ◌<◌}
use Rattle.std.specs.Prelude.{Option, Some, None}
use Rattle.kin_motion.specs.Chains.{IsUpperChain}
use Rattle.kin_motion.specs.Merges.{IsMergeFact, points_under}
use Rattle.kin_motion.specs.Sets.{ListsExactly}
use Rattle.kin_motion.specs.Numbers.{IsIn}
use Rattle.kin_motion.specs.Scene.{Scene, IsReal}
use Rattle.kin_motion.proofs.ChainLaws.{chain_within}
use Rattle.kin_motion.proofs.SetLaws.{exactly_none, exactly_in_words}
use Rattle.kin_chain.proofs.ChainsOfChains.{chain_of_itself}
use Rattle.kin_chain.proofs.NodeChains.{under_live, told_halves, only_left, only_right, of_both, facts_of_node, none_at_left, none_at_right}
use Rattle.kin_overlay.specs.Overlays.{Merge}
use Rattle.kin_env.specs.Nodes.{chain_with, facts_with}
use Rattle.kin_env.specs.Joints.{IsJoint, IsSettledThere, AreHalves}

module _ (s : Scene) (size : ℕ) (fits : (i : ℕ) → IsIn i s.live → i < 2 ^ size) (v : ℕ) (some : 0 < v) (inner : v < 2 ^ size)
    (real : IsReal s) (a b : List ℕ) (a_chain : IsUpperChain s (points_under size s (2 * v)) a) (b_chain : IsUpperChain s (points_under size s (2 * v + 1)) b) where
  pub are_halves : AreHalves s a b
  are_halves = record {
    a_chain = chain_of_itself s (points_under size s (2 * v)) a a_chain;
    b_chain = chain_of_itself s (points_under size s (2 * v + 1)) b b_chain;
    a_live = λ i h. (under_live s size (2 * v) i (chain_within s (points_under size s (2 * v)) a a_chain i h)).0;
    b_live = λ i h. (under_live s size (2 * v + 1) i (chain_within s (points_under size s (2 * v + 1)) b b_chain i h)).0;
    less = λ i j h k. (told_halves s size fits v some inner real a b a_chain b_chain).less i j (chain_within s (points_under size s (2 * v)) a a_chain i h) (chain_within s (points_under size s (2 * v + 1)) b b_chain j k);
  }

  -- a node that has what its halves are, and whose merge is settled, has the chain of the points under it
  pub right_above : (merge : Option Merge) (passed : List ℕ) → IsJoint v merge passed a b → IsSettledThere s merge → IsUpperChain s (points_under size s v) (chain_with merge passed)
  right_above None passed (inl (none, is)) now = subst (λ (l : List ℕ). IsUpperChain s (points_under size s v) l) (sym is) (only_right s size fits v some inner real a b a_chain b_chain none)
  right_above None passed (inr (none, is)) now = subst (λ (l : List ℕ). IsUpperChain s (points_under size s v) l) (sym is) (only_left s size fits v some inner real a b a_chain b_chain none)
  right_above (Some m) passed of now = of_both s size fits v some inner real a b a_chain b_chain m.chain (subst (λ (l : List ℕ). IsUpperChain s (l ++ b) m.chain) of.a_is (subst (λ (l : List ℕ). IsUpperChain s (m.a ++ l) m.chain) of.b_is now.is_chain))

  -- and its facts are those of the node
  pub facts_above : (merge : Option Merge) (passed : List ℕ) → IsJoint v merge passed a b → IsSettledThere s merge → ListsExactly (facts_with merge) (IsMergeFact s (points_under size s (2 * v)) (points_under size s (2 * v + 1)) v)
  facts_above None passed (inl (none, is)) now = exactly_none _ (λ p m. none_at_left s real (subst (λ (l : List ℕ). IsUpperChain s (points_under size s (2 * v)) l) none a_chain) m)
  facts_above None passed (inr (none, is)) now = exactly_none _ (λ p m. none_at_right s real (subst (λ (l : List ℕ). IsUpperChain s (points_under size s (2 * v + 1)) l) none b_chain) m)
  facts_above (Some m) passed of now =
      exactly_in_words m.facts (IsMergeFact s a b v) (IsMergeFact s (points_under size s (2 * v)) (points_under size s (2 * v + 1)) v) (facts_of_node s size fits v some inner real a b a_chain b_chain)
      (subst (λ u. ListsExactly m.facts (IsMergeFact s a b u)) of.part (subst (λ (l : List ℕ). ListsExactly m.facts (IsMergeFact s l b m.part)) of.a_is (subst (λ (l : List ℕ). ListsExactly m.facts (IsMergeFact s m.a l m.part)) of.b_is now.exact)))
