-- The work at one node during a repair.
use Rattle.std.proofs.Common.{◌≡◌, ◌≢◌, ◌⊎◌, inl, inr, refl, sym, ap, ◌∙◌, subst, arith, List, [], ◌∷◌, ℕ, ◌+◌, ◌-◌, ◌*◌, ◌/◌, ◌^◌, ◌<◌, ◌≤◌, length, Bool, true, false, nat_lt}
use Rattle.std.specs.Prelude.{Option, Some, None, slice_get}
use Rattle.std.proofs.lemmas.Bool.Decides.{nat_tests}
use Rattle.std.proofs.lemmas.List.{get_or_past}
use Rattle.std.proofs.lemmas.Option.{slice_get_past}
use Rattle.kin_motion.specs.declared.fact.Placed.{Placed}
use Rattle.kin_motion.specs.Chains.{IsUpperChain}
use Rattle.kin_motion.specs.Deltas.{Change}
use Rattle.kin_motion.specs.Edits.{Edit}
use Rattle.kin_motion.specs.Kinetics.{ListsFailing, HasChanged}
use Rattle.kin_motion.specs.Merges.{points_under}
use Rattle.kin_motion.specs.Numbers.{is_in, IsIn}
use Rattle.kin_motion.specs.Scene.{Scene, IsReal}
use Rattle.kin_motion.proofs.ChangeLaws.{nothing_changed}
use Rattle.kin_overlay.specs.Fingers.{AreLess}
use Rattle.kin_overlay.specs.Overlays.{Merge}
use Rattle.kin_tourney.specs.declared.doubt.Doubt.TheVariants.{Here}
use Rattle.kin_tourney.specs.Standings.{doubt_in}
use Rattle.kin_tourney.specs.Repairs.{IsLowest}
use Rattle.kin_env.specs.declared.node.Node.{Node}
use Rattle.kin_env.specs.declared.branches.Branches.{Branches}
use Rattle.kin_env.specs.Nodes.{chain_with, chain_of, facts_with, merge_from, passed_from, edits_from, failed_from, merge_at, passed_at, chain_at, edits_at, failed_at, facts_at}
use Rattle.kin_env.specs.Joints.{Leads, IsJoint, IsSettledThere, AreHalves, IsTold, IsRestingWith}
use Rattle.kin_env.specs.Walks.{slot_in, own_chain, AreJoined, IsInner, IsWalked, IsRight, IsQuieted, IsWorked, IsHeard}
use Rattle.kin_env.proofs.Tellings.{none_failed}
use Rattle.kin_chain.proofs.Levels.{halves_apart}
use Rattle.kin_chain.proofs.NodeChains.{leaf_right}
use Rattle.kin_env.specs.Halves.{are_halves, right_above}
use Rattle.kin_env.proofs.Idle.{settled_still}

-- no edits lead nowhere
pub no_edits : (es : List Edit) (a b : List ℕ) → es ≡ [] → Leads es a b → a ≡ b
no_edits [] a b e l = l.lead
no_edits (x ∷ es) a b e l = absurd cc

pub stays_there : (es : List Edit) (a : List ℕ) → es ≡ [] → Leads es a a
stays_there es a e = subst (λ (l : List Edit). Leads l a a) (sym e) (record { fit = tt; lead = refl; apart = λ k x h. refl })

-- the merge of a node is at rest
pub resting : (v : ℕ) (o : Option Merge) (xs a b : List ℕ) → IsJoint v o xs a b → IsRestingWith o
resting v None xs a b j = tt
resting v (Some m) xs a b j = j.rest

pub resting_at : (size : ℕ) (ns : List Node) → AreJoined size ns → (v : ℕ) → 0 < v → IsRestingWith (merge_at ns v)
resting_at size ns j v some = at (nat_lt v (2 ^ size)) refl
  where
    at : (t : Bool) → nat_lt v (2 ^ size) ≡ t → IsRestingWith (merge_at ns v)
    at true e = let i = j.inner v some (grind (arith, nat_tests, e)) in resting v (merge_at ns v) (passed_at ns v) i.a i.b i.joint
    at false e = subst IsRestingWith (sym (j.leaves v (grind (arith, nat_tests, e)))) tt

-- where no edit of its halves waits, a node has what they are
pub joint_now : (size : ℕ) (ns : List Node) → AreJoined size ns → (v : ℕ) → 0 < v → v < 2 ^ size → edits_at ns (2 * v) ≡ [] → edits_at ns (2 * v + 1) ≡ [] → IsJoint v (merge_at ns v) (passed_at ns v) (chain_at ns (2 * v)) (chain_at ns (2 * v + 1))
joint_now size ns j v some inner left right =
    let i = j.inner v some inner in
    subst (λ (a : List ℕ). IsJoint v (merge_at ns v) (passed_at ns v) a (chain_at ns (2 * v + 1))) (no_edits (edits_at ns (2 * v)) i.a (chain_at ns (2 * v)) left i.a_leads)
    (subst (λ (b : List ℕ). IsJoint v (merge_at ns v) (passed_at ns v) i.a b) (no_edits (edits_at ns (2 * v + 1)) i.b (chain_at ns (2 * v + 1)) right i.b_leads) i.joint)

-- a live number has a slot
pub live_fits : (s : Scene) (size : ℕ) (slots : List Bool) → length slots ≡ 2 ^ size → ((i : ℕ) → is_in i s.live ≡ slot_in slots i) → (i : ℕ) → IsIn i s.live → i < 2 ^ size
live_fits s size slots room live i h = at (nat_lt i (2 ^ size)) refl
  where
    at : (t : Bool) → nat_lt i (2 ^ size) ≡ t → i < 2 ^ size
    at true e = grind (arith, nat_tests, e)
    at false e = absurd (let past : 2 ^ size ≤ i = grind (arith, nat_tests, e) in let z : true ≡ false = sym h ∙ live i ∙ get_or_past slots i false (omega arith) in cc)

module _ (s : Scene) (real : IsReal s) (t : Branches) (w : IsWalked s t) (v : ℕ) (n : IsLowest t.doubts.items v) where
  abbrev ns : List Node
  ns = t.nodes.items

  fits : (i : ℕ) → IsIn i s.live → i < 2 ^ t.size
  fits = live_fits s t.size t.slots.items w.shape.slots_room w.live

  module _ (inner : v < 2 ^ t.size) where
    left : IsRight s t.size ns (2 * v)
    left = let some = n.some in w.right (2 * v) (omega arith) (omega arith) (n.halves_clear (2 * v) (omega arith) (omega arith))

    right : IsRight s t.size ns (2 * v + 1)
    right = let some = n.some in w.right (2 * v + 1) (omega arith) (omega arith) (n.halves_clear (2 * v + 1) (omega arith) (omega arith))

    halves : AreHalves s (chain_at ns (2 * v)) (chain_at ns (2 * v + 1))
    halves = are_halves s t.size fits v n.some inner real (chain_at ns (2 * v)) (chain_at ns (2 * v + 1)) left.chain right.chain

    -- what the node is told
    pub told : (node l r : Node) → slice_get ns v ≡ Some node → slice_get ns (2 * v) ≡ Some l → slice_get ns (2 * v + 1) ≡ Some r → IsTold v s node l r × IsRestingWith l.merge × IsRestingWith r.merge
    told node l r e f g = (told_node, subst IsRestingWith (ap merge_from f) (resting_at t.size ns w.joined (2 * v) (let some = n.some in omega arith)), subst IsRestingWith (ap merge_from g) (resting_at t.size ns w.joined (2 * v + 1) (omega arith)))
      where
        i : IsInner t.size ns v
        i = w.joined.inner v n.some inner

        lc : chain_at ns (2 * v) ≡ chain_of l
        lc = ap (λ (o : Option Node). chain_with (merge_from o) (passed_from o)) f

        rc : chain_at ns (2 * v + 1) ≡ chain_of r
        rc = ap (λ (o : Option Node). chain_with (merge_from o) (passed_from o)) g

        b_high : AreLess (chain_of l) i.b
        b_high p q h k = halves_apart t.size v p q n.some (w.joined.under (2 * v) p (let some = n.some in omega arith) (subst (λ (c : List ℕ). IsIn p c) (sym lc) h)) (i.b_under q k)

        told_node : IsTold v s node l r
        told_node = record {
          a = i.a;
          b = i.b;
          a_leads = subst (λ (o : Option Node). Leads (edits_from o) i.a (chain_with (merge_from o) (passed_from o))) f i.a_leads;
          b_leads = subst (λ (o : Option Node). Leads (edits_from o) i.b (chain_with (merge_from o) (passed_from o))) g i.b_leads;
          joint = subst (λ (o : Option Node). IsJoint v (merge_from o) (passed_from o) i.a i.b) e i.joint;
          less = b_high;
          halves = subst (λ (c : List ℕ). AreHalves s c (chain_of r)) lc (subst (λ (c : List ℕ). AreHalves s (chain_at ns (2 * v)) c) rc halves);
          spared = w.spared;
          are_spared = w.are_spared;
          failing = subst (λ (o : Option Node). ListsFailing (facts_with (merge_from o)) w.spared s (failed_from o)) e (w.failing v n.some);
        }

    -- a node is visited
    pub worked_visit : (new : List Node) (before after : Change) → IsHeard v s ns new before after → IsWorked s t.size v ns new before after
    worked_visit new before after h = record {
      room = h.room;
      others = λ u p q. h.others u p (λ e. q (omega arith)) (λ e. q (omega arith));
      halves = λ u p q. half u p q;
      inner = λ low. h.joint;
      leaf = λ high. absurd (omega arith);
      leads = h.leads;
      failed = h.failed;
      right = record {
        chain = right_above s t.size fits v n.some inner real (chain_at ns (2 * v)) (chain_at ns (2 * v + 1)) left.chain right.chain (merge_at new v) (passed_at new v) h.joint h.now;
        now = h.now;
      };
      changed = h.changed;
    }
      where
        which : (u : ℕ) → u / 2 ≡ v → (u ≡ 2 * v) ⊎ (u ≡ 2 * v + 1)
        which u q = grind (arith, q)

        half : (u : ℕ) → u ≢ v → u / 2 ≡ v → IsQuieted ns new u
        half u p q = at (which u q)
          where
            at : (u ≡ 2 * v) ⊎ (u ≡ 2 * v + 1) → IsQuieted ns new u
            at (inl e) = subst (IsQuieted ns new) (sym e) h.left
            at (inr e) = subst (IsQuieted ns new) (sym e) h.right

    -- a node has no work
    pub worked_idle : doubt_in t.doubts.items v ≢ Here → (c : Change) → IsWorked s t.size v ns ns c c
    worked_idle idle c = record {
      room = refl;
      others = λ u p q. refl;
      halves = λ u p q. record { merge = refl; passed = refl; failed = refl; edits = w.quiet u (let some = n.some in omega arith) (λ e. idle (sym (ap (doubt_in t.doubts.items) q) ∙ e)) };
      inner = λ low. joint;
      leaf = λ high. absurd (omega arith);
      leads = stays_there (edits_at ns v) (chain_at ns v) (w.untold v n.some n.doubted);
      failed = none;
      right = record {
        chain = right_above s t.size fits v n.some inner real (chain_at ns (2 * v)) (chain_at ns (2 * v + 1)) left.chain right.chain (merge_at ns v) (passed_at ns v) joint now;
        now = now;
      };
      changed = nothing_changed (facts_at ns v) c;
    }
      where
        quiet_half : (u : ℕ) → 0 < u → u / 2 ≡ v → edits_at ns u ≡ []
        quiet_half u big q = w.quiet u big (λ e. idle (sym (ap (doubt_in t.doubts.items) q) ∙ e))

        joint : IsJoint v (merge_at ns v) (passed_at ns v) (chain_at ns (2 * v)) (chain_at ns (2 * v + 1))
        joint = joint_now t.size ns w.joined v n.some inner (quiet_half (2 * v) (let some = n.some in omega arith) (omega arith)) (quiet_half (2 * v + 1) (omega arith) (omega arith))

        none : failed_at ns v ≡ []
        none = w.unfailed v n.some idle

        now : IsSettledThere s (merge_at ns v)
        now = settled_still s real v (merge_at ns v) (passed_at ns v) (chain_at ns (2 * v)) (chain_at ns (2 * v + 1)) w.spared halves w.are_spared joint (subst (λ (l : List Placed). ListsFailing (facts_at ns v) w.spared s l) none (w.failing v n.some))

  -- a leaf is visited
  pub worked_leaf : 2 ^ t.size ≤ v → (new : List Node) (c : Change) → length new ≡ length ns → ((u : ℕ) → u ≢ v → slice_get new u ≡ slice_get ns u) → merge_at new v ≡ None
      → passed_at new v ≡ own_chain (v - 2 ^ t.size) (slot_in t.slots.items (v - 2 ^ t.size)) → Leads (edits_at new v) (passed_at ns v) (passed_at new v) → failed_at new v ≡ failed_at ns v
      → IsWorked s t.size v ns new c c
  worked_leaf high new c room others merge passed leads failed = record {
    room = room;
    others = λ u p q. others u p;
    halves = λ u p q. past u p q;
    inner = λ low. absurd (omega arith);
    leaf = λ h. merge;
    leads = subst (λ (o : Option Merge). Leads (edits_at new v) (chain_with o (passed_at ns v)) (chain_at new v)) (sym was) (subst (λ (o : Option Merge). Leads (edits_at new v) (passed_at ns v) (chain_with o (passed_at new v))) (sym merge) leads);
    failed = failed ∙ none_failed (merge_at ns v) w.spared s (failed_at ns v) (w.failing v n.some) was;
    right = record {
      chain = subst (λ (o : Option Merge). IsUpperChain s (points_under t.size s v) (chain_with o (passed_at new v))) (sym merge) (subst (λ (l : List ℕ). IsUpperChain s (points_under t.size s v) l) (sym passed) own);
      now = subst (IsSettledThere s) (sym merge) tt;
    };
    changed = subst (λ (o : Option Merge). HasChanged (facts_at ns v) (facts_with o) c c) (sym merge) (subst (λ (o : Option Merge). HasChanged (facts_with o) [] c c) (sym was) (nothing_changed [] c));
  }
    where
      was : merge_at ns v ≡ None
      was = w.joined.leaves v high

      past : (u : ℕ) → u ≢ v → u / 2 ≡ v → IsQuieted ns new u
      past u p q =
          let old : slice_get ns u ≡ None = slice_get_past ns u (omega (arith, w.shape.nodes_room)) in
          record {
            merge = ap merge_from (others u p);
            passed = ap passed_from (others u p);
            failed = ap failed_from (others u p);
            edits = ap edits_from (others u p ∙ old);
          }

      own : IsUpperChain s (points_under t.size s v) (own_chain (v - 2 ^ t.size) (slot_in t.slots.items (v - 2 ^ t.size)))
      own =
          let inside : v < 2 * 2 ^ t.size = omega (arith, n.inside, w.shape.doubts_room) in
          let same : 2 ^ t.size + (v - 2 ^ t.size) ≡ v = omega arith in
          subst (λ u. IsUpperChain s (points_under t.size s u) (own_chain (v - 2 ^ t.size) (slot_in t.slots.items (v - 2 ^ t.size)))) same
          (leaf_right s real t.size (v - 2 ^ t.size) (slot_in t.slots.items (v - 2 ^ t.size)) (omega arith) fits (w.live (v - 2 ^ t.size)))
