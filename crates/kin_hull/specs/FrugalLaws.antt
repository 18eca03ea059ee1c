-- What a marked hull follows, and that what a repair spends is within the bound of its keep.
use Rattle.std.proofs.Common.{◌≡◌, sym, ◌∙◌, subst, arith, List, ℕ, ◌+◌, ◌*◌, ◌^◌, ◌<◌, length}
use Rattle.kin_motion.specs.declared.fact.Placed.{Placed}
use Rattle.kin_motion.specs.declared.keep.Keep.{Keep}
use Rattle.kin_motion.specs.Deltas.{Change}
use Rattle.kin_motion.specs.Kinetics.{ListsFailing, HasChanged}
use Rattle.kin_motion.specs.KeptOrder.{IsChainOfNode, TreeKeepsOrder, TreesKeepOrder, KeptHullKeepsOrder}
use Rattle.kin_motion.specs.Merges.{IsHullFact}
use Rattle.kin_motion.specs.Scene.{Scene, reflected}
use Rattle.kin_motion.specs.Sets.{ListsExactly}
use Rattle.kin_motion.specs.Spending.{AreInStep, HasRisenWithin, MayAsk, MayHullAsk}
use Rattle.kin_motion.proofs.SpendingLaws.{reported}
use Rattle.kin_env.specs.Joints.{ArePaid}
use Rattle.kin_env.specs.Trees.{Envelope, IsSettledEnvelope, ChainsKeepOrder, chain_told, names_leaving}
use Rattle.kin_hull.specs.Following.{HullsFollowTrees}
use Rattle.kin_hull.specs.Hulls.{Hull, facts_of, IsSettledKinHull, IsHullAtRest, HasMembers, IsHullFor, SpendsHull, FollowsHull}

-- ---- the chains that settled hulls have
chains_follow : (size : ℕ) (v w : Scene) (old new : Envelope) → old.size ≡ size → new.size ≡ size → IsSettledEnvelope old v → IsSettledEnvelope new w → TreeKeepsOrder size v w → ChainsKeepOrder old new
chains_follow size v w old new same_old same_new was is keep = λ node some low.
    let within : node < 2 * 2 ^ size = subst (λ (n : ℕ). node < 2 * 2 ^ n) same_old low in
    let before = subst (λ (n : ℕ). IsChainOfNode n v node (chain_told old node)) same_old (was.chains node some low) in
    let after = subst (λ (n : ℕ). IsChainOfNode n w node (chain_told new node)) same_new (is.chains node some (subst (λ (n : ℕ). node < 2 * 2 ^ n) (sym same_new) within)) in
    keep node (chain_told old node) (chain_told new node) some within before after

pub hulls_follow_trees : HullsFollowTrees
hulls_follow_trees size v w old new same_old same_new was is keep = record {
  upper = chains_follow size v w old.upper new.upper same_old same_new was.upper is.upper keep.upper;
  lower = chains_follow size (reflected v) (reflected w) old.lower new.lower (was.size ∙ same_old) (is.size ∙ same_new) was.lower is.lower keep.lower;
}

-- ---- what is followed
-- a hull at rest follows the scene in which it was settled
pub hull_follows_scene : (k : Hull) (s : Scene) (live : List ℕ) → IsHullAtRest k → HasMembers k s.live → IsSettledKinHull k s → s.live ≡ live → FollowsHull k s live
hull_follows_scene k s live rest members settled same = record { settled = settled; members = subst (HasMembers k) same members }

-- ---- what is spent
-- the facts of a hull for a size
hull_facts : (k : Hull) (size : ℕ) (s : Scene) → k.upper.size ≡ size → IsSettledKinHull k s → ListsExactly (facts_of k) (IsHullFact size s)
hull_facts k size s same settled = subst (λ n. ListsExactly (facts_of k) (IsHullFact n s)) same settled.hull.exact

-- what is paid for by reports is within the facts that change between the scenes
within_facts : (old new : Hull) (size : ℕ) (v w : Scene) (out out' : Change) (before after : ℕ) → ListsExactly (facts_of old) (IsHullFact size v) → ListsExactly (facts_of new) (IsHullFact size w)
    → HasChanged (facts_of old) (facts_of new) out out' → ArePaid out out' before after → HasRisenWithin (MayHullAsk size v w) before after
within_facts old new size v w out out' before after was is changed paid =
    let report = reported (facts_of old) (facts_of new) (IsHullFact size v) (IsHullFact size w) out out' was is changed in
    let asked = 5 * length report.change.born + length report.change.dropped in
    (asked, record { change = report.change; changed = report.changed; bound = omega arith }, omega (arith, paid, report.born, report.dropped))

-- what a settle spends is within the bound of a kept hull
pub hull_frugal : (old new : Hull) (size : ℕ) (keep : Keep) (v w : Scene) (failed : List Placed) (out out' : Change) (before after : ℕ) → IsHullFor old size keep → IsHullFor new size keep → AreInStep size keep v w
    → FollowsHull old v w.live → HasMembers new w.live → IsSettledKinHull new w → ListsFailing (facts_of old) (names_leaving old.upper) w failed → HasChanged (facts_of old) (facts_of new) out out'
    → SpendsHull old new failed out out' before after → HasRisenWithin (MayAsk size keep v w) before after
hull_frugal old new size keep v w failed out out' before after kind kind' step follows members settled failing changed spends =
    let order : TreesKeepOrder size v w = subst (λ (k : Keep). KeptHullKeepsOrder size k v w) kind.0 step.chains in
    let paid = spends (hulls_follow_trees size v w old new kind.1 kind'.1 follows.settled settled order) in
    subst (λ (k : Keep). HasRisenWithin (MayAsk size k v w) before after) (sym kind.0)
    (within_facts old new size v w out out' before after (hull_facts old size v kind.1 follows.settled) (hull_facts new size w kind'.1 settled) changed paid)
