-- The determination law of an envelope tree.
use Rattle.std.proofs.Common.{sym, subst, arith}
use Rattle.std.proofs.Math.Pow.{pow_pos}
use Rattle.kin_motion.specs.Agreements.{FitsSize}
use Rattle.kin_motion.specs.Chains.{IsUpperChain}
use Rattle.kin_motion.specs.Kinetics.{HaveSameLive, AllHold}
use Rattle.kin_motion.specs.Merges.{points_under, IsTreeFact}
use Rattle.kin_motion.specs.Numbers.{IsIn}
use Rattle.kin_motion.specs.Scene.{Scene, IsReal}
use Rattle.kin_motion.specs.Sets.{ListsExactly}
use Rattle.kin_chain.proofs.NodeChains.{at_root}
use Rattle.kin_chain.proofs.TreeDetermined.{tree_is_determined}
use Rattle.kin_env.specs.Trees.{Envelope, chain_told, top_of, IsEnvelopeAtRest, IsSettledEnvelope}

-- the facts determine every chain and the facts
pub determined_law : (t : Envelope) (v w : Scene) → IsEnvelopeAtRest t → IsReal v → IsSettledEnvelope t v → HaveSameLive v w → IsReal w → Unit {0} → AllHold w t.facts → IsSettledEnvelope t w
determined_law t v w rest real before same real' grounded hold = record {
  tree = record { chain = at_root w t.size fits (top_of t) real' root.0; exact = root.1 };
  chains = λ u some inside. (tree_is_determined t.size v w u (chain_told t u) t.facts real real' before.fits same (before.chains u some inside) before.tree.exact hold).0;
  fits = fits;
}
  where
    fits : FitsSize t.size w
    fits i h = before.fits i (subst (IsIn i) (sym same) h)

    root : IsUpperChain w (points_under t.size w 1) (top_of t) × ListsExactly t.facts (IsTreeFact t.size w)
    root = tree_is_determined t.size v w 1 (top_of t) t.facts real real' before.fits same (before.chains 1 (omega arith) (omega (arith, pow_pos t.size))) before.tree.exact hold
