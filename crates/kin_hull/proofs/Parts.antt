-- The facts of a tree stand in the parts of its inner nodes.
use Rattle.std.proofs.Common.{sym, ◌∙◌, arith, List, [], ◌∷◌, ℕ, ◌*◌, ◌^◌, ◌<◌, ◌≤◌}
use Rattle.std.specs.Prelude.{Contains}
use Rattle.std.proofs.Math.Pow.{pow_mono}
use Rattle.std.proofs.lemmas.Bool.{and_parts}
use Rattle.kin_motion.specs.declared.fact.Placed.{Placed}
use Rattle.kin_motion.specs.declared.form.Form.{Form}
use Rattle.kin_motion.specs.Agreements.{FitsSize}
use Rattle.kin_motion.specs.Merges.{IsListedForm, IsNodeForm, IsTreeFact, points_under}
use Rattle.kin_motion.specs.Numbers.{is_in, IsIn}
use Rattle.kin_motion.specs.Scene.{Scene}
use Rattle.kin_motion.specs.Tournaments.{is_under}
use Rattle.kin_motion.proofs.AgreementLaws.{kept-members}
use Rattle.kin_motion.proofs.ChainLaws.{chain_within}
use Rattle.kin_motion.proofs.Members.{in_head}
use Rattle.kin_motion.proofs.UnderNodes.{is_under-le}
use Rattle.kin_env.specs.Trees.{Envelope, IsSettledEnvelope}

-- a node with a form has a live number under it
node_low : (size : ℕ) (s : Scene) (v : ℕ) (f : Form) → FitsSize size s → IsNodeForm size s v f → v < 2 ^ size
node_low size s v f fits m = at m.a (chain_within s (points_under size s (2 * v)) m.a m.a_chain) m.listed
  where
    at : (a : List ℕ) → ((i : ℕ) → IsIn i a → IsIn i (points_under size s (2 * v))) → IsListedForm s a m.b m.breakpoints f → v < 2 ^ size
    at [] among l = absurd l
    at (i ∷ is) among l =
        let here = and_parts (is_in i s.live) (is_under size (2 * v) i) (sym (kept-members (is_under size (2 * v)) s.live i) ∙ among i (in_head i is)) in
        let le = is_under-le size (2 * v) i here.1 in
        let low = fits i here.0 in
        omega (arith, le, low)

-- so parts are below 2^16
pub facts_low : (t : Envelope) (s : Scene) → IsSettledEnvelope t s → t.size ≤ 12 → (p : Placed) → Contains t.facts p → p.part < 2 ^ 16
facts_low t s settled small p c =
    let f : IsTreeFact t.size s p = (settled.tree.exact.each p).0 c in
    let low = node_low t.size s p.part f.form settled.fits f.merge in
    let most : 2 ^ t.size ≤ 2 ^ 12 = pow_mono small in
    omega (arith, low, most)
