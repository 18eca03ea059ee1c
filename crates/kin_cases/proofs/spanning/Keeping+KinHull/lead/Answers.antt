use Rattle.std.proofs.Common.{◌≡◌, sym, subst, rules, ℕ}
use Rattle.kin_motion.specs.Agreements.{FitsSize}
use Rattle.kin_motion.specs.Scene.{scene_at}
use Rattle.kin_motion.proofs.MotionScenes.{live_fits}
use Rattle.kin_hull.specs.Hulls.{Hull, IsSettledKinHull}
use Rattle.kin_cases.proofs.spanning.Keeping+KinHull.lead.Goals as goal

pub follow-requires-clause-ready : goal.follow-requires-clause-ready
follow-requires-clause-ready g c =
    let o = c.self.inside in
    let s = scene_at o.motions o.moment in
    let same : o.size ≡ c.args.pair.size = search rules in
    let settled = subst (λ (k : Hull). IsSettledKinHull k s) (sym c.structure-hull.ensures) c.self.invariant.settled_now in
    record {
      chains = (c.upper.ensures.chain s settled, c.lower.ensures.chain s settled);
      fits = subst (λ (n : ℕ). FitsSize n s) same (live_fits o.size o.motions o.moment c.self.invariant.slots);
      gone = c.stays.ensures c.if-stays.false;
      whole = c.requires.rest.whole;
    }
