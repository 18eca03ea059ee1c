use Rattle.std.proofs.Common.{arith, ap, length}
use Rattle.kin_motion.proofs.KeepLaws.{few_at_most}
use Rattle.kin_check.proofs.Coming.{fits_seen}
use Rattle.kin_check.proofs.sight.facts_at.Goals as goal

pub live_facts-requires-clause-fits : goal.live_facts-requires-clause-fits
live_facts-requires-clause-fits g c = fits_seen c.args.state.now c.requires c.args.moment.now c.in_ok-sight.sight.motions c.size.result c.in_ok-sight.ensures.motions c.size.ensures

pub live_facts-requires-clause-few : goal.live_facts-requires-clause-few
live_facts-requires-clause-few g c =
    let few = few_at_most c.args.state.now.keeps c.requires.keepable in
    let same = ap length c.keeps.ensures in
    omega (arith, few, same)
