use Rattle.kin_world.proofs.Vocabulary.{rules, arith}
use Rattle.kin_world.proofs.LeapLaws.{landing_under_repair, has_landed}
use Rattle.kin_world.proofs.TakeLaws.{given_waiting, given_askable, settled_since}
use Rattle.kin_world.proofs.upkeep.Upkeep.leap.Goals as goal

pub give_failing-requires-clause-failing : goal.give_failing-requires-clause-failing
give_failing-requires-clause-failing g c = c.requires.failing

pub landing-self-requires : goal.landing-self-requires
landing-self-requires g c = search (rules, arith, c.in_ok-give_failing.ensures.given, c.deref.ensures.value, given_askable, c.requires.sound)

pub repair_each-requires : goal.repair_each-requires
repair_each-requires g c =
    let out = c.in_ok-give_failing.ensures.given in
    let landing = rw c.deref.ensures.value at c.landing-self.ensures in
    record {
      repair = (_, landing_under_repair c.requires.sound c.give_failing.new.self out c.args.due.now c.args.limit.now c.requires.failing c.landing-self.result landing c.in_ok-give_failing.ensures.once c.give_failing.ensures.made);
      waiting = rw c.deref-2.ensures.value (given_waiting c.requires.sound c.give_failing.new.self out);
    }

pub returns-clause-landed : goal.returns-clause-landed
returns-clause-landed g c =
    let out = c.in_ok-give_failing.ensures.given in
    let landing = rw c.deref.ensures.value at c.landing-self.ensures in
    has_landed c.requires.sound c.give_failing.new.self out c.args.due.now c.args.limit.now c.requires.failing c.landing-self.result landing c.requires.within c.repair_each.ensures.frame
    (settled_since c.requires.sound c.give_failing.new.self out c.give_failing.ensures.made c.in_ok-repair_each.ensures.settled)
