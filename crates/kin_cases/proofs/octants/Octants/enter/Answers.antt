use Rattle.std.proofs.Common.{◌≡◌, sym, ap, ◌∙◌, rules, ◌<◌, ◌^◌, false}
use Rattle.std.specs.Prelude.{is_some}
use Rattle.kin_motion.specs.Course.{is_live}
use Rattle.kin_cases.proofs.Followed.{at_rest, is_new, followed_entering}
use Rattle.kin_cases.proofs.octants.Octants.enter.Goals as goal

pub insert-requires-clause-rest : goal.insert-requires-clause-rest
insert-requires-clause-rest c =
    let o = c.self.inside in
    at_rest o.size o.motions o.mark o.wedges c.self.invariant (c.is_rest.ensures c.if-not-is_rest.false)

pub insert-requires-clause-new : goal.insert-requires-clause-new
insert-requires-clause-new c =
    let o = c.self.inside in
    let free : is_live o.motions c.args.no ≡ false = ap is_some (sym c.get.ensures.motion) ∙ sym c.is_some.ensures ∙ c.if-is_some.false in
    is_new o.size o.motions o.mark o.wedges c.self.invariant (c.is_rest.ensures c.if-not-is_rest.false) c.args.no free

pub invariant_of-result : goal.invariant_of-result
invariant_of-result c =
    let o = c.self.inside in
    let free : is_live o.motions c.args.no ≡ false = ap is_some (sym c.get.ensures.motion) ∙ sym c.is_some.ensures ∙ c.if-is_some.false in
    let low : c.args.no < 2 ^ o.size = search rules in
    followed_entering o.size o.motions o.mark o.wedges c.self.invariant (c.is_rest.ensures c.if-not-is_rest.false) c.args.no c.args.motion c.set.new.self c.in_ok-wedges.wedges low free c.set.ensures.value c.in_ok-wedges.ensures
