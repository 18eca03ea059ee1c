use Rattle.std.proofs.Common.{◌≡◌, sym, ap, ◌∙◌, subst, rules, ℕ, ◌<◌, ◌^◌, length, false}
use Rattle.std.specs.Prelude.{is_some}
use Rattle.std.proofs.lemmas.List.{length-set}
use Rattle.kin_motion.specs.Course.{is_live, live_of}
use Rattle.kin_cases.proofs.Keepings.{has_entered}
use Rattle.kin_cases.proofs.keeping.Keeping.enter.Goals as goal

pub take_in-requires-clause-rest : goal.take_in-requires-clause-rest
take_in-requires-clause-rest g c = c.self.invariant.rest

pub take_in-requires-clause-room : goal.take_in-requires-clause-room
take_in-requires-clause-room g c =
    let o = c.self.inside in
    let low : c.args.no < 2 ^ o.size = search rules in
    (o.size, c.self.invariant.keep, c.self.invariant.kind, low)

pub take_in-requires-clause-entered : goal.take_in-requires-clause-entered
take_in-requires-clause-entered g c =
    let o = c.self.inside in
    let low : c.args.no < 2 ^ o.size = search rules in
    let free : is_live o.motions c.args.no ≡ false = ap is_some (sym c.get.ensures.motion) ∙ sym c.is_some.ensures ∙ c.if-is_some.false in
    (live_of o.motions, c.self.invariant.members, has_entered o.motions c.set.new.self c.args.no c.args.motion (subst (λ (n : ℕ). c.args.no < n) (sym c.self.invariant.slots) low) free c.set.ensures.value)

pub invariant_of-result : goal.invariant_of-result
invariant_of-result g c =
    let o = c.self.inside in
    let kept = c.in_ok-kept.ensures in
    record {
      small = c.self.invariant.small;
      slots = ap length c.set.ensures.value ∙ length-set o.motions c.args.no _ ∙ c.self.invariant.slots;
      keep = c.self.invariant.keep;
      kind = kept.kind o.size c.self.invariant.keep c.self.invariant.kind;
      rest = kept.rest;
      members = kept.members;
      settled_now = kept.settled;
    }
