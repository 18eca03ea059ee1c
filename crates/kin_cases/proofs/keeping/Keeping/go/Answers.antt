use Rattle.std.proofs.Common.{sym}
use Rattle.kin_motion.specs.Scene.{scene_at}
use Rattle.kin_cases.proofs.keeping.Keeping.go.Goals as goal

pub settle-requires-clause-ready : goal.settle-requires-clause-ready
settle-requires-clause-ready g c =
    let o = c.self.inside in
    g.met.K.Kept.ready_over o.kept (scene_at o.motions c.args.moment.now) c.self.invariant.members

pub settle-requires-clause-spares : goal.settle-requires-clause-spares
settle-requires-clause-spares g c = λ p. sym (g.met.K.Kept.spares_none c.self.inside.kept p c.self.invariant.rest)

pub invariant_of-result : goal.invariant_of-result
invariant_of-result g c =
    let o = c.self.inside in
    let of = c.self.invariant in
    let kept = c.in_ok-kept.ensures in
    let new = c.in_ok-kept.kept in
    let s = scene_at o.motions c.args.moment.now in
    record {
      small = of.small;
      slots = of.slots;
      keep = of.keep;
      kind = g.met.K.Kept.kind_stays o.kept new o.size of.keep kept.stays of.kind;
      rest = kept.rest;
      members = g.met.K.Kept.members_stay o.kept new s of.members kept.stays kept.rest kept.settled;
      settled_now = kept.settled;
    }
