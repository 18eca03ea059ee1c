use Rattle.std.proofs.Common.{◌≡◌, refl, sym, ap, ◌∙◌, subst, rules, ℕ, ◌<◌, ◌^◌, length}
use Rattle.std.proofs.lemmas.List.{length-set}
use Rattle.kin_motion.specs.Scene.{scene_at}
use Rattle.kin_cases.proofs.Keepings.{has_left}
use Rattle.kin_cases.proofs.keeping.Keeping.leave.Goals as goal

pub let_go-requires-clause-rest : goal.let_go-requires-clause-rest
let_go-requires-clause-rest g c = c.self.invariant.rest

pub let_go-requires-clause-room : goal.let_go-requires-clause-room
let_go-requires-clause-room g c =
    let o = c.self.inside in
    let low : c.args.no < 2 ^ o.size = search rules in
    (o.size, c.self.invariant.keep, c.self.invariant.kind, low)

pub let_go-requires-clause-left : goal.let_go-requires-clause-left
let_go-requires-clause-left g c =
    let o = c.self.inside in
    let of = c.self.invariant in
    let low : c.args.no < 2 ^ o.size = search rules in (
      scene_at o.motions o.moment,
      of.members,
      of.settled_now,
      has_left o.motions c.clear.new.self c.args.no (subst (λ (n : ℕ). c.args.no < n) (sym of.slots) low) (c.if-not-is_live.ensures.0 refl) c.clear.ensures,
    )

pub invariant_of-result : goal.invariant_of-result
invariant_of-result g c =
    let o = c.self.inside in
    let kept = c.in_ok-kept.ensures in
    record {
      small = c.self.invariant.small;
      slots = ap length c.clear.ensures ∙ length-set o.motions c.args.no _ ∙ c.self.invariant.slots;
      keep = c.self.invariant.keep;
      kind = kept.kind o.size c.self.invariant.keep c.self.invariant.kind;
      rest = kept.rest;
      members = kept.members;
      settled_now = kept.settled;
    }
