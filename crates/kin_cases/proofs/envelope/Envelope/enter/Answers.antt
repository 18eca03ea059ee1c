use Rattle.std.proofs.Common.{◌≡◌, sym, ap, ◌∙◌, rules, List, ℕ, ◌<◌, ◌^◌, false}
use Rattle.std.specs.Prelude.{is_some}
use Rattle.kin_motion.specs.Course.{is_live}
use Rattle.kin_motion.specs.Numbers.{is_in}
use Rattle.kin_cases.proofs.Marked.{slot_free, followed_entering}
use Rattle.kin_cases.proofs.envelope.Envelope.enter.Goals as goal

pub set-requires-2-clause-new : goal.set-requires-2-clause-new
set-requires-2-clause-new c =
    let e = c.self.inside in
    let free : is_live e.motions c.args.no ≡ false = ap is_some (sym c.get.ensures.motion) ∙ sym c.is_some.ensures ∙ c.if-is_some.false in
    let low : c.args.no < 2 ^ e.size = search rules in
    slot_free e.size e.motions e.tree e.gone.items e.fresh.items c.self.invariant c.args.no low free

pub invariant_of-self : goal.invariant_of-self
invariant_of-self c =
    let e = c.self.inside in
    let free : is_live e.motions c.args.no ≡ false = ap is_some (sym c.get.ensures.motion) ∙ sym c.is_some.ensures ∙ c.if-is_some.false in
    let stays : is_in c.args.no e.gone.items ≡ false = ap (λ (l : List ℕ). is_in c.args.no l) (sym c.deref.ensures.value) ∙ sym c.has_number.ensures ∙ c.if-has_number.false in
    let low : c.args.no < 2 ^ e.size = search rules in
    followed_entering e.size e.motions e.tree e.gone.items e.fresh.items c.self.invariant c.args.no low c.set.new.self c.set-2.new.self c.note.new.numbers.items c.args.motion free stays c.set.ensures.value c.set-2.ensures c.in_ok-note.ensures
