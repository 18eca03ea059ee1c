use Rattle.std.proofs.Common.{◌≡◌, refl, sym, ap, ◌∙◌, rules, List, ℕ, ◌<◌, ◌^◌, false}
use Rattle.kin_motion.specs.Numbers.{is_in}
use Rattle.kin_cases.proofs.Marked.{followed_leaving}
use Rattle.kin_cases.proofs.envelope.Envelope.leave.Goals as goal

pub invariant_of-self : goal.invariant_of-self
invariant_of-self c =
    let e = c.self.inside in
    let stood : is_in c.args.no e.fresh.items ≡ false = ap (λ (l : List ℕ). is_in c.args.no l) (sym c.deref.ensures.value) ∙ sym c.has_number.ensures ∙ c.if-has_number.false in
    let low : c.args.no < 2 ^ e.size = search rules in
    followed_leaving e.size e.motions e.tree e.gone.items e.fresh.items c.self.invariant c.args.no low c.clear.new.self c.clear-2.new.self c.note.new.numbers.items (c.if-not-is_live.ensures.0 refl) stood c.clear.ensures c.clear-2.ensures c.in_ok-note.ensures
