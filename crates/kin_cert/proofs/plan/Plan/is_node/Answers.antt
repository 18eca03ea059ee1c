use Rattle.std.proofs.Common.{ℕ, sym, ◌∙◌}
use Rattle.kin_cert.specs.declared.bucket.Label.{Label}
use Rattle.kin_cert.proofs.Keys.{seated-key}
use Rattle.kin_cert.proofs.plan.Plan.is_node.Goals as goal

pub returns-in-Some : goal.returns-in-Some
returns-in-Some c = λ node m n.
    let plan = c.args.self.now in
    let k = c.has_node.ensures node plan.numbers m n in
    let there = sym c.in-Some.ensures in
    let label : ℕ → Label = λ number. record { part = c.args.part; number = number } in
    seated-key plan c.args.structure (label m) c.in-Some.section there k.0 k.1 ∙ sym (seated-key plan c.args.structure (label n) c.in-Some.section there k.0 k.2)
