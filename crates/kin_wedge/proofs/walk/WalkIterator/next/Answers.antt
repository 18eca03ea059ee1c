use Rattle.std.proofs.Common.{ap, sym, ◌∙◌, arith, List, ℕ, length}
use Rattle.kin_wedge.proofs.Pointing.{step_gives, step_reaches}
use Rattle.kin_wedge.proofs.walk.WalkIterator.next.Goals as goal

pub invariant_of-self : goal.invariant_of-self
invariant_of-self c = step_reaches c.self.inside.threads.now c.self.inside.at c.in-Some.slot (sym c.named.ensures ∙ c.in-Some.is) c.self.invariant (record { next = 0; previous = 0; first = 0 })

pub returns-clause-steps : goal.returns-clause-steps
returns-clause-steps c = sym c.self.view_is ∙ step_gives c.self.inside.threads.now c.self.inside.at c.in-Some.slot (sym c.named.ensures ∙ c.in-Some.is) c.self.invariant (record { next = 0; previous = 0; first = 0 })

pub returns-clause-goes : goal.returns-clause-goes
returns-clause-goes c =
    let e = ap (λ (xs : List ℕ). length xs) (sym c.self.view_is ∙ step_gives c.self.inside.threads.now c.self.inside.at c.in-Some.slot (sym c.named.ensures ∙ c.in-Some.is) c.self.invariant (record { next = 0; previous = 0; first = 0 })) in
    record { on = λ b. (tt, tt, omega (arith, e)); keeps = tt; rests = λ b. tt }
