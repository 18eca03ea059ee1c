use Rattle.std.proofs.Common.{◌≡◌, false, true, rules}
use Rattle.kin_env.proofs.Trees.{orders_within, ready_told, live_still, settled_now, rest_now}
use Rattle.kin_env.proofs.tree.EnvTreeKinetic.settle.Goals as goal

pub settle-requires-clause-ready : goal.settle-requires-clause-ready
settle-requires-clause-ready g c = ready_told c.self.inside.branches c.self.inside.whole _ _ c.self.view_is c.requires.ready _ c.requires.failing

pub returns-clause-rest : goal.returns-clause-rest
returns-clause-rest g c =
    let e = c.in_ok-settle.ensures in
    rest_now _ c.requires.real _ e.sound e.right (live_still c.self.inside.branches c.self.inside.whole _ _ c.self.view_is c.requires.ready c.settle.new.self e.slots)

pub returns-clause-settled : goal.returns-clause-settled
returns-clause-settled g c =
    let e = c.in_ok-settle.ensures in
    settled_now _ c.requires.real _ e.sound e.right (live_still c.self.inside.branches c.self.inside.whole _ _ c.self.view_is c.requires.ready c.settle.new.self e.slots)

pub returns-clause-tests : goal.returns-clause-tests
returns-clause-tests g c = λ keep. c.in_ok-settle.ensures.tests (orders_within c.self.inside.branches c.settle.new.self c.self.inside.whole true _ c.self.view_is keep)

pub invariant_of-self : goal.invariant_of-self
invariant_of-self g c = λ w. absurd (let clash : false ≡ true = w in cc)

pub returns-in_err-settle-clause-broken : goal.returns-in_err-settle-clause-broken
returns-in_err-settle-clause-broken g c = search rules
