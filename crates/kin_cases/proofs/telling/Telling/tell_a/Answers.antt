use Rattle.std.proofs.Common.{sym, subst, ◌∙◌, List, ℕ}
use Rattle.kin_overlay.specs.Fingers.{AreLess}
use Rattle.kin_cases.proofs.ByTests.{less_by_tests}
use Rattle.kin_cases.proofs.telling.Telling.tell_a.Goals as goal

pub tell-requires-clause-whole : goal.tell-requires-clause-whole
tell-requires-clause-whole c = c.self.invariant.whole

pub tell-requires-clause-old : goal.tell-requires-clause-old
tell-requires-clause-old c = c.self.invariant.a_is ∙ sym c.deref-2.ensures.value

pub tell-requires-clause-apart : goal.tell-requires-clause-apart
tell-requires-clause-apart c =
    subst (λ (xs : List ℕ). AreLess c.args.chain.now xs) (c.deref.ensures.value ∙ sym c.self.invariant.b_is) (less_by_tests c.args.chain.now c.deref.result.now (c.are_less.ensures c.if-not-are_less.false))

pub tell-requires-clause-gone : goal.tell-requires-clause-gone
tell-requires-clause-gone c = c.self.invariant.gone_is

pub invariant_of-result : goal.invariant_of-result
invariant_of-result c =
    let t = c.in_ok-overlay.ensures in
    record { whole = t.told.whole; a_is = t.told.own ∙ sym c.in_ok-a.ensures.items; b_is = t.told.other ∙ c.self.invariant.b_is; gone_is = t.gone }
