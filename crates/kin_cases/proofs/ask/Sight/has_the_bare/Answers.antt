use Rattle.std.proofs.Common.{◌≡◌, ℕ, sym, ◌∙◌}
use Rattle.std.proofs.lemmas.List.Elements.{All-more}
use Rattle.kin_motion.specs.Chains.{is_bare}
use Rattle.kin_motion.specs.Numbers.{is_in}
use Rattle.kin_cases.proofs.ByTests.{all_of, same_by_test}
use Rattle.kin_cases.proofs.ask.Sight.has_the_bare.Goals as goal

pub loop-p-preserved : goal.loop-p-preserved
loop-p-preserved g c =
    All-more (λ (i : ℕ). is_in i c.args.chain.now ≡ is_bare (g.O.Signs.scene c.args.self.now.signs.now) c.args.set.now i) c.args.set.now c.loop-p.p-index 0 c.loop-p-test.true c.loop-p.invariant
    (sym c.has_number.ensures ∙ same_by_test c.has_number.result c.in_ok-is_bare.is_bare c.if-has_number-is_bare.false ∙ c.in_ok-is_bare.ensures)

pub returns : goal.returns
returns g c = λ e. all_of (λ (i : ℕ). is_in i c.args.chain.now ≡ is_bare (g.O.Signs.scene c.args.self.now.signs.now) c.args.set.now i) c.args.set.now c.loop-p.p-index c.loop-p-test.false c.loop-p.invariant
