use Rattle.std.proofs.Common.{◌≡◌, true, false, sym, ◌∙◌}
use Rattle.kin_fail.proofs.Failing.{constant_zero, zero_for_ever, left_after}
use Rattle.kin_fail.proofs.first_fail.left_zero.Goals as goal

pub returns-then-is_constant : goal.returns-then-is_constant
returns-then-is_constant c = λ f zero.
    let flat = (c.is_constant.ensures).0 c.if-is_constant.true in
    zero_for_ever c.args.p.now c.args.now.now c.recall_canonical.ensures c.requires f zero (constant_zero c.args.p.now c.args.now.now c.recall_canonical.ensures c.requires flat.0 flat.1)

pub returns : goal.returns
returns c = λ f zero. left_after c.args.p.now c.args.now.now c.recall_canonical.ensures c.requires f zero (λ z. let both : true ≡ false = sym ((c.is_constant.ensures).1 (z.a_zero, z.b_zero)) ∙ c.if-is_constant.false in absurd cc)
