use Rattle.std.proofs.Common.{arith, sym, ap, ◌∙◌, drop, ◌+◌, ◌-◌, ◌*◌, get_or}
use Rattle.std.proofs.lemmas.Bool.Decides.{nat_tests}
use Rattle.kin_script.specs.Numbers.{up_to}
use Rattle.kin_script.proofs.NumberLaws.{too_large, at_end, at_digit, at_other, starts, no_numeral}
use Rattle.kin_script.proofs.number.numeral.Goals as goal

pub returns-then-not-is_ascii_digit-clause-value : goal.returns-then-not-is_ascii_digit-clause-value
returns-then-not-is_ascii_digit-clause-value c =
    sym (ap (up_to c.args.most) (at_other c.loop-d.value c.loop-d.d-index c.args.word.now c.loop-d-test.true (sym c.is_ascii_digit.ensures.value ∙ c.if-not-is_ascii_digit.true))) ∙ c.loop-d.invariant.rest

pub returns-then-value-from-clause-value : goal.returns-then-value-from-clause-value
returns-then-value-from-clause-value c =
    let n = 10 * c.loop-d.value + (get_or c.args.word.now c.loop-d.d-index 0 - 48) in
    sym (too_large c.args.most n (drop (c.loop-d.d-index + 1) c.args.word.now) (omega arith))
    ∙ sym (ap (up_to c.args.most) (at_digit c.loop-d.value c.loop-d.d-index c.args.word.now c.loop-d-test.true (sym c.is_ascii_digit.ensures.value ∙ c.if-not-is_ascii_digit.false)))
    ∙ c.loop-d.invariant.rest

pub loop-d-preserved : goal.loop-d-preserved
loop-d-preserved c = record {
  small = omega arith;
  rest = rw c.from.ensures (sym (ap (up_to c.args.most) (at_digit c.loop-d.value c.loop-d.d-index c.args.word.now c.loop-d-test.true (sym c.is_ascii_digit.ensures.value ∙ c.if-not-is_ascii_digit.false))) ∙ c.loop-d.invariant.rest);
}

pub returns-clause-value : goal.returns-clause-value
returns-clause-value c = sym (at_end c.args.most c.loop-d.value c.loop-d.d-index c.args.word.now c.loop-d-test.false c.loop-d.invariant.small) ∙ c.loop-d.invariant.rest

pub returns-then-is_empty-clause-value : goal.returns-then-is_empty-clause-value
returns-then-is_empty-clause-value c = sym (ap (up_to c.args.most) (no_numeral c.args.word.now (grind (arith, nat_tests))))

pub loop-d-init : goal.loop-d-init
loop-d-init c = record {
  small = omega arith;
  rest = starts c.args.most c.args.word.now (grind (arith, nat_tests));
}
