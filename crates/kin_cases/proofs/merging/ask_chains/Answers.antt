use Rattle.kin_cases.proofs.ByTests.{less_by_tests}
use Rattle.kin_cases.proofs.merging.ask_chains.Goals as goal

pub returns : goal.returns
returns g c = record {
  of_a = c.in_ok-is_a_tellable.ensures c.if-not-is_a_tellable.false;
  of_b = c.in_ok-is_b_tellable.ensures c.if-not-is_b_tellable.false;
  less = less_by_tests c.args.a.now c.args.b.now (c.are_less.ensures c.if-not-are_less.false);
}
