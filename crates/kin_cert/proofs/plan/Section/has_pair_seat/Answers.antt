use Rattle.std.proofs.Common.{◌≡◌, ◌+◌, ◌*◌, ◌/◌, ◌%◌, ◌^◌, ℕ, nat_lt, true, Some, ap, ◌∙◌, arith}
use Rattle.std.proofs.lemmas.Bool.Decides.{nat_tests}
use Rattle.kin_cert.proofs.Keys.{pair_seat}
use Rattle.kin_cert.proofs.plan.Section.has_pair_seat.Goals as goal

pub returns-then-self-eq0 : goal.returns-then-self-eq0
returns-then-self-eq0 c = λ yes other same.
    let s = c.args.self.now in
    let no_lists : s.lists ≡ 0 = grind (arith, nat_tests, c.if-self-eq0.true) in
    let no_nodes : s.nodes ≡ 0 = grind (arith, nat_tests, yes) in
    let low : nat_lt (c.args.number % 2 ^ 30) c.args.numbers ≡ true = grind (arith, nat_tests, c.if-number-numbers.false) in
    let pair : nat_lt (c.args.part / 2) s.pairs ≡ true = grind (arith, nat_tests, c.if-part-self.false) in
    let there = pair_seat c.args.numbers s no_lists no_nodes c.args.number low in
    (s.base + c.args.part / 2 * c.args.numbers + c.args.number % 2 ^ 30, there other (ap (λ (k : ℕ). nat_lt k s.pairs) same ∙ pair) ∙ ap (λ (k : ℕ). Some (s.base + k * c.args.numbers + c.args.number % 2 ^ 30)) same, there c.args.part pair)
