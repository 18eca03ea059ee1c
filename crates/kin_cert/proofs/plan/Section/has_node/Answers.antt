use Rattle.std.proofs.Common.{◌≡◌, ◌+◌, ◌-◌, ◌*◌, nat_lt, false, arith}
use Rattle.std.proofs.lemmas.Bool.Decides.{nat_tests}
use Rattle.kin_cert.proofs.Keys.{node_seat}
use Rattle.kin_cert.proofs.plan.Section.has_node.Goals as goal

pub returns-then-part-self : goal.returns-then-part-self
returns-then-part-self c = λ node numbers m n.
    let s = c.args.self.now in
    let past : nat_lt c.args.part s.lists ≡ false = grind (arith, nat_tests, c.if-part-self.true) in
    (s.base + s.lists * numbers + (c.args.part - s.lists), node_seat numbers s c.args.part past node m, node_seat numbers s c.args.part past node n)
