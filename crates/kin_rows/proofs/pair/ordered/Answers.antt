use Rattle.std.proofs.Common.{◌≡◌, sym, ap, ◌∙◌, arith, true, nat_lt, w32}
use Rattle.std.proofs.lemmas.Bool.Decides.{nat_tests}
use Rattle.std.proofs.lemmas.Int.{to_z-of_z}
use Rattle.kin_algebra.specs.Signs.{opposite_of}
use Rattle.kin_motion.specs.Orders.{leads}
use Rattle.kin_motion.proofs.RealLaws.{real_line_laws}
use Rattle.kin_rows.proofs.Ordered.{swapped, two_in_order, sign_through}
use Rattle.kin_rows.proofs.pair.ordered.Goals as goal

pub returns-in-Zero-clause-sign : goal.returns-in-Zero-clause-sign
returns-in-Zero-clause-sign g c =
    (real_line_laws (g.O.Signs.scene c.args.now.now) c.requires.real).opposite c.args.dx c.args.dy c.args.old.first c.args.old.second
    ∙ ap opposite_of (sym (sign_through (g.O.Signs.scene c.args.now.now) c.args.dx c.args.dy _ _ c.args.old.first c.args.old.second _ (to_z-of_z w32 c.args.dx c.ranges.dx) (to_z-of_z w32 c.args.dy c.ranges.dy) c.sign-sign.ensures.value) ∙ c.in-Zero.is)
    ∙ sym c.in-Zero.is

pub returns-in-Zero-clause-order : goal.returns-in-Zero-clause-order
returns-in-Zero-clause-order g c =
    two_in_order _ _ _ _ _ (swapped _ _ _ c.requires.numbers)
    (let less : nat_lt c.args.old.second c.args.old.first ≡ true = grind (arith, nat_tests, c.if-i-j.true) in
    ap (λ t. leads t c.args.old.second c.args.old.first) (returns-in-Zero-clause-sign g c ∙ c.in-Zero.is) ∙ less)

pub returns-in-Minus-clause-sign : goal.returns-in-Minus-clause-sign
returns-in-Minus-clause-sign g c =
    (real_line_laws (g.O.Signs.scene c.args.now.now) c.requires.real).opposite c.args.dx c.args.dy c.args.old.first c.args.old.second
    ∙ ap opposite_of (sym (sign_through (g.O.Signs.scene c.args.now.now) c.args.dx c.args.dy _ _ c.args.old.first c.args.old.second _ (to_z-of_z w32 c.args.dx c.ranges.dx) (to_z-of_z w32 c.args.dy c.ranges.dy) c.sign-sign.ensures.value) ∙ c.in-Minus.is)

pub returns-in-Minus-clause-order : goal.returns-in-Minus-clause-order
returns-in-Minus-clause-order g c =
    two_in_order _ _ _ _ _ (swapped _ _ _ c.requires.numbers)
    (ap (λ t. leads t c.args.old.second c.args.old.first) (returns-in-Minus-clause-sign g c))
