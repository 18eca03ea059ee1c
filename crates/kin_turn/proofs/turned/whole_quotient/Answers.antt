use Rattle.std.proofs.Common.{◌≡◌, w64, ap, ap₂, ◌∙◌, to_z, of_z}
use Rattle.std.specs.Int.RustNames.{int_div, int_rem}
use Rattle.std.proofs.lemmas.Int.{quot-rem, rem_below, to_z-of_z}
use Rattle.kin_algebra.proofs.Magnitudes.{size-some}
use Rattle.kin_turn.proofs.Quotients.{remainder_of_multiple}
use Rattle.kin_turn.proofs.turned.whole_quotient.Goals as goal

pub returns-else-x-divisor-eq0 : goal.returns-else-x-divisor-eq0
returns-else-x-divisor-eq0 c k e =
    let x = c.args.x in
    let d = c.args.divisor in
    let none = remainder_of_multiple x k d (int_div x d) (int_rem x d) e (quot-rem x d) (rem_below x d (size-some d c.requires.positive)) in
    let same : int_rem (to_z w64 (of_z w64 x)) (to_z w64 (of_z w64 d)) ≡ int_rem x d = ap₂ int_rem (to_z-of_z w64 x c.ranges.x) (to_z-of_z w64 d c.ranges.divisor) in
    c.if-x-divisor-eq0.false (ap (of_z w64) (same ∙ none))
