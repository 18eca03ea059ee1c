use Rattle.std.proofs.Common.{◌≡◌, refl, sym, ap, ◌∙◌, List, ℕ, Option, Some, None, false}
use Rattle.std.specs.Prelude.{slice_get, IfSome, IsNone, ◌↔◌}
use Rattle.kin_motion.specs.Numbers.{is_in}
use Rattle.kin_wedge.specs.Sides.{IsPlace}
use Rattle.kin_wedge.proofs.orders.Orders.place_in.Goals as goal

placed : (row items : List ℕ) (who : ℕ) (place : Option ℕ) → items ≡ row → IfSome place (λ p. slice_get items p ≡ Some who) → IsNone place ↔ (is_in who items ≡ false) → IsPlace row who place
placed row items who None e s n = ap (is_in who) (sym e) ∙ n.0 refl
placed row items who (Some p) e s n = ap (λ (xs : List ℕ). slice_get xs p) (sym e) ∙ s

pub returns : goal.returns
returns c = placed _ _ c.args.no c.place_of.result c.list.ensures.row c.place_of.ensures.some c.place_of.ensures.none
