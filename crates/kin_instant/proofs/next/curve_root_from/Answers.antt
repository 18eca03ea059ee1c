use Rattle.std.proofs.Common.{◌≡◌, ◌⊎◌, inl, inr, Option, Some, None, IfSome, IfNone, ap, sym, ◌∙◌, subst}
use Rattle.kin_algebra.specs.declared.sign.Sign.{Sign}
use Rattle.kin_algebra.specs.Signs.{opposite_of}
use Rattle.kin_num.specs.declared.instant.Shape.{Shape}
use Rattle.kin_num.specs.declared.instant.Moment.{Moment}
use Rattle.kin_num.specs.Quadratic.{Quadratic, negated}
use Rattle.kin_num.specs.Instants.{sign_at}
use Rattle.kin_num.proofs.SignLaws.{sign_at-neg}
use Rattle.kin_instant.specs.Places.{IsZeroPolynomial, IsNextRoot, HasNoRootAfter}
use Rattle.kin_instant.specs.Laws.{IsNext}
use Rattle.kin_instant.proofs.CurveRoots.{next_back}
use Rattle.kin_instant.proofs.next.curve_root_from.Goals as goal

-- the polynomial with its sign, or its opposite with the opposite sign
abbrev IsTurned : Quadratic → Sign → Quadratic → Sign → Type 0
IsTurned p s q t = ((q ≡ p) × (t ≡ s)) ⊎ ((q ≡ negated p) × (t ≡ opposite_of s))

turned_sign : (p q : Quadratic) (s t : Sign) (m : Moment) → IsTurned p s q t → sign_at p m ≡ s → sign_at q m ≡ t
turned_sign p q s t m (inl h) e = ap (λ (x : Quadratic). sign_at x m) h.0 ∙ e ∙ sym h.1
turned_sign p q s t m (inr h) e = ap (λ (x : Quadratic). sign_at x m) h.0 ∙ sign_at-neg p m ∙ ap opposite_of e ∙ sym h.1

back : (p q : Quadratic) (s t : Sign) (w : Shape) (o : Option Shape) → IsTurned p s q t → IsNext q w o → IsNext p w o
back p q s t w o (inl h) n = subst (λ (x : Quadratic). IsNext x w o) h.0 n
back p q s t w o (inr h) n = next_back p w o (subst (λ (x : Quadratic). IsNext x w o) h.0 n)

next_in : (p : Quadratic) (w : Shape) (o : Option Shape) → IsNext p w o → IfSome o (IsNextRoot p w)
next_in p w None h = tt
next_in p w (Some r) h = h.found

none_in : (p : Quadratic) (w : Shape) (o : Option Shape) → IsNext p w o → IfNone o (IsZeroPolynomial p ⊎ HasNoRootAfter p w)
none_in p w None h = h.found
none_in p w (Some r) h = tt

pub cup_root_from-requires-clause-sign : goal.cup_root_from-requires-clause-sign
cup_root_from-requires-clause-sign c = turned_sign c.args.p.now c.as_cup-cup.result.0 c.args.sign c.as_cup-cup.result.1 c.args.m.now c.as_cup-cup.ensures.same c.requires.sign

pub returns : goal.returns
returns c =
    let h = back c.args.p.now c.as_cup-cup.result.0 c.args.sign c.as_cup-cup.result.1 c.args.m.now.at c.cup_root_from.result c.as_cup-cup.ensures.same c.cup_root_from.ensures in
    record {
      next = next_in c.args.p.now c.args.m.now.at c.cup_root_from.result h;
      none = none_in c.args.p.now c.args.m.now.at c.cup_root_from.result h;
      kept = h.kept;
    }
