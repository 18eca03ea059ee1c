-- Where an instant is relative to a root, and what comes after it.
use Rattle.std.specs.Prelude.{◌≡◌, ◌≢◌, Bool, true, false, Option, MatchOption, pos}
use Rattle.std.specs.declared.cmp.Ordering.{Ordering}
use Rattle.std.specs.declared.cmp.Ordering.TheVariants.{Less, Equal, Greater}
use Rattle.kin_algebra.specs.declared.sign.Sign.{Sign}
use Rattle.kin_algebra.specs.declared.sign.Sign.TheVariants.{Minus, Zero, Plus}
use Rattle.kin_num.specs.declared.instant.Shape.{Shape}
use Rattle.kin_num.specs.Quadratic.{Quadratic}
use Rattle.kin_num.specs.Canonical.{IsCanonical, IsCanonicalForm}
use Rattle.kin_num.specs.declared.instant.Moment.{Moment}
use Rattle.kin_num.specs.Instants.{sign_at_instant, sign_at}
use Rattle.kin_num.specs.Order.{IsLess, IsEarlier}

-- the place of an instant relative to a root, by the signs of the root's quadratic and of its slope there
abbrev pub place_of : Sign → Sign → Bool → Ordering
place_of Minus s true = Less
place_of Minus s false = Greater
place_of Zero Minus true = Less
place_of Zero Minus false = Equal
place_of Zero Zero upper = Less
place_of Zero Plus true = Equal
place_of Zero Plus false = Greater
place_of Plus Minus upper = Less
place_of Plus Zero upper = Less
place_of Plus Plus upper = Greater

-- the polynomial is 0 everywhere
pub record IsZeroPolynomial (p : Quadratic) : Type 0 where
  pub a_zero : p.a ≡ pos 0
  pub b_zero : p.b ≡ pos 0
  pub c_zero : p.c ≡ pos 0

-- the least root later than w
pub record IsNextRoot (p : Quadratic) (w r : Shape) : Type 0 where
  pub canonical : IsCanonical r
  pub root : sign_at_instant p r ≡ Zero
  pub later : IsLess w r
  pub least : (v : Shape) → IsCanonicalForm v → sign_at_instant p v ≡ Zero → IsLess w v → ¬ (IsLess v r)

-- no root is later than w
abbrev pub HasNoRootAfter : Quadratic → Shape → Type 0
HasNoRootAfter p w = (v : Shape) → IsCanonicalForm v → sign_at_instant p v ≡ Zero → ¬ (IsLess w v)

-- from a moment at w on, where the polynomial isn't 0, its sign stays as it is before the instant, or for ever where no instant is given
abbrev pub KeepsSign : Quadratic → Shape → Option Shape → Type 0
KeepsSign p w until =
    (m n : Moment) → m.at ≡ w → IsCanonicalForm m.at → IsCanonicalForm n.at → sign_at p m ≢ Zero → IsEarlier m n
    → MatchOption until (Unit {0}) (IsLess n.at) → sign_at p n ≡ sign_at p m
