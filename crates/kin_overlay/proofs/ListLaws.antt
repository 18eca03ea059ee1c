-- Lists of numbers.
use Rattle.std.proofs.Common.{◌≡◌, refl, ap₂, arith, List, [], ◌∷◌, ℕ, Bool, ◌||◌, nat_eq}
use Rattle.std.specs.List.{list_any}
use Rattle.std.proofs.lemmas.Bool.Decides.{nat_tests}
use Rattle.kin_motion.specs.Numbers.{is_in}

same_either_way : (x y : ℕ) → nat_eq y x ≡ nat_eq x y
same_either_way x y = grind (arith, nat_tests)

-- the search of a slice is that of the definition
pub is_in-any : (x : ℕ) (ys : List ℕ) → list_any (λ y. nat_eq y x) ys ≡ is_in x ys
is_in-any x [] = refl
is_in-any x (y ∷ ys) = ap₂ (λ (b c : Bool). b || c) (same_either_way x y) (is_in-any x ys)
