-- The members of a list, and the places where they stand.
use Rattle.std.proofs.Common.{◌≡◌, ◌⊎◌, inl, inr, refl, ap, ◌∙◌, arith, List, [], ◌∷◌, ℕ, zero, suc, Some}
use Rattle.std.specs.Prelude.{slice_get, Contains}
use Rattle.std.proofs.lemmas.Option.{same_Some, slice_get-get_or}

pub contains_none : {A : Type 0} (x : A) → Contains [] x → ⊥
contains_none x h = omega (arith, h.1)

pub contains_head : {A : Type 0} (x : A) (xs : List A) → Contains (x ∷ xs) x
contains_head x xs = (zero, omega arith, refl)

pub contains_tail : {A : Type 0} (x z : A) (xs : List A) → Contains xs z → Contains (x ∷ xs) z
contains_tail x z xs (k, l, e) = (suc k, omega arith, e)

pub contains_cases : {A : Type 0} (x z : A) (xs : List A) → Contains (x ∷ xs) z → (x ≡ z) ⊎ Contains xs z
contains_cases x z xs (zero, l, e) = inl e
contains_cases x z xs (suc k, l, e) = inr (k, omega arith, e)

pub contains_from_get : {A : Type 0} (xs : List A) (k : ℕ) (x : A) → slice_get xs k ≡ Some x → Contains xs x
contains_from_get [] k x e = absurd cc
contains_from_get (y ∷ ys) zero x e = (zero, omega arith, same_Some y x e)
contains_from_get (y ∷ ys) (suc k) x e = contains_tail y x ys (contains_from_get ys k x e)

pub get_from_contains : {A : Type 0} (xs : List A) (x : A) → Contains xs x → (k : ℕ) × (slice_get xs k ≡ Some x)
get_from_contains xs x h = (h.0, slice_get-get_or xs h.0 x h.1 ∙ ap (λ y. Some y) h.2)
