-- A list in two parts, of which the second begins at a place.
use Rattle.std.proofs.Common.{◌≡◌, refl, sym, ap, ◌∙◌, arith, List, [], ◌∷◌, ◌++◌, ℕ, ◌<◌, length, get_or, slice_get, slice_set, Some}
use Rattle.std.specs.Prelude.{take, Result, Ok, Err, OnOk}
use Rattle.std.proofs.lemmas.List.{length-append, take_at}
use Rattle.std.proofs.lemmas.Option.{slice_get_read}

module _ {A : Type 0} where
  get_second : (front back : List A) → slice_get (front ++ back) (length front) ≡ slice_get back 0
  get_second [] back = refl
  get_second (x ∷ front) back = get_second front back

  set_second : (front back : List A) (y : A) → slice_set (front ++ back) (length front) y ≡ front ++ slice_set back 0 y
  set_second [] back y = refl
  set_second (x ∷ front) back y = ap (λ zs. x ∷ zs) (set_second front back y)

  module _ (xs front back : List A) (place : ℕ) (whole : xs ≡ front ++ back) (count : length front ≡ place) where
    -- what is at the place is the first of the second part
    pub split_read : (x : A) → place < length xs → x ≡ get_or back 0 x → slice_get xs place ≡ Some x
    split_read x within read =
        ap (λ ys. slice_get ys place) whole ∙ sym (ap (slice_get (front ++ back)) count) ∙ get_second front back
        ∙ slice_get_read back (length back) 0 x refl (let all = ap length whole ∙ length-append front back in omega (arith, all, within, count)) read

    -- the first part is what comes before
    pub split_take : take place xs ≡ front
    split_take = ap (take place) whole ∙ take_at front back place count

    -- another one at the place is another first of the second part
    pub split_set : (y : A) → front ++ slice_set back 0 y ≡ slice_set xs place y
    split_set y = sym (set_second front back y) ∙ ap (λ n. slice_set (front ++ back) n y) count ∙ ap (λ ys. slice_set ys place y) (sym whole)

-- what six clauses on Ok say together
pub from_six : {T E A B C D F G P : Type 0} (r : Result T E) → (A → B → C → D → F → G → P) → OnOk r A → OnOk r B → OnOk r C → OnOk r D → OnOk r F → OnOk r G → OnOk r P
from_six (Ok v) f a b c d e g = f a b c d e g
from_six (Err w) f a b c d e g = tt
