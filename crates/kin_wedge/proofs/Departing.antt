-- Numbers of a list that loses one.
use Rattle.std.proofs.Common.{◌≡◌, ◌≢◌, refl, sym, ap, ◌∙◌, subst, arith, List, [], ◌∷◌, ℕ, zero, suc, true, false, inl, inr, ◌⊎◌}
use Rattle.std.proofs.lemmas.Bool.{cases_eq, false_from_ne_true}
use Rattle.kin_motion.specs.Numbers.{is_in, IsOnce}
use Rattle.kin_motion.specs.Sets.{AreDistinct}
use Rattle.kin_list.specs.declared.mark.Mark.{Mark}
use Rattle.kin_list.specs.declared.mark.Mark.TheVariants.{Rest, Enters, Leaves, Broken}
use Rattle.kin_list.specs.Listing.{staying, lasting, without}
use Rattle.kin_list.specs.Rows.{exchange, exchanged}
use Rattle.kin_list.proofs.LeavingLaws.{without_once}
use Rattle.kin_list.proofs.RowLaws.{get_from_is_in}
use Rattle.kin_list.proofs.ListLaws.{once-exchange, is_in-exchanged, is_in-without, not_in-without}

pub in_without : (i who : ℕ) (xs : List ℕ) → is_in i (without who xs) ≡ true → (i ≢ who) × (is_in i xs ≡ true)
in_without i who xs h = at (cases_eq i who)
  where
    at : (i ≡ who) ⊎ (i ≢ who) → (i ≢ who) × (is_in i xs ≡ true)
    at (inl e) = absurd (let c : false ≡ true = sym (not_in-without who xs) ∙ ap (λ (x : ℕ). is_in x (without who xs)) (sym e) ∙ h in cc)
    at (inr n) = (n, sym (is_in-without i who xs n) ∙ h)

-- who has lasted is there
lasting_in : (mark : Mark) (x : ℕ) (xs : List ℕ) → is_in x (lasting mark xs) ≡ true → is_in x xs ≡ true
lasting_in Rest x xs h = h
lasting_in (Enters i) x xs h = (in_without x i xs h).1
lasting_in (Leaves i) x xs h = h
lasting_in Broken x xs h = h

-- who stays is in the list to which the exchanges lead
pub still_in : (mark : Mark) (swaps old new : List ℕ) (x : ℕ) → exchanged swaps (staying mark old) ≡ lasting mark new → is_in x (staying mark old) ≡ true → is_in x new ≡ true
still_in mark swaps old new x e h = lasting_in mark x new (ap (is_in x) (sym e) ∙ is_in-exchanged swaps (staying mark old) x ∙ h)

-- who stays was there
pub staying_in : (mark : Mark) (x : ℕ) (xs : List ℕ) → is_in x (staying mark xs) ≡ true → is_in x xs ≡ true
staying_in Rest x xs h = h
staying_in (Enters i) x xs h = h
staying_in (Leaves i) x xs h = (in_without x i xs h).1
staying_in Broken x xs h = h

-- no number stands twice in the list from which exchanges lead to one without repetition
exchange-behind : (p x : ℕ) (xs : List ℕ) → exchange (suc p) (x ∷ xs) ≡ x ∷ exchange p xs
exchange-behind p x [] = refl
exchange-behind p x (y ∷ ys) = refl

exchange-twice : (p : ℕ) (xs : List ℕ) → exchange p (exchange p xs) ≡ xs
exchange-twice p [] = refl
exchange-twice p (x ∷ []) = refl
exchange-twice zero (x ∷ y ∷ ys) = refl
exchange-twice (suc p) (x ∷ y ∷ ys) = exchange-behind p x (exchange p (y ∷ ys)) ∙ ap (λ (l : List ℕ). x ∷ l) (exchange-twice p (y ∷ ys))

once_before : (ps xs : List ℕ) → IsOnce (exchanged ps xs) → IsOnce xs
once_before [] xs o = o
once_before (p ∷ ps) xs o = subst IsOnce (exchange-twice p xs) (once-exchange p (exchange p xs) (once_before ps (exchange p xs) o))

once_apart : (xs : List ℕ) → AreDistinct xs → IsOnce xs
once_apart [] apart = tt
once_apart (x ∷ xs) apart = (
  false_from_ne_true _ (λ t. let r = get_from_is_in xs x t in let e = apart zero (suc r.0) x refl r.1 in omega (arith, e)),
  once_apart xs (λ i j y e f. let s = apart (suc i) (suc j) y e f in omega (arith, s)),
)

lasting_once : (mark : Mark) (xs : List ℕ) → IsOnce xs → IsOnce (lasting mark xs)
lasting_once Rest xs o = o
lasting_once (Enters i) xs o = without_once i xs o
lasting_once (Leaves i) xs o = o
lasting_once Broken xs o = o

pub once_still : (mark : Mark) (swaps old new : List ℕ) → exchanged swaps (staying mark old) ≡ lasting mark new → AreDistinct new → IsOnce (staying mark old)
once_still mark swaps old new e apart = once_before swaps (staying mark old) (subst IsOnce (sym e) (lasting_once mark new (once_apart new apart)))
