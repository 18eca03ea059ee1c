-- Only numbers that were exchanged with each other stand another way round.
use Rattle.std.proofs.Common.{◌≡◌, ◌≢◌, refl, sym, ap, ap₂, ◌∙◌, arith, List, [], ◌∷◌, ℕ, zero, suc, Bool, true, false, cond, ◌||◌, ◌&&◌, nat_eq, Some, None, Option, inl, inr, ◌⊎◌}
use Rattle.std.specs.Prelude.{slice_get}
use Rattle.std.proofs.lemmas.Bool.{cases_eq, eqb-true, ne_eqb}
use Rattle.std.proofs.lemmas.Bool.Decides.{nat_tests}
use Rattle.std.proofs.lemmas.Option.{same_Some}
use Rattle.kin_motion.specs.Numbers.{is_in}
use Rattle.kin_motion.specs.Records.{stands_before}
use Rattle.kin_list.specs.Listing.{without}
use Rattle.kin_list.specs.Rows.{exchange, exchanged}
use Rattle.kin_wedge.specs.Rows.{WereExchanged}
use Rattle.kin_list.proofs.ListLaws.{is_in-without}
use Rattle.kin_list.proofs.RowLaws.{is_in-exchange}

-- two numbers that do not stand there in this order, nor the other way round
abbrev AreNotAt : List ℕ → ℕ → ℕ → ℕ → Type 0
AreNotAt xs p a b = ((slice_get xs p ≡ Some a) × (slice_get xs (suc p) ≡ Some b) → ⊥) × ((slice_get xs p ≡ Some b) × (slice_get xs (suc p) ≡ Some a) → ⊥)

one_exchange : (p a b : ℕ) (xs : List ℕ) → AreNotAt xs p a b → stands_before (exchange p xs) a b ≡ stands_before xs a b
one_exchange p a b [] n = refl
one_exchange p a b (x ∷ []) n = refl
one_exchange zero a b (x ∷ y ∷ ys) n = tests (nat_eq x a) (nat_eq y a) (nat_eq b x) (is_in b ys) (nat_eq b y) second first
  where
    rest : Bool
    rest = stands_before ys a b

    tests : (xa ya bx bio yb : Bool) → (ya ≡ true → bx ≡ false) → (xa ≡ true → yb ≡ false) → (ya && (bx || bio)) || ((xa && bio) || rest) ≡ (xa && (yb || bio)) || ((ya && bio) || rest)
    tests true true bx bio yb h k = ap (λ s. (true && (s || bio)) || ((true && bio) || rest)) (h refl) ∙ sym (ap (λ s. (true && (s || bio)) || ((true && bio) || rest)) (k refl))
    tests true false bx bio yb h k = at bio yb (k refl)
      where
        at : (bio yb : Bool) → yb ≡ false → (true && bio) || rest ≡ (true && (yb || bio)) || ((false && bio) || rest)
        at true true e = refl
        at true false e = refl
        at false true e = absurd cc
        at false false e = refl
    tests false true bx bio yb h k = at bio bx (h refl)
      where
        at : (bio bx : Bool) → bx ≡ false → (true && (bx || bio)) || ((false && bio) || rest) ≡ (true && bio) || rest
        at true true e = refl
        at true false e = refl
        at false true e = absurd cc
        at false false e = refl
    tests false false bx bio yb h k = refl

    second : nat_eq y a ≡ true → nat_eq b x ≡ false
    second e = ne_eqb b x (λ f. n.1 (ap (λ (m : ℕ). Some m) (sym f), ap (λ (m : ℕ). Some m) (eqb-true y a e)))

    first : nat_eq x a ≡ true → nat_eq b y ≡ false
    first e = ne_eqb b y (λ f. n.0 (ap (λ (m : ℕ). Some m) (eqb-true x a e), ap (λ (m : ℕ). Some m) (sym f)))
one_exchange (suc p) a b (x ∷ y ∷ ys) n = ap₂ (λ s t. (nat_eq x a && s) || t) (is_in-exchange p b (y ∷ ys)) (one_exchange p a b (y ∷ ys) n)

-- the order of two numbers is kept, where they were not exchanged with each other
pub order_kept : (ps xs : List ℕ) (a b : ℕ) → (WereExchanged ps xs a b → ⊥) → (WereExchanged ps xs b a → ⊥) → stands_before (exchanged ps xs) a b ≡ stands_before xs a b
order_kept [] xs a b n m = refl
order_kept (p ∷ ps) xs a b n m =
    order_kept ps (exchange p xs) a b (λ h. n (inr h)) (λ h. m (inr h))
    ∙ one_exchange p a b xs (λ h. n (inl h), λ h. m (inl h))

-- what stands at a place, or not
stands_there : (o : Option ℕ) (a : ℕ) → (o ≡ Some a) ⊎ (o ≢ Some a)
stands_there None a = inr (λ e. absurd cc)
stands_there (Some x) a = at (cases_eq x a)
  where
    at : (x ≡ a) ⊎ (x ≢ a) → (Some x ≡ Some a) ⊎ (Some x ≢ Some a)
    at (inl e) = inl (ap (λ (n : ℕ). Some n) e)
    at (inr n) = inr (λ e. n (same_Some x a e))

stand_both : (xs : List ℕ) (p a b : ℕ) → ((slice_get xs p ≡ Some a) × (slice_get xs (suc p) ≡ Some b)) ⊎ ((slice_get xs p ≡ Some a) × (slice_get xs (suc p) ≡ Some b) → ⊥)
stand_both xs p a b = at (stands_there (slice_get xs p) a) (stands_there (slice_get xs (suc p)) b)
  where
    at : (slice_get xs p ≡ Some a) ⊎ (slice_get xs p ≢ Some a) → (slice_get xs (suc p) ≡ Some b) ⊎ (slice_get xs (suc p) ≢ Some b) → ((slice_get xs p ≡ Some a) × (slice_get xs (suc p) ≡ Some b)) ⊎ ((slice_get xs p ≡ Some a) × (slice_get xs (suc p) ≡ Some b) → ⊥)
    at (inl h) (inl k) = inl (h, k)
    at (inl h) (inr k) = inr (λ t. k t.1)
    at (inr h) k = inr (λ t. h t.0)

were_or_not : (ps xs : List ℕ) (a b : ℕ) → WereExchanged ps xs a b ⊎ (WereExchanged ps xs a b → ⊥)
were_or_not [] xs a b = inr (λ h. h)
were_or_not (p ∷ ps) xs a b = at (stand_both xs p a b) (were_or_not ps (exchange p xs) a b)
  where
    at : ((slice_get xs p ≡ Some a) × (slice_get xs (suc p) ≡ Some b)) ⊎ ((slice_get xs p ≡ Some a) × (slice_get xs (suc p) ≡ Some b) → ⊥) → WereExchanged ps (exchange p xs) a b ⊎ (WereExchanged ps (exchange p xs) a b → ⊥) → WereExchanged (p ∷ ps) xs a b ⊎ (WereExchanged (p ∷ ps) xs a b → ⊥)
    at (inl h) k = inl (inl h)
    at (inr h) (inl k) = inl (inr k)
    at (inr h) (inr k) = inr neither
      where
        neither : WereExchanged (p ∷ ps) xs a b → ⊥
        neither (inl t) = h t
        neither (inr t) = k t

-- the order is kept, or they were exchanged with each other
pub kept_or_exchanged : (ps xs : List ℕ) (a b : ℕ) → (stands_before (exchanged ps xs) a b ≡ stands_before xs a b) ⊎ (WereExchanged ps xs a b ⊎ WereExchanged ps xs b a)
kept_or_exchanged ps xs a b = at (were_or_not ps xs a b) (were_or_not ps xs b a)
  where
    at : WereExchanged ps xs a b ⊎ (WereExchanged ps xs a b → ⊥) → WereExchanged ps xs b a ⊎ (WereExchanged ps xs b a → ⊥) → (stands_before (exchanged ps xs) a b ≡ stands_before xs a b) ⊎ (WereExchanged ps xs a b ⊎ WereExchanged ps xs b a)
    at (inl h) k = inr (inl h)
    at (inr h) (inl k) = inr (inr k)
    at (inr h) (inr k) = inl (order_kept ps xs a b h k)

-- a list without a third number has two numbers in the same order
pub order-without : (who a b : ℕ) (xs : List ℕ) → a ≢ who → b ≢ who → stands_before (without who xs) a b ≡ stands_before xs a b
order-without who a b [] n m = refl
order-without who a b (x ∷ xs) n m = at (nat_eq who x) refl (order-without who a b xs n m)
  where
    at : (t : Bool) → nat_eq who x ≡ t → stands_before (without who xs) a b ≡ stands_before xs a b → stands_before (cond t (without who xs) (x ∷ without who xs)) a b ≡ (nat_eq x a && is_in b xs) || stands_before xs a b
    at true e rest = let same : who ≡ x = grind (arith, nat_tests, e) in let other : nat_eq x a ≡ false = grind (arith, nat_tests, same, n) in rest ∙ sym (ap (λ t. (t && is_in b xs) || stands_before xs a b) other)
    at false e rest = ap₂ (λ s t. (nat_eq x a && s) || t) (is_in-without b who xs m) rest
