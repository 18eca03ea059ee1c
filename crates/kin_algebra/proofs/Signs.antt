-- The algebra of three signs.
use Rattle.std.proofs.Common.{◌≡◌, ◌≢◌, ◌⊎◌, ◌↔◌, inl, inr, sym, refl, ap, ◌∙◌, subst}
use Rattle.kin_algebra.specs.declared.sign.Sign.{Sign}
use Rattle.kin_algebra.specs.declared.sign.Sign.TheVariants.{Minus, Zero, Plus}
use Rattle.kin_algebra.specs.Signs.{opposite_of, product_of, first_of, sum_sign_of, SumMayBe}

-- what an equation of signs says: equal signs, or nothing at all
abbrev pub Code : Sign → Sign → Type 0
Code Minus Minus = Unit {0}
Code Zero Zero = Unit {0}
Code Plus Plus = Unit {0}
Code Minus Zero = ⊥
Code Minus Plus = ⊥
Code Zero Minus = ⊥
Code Zero Plus = ⊥
Code Plus Minus = ⊥
Code Plus Zero = ⊥

own_code : (s : Sign) → Code s s
own_code Minus = tt
own_code Zero = tt
own_code Plus = tt

pub code : {s t : Sign} → s ≡ t → Code s t
code {s} {t} e = subst (Code s) e (own_code s)

pub opposite-opposite : (s : Sign) → opposite_of (opposite_of s) ≡ s
opposite-opposite Minus = refl
opposite-opposite Zero = refl
opposite-opposite Plus = refl

pub zero_from_opposite : (s : Sign) → s ≡ opposite_of s → s ≡ Zero
zero_from_opposite Minus e = absurd (code e)
zero_from_opposite Zero e = refl
zero_from_opposite Plus e = absurd (code e)

pub equal_or_not : (s t : Sign) → (s ≡ t) ⊎ (s ≢ t)
equal_or_not Minus Minus = inl refl
equal_or_not Minus Zero = inr (λ e. code e)
equal_or_not Minus Plus = inr (λ e. code e)
equal_or_not Zero Minus = inr (λ e. code e)
equal_or_not Zero Zero = inl refl
equal_or_not Zero Plus = inr (λ e. code e)
equal_or_not Plus Minus = inr (λ e. code e)
equal_or_not Plus Zero = inr (λ e. code e)
equal_or_not Plus Plus = inl refl

pub product-Plus : (s : Sign) → product_of s Plus ≡ s
product-Plus Minus = refl
product-Plus Zero = refl
product-Plus Plus = refl

pub product-Zero : (s : Sign) → product_of s Zero ≡ Zero
product-Zero Minus = refl
product-Zero Zero = refl
product-Zero Plus = refl

pub product_some : (s t : Sign) → s ≢ Zero → t ≢ Zero → product_of s t ≢ Zero
product_some Minus Minus a b e = code e
product_some Minus Zero a b e = b refl
product_some Minus Plus a b e = code e
product_some Zero t a b e = a refl
product_some Plus t a b e = b e

-- a product of sign + has factors of one sign
pub same_from_product : (s t : Sign) → product_of s t ≡ Plus → (s ≡ t) × (s ≢ Zero)
same_from_product Minus Minus e = (refl, λ f. code f)
same_from_product Minus Zero e = absurd (code e)
same_from_product Minus Plus e = absurd (code e)
same_from_product Zero t e = absurd (code e)
same_from_product Plus Minus e = absurd (code e)
same_from_product Plus Zero e = absurd (code e)
same_from_product Plus Plus e = (refl, λ f. code f)

pub product_commutes : (s t : Sign) → product_of s t ≡ product_of t s
product_commutes Minus Minus = refl
product_commutes Minus Zero = refl
product_commutes Minus Plus = refl
product_commutes Zero Minus = refl
product_commutes Zero Zero = refl
product_commutes Zero Plus = refl
product_commutes Plus Minus = refl
product_commutes Plus Zero = refl
product_commutes Plus Plus = refl

-- a product is of sign 0 where a factor is
pub product_none : (s t : Sign) → product_of s t ≡ Zero ↔ ((s ≡ Zero) ⊎ (t ≡ Zero))
product_none s t = (λ e. to s t e, from)
  where
    to : (s t : Sign) → product_of s t ≡ Zero → (s ≡ Zero) ⊎ (t ≡ Zero)
    to Zero t e = inl refl
    to Plus t e = inr e
    to Minus Minus e = absurd (code e)
    to Minus Zero e = inr refl
    to Minus Plus e = absurd (code e)

    from : (s ≡ Zero) ⊎ (t ≡ Zero) → product_of s t ≡ Zero
    from (inl e) = ap (λ r. product_of r t) e
    from (inr e) = ap (product_of s) e ∙ product-Zero s

pub square_none : (s : Sign) → product_of s s ≡ Zero → s ≡ Zero
square_none Minus e = absurd (code e)
square_none Zero e = refl
square_none Plus e = absurd (code e)

pub square_sign : (s : Sign) → s ≢ Zero → product_of s s ≡ Plus
square_sign Minus n = refl
square_sign Zero n = absurd (n refl)
square_sign Plus n = refl

pub square_at_least : (s : Sign) → (product_of s s ≡ Plus) ⊎ (product_of s s ≡ Zero)
square_at_least Minus = inl refl
square_at_least Zero = inr refl
square_at_least Plus = inl refl

-- a factor that isn't 0 goes away
pub cancel_sign : (s t c : Sign) → c ≢ Zero → product_of s c ≡ product_of t c → s ≡ t
cancel_sign s t Zero n e = absurd (n refl)
cancel_sign s t Plus n e = sym (product-Plus s) ∙ e ∙ product-Plus t
cancel_sign Minus Minus Minus n e = refl
cancel_sign Minus Zero Minus n e = absurd (code e)
cancel_sign Minus Plus Minus n e = absurd (code e)
cancel_sign Zero Minus Minus n e = absurd (code e)
cancel_sign Zero Zero Minus n e = refl
cancel_sign Zero Plus Minus n e = absurd (code e)
cancel_sign Plus Minus Minus n e = absurd (code e)
cancel_sign Plus Zero Minus n e = absurd (code e)
cancel_sign Plus Plus Minus n e = refl

pub minus_left : (s : Sign) → s ≢ Zero → s ≢ Plus → s ≡ Minus
minus_left Minus n m = refl
minus_left Zero n m = absurd (n refl)
minus_left Plus n m = absurd (m refl)

pub is_plus : (s : Sign) → (s ≡ Plus) ⊎ (s ≢ Plus)
is_plus Minus = inr (λ e. code e)
is_plus Zero = inr (λ e. code e)
is_plus Plus = inl refl

-- what is said of a sum by three signs, said by others that equal them
pub by_signs : {s s' t t' r r' : Sign} → s ≡ s' → t ≡ t' → r ≡ r' → SumMayBe s' t' r' → SumMayBe s t r
by_signs {s} {s'} {t} {t'} {r} {r'} e f g h = subst (λ x. SumMayBe x t r) (sym e) (subst (λ x. SumMayBe s' x r) (sym f) (subst (λ x. SumMayBe s' t' x) (sym g) h))

-- + or 0
abbrev pub AtLeast : Sign → Type 0
AtLeast s = (s ≡ Plus) ⊎ (s ≡ Zero)

pub at_least_of : (s : Sign) → s ≢ Minus → AtLeast s
at_least_of Minus n = absurd (n refl)
at_least_of Zero n = inr refl
at_least_of Plus n = inl refl

pub not_minus : (s : Sign) → AtLeast s → s ≡ Minus → ⊥
not_minus s (inl p) e = code (sym e ∙ p)
not_minus s (inr p) e = code (sym e ∙ p)

pub at_least_product : (s t : Sign) → AtLeast s → AtLeast t → AtLeast (product_of s t)
at_least_product s t (inl e) k = subst (λ x. AtLeast (product_of x t)) (sym e) k
at_least_product s t (inr e) k = subst (λ x. AtLeast (product_of x t)) (sym e) (inr refl)

pub first_some : (s t : Sign) → s ≢ Zero → first_of s t ≡ s
first_some Minus t n = refl
first_some Zero t n = absurd (n refl)
first_some Plus t n = refl

pub first_of-opposite : (s t : Sign) → first_of (opposite_of s) (opposite_of t) ≡ opposite_of (first_of s t)
first_of-opposite Minus t = refl
first_of-opposite Zero t = refl
first_of-opposite Plus t = refl

-- what is said of two sums is said of the first that isn't 0
pub first_of-sum : (s t r s' t' r' : Sign) → SumMayBe s t r → SumMayBe s' t' r' → SumMayBe (first_of s s') (first_of t t') (first_of r r')
first_of-sum Zero Zero r s' t' r' a b = subst (λ x. SumMayBe s' t' (first_of x r')) (sym a) b
first_of-sum Zero Plus r Minus t' r' a b = tt
first_of-sum Zero Plus r Zero t' r' a b = ap (λ x. first_of x r') a
first_of-sum Zero Plus r Plus t' r' a b = ap (λ x. first_of x r') a
first_of-sum Zero Minus r Minus t' r' a b = ap (λ x. first_of x r') a
first_of-sum Zero Minus r Zero t' r' a b = ap (λ x. first_of x r') a
first_of-sum Zero Minus r Plus t' r' a b = tt
first_of-sum Plus Plus r s' t' r' a b = ap (λ x. first_of x r') a
first_of-sum Plus Zero r s' Minus r' a b = tt
first_of-sum Plus Zero r s' Zero r' a b = ap (λ x. first_of x r') a
first_of-sum Plus Zero r s' Plus r' a b = ap (λ x. first_of x r') a
first_of-sum Plus Minus r s' t' r' a b = tt
first_of-sum Minus Plus r s' t' r' a b = tt
first_of-sum Minus Zero r s' Minus r' a b = ap (λ x. first_of x r') a
first_of-sum Minus Zero r s' Zero r' a b = ap (λ x. first_of x r') a
first_of-sum Minus Zero r s' Plus r' a b = tt
first_of-sum Minus Minus r s' t' r' a b = ap (λ x. first_of x r') a

-- nothing but the first number is added
pub sum_sign-single : (s n : Sign) → sum_sign_of s Zero n ≡ s
sum_sign-single Minus n = refl
sum_sign-single Zero n = refl
sum_sign-single Plus n = refl
