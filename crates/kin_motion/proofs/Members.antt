-- Members of lists of numbers.
use Rattle.std.proofs.Common.{◌≡◌, ◌⊎◌, inl, inr, refl, sym, ap, ◌∙◌, subst, List, reverse, [], ◌∷◌, ◌++◌, ℕ, true, false, ◌||◌, nat_eq, zero, arith}
use Rattle.std.specs.Prelude.{Contains}
use Rattle.std.proofs.lemmas.Bool.{or_left, or_right, or_cases, or_parts, or_from, eq-eqb, eqb-true, eqb-false, ne_eqb}
use Rattle.std.proofs.lemmas.List.{reverse-append}
use Rattle.kin_algebra.proofs.Tests.{or_assoc, or_none, or_swapped}
use Rattle.kin_algebra.proofs.Members.{contains_none, contains_tail, contains_cases}
use Rattle.kin_motion.specs.Numbers.{is_in, IsIn}

pub in_front : (i x : ℕ) (xs : List ℕ) → x ≡ i → IsIn i (x ∷ xs)
in_front i x xs e = or_left (nat_eq i x) (is_in i xs) (eq-eqb i x (sym e))

pub in_head : (i : ℕ) (xs : List ℕ) → IsIn i (i ∷ xs)
in_head i xs = in_front i i xs refl

pub in_tail : (i x : ℕ) (xs : List ℕ) → IsIn i xs → IsIn i (x ∷ xs)
in_tail i x xs h = or_right (nat_eq i x) (is_in i xs) h

pub in_cases : (i x : ℕ) (xs : List ℕ) → IsIn i (x ∷ xs) → (i ≡ x) ⊎ IsIn i xs
in_cases i x xs h = at (or_cases (nat_eq i x) (is_in i xs) h)
  where
    at : (nat_eq i x ≡ true) ⊎ IsIn i xs → (i ≡ x) ⊎ IsIn i xs
    at (inl e) = inl (eqb-true i x e)
    at (inr k) = inr k

-- ---- what isn't there
pub not_in_tail : (i x : ℕ) (xs : List ℕ) → is_in i (x ∷ xs) ≡ false → is_in i xs ≡ false
not_in_tail i x xs h = (or_parts (nat_eq i x) (is_in i xs) h).1

pub not_in_cons : (i x : ℕ) (xs : List ℕ) → (i ≡ x → ⊥) → is_in i xs ≡ false → is_in i (x ∷ xs) ≡ false
not_in_cons i x xs n h = or_from (nat_eq i x) (is_in i xs) (ne_eqb i x n) h

-- ---- two lists joined
pub is_in-append : (i : ℕ) (xs ys : List ℕ) → is_in i (xs ++ ys) ≡ is_in i xs || is_in i ys
is_in-append i [] ys = refl
is_in-append i (x ∷ xs) ys = ap (λ t. nat_eq i x || t) (is_in-append i xs ys) ∙ sym (or_assoc (nat_eq i x) (is_in i xs) (is_in i ys))

pub in_left : (i : ℕ) (xs ys : List ℕ) → IsIn i xs → IsIn i (xs ++ ys)
in_left i xs ys h = is_in-append i xs ys ∙ or_left (is_in i xs) (is_in i ys) h

pub in_right : (i : ℕ) (xs ys : List ℕ) → IsIn i ys → IsIn i (xs ++ ys)
in_right i xs ys h = is_in-append i xs ys ∙ or_right (is_in i xs) (is_in i ys) h

pub in_either : (i : ℕ) (xs ys : List ℕ) → IsIn i (xs ++ ys) → IsIn i xs ⊎ IsIn i ys
in_either i xs ys h = or_cases (is_in i xs) (is_in i ys) (sym (is_in-append i xs ys) ∙ h)

pub is_in-push : (i x : ℕ) (xs : List ℕ) → is_in i (xs ++ x ∷ []) ≡ nat_eq i x || is_in i xs
is_in-push i x xs = is_in-append i xs (x ∷ []) ∙ ap (λ t. is_in i xs || t) (or_none (nat_eq i x)) ∙ or_swapped (is_in i xs) (nat_eq i x)

pub not_in_push : (i x : ℕ) (xs : List ℕ) → is_in i (xs ++ x ∷ []) ≡ false → (i ≡ x → ⊥) × (is_in i xs ≡ false)
not_in_push i x xs h = let p = or_parts (nat_eq i x) (is_in i xs) (sym (is_in-push i x xs) ∙ h) in (eqb-false i x p.0, p.1)

-- ---- as std has it
pub in_from_contains : (xs : List ℕ) (i : ℕ) → Contains xs i → IsIn i xs
in_from_contains [] i h = absurd (contains_none i h)
in_from_contains (x ∷ xs) i h = at (contains_cases x i xs h) (in_from_contains xs i)
  where
    at : (x ≡ i) ⊎ Contains xs i → (Contains xs i → IsIn i xs) → IsIn i (x ∷ xs)
    at (inl e) rest = in_front i x xs e
    at (inr k) rest = in_tail i x xs (rest k)

pub contains_from_in : (xs : List ℕ) (i : ℕ) → IsIn i xs → Contains xs i
contains_from_in [] i h = absurd cc
contains_from_in (x ∷ xs) i h = at (in_cases i x xs h) (contains_from_in xs i)
  where
    at : (i ≡ x) ⊎ IsIn i xs → (IsIn i xs → Contains xs i) → Contains (x ∷ xs) i
    at (inl e) rest = let same : x ≡ i = sym e in (zero, omega arith, same)
    at (inr k) rest = contains_tail x i xs (rest k)

-- members of what is reversed
pub in_reverse : (p : ℕ) (xs : List ℕ) → IsIn p (reverse xs) → IsIn p xs
in_reverse p [] h = h
in_reverse p (x ∷ xs) h = at (in_either p (reverse xs) (x ∷ []) (ap (is_in p) (sym (reverse-append (x ∷ []) xs)) ∙ h)) (in_reverse p xs)
  where
    at : IsIn p (reverse xs) ⊎ IsIn p (x ∷ []) → (IsIn p (reverse xs) → IsIn p xs) → IsIn p (x ∷ xs)
    at (inl k) rest = in_tail p x xs (rest k)
    at (inr k) rest = in_left p (x ∷ []) xs k

pub into_reverse : (p : ℕ) (xs : List ℕ) → IsIn p xs → IsIn p (reverse xs)
into_reverse p [] h = h
into_reverse p (x ∷ xs) h = subst (IsIn p) (sym (reverse-append (x ∷ []) xs)) (at (in_cases p x xs h) (into_reverse p xs))
  where
    at : (p ≡ x) ⊎ IsIn p xs → (IsIn p xs → IsIn p (reverse xs)) → IsIn p (reverse xs ++ x ∷ [])
    at (inl e) rest = in_right p (reverse xs) (x ∷ []) (in_front p x [] (sym e))
    at (inr k) rest = in_left p (reverse xs) (x ∷ []) (rest k)
