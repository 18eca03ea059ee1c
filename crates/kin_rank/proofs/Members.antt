-- What is in a list, and where.
use Rattle.std.proofs.Common.{◌≡◌, refl, sym, ap, ◌∙◌, arith, List, [], ◌∷◌, ℕ, zero, suc, ◌+◌, ◌<◌, ◌≤◌, Bool, true, false, ◌||◌, nat_eq, length, get_or, set, Some, inl, inr}
use Rattle.std.specs.Prelude.{slice_get, insert, remove, swap, ◌⊎◌}
use Rattle.std.proofs.lemmas.Bool.Decides.{nat_tests}
use Rattle.std.proofs.lemmas.Bool.{cases_lt, cases_order}
use Rattle.std.proofs.lemmas.Option.{same_Some, slice_get_within, get_or_from_slice_get}
use Rattle.std.proofs.lemmas.List.Edits.{swap_is, length-remove}
use Rattle.kin_algebra.proofs.Places.{get-insert_below, get-insert_at, get-insert_above, get-remove_below, get-remove_above}
use Rattle.kin_rank.specs.Ranking.{has, numbers_from}

-- a number that is found is in the list, and the other way round
pub has_from_get : (xs : List ℕ) (p x : ℕ) → slice_get xs p ≡ Some x → has xs x ≡ true
has_from_get [] p x h = absurd cc
has_from_get (y ∷ ys) zero x h = let e : y ≡ x = same_Some y x h in grind (arith, nat_tests, e)
has_from_get (y ∷ ys) (suc p) x h = let r = has_from_get ys p x h in grind (arith, nat_tests, r)

pub get_from_has : (xs : List ℕ) (x : ℕ) → has xs x ≡ true → (p : ℕ) × (slice_get xs p ≡ Some x)
get_from_has [] x h = absurd cc
get_from_has (y ∷ ys) x h = at (nat_eq x y) refl h (get_from_has ys x)
  where
    at : (b : Bool) → nat_eq x y ≡ b → b || has ys x ≡ true → (has ys x ≡ true → (p : ℕ) × (slice_get ys p ≡ Some x)) → (p : ℕ) × (slice_get (y ∷ ys) p ≡ Some x)
    at true e k rest = (zero, ap (λ (n : ℕ). Some n) (let s : x ≡ y = grind (arith, nat_tests, e) in sym s))
    at false e k rest = let r = rest k in (suc r.0, r.1)

pub not_at : (xs : List ℕ) (p x : ℕ) → has xs x ≡ false → slice_get xs p ≡ Some x → ⊥
not_at xs p x out a = let t = has_from_get xs p x a in let e : true ≡ false = sym t ∙ out in absurd cc

-- what is at each place after an exchange
pub exchanged : (xs : List ℕ) (p a b : ℕ) → slice_get xs p ≡ Some a → slice_get xs (p + 1) ≡ Some b → swap xs p (p + 1) ≡ set (set xs p b) (p + 1) a
exchanged xs p a b at_a at_b =
    let e : get_or xs p 0 ≡ a = get_or_from_slice_get xs p a 0 at_a in
    let f : get_or xs (p + 1) 0 ≡ b = get_or_from_slice_get xs (p + 1) b 0 at_b in
    sym (swap_is xs p (p + 1) 0 (slice_get_within xs p a at_a) (slice_get_within xs (p + 1) b at_b)) ∙ (λ k. set (set xs p (f k)) (p + 1) (e k))

-- where a number of a list that was made shorter was, and where one of a longer list was
pub from_removed : (xs : List ℕ) (p q x : ℕ) → slice_get (remove xs p) q ≡ Some x → ((q < p) × (slice_get xs q ≡ Some x)) ⊎ ((p ≤ q) × (slice_get xs (suc q) ≡ Some x))
from_removed xs p q x a = elim (cases_lt q p) [
  | inl l ↦ inl (l, sym (get-remove_below p q xs l) ∙ a)
  | inr l ↦ inr (l, sym (get-remove_above p q xs l) ∙ a)
]

pub from_inserted : (xs : List ℕ) (p q who x : ℕ) → p ≤ length xs → slice_get (insert xs p who) q ≡ Some x
    → ((q ≡ p) × (who ≡ x)) ⊎ (((q < p) × (slice_get xs q ≡ Some x)) ⊎ ((r : ℕ) × (p ≤ r) × (q ≡ suc r) × (slice_get xs r ≡ Some x)))
from_inserted xs p zero who x l h = elim (cases_order zero p) [
  | inl e ↦ inl (e, same_Some who x (sym (get-insert_at p who xs l) ∙ sym (ap (slice_get (insert xs p who)) e) ∙ h))
  | inr c ↦ elim c [
    | inl k ↦ inr (inl (k, sym (get-insert_below p zero who xs k l) ∙ h))
    | inr g ↦ absurd (omega arith)
  ]
]
from_inserted xs p (suc q) who x l h = elim (cases_order (suc q) p) [
  | inl e ↦ inl (e, same_Some who x (sym (get-insert_at p who xs l) ∙ sym (ap (slice_get (insert xs p who)) e) ∙ h))
  | inr c ↦ elim c [
    | inl k ↦ inr (inl (k, sym (get-insert_below p (suc q) who xs k l) ∙ h))
    | inr g ↦ inr (inr (q, omega arith, refl, sym (get-insert_above p q who xs (omega arith) l) ∙ h))
  ]
]

-- a list of different numbers is no longer than a list that has them all
left_over : (ys : List ℕ) (k q y : ℕ) → (q ≡ k → ⊥) → slice_get ys q ≡ Some y → (r : ℕ) × (slice_get (remove ys k) r ≡ Some y)
left_over ys k zero y n f = (zero, get-remove_below k zero ys (omega arith) ∙ f)
left_over ys k (suc q) y n f = elim (cases_order (suc q) k) [
  | inl e ↦ absurd (n e)
  | inr c ↦ elim c [
    | inl l ↦ (suc q, get-remove_below k (suc q) ys l ∙ f)
    | inr g ↦ (q, get-remove_above k q ys (omega arith) ∙ f)
  ]
]

pub no_longer : (xs ys : List ℕ) → ((p q x : ℕ) → slice_get xs p ≡ Some x → slice_get xs q ≡ Some x → p ≡ q) → ((p x : ℕ) → slice_get xs p ≡ Some x → (q : ℕ) × (slice_get ys q ≡ Some x)) → length
    xs ≤ length ys
no_longer [] ys apart inside = omega arith
no_longer (x ∷ xs) ys apart inside =
    let k = inside zero x refl in
    let rest = no_longer xs (remove ys k.0)
    (λ p q y a b. let e = apart (suc p) (suc q) y a b in omega arith)
    (λ p y a. let q = inside (suc p) y a in left_over ys k.0 q.0 y (λ e. absurd (let s : Some y ≡ Some x = sym q.1 ∙ ap (slice_get ys) e ∙ k.1 in let t : y ≡ x = same_Some y x s in let o = apart
    zero (suc p) x refl (a ∙ ap (λ (z : ℕ). Some z) t) in omega arith)) q.1) in
    let l = length-remove ys k.0 (slice_get_within ys k.0 x k.1) in
    omega arith

pub get-numbers : (a n p : ℕ) → p < n → slice_get (numbers_from a n) p ≡ Some (a + p)
get-numbers a zero p h = absurd (omega arith)
get-numbers a (suc n) zero h = ap (λ (m : ℕ). Some m) (omega arith)
get-numbers a (suc n) (suc p) h = get-numbers (a + 1) n p (omega arith) ∙ ap (λ (m : ℕ). Some m) (omega arith)

length-numbers : (a n : ℕ) → length (numbers_from a n) ≡ n
length-numbers a zero = refl
length-numbers a (suc n) = ap suc (length-numbers (a + 1) n)

pub few_below : (xs : List ℕ) (n : ℕ) → ((p q x : ℕ) → slice_get xs p ≡ Some x → slice_get xs q ≡ Some x → p ≡ q) → ((p x : ℕ) → slice_get xs p ≡ Some x → x < n) → length xs ≤ n
few_below xs n apart below =
    let l = no_longer xs (numbers_from 0 n) apart (λ p x a. (x, get-numbers 0 n x (below p x a) ∙ ap (λ (m : ℕ). Some m) (omega arith))) in
    let e = length-numbers 0 n in
    omega arith
