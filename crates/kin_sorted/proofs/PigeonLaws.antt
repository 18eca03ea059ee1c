-- A list of different things is no longer than a list that has them all.
use Rattle.std.proofs.Common.{◌≡◌, refl, sym, ap, ◌∙◌, subst, arith, List, [], ◌∷◌, ℕ, zero, suc, ◌+◌, ◌<◌, ◌≤◌, length, Some, inl, inr}
use Rattle.std.specs.Prelude.{slice_get, remove}
use Rattle.std.proofs.lemmas.Bool.{cases_order}
use Rattle.std.proofs.lemmas.Option.{slice_get_within, same_Some}
use Rattle.std.proofs.lemmas.List.Edits.{length-remove}
use Rattle.kin_algebra.proofs.Places.{get-remove_below, get-remove_above}
use Rattle.kin_motion.specs.Numbers.{numbers_from}
use Rattle.kin_motion.specs.Sets.{AreDistinct}

-- where y stands after the thing at k is taken out
left_over : {A : Type 0} (ys : List A) (k q : ℕ) (y : A) → (q ≡ k → ⊥) → slice_get ys q ≡ Some y → (r : ℕ) × (slice_get (remove ys k) r ≡ Some y)
left_over ys k zero y n f = (zero, get-remove_below k zero ys (omega arith) ∙ f)
left_over ys k (suc q) y n f = elim (cases_order (suc q) k) [
  | inl e ↦ absurd (n e)
  | inr c ↦ elim c [
    | inl l ↦ (suc q, get-remove_below k (suc q) ys l ∙ f)
    | inr g ↦ (q, get-remove_above k q ys (omega arith) ∙ f)
  ]
]

pub no_longer : {A : Type 0} (xs ys : List A) → ((p q : ℕ) (x : A) → slice_get xs p ≡ Some x → slice_get xs q ≡ Some x → p ≡ q)
    → ((p : ℕ) (x : A) → slice_get xs p ≡ Some x → (q : ℕ) × (slice_get ys q ≡ Some x)) → length xs ≤ length ys
no_longer [] ys apart inside = omega arith
no_longer (x ∷ xs) ys apart inside =
    let k = inside zero x refl in
    let rest = no_longer xs (remove ys k.0)
    (λ p q y a b. let e = apart (suc p) (suc q) y a b in omega arith)
    (λ p y a. let q = inside (suc p) y a in left_over ys k.0 q.0 y (λ e. absurd (let s : Some y ≡ Some x = sym q.1 ∙ ap (slice_get ys) e
    ∙ k.1 in let t : y ≡ x = same_Some y x s in let o = apart zero (suc p) x refl (a ∙ ap (λ z. Some z) t) in omega arith)) q.1) in
    let l = length-remove ys k.0 (slice_get_within ys k.0 x k.1) in
    omega arith

-- the same where each thing of the first list has one of its own in the second
pub no_longer_by : {A B : Type 0} (owns : A → B → Type 0) → ((x z : A) (y : B) → owns x y → owns z y → x ≡ z) → (xs : List A) (ys : List B) → AreDistinct xs
    → ((p : ℕ) (x : A) → slice_get xs p ≡ Some x → (q : ℕ) × (y : B) × (slice_get ys q ≡ Some y) × owns x y) → length xs ≤ length ys
no_longer_by owns one [] ys apart inside = omega arith
no_longer_by owns one (x ∷ xs) ys apart inside =
    let k = inside zero x refl in
    let rest = no_longer_by owns one xs (remove ys k.0)
    (λ p q y a b. let e = apart (suc p) (suc q) y a b in omega arith)
    (λ p y a. let q = inside (suc p) y a in
    let over = left_over ys k.0 q.0 q.1 (λ e. absurd (let s : Some q.1 ≡ Some k.1 = sym q.2 ∙ ap (slice_get ys) e ∙ k.2 in
    let t : k.1 ≡ q.1 = sym (same_Some q.1 k.1 s) in
    let u : y ≡ x = one y x q.1 q.3 (subst (owns x) t k.3) in
    let o = apart zero (suc p) x refl (a ∙ ap (λ z. Some z) u) in omega arith)) q.2 in
    (over.0, q.1, over.1, q.3)) in
    let l = length-remove ys k.0 (slice_get_within ys k.0 k.1 k.2) in
    omega arith

numbers-get : (a n p : ℕ) → p < n → slice_get (numbers_from a n) p ≡ Some (a + p)
numbers-get a zero p h = absurd (omega arith)
numbers-get a (suc n) zero h = ap (λ (m : ℕ). Some m) (omega arith)
numbers-get a (suc n) (suc p) h = numbers-get (a + 1) n p (omega arith) ∙ ap (λ (m : ℕ). Some m) (omega arith)

numbers-length : (a n : ℕ) → length (numbers_from a n) ≡ n
numbers-length a zero = refl
numbers-length a (suc n) = ap suc (numbers-length (a + 1) n)

pub few_below : (xs : List ℕ) (n : ℕ) → AreDistinct xs → ((p x : ℕ) → slice_get xs p ≡ Some x → x < n) → length xs ≤ n
few_below xs n apart below =
    let l = no_longer xs (numbers_from 0 n) apart (λ p x a. (x, numbers-get 0 n x (below p x a) ∙ ap (λ (m : ℕ). Some m) (omega arith))) in
    let e = numbers-length 0 n in
    omega arith
