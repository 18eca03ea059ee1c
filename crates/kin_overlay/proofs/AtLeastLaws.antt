-- At least so many items of a list are such.
use Rattle.std.proofs.Common.{◌≡◌, inl, inr, refl, subst, arith, List, [], ◌∷◌, ◌++◌, ℕ, ◌+◌, Bool, true, false, cond, map, Contains}
use Rattle.kin_algebra.proofs.Members.{contains_head, contains_tail}
use Rattle.kin_overlay.specs.Repairing.{AtLeast}

module _ {A : Type 0} (P : A → Type 0) where
  pub at_least-none : (xs : List A) → AtLeast P xs 0
  at_least-none [] = refl
  at_least-none (x ∷ xs) = inl (at_least-none xs)

  -- one more, where a test fails
  pub at_least-unless : (x : A) (xs : List A) (n : ℕ) (b : Bool) → (b ≡ false → P x) → AtLeast P xs n → AtLeast P (x ∷ xs) (cond b 0 1 + n)
  at_least-unless x xs n true f w = let same : n ≡ 0 + n = omega arith in inl (subst (AtLeast P xs) same w)
  at_least-unless x xs n false f w = inr (n, omega arith, f refl, w)

  pub at_least-append : (xs ys : List A) (m n : ℕ) → AtLeast P xs m → AtLeast P ys n → AtLeast P (xs ++ ys) (m + n)
  at_least-append [] ys m n e w = let same : n ≡ m + n = omega (arith, e) in subst (AtLeast P ys) same w
  at_least-append (x ∷ xs) ys m n v w = at v (λ k u. at_least-append xs ys k n u w)
    where
      at : AtLeast P (x ∷ xs) m → ((k : ℕ) → AtLeast P xs k → AtLeast P (xs ++ ys) (k + n)) → AtLeast P (x ∷ (xs ++ ys)) (m + n)
      at (inl u) rest = inl (rest m u)
      at (inr (k, e, p, u)) rest = inr (k + n, omega (arith, e), p, rest k u)

-- where such a member is of another kind, too
pub at_least-weaken : {A : Type 0} (P Q : A → Type 0) (xs : List A) (n : ℕ) → ((x : A) → Contains xs x → P x → Q x) → AtLeast P xs n → AtLeast Q xs n
at_least-weaken {A} P Q [] n f w = w
at_least-weaken {A} P Q (x ∷ xs) n f w = at w (λ k u. at_least-weaken P Q xs k (λ z c. f z (contains_tail x z xs c)) u)
  where
    at : AtLeast P (x ∷ xs) n → ((k : ℕ) → AtLeast P xs k → AtLeast Q xs k) → AtLeast Q (x ∷ xs) n
    at (inl u) rest = inl (rest n u)
    at (inr (k, e, p, u)) rest = inr (k, e, f x (contains_head x xs) p, rest k u)

pub at_least-map : {A B : Type 0} (f : A → B) (P : B → Type 0) (xs : List A) (n : ℕ) → AtLeast (λ x. P (f x)) xs n → AtLeast P (map f xs) n
at_least-map {A} {B} f P [] n w = w
at_least-map {A} {B} f P (x ∷ xs) n w = at w (λ k u. at_least-map f P xs k u)
  where
    at : AtLeast (λ z. P (f z)) (x ∷ xs) n → ((k : ℕ) → AtLeast (λ z. P (f z)) xs k → AtLeast P (map f xs) k) → AtLeast P (f x ∷ map f xs) n
    at (inl u) rest = inl (rest n u)
    at (inr (k, e, p, u)) rest = inr (k, e, p, rest k u)
