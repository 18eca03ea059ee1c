-- How long lists are that have things in common: pigeonholes, and the lists of many things joined.
use Rattle.std.proofs.Common.{◌≡◌, ◌⊎◌, inl, inr, sym, ◌∙◌, subst, arith, List, [], ◌∷◌, ◌++◌, ℕ, ◌+◌, ◌*◌, ◌≤◌, length}
use Rattle.std.specs.Prelude.{Contains, flat_map}
use Rattle.std.proofs.lemmas.List.{length-append}
use Rattle.std.proofs.lemmas.List.Elements.{Contains-append_left, Contains-append_right}
use Rattle.kin_algebra.proofs.Members.{contains_none, contains_head, contains_tail, contains_cases}
use Rattle.kin_motion.specs.Sets.{AreDistinct}
use Rattle.kin_motion.proofs.SetLaws.{distinct_head, distinct_tail}

-- ---- a list of different things is no longer than one that has them all
record Without {A : Type 0} (x : A) (ys : List A) : Type 0 where
  rest : List A
  shorter : length ys ≡ length rest + 1
  others : (z : A) → Contains ys z → (x ≡ z) ⊎ Contains rest z

without : {A : Type 0} (x : A) (ys : List A) → Contains ys x → Without x ys
without {A} x [] h = absurd (contains_none x h)
without {A} x (y ∷ ys) h = at (contains_cases y x ys h) (without x ys)
  where
    first : (z : A) → y ≡ x → (y ≡ z) ⊎ Contains ys z → (x ≡ z) ⊎ Contains ys z
    first z e (inl same) = inl (sym e ∙ same)
    first z e (inr k) = inr k

    behind : (z : A) (zs : List A) → (y ≡ z) ⊎ Contains ys z → (Contains ys z → (x ≡ z) ⊎ Contains zs z) → (x ≡ z) ⊎ Contains (y ∷ zs) z
    behind z zs (inl same) f = inr (subst (λ (w : A). Contains (y ∷ zs) w) same (contains_head y zs))
    behind z zs (inr k) f = later (f k)
      where
        later : (x ≡ z) ⊎ Contains zs z → (x ≡ z) ⊎ Contains (y ∷ zs) z
        later (inl same) = inl same
        later (inr l) = inr (contains_tail y z zs l)

    at : (y ≡ x) ⊎ Contains ys x → (Contains ys x → Without x ys) → Without x (y ∷ ys)
    at (inl e) f = record { rest = ys; shorter = omega arith; others = λ z k. first z e (contains_cases y z ys k) }
    at (inr k) f =
        let w = f k in
        record { rest = y ∷ w.rest; shorter = omega (arith, w.shorter); others = λ z l. behind z w.rest (contains_cases y z ys l) (w.others z) }

pub no_longer : {A : Type 0} (xs ys : List A) → AreDistinct xs → ((z : A) → Contains xs z → Contains ys z) → length xs ≤ length ys
no_longer {A} [] ys d h = omega arith
no_longer {A} (x ∷ xs) ys d h =
    let w = without x ys (h x (contains_head x xs)) in
    let few = no_longer xs w.rest (distinct_tail x xs d) (λ z k. at w z k (w.others z (h z (contains_tail x z xs k)))) in
    omega (arith, w.shorter, few)
  where
    at : (w : Without x ys) (z : A) → Contains xs z → (x ≡ z) ⊎ Contains w.rest z → Contains w.rest z
    at w z k (inl same) = absurd (distinct_head x xs d (subst (λ (v : A). Contains xs v) (sym same) k))
    at w z k (inr l) = l

-- ---- the lists of many things joined
module _ {A B : Type 0} (f : A → List B) where
  -- they have what one of them has
  pub contains_joined : (xs : List A) (x : A) (z : B) → Contains xs x → Contains (f x) z → Contains (flat_map f xs) z
  contains_joined [] x z h k = absurd (contains_none x h)
  contains_joined (y ∷ ys) x z h k = at (contains_cases y x ys h) (λ l. contains_joined ys x z l k)
    where
      at : (y ≡ x) ⊎ Contains ys x → (Contains ys x → Contains (flat_map f ys) z) → Contains (f y ++ flat_map f ys) z
      at (inl e) rest = Contains-append_left (f y) (flat_map f ys) z (subst (λ (v : A). Contains (f v) z) (sym e) k)
      at (inr l) rest = Contains-append_right (f y) (flat_map f ys) z (rest l)

  -- where each has n things at most, all have n times as many at most
  pub length_joined : (n : ℕ) (xs : List A) → ((x : A) → Contains xs x → length (f x) ≤ n) → length (flat_map f xs) ≤ n * length xs
  length_joined n [] few = omega arith
  length_joined n (x ∷ xs) few =
      let both = length-append (f x) (flat_map f xs) in
      let first = few x (contains_head x xs) in
      let rest = length_joined n xs (λ z h. few z (contains_tail x z xs h)) in
      omega (arith, both, first, rest)
