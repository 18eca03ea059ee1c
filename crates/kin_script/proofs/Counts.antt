-- Lists that have the same items, each once, are equally long.
use Rattle.std.proofs.Common.{◌≡◌, ◌⊎◌, inl, inr, List, [], ◌∷◌, length, ◌+◌, ◌≤◌, sym, ◌∙◌, subst, arith}
use Rattle.std.specs.Prelude.{Contains}
use Rattle.kin_motion.specs.Sets.{AreDistinct, ListsExactly}
use Rattle.kin_algebra.proofs.Members.{contains_none, contains_head, contains_tail, contains_cases}
use Rattle.kin_motion.proofs.SetLaws.{distinct_head, distinct_tail}

-- the list with one such item fewer
record Without {A : Type 0} (x : A) (ys : List A) : Type 0 where
  rest : List A
  shorter : length ys ≡ length rest + 1
  others : (z : A) → Contains ys z → (x ≡ z) ⊎ Contains rest z

without : {A : Type 0} (x : A) (ys : List A) → Contains ys x → Without x ys
without {A} x [] h = absurd (contains_none x h)
without {A} x (y ∷ ys) h = at (contains_cases y x ys h) (without x ys)
  where
    first : (z : A) → y ≡ x → (y ≡ z) ⊎ Contains ys z → (x ≡ z) ⊎ Contains ys z
    first z e (inl same) = inl (sym e ∙ same)
    first z e (inr k) = inr k

    behind : (z : A) (zs : List A) → (y ≡ z) ⊎ Contains ys z → (Contains ys z → (x ≡ z) ⊎ Contains zs z) → (x ≡ z) ⊎ Contains (y ∷ zs) z
    behind z zs (inl same) f = inr (subst (λ (w : A). Contains (y ∷ zs) w) same (contains_head y zs))
    behind z zs (inr k) f = later (f k)
      where
        later : (x ≡ z) ⊎ Contains zs z → (x ≡ z) ⊎ Contains (y ∷ zs) z
        later (inl same) = inl same
        later (inr l) = inr (contains_tail y z zs l)

    at : (y ≡ x) ⊎ Contains ys x → (Contains ys x → Without x ys) → Without x (y ∷ ys)
    at (inl e) f = record { rest = ys; shorter = omega arith; others = λ z k. first z e (contains_cases y z ys k) }
    at (inr k) f =
        let w = f k in
        record { rest = y ∷ w.rest; shorter = omega (arith, w.shorter); others = λ z l. behind z w.rest (contains_cases y z ys l) (w.others z) }

at_most : {A : Type 0} (xs ys : List A) → AreDistinct xs → ((z : A) → Contains xs z → Contains ys z) → length xs ≤ length ys
at_most {A} [] ys d h = omega arith
at_most {A} (x ∷ xs) ys d h =
    let w = without x ys (h x (contains_head x xs)) in
    let few = at_most xs w.rest (distinct_tail x xs d) (λ z k. at w z k (w.others z (h z (contains_tail x z xs k)))) in
    omega (arith, w.shorter, few)
  where
    at : (w : Without x ys) (z : A) → Contains xs z → (x ≡ z) ⊎ Contains w.rest z → Contains w.rest z
    at w z k (inl same) = absurd (distinct_head x xs d (subst (λ (v : A). Contains xs v) (sym same) k))
    at w z k (inr l) = l

pub same_length : {A : Type 0} (xs ys : List A) (which : A → Type 0) → ListsExactly xs which → ListsExactly ys which → length xs ≡ length ys
same_length {A} xs ys which a b =
    let most = at_most xs ys a.once (λ z k. (b.each z).1 ((a.each z).0 k)) in
    let least = at_most ys xs b.once (λ z k. (a.each z).1 ((b.each z).0 k)) in
    omega (arith, most, least)
