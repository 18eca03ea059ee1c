-- Lists of those items of a list that meet a test, item by item.
use Rattle.std.proofs.Common.{◌≡◌, ◌⊎◌, inl, inr, refl, sym, ap, ◌∙◌, subst, arith, List, [], ◌∷◌, ◌++◌, ℕ, ◌+◌, ◌<◌, ◌≤◌, length, take, get_or, Bool, true, false, cond, Decides}
use Rattle.std.specs.Prelude.{Some, Contains}
use Rattle.std.proofs.lemmas.List.{take_more, take_all, length-take-le, get_or-take}
use Rattle.std.proofs.lemmas.List.Elements.{Contains-append_left, Contains-push, Contains-push_cases}
use Rattle.std.proofs.lemmas.Option.{slice_get-get_or}
use Rattle.kin_motion.specs.Sets.{AreDistinct, ListsExactly}
use Rattle.kin_motion.proofs.SetLaws.{contains_none, exactly_none, exactly_one, exactly_both, exactly_in_words}

module _ {A : Type 0} (xs : List A) (distinct : AreDistinct xs) (which : A → Type 0) where
  -- those of the first items that meet the test
  abbrev pub ArePicked : List A → ℕ → Type 0
  ArePicked ys i = ListsExactly ys (λ x. Contains (take i xs) x × which x)

  pub none_picked : ArePicked [] 0
  none_picked = exactly_none _ (λ z w. contains_none z w.0)

  -- the next item isn't among those before
  fresh : (i : ℕ) (d : A) → i < length xs → ¬ (Contains (take i xs) (get_or xs i d))
  fresh i d l (k, m, e) =
      let x = get_or xs i d in
      let few = length-take-le i xs (omega arith) in
      let before : k < i = omega arith in
      let there = slice_get-get_or xs k x (omega arith) ∙ ap (λ (z : A). Some z) (sym (get_or-take i xs k x before) ∙ e) in
      let same = distinct k i x there (slice_get-get_or xs i d l) in
      absurd (omega arith)

  one_more : (ys : List A) (i : ℕ) (d : A) → i < length xs → which (get_or xs i d) → ArePicked ys i → ArePicked (ys ++ get_or xs i d ∷ []) (i + 1)
  one_more ys i d l w p =
      exactly_in_words _ _ _ (λ z. (to z, from z))
      (exactly_both ys (x ∷ []) _ (λ z. z ≡ x) p (exactly_one x (λ z. z ≡ x) refl (λ z e. e)) (λ z c e. fresh i d l (subst (Contains (take i xs)) e c.0)))
    where
      x : A
      x = get_or xs i d

      next : take (i + 1) xs ≡ take i xs ++ x ∷ []
      next = take_more xs i d l

      to : (z : A) → (Contains (take i xs) z × which z) ⊎ (z ≡ x) → Contains (take (i + 1) xs) z × which z
      to z (inl c) = (subst (λ (zs : List A). Contains zs z) (sym next) (Contains-append_left (take i xs) (x ∷ []) z c.0), c.1)
      to z (inr e) = subst (λ (y : A). Contains (take (i + 1) xs) y × which y) (sym e) (subst (λ (zs : List A). Contains zs x) (sym next) (Contains-push (take i xs) x), w)

      from : (z : A) → Contains (take (i + 1) xs) z × which z → (Contains (take i xs) z × which z) ⊎ (z ≡ x)
      from z (c, v) = at (Contains-push_cases (take i xs) x z (subst (λ (zs : List A). Contains zs z) next c))
        where
          at : Contains (take i xs) z ⊎ (x ≡ z) → (Contains (take i xs) z × which z) ⊎ (z ≡ x)
          at (inl h) = inl (h, v)
          at (inr e) = inr (sym e)

  none_more : (ys : List A) (i : ℕ) (d : A) → i < length xs → ¬ (which (get_or xs i d)) → ArePicked ys i → ArePicked ys (i + 1)
  none_more ys i d l n p = exactly_in_words ys _ _ (λ z. (to z, from z)) p
    where
      x : A
      x = get_or xs i d

      next : take (i + 1) xs ≡ take i xs ++ x ∷ []
      next = take_more xs i d l

      to : (z : A) → Contains (take i xs) z × which z → Contains (take (i + 1) xs) z × which z
      to z c = (subst (λ (zs : List A). Contains zs z) (sym next) (Contains-append_left (take i xs) (x ∷ []) z c.0), c.1)

      from : (z : A) → Contains (take (i + 1) xs) z × which z → Contains (take i xs) z × which z
      from z (c, v) = at (Contains-push_cases (take i xs) x z (subst (λ (zs : List A). Contains zs z) next c))
        where
          at : Contains (take i xs) z ⊎ (x ≡ z) → Contains (take i xs) z × which z
          at (inl h) = (h, v)
          at (inr e) = absurd (n (subst which (sym e) v))

  -- the next item, where it meets the test
  pub picked_more : (ys zs : List A) (i : ℕ) (d : A) (b : Bool) → i < length xs → Decides b (which (get_or xs i d)) → zs ≡ cond b (ys ++ get_or xs i d ∷ []) ys → ArePicked ys i → ArePicked zs (i + 1)
  picked_more ys zs i d true l t e p = subst (λ (vs : List A). ArePicked vs (i + 1)) (sym e) (one_more ys i d l (t.0 refl) p)
  picked_more ys zs i d false l t e p = subst (λ (vs : List A). ArePicked vs (i + 1)) (sym e) (none_more ys i d l (λ w. let k : false ≡ true = t.1 w in cc) p)

  pub all_picked : (ys : List A) (i : ℕ) → length xs ≤ i → ArePicked ys i → ListsExactly ys (λ x. Contains xs x × which x)
  all_picked ys i l p = subst (λ (zs : List A). ListsExactly ys (λ x. Contains zs x × which x)) (take_all i xs l) p
