-- What is chosen from a list where of two items one is preferred.
use Rattle.std.proofs.Common.{◌≡◌, ◌⊎◌, inl, inr, refl, sym, ◌∙◌, subst, arith, List, [], ◌∷◌, zero, Bool, true, false, cond}
use Rattle.std.specs.Prelude.{Option, Some, None, Contains}
use Rattle.std.proofs.lemmas.Option.{same_Some}
use Rattle.kin_algebra.proofs.Members.{contains_cases, contains_tail, contains_none}

module _ {Item : Type 0} (is_preferred : Item → Item → Bool) where
  -- the preferred one of an item and another
  abbrev pub preferred : Item → Option Item → Option Item
  preferred x None = Some x
  preferred x (Some b) = Some (cond (is_preferred x b) x b)

  -- it stands in the list, and is preferred to every other item of it
  unfoldable pub IsTop : List Item → Item → Type 0
  IsTop xs a = Contains xs a × ((z : Item) → Contains xs z → (a ≡ z) ⊎ (is_preferred a z ≡ true))

  module _ (chosen : List Item → Option Item) (none : chosen [] ≡ None) (more : (x : Item) (xs : List Item) → chosen (x ∷ xs) ≡ preferred x (chosen xs)) where
    pub nothing_there : (xs : List Item) → chosen xs ≡ None → xs ≡ []
    nothing_there [] e = refl
    nothing_there (x ∷ xs) e = at (chosen xs) (sym (more x xs) ∙ e)
      where
        at : (o : Option Item) → preferred x o ≡ None → x ∷ xs ≡ []
        at None e = absurd cc
        at (Some b) e = absurd cc

    pub chosen_is_top : ((a b : Item) → is_preferred a b ≡ false → (a ≡ b) ⊎ (is_preferred b a ≡ true))
        → ((a b c : Item) → is_preferred a b ≡ true → is_preferred b c ≡ true → is_preferred a c ≡ true)
        → (xs : List Item) (a : Item) → chosen xs ≡ Some a → IsTop xs a
    unfolding IsTop
    chosen_is_top otherwise through [] a e = absurd (let clash : None ≡ Some a = sym none ∙ e in cc)
    chosen_is_top otherwise through (x ∷ xs) a e = at (chosen xs) refl (chosen_is_top otherwise through xs) (sym (more x xs) ∙ e)
      where
        top : (b : Item) → IsTop xs b → (t : Bool) → is_preferred x b ≡ t → IsTop (x ∷ xs) (cond t x b)
        top b r true f = ((zero, omega arith, refl), λ z h. with_x z (contains_cases x z xs h))
          where
            with_x : (z : Item) → (x ≡ z) ⊎ Contains xs z → (x ≡ z) ⊎ (is_preferred x z ≡ true)
            with_x z (inl g) = inl g
            with_x z (inr h) = by_b z (r.1 z h)
              where
                by_b : (z : Item) → (b ≡ z) ⊎ (is_preferred b z ≡ true) → (x ≡ z) ⊎ (is_preferred x z ≡ true)
                by_b z (inl g) = inr (subst (λ v. is_preferred x v ≡ true) g f)
                by_b z (inr g) = inr (through x b z f g)
        top b r false f = (contains_tail x b xs r.0, λ z h. with_b z (contains_cases x z xs h))
          where
            with_b : (z : Item) → (x ≡ z) ⊎ Contains xs z → (b ≡ z) ⊎ (is_preferred b z ≡ true)
            with_b z (inl g) = turned (otherwise x b f)
              where
                turned : (x ≡ b) ⊎ (is_preferred b x ≡ true) → (b ≡ z) ⊎ (is_preferred b z ≡ true)
                turned (inl k) = inl (sym k ∙ g)
                turned (inr k) = inr (subst (λ v. is_preferred b v ≡ true) g k)
            with_b z (inr h) = r.1 z h

        alone : xs ≡ [] → (z : Item) → Contains (x ∷ xs) z → x ≡ z
        alone empty z h = only (contains_cases x z xs h)
          where
            only : (x ≡ z) ⊎ Contains xs z → x ≡ z
            only (inl g) = g
            only (inr h) = absurd (contains_none z (subst (λ ys. Contains ys z) empty h))

        at : (o : Option Item) → chosen xs ≡ o → ((b : Item) → chosen xs ≡ Some b → IsTop xs b) → preferred x o ≡ Some a → IsTop (x ∷ xs) a
        at None f rest g = subst (IsTop (x ∷ xs)) (same_Some _ _ g) ((zero, omega arith, refl), λ z h. inl (alone (nothing_there xs f) z h))
        at (Some b) f rest g = subst (IsTop (x ∷ xs)) (same_Some _ _ g) (top b (rest b f) (is_preferred x b) refl)
