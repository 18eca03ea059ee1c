-- The way around is gone number by number, from the right end of the upper chain on.
use Rattle.std.proofs.Common.{◌≡◌, inl, inr, refl, sym, ap, ◌∙◌, List, [], ◌∷◌, ◌++◌, ℕ, Bool, true, false, cond, not, filter}
use Rattle.std.specs.Prelude.{reverse}
use Rattle.std.proofs.lemmas.List.{append_assoc, reverse-append}
use Rattle.kin_algebra.proofs.Members.{contains_from_get}
use Rattle.kin_motion.specs.Numbers.{is_in, IsIn}
use Rattle.kin_motion.proofs.Members.{in_from_contains}
use Rattle.kin_hull.specs.Meetings.{IsEnd}

pub end_in : (xs : List ℕ) (p : ℕ) → IsEnd xs p → IsIn p xs
end_in xs p (inl e) = in_from_contains xs p (contains_from_get xs _ p e)
end_in xs p (inr e) = in_from_contains xs p (contains_from_get xs _ p e)

-- the last number behind the lower chain, and then those in front of it
last_first : (test : ℕ → Bool) (front : List ℕ) (x : ℕ) → filter test (reverse (front ++ x ∷ [])) ≡ cond (test x) (x ∷ filter test (reverse front)) (filter test (reverse front))
last_first test front x = ap (filter test) (reverse-append front (x ∷ []))

module _ (lower cycle front all : List ℕ) (x : ℕ) (known : cycle ++ filter (λ p. not (is_in p lower)) (reverse (front ++ x ∷ [])) ≡ all) where
  is_listed : IsIn x lower → cycle ++ filter (λ p. not (is_in p lower)) (reverse front) ≡ all
  is_listed h =
      ap (λ (xs : List ℕ). cycle ++ xs) (sym (last_first (λ p. not (is_in p lower)) front x ∙ ap (λ b. cond (not b) (x ∷ filter (λ p. not (is_in p lower)) (reverse front)) (filter (λ p. not (is_in p lower)) (reverse front))) h)) ∙ known

  is_new : is_in x lower ≡ false → (cycle ++ x ∷ []) ++ filter (λ p. not (is_in p lower)) (reverse front) ≡ all
  is_new h =
      append_assoc cycle (x ∷ []) (filter (λ p. not (is_in p lower)) (reverse front))
      ∙ ap (λ (xs : List ℕ). cycle ++ xs) (sym (last_first (λ p. not (is_in p lower)) front x ∙ ap (λ b. cond (not b) (x ∷ filter (λ p. not (is_in p lower)) (reverse front)) (filter (λ p. not (is_in p lower)) (reverse front))) h)) ∙ known

  -- so it is listed, if it is new
  pub listed_next : (cycle' : List ℕ) → cycle' ≡ cond (is_in x lower) cycle (cycle ++ x ∷ []) → cycle' ++ filter (λ p. not (is_in p lower)) (reverse front) ≡ all
  listed_next cycle' e = at (is_in x lower) refl e
    where
      at : (b : Bool) → is_in x lower ≡ b → cycle' ≡ cond b cycle (cycle ++ x ∷ []) → cycle' ++ filter (λ p. not (is_in p lower)) (reverse front) ≡ all
      at true h f = ap (λ (xs : List ℕ). xs ++ filter (λ p. not (is_in p lower)) (reverse front)) f ∙ is_listed h
      at false h f = ap (λ (xs : List ℕ). xs ++ filter (λ p. not (is_in p lower)) (reverse front)) f ∙ is_new h
