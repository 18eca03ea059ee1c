-- A list without repetitions, where each number comes after the one before or repeats it.
use Rattle.std.proofs.Common.{◌≡◌, ◌⊎◌, inl, inr, refl, sym, ◌∙◌, subst, arith, List, [], ◌∷◌, ℕ, Bool, true, false, cond, nat_eq}
use Rattle.std.specs.Prelude.{Option, Some, None}
use Rattle.std.proofs.lemmas.Bool.Decides.{nat_tests}
use Rattle.std.proofs.lemmas.Bool.{eqb-true}
use Rattle.kin_motion.specs.Numbers.{IsChain, IsIn}
use Rattle.kin_motion.specs.Cells.{changes_of}
use Rattle.kin_motion.proofs.Members.{in_head, in_tail, in_cases}

module _ (lt : ℕ → ℕ → Bool) where
  -- it repeats the last one, or comes after it
  abbrev pub Fits : Option ℕ → ℕ → Type 0
  Fits None p = Unit {0}
  Fits (Some q) p = (q ≡ p) ⊎ (lt q p ≡ true)

  -- each fits the one before
  abbrev pub Rises : Option ℕ → List ℕ → Type 0
  Rises last [] = Unit {0}
  Rises last (p ∷ ps) = Fits last p × Rises (Some p) ps

  behind : (q : ℕ) (ps : List ℕ) → Rises (Some q) ps → IsChain lt (q ∷ changes_of (Some q) ps)
  behind q [] r = tt
  behind q (p ∷ ps) r = at (nat_eq q p) refl (behind p ps r.1)
    where
      at : (b : Bool) → nat_eq q p ≡ b → IsChain lt (p ∷ changes_of (Some p) ps) → IsChain lt (q ∷ cond b (changes_of (Some q) ps) (p ∷ changes_of (Some p) ps))
      at true e rest = subst (λ n. IsChain lt (n ∷ changes_of (Some n) ps)) (sym (eqb-true q p e)) rest
      at false e rest = by_fit r.0
        where
          by_fit : (q ≡ p) ⊎ (lt q p ≡ true) → IsChain lt (q ∷ p ∷ changes_of (Some p) ps)
          by_fit (inl f) = absurd (let g : nat_eq q p ≡ true = grind (arith, nat_tests, f) in let h : true ≡ false = sym g ∙ e in cc)
          by_fit (inr f) = (f, rest)

  pub changes_chain : (ps : List ℕ) → Rises None ps → IsChain lt (changes_of None ps)
  changes_chain [] r = tt
  changes_chain (p ∷ ps) r = behind p ps r.1

-- ---- the members stay the same
changed_in : (q : ℕ) (ps : List ℕ) (i : ℕ) → IsIn i (changes_of (Some q) ps) → IsIn i ps
changed_in q [] i h = h
changed_in q (p ∷ ps) i h = at (nat_eq q p) h (changed_in q ps i) (changed_in p ps i)
  where
    at : (b : Bool) → IsIn i (cond b (changes_of (Some q) ps) (p ∷ changes_of (Some p) ps)) → (IsIn i (changes_of (Some q) ps) → IsIn i ps) → (IsIn i (changes_of (Some p) ps) → IsIn i ps) → IsIn i (p ∷ ps)
    at true k f g = in_tail i p ps (f k)
    at false k f g = by_place (in_cases i p (changes_of (Some p) ps) k)
      where
        by_place : (i ≡ p) ⊎ IsIn i (changes_of (Some p) ps) → IsIn i (p ∷ ps)
        by_place (inl e) = subst (λ n. IsIn n (p ∷ ps)) (sym e) (in_head p ps)
        by_place (inr l) = in_tail i p ps (g l)

in_changed : (q : ℕ) (ps : List ℕ) (i : ℕ) → IsIn i ps → (i ≡ q) ⊎ IsIn i (changes_of (Some q) ps)
in_changed q [] i h = absurd cc
in_changed q (p ∷ ps) i h = at (nat_eq q p) refl (in_cases i p ps h) (in_changed q ps i) (in_changed p ps i)
  where
    at : (b : Bool) → nat_eq q p ≡ b → (i ≡ p) ⊎ IsIn i ps → (IsIn i ps → (i ≡ q) ⊎ IsIn i (changes_of (Some q) ps)) → (IsIn i ps → (i ≡ p) ⊎ IsIn i (changes_of (Some p) ps)) → (i ≡ q) ⊎ IsIn i (cond b (changes_of (Some q) ps) (p ∷ changes_of (Some p) ps))
    at true e (inl k) f g = inl (let same : q ≡ p = grind (arith, nat_tests, e) in k ∙ sym same)
    at true e (inr k) f g = f k
    at false e (inl k) f g = inr (subst (λ n. IsIn n (p ∷ changes_of (Some p) ps)) (sym k) (in_head p (changes_of (Some p) ps)))
    at false e (inr k) f g = by_place (g k)
      where
        by_place : (i ≡ p) ⊎ IsIn i (changes_of (Some p) ps) → (i ≡ q) ⊎ IsIn i (p ∷ changes_of (Some p) ps)
        by_place (inl l) = inr (subst (λ n. IsIn n (p ∷ changes_of (Some p) ps)) (sym l) (in_head p (changes_of (Some p) ps)))
        by_place (inr l) = inr (in_tail i p (changes_of (Some p) ps) l)

pub changes_to : (ps : List ℕ) (i : ℕ) → IsIn i (changes_of None ps) → IsIn i ps
changes_to [] i h = h
changes_to (p ∷ ps) i h = at (in_cases i p (changes_of (Some p) ps) h)
  where
    at : (i ≡ p) ⊎ IsIn i (changes_of (Some p) ps) → IsIn i (p ∷ ps)
    at (inl e) = subst (λ n. IsIn n (p ∷ ps)) (sym e) (in_head p ps)
    at (inr k) = in_tail i p ps (changed_in p ps i k)

pub changes_from : (ps : List ℕ) (i : ℕ) → IsIn i ps → IsIn i (changes_of None ps)
changes_from [] i h = h
changes_from (p ∷ ps) i h = at (in_cases i p ps h)
  where
    by_place : (i ≡ p) ⊎ IsIn i (changes_of (Some p) ps) → IsIn i (p ∷ changes_of (Some p) ps)
    by_place (inl e) = subst (λ n. IsIn n (p ∷ changes_of (Some p) ps)) (sym e) (in_head p (changes_of (Some p) ps))
    by_place (inr k) = in_tail i p (changes_of (Some p) ps) k

    at : (i ≡ p) ⊎ IsIn i ps → IsIn i (p ∷ changes_of (Some p) ps)
    at (inl e) = by_place (inl e)
    at (inr k) = by_place (in_changed p ps i k)
