-- What follows from tests of each number of a list.
use Rattle.std.proofs.Common.{◌≡◌, ◌⊎◌, inl, inr, refl, sym, ap, ◌∙◌, subst, arith, List, [], ◌∷◌, ℕ, ◌<◌, ◌≤◌, zero, suc, length, get_or, take, drop, Bool, true, false, not, ◌&&◌, ◌==◌}
use mathlib.Core.Bool.{beq}
use Rattle.std.specs.List.{All, list_any}
use Rattle.std.proofs.lemmas.List.{take_all}
use Rattle.std.proofs.lemmas.List.Folds.{list_any_none}
use Rattle.std.proofs.lemmas.List.Elements.{All-head, All-tail}
use Rattle.kin_motion.specs.declared.form.Form.TheVariants.{Turn}
use Rattle.kin_motion.specs.Chains.{is_plus, is_left, is_under_segment, is_bare, IsUpperChain}
use Rattle.kin_motion.specs.Numbers.{is_in, IsIn, IsChain}
use Rattle.kin_motion.specs.Scene.{Scene}
use Rattle.kin_motion.proofs.Members.{in_cases}
use Rattle.kin_overlay.specs.Fingers.{AreLess}

-- what each number of a list meets, a member meets
pub all_in : (P : ℕ → Type 0) (xs : List ℕ) → All P xs → (i : ℕ) → IsIn i xs → P i
all_in P [] all i h = absurd cc
all_in P (x ∷ xs) all i h = at (in_cases i x xs h) (all_in P xs (All-tail P x xs all) i)
  where
    at : (i ≡ x) ⊎ IsIn i xs → (IsIn i xs → P i) → P i
    at (inl e) rest = subst P (sym e) (All-head P x xs all)
    at (inr k) rest = rest k

-- what each number so far meets, each meets at the end
pub all_of : (P : ℕ → Type 0) (xs : List ℕ) (i : ℕ) → length xs ≤ i → All P (take i xs) → All P xs
all_of P xs i l all = subst (λ (ys : List ℕ). All P ys) (take_all i xs l) all

-- a list that isn't empty
pub has_some : (n : ℕ) (b : Bool) → b ≡ (n == 0) → b ≡ false → 0 < n
has_some zero b e f = let k : true ≡ false = sym e ∙ f in absurd cc
has_some (suc n) b e f = omega arith

-- two answers that a test finds equal
pub same_by_test : (a b : Bool) → not (beq a b) ≡ false → a ≡ b
same_by_test true true e = refl
same_by_test true false e = absurd cc
same_by_test false true e = absurd cc
same_by_test false false e = refl

-- a point isn't under a segment that begins to the right of it
pub none_under : (s : Scene) (p q : ℕ) (set : List ℕ) → is_left s q p ≡ false → list_any (is_under_segment s p q) set ≡ false
none_under s p q set e = list_any_none (is_under_segment s p q) set (λ k d l. ap (λ b. b && is_left s p (get_or set k d) && not (is_plus (s.sign (Turn q (get_or set k d) p)))) e)

-- a list that goes to the right, and has exactly the bare points of a set, is its upper chain
pub chain_by_tests : (s : Scene) (set xs : List ℕ) → IsChain (is_left s) xs → All (λ p. is_in p xs ≡ is_bare s set p) set → All (λ i. IsIn i set) xs → IsUpperChain s set xs
chain_by_tests s set xs rising bare part = record { members = λ p. at p (is_in p set) refl; rising = rising }
  where
    none : (p : ℕ) → is_in p set ≡ false → (b : Bool) → is_in p xs ≡ b → is_in p xs ≡ false
    none p e true h = let k = all_in (λ i. IsIn i set) xs part p h in absurd cc
    none p e false h = h

    at : (p : ℕ) (b : Bool) → is_in p set ≡ b → is_in p xs ≡ (is_in p set && is_bare s set p)
    at p true e = all_in (λ i. is_in i xs ≡ is_bare s set i) set bare p e ∙ ap (λ b. b && is_bare s set p) (sym e)
    at p false e = none p e (is_in p xs) refl ∙ ap (λ b. b && is_bare s set p) (sym e)

-- numbers that are each below a list are less than it
pub less_by_tests : (a b : List ℕ) → All (λ i. All (λ j. i < j) b) a → AreLess a b
less_by_tests a b below i j h k = all_in (λ x. i < x) b (all_in (λ x. All (λ y. x < y) b) a below i h) j k

-- a list of one number at most is a chain
pub short_chain : (lt : ℕ → ℕ → Bool) (xs : List ℕ) → length xs ≤ 1 → IsChain lt xs
short_chain lt [] few = tt
short_chain lt (x ∷ []) few = tt
short_chain lt (x ∷ y ∷ ys) few = absurd (omega (arith, few))

-- a chain with one number more at its front
pub longer_chain : (lt : ℕ → ℕ → Bool) (xs : List ℕ) (d : ℕ) → 1 < length xs → lt (get_or xs 0 d) (get_or xs 1 d) ≡ true → IsChain lt (drop 1 xs) → IsChain lt xs
longer_chain lt [] d some first rest = tt
longer_chain lt (x ∷ []) d some first rest = tt
longer_chain lt (x ∷ y ∷ ys) d some first rest = (first, rest)
