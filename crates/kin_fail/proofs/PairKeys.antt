-- The failures of a pair of numbers in an order as ordered pairs: (lesser, greater) at an instant, (greater, lesser) just after one.
use Rattle.std.proofs.Common.{◌≡◌, ◌≢◌, ◌⊎◌, inl, inr, refl, ap, sym, ◌∙◌, arith, ℕ, Bool, true, false, cond}
use Rattle.std.specs.Prelude.{nat_lt}
use Rattle.std.proofs.lemmas.Bool.Decides.{nat_tests}
use Rattle.kin_algebra.specs.declared.sign.Sign.{Sign}
use Rattle.kin_algebra.specs.declared.sign.Sign.TheVariants.{Minus, Zero, Plus}
use Rattle.kin_num.specs.declared.instant.Phase.{Phase}
use Rattle.kin_num.specs.declared.instant.Phase.TheVariants.{At, After}
use Rattle.kin_motion.specs.declared.form.Form.{Form}
use Rattle.kin_motion.specs.declared.form.Form.TheVariants.{Line, Turn, Slope, Dist}
use Rattle.kin_motion.specs.declared.fact.Placed.{Placed}
use Rattle.kin_motion.specs.Orders.{leads}
use Rattle.kin_fail.proofs.FailureRoots.{phase_of_failure}
use Rattle.kin_fail.proofs.Pairs.{Pair, pair}

-- two neighbours of which i leads by this sign: a sign 0 is left just after an instant, and then i is less
abbrev pub key : Sign → ℕ → ℕ → Pair
key Minus i j = pair i j
key Zero i j = pair j i
key Plus i j = cond (nat_lt i j) (pair i j) (pair j i)

-- the phase in which the pair of a key fails
abbrev pub phase_of_key : Pair → Phase
phase_of_key z = cond (nat_lt z.0 z.1) At After

abbrev pub key_of_form : Form → Sign → Pair
key_of_form (Line dx dy off i j) s = key s i j
key_of_form (Turn i j k) s = pair i j
key_of_form (Slope i j k l) s = pair i j
key_of_form (Dist i j k l) s = pair i j

abbrev pub key_of : Placed → Pair
key_of p = key_of_form p.fact.form p.fact.sign

-- a key has the two numbers
pub ends_of_key : (s : Sign) (i j : ℕ) → (key s i j ≡ pair i j) ⊎ (key s i j ≡ pair j i)
ends_of_key Minus i j = inl refl
ends_of_key Zero i j = inr refl
ends_of_key Plus i j = by_size (nat_lt i j)
  where
    by_size : (b : Bool) → (cond b (pair i j) (pair j i) ≡ pair i j) ⊎ (cond b (pair i j) (pair j i) ≡ pair j i)
    by_size true = inl refl
    by_size false = inr refl

-- the key tells the phase
pub phase_told : (s : Sign) (i j : ℕ) → i ≢ j → leads s i j ≡ true → phase_of_key (key s i j) ≡ phase_of_failure s
phase_told Minus i j apart h = absurd cc
phase_told Zero i j apart h = let turned : nat_lt j i ≡ false = grind (arith, nat_tests, h) in ap (λ (b : Bool). cond b At After) turned
phase_told Plus i j apart h = by_size (nat_lt i j) refl
  where
    by_size : (b : Bool) → nat_lt i j ≡ b → phase_of_key (cond b (pair i j) (pair j i)) ≡ At
    by_size true e = ap (λ (b : Bool). cond b At After) e
    by_size false e = let turned : nat_lt j i ≡ true = less (nat_lt j i) refl in ap (λ (b : Bool). cond b At After) turned
      where
        less : (b : Bool) → nat_lt j i ≡ b → b ≡ true
        less true f = refl
        less false f = absurd (apart (grind (arith, nat_tests, e, f)))

-- with one key two pairs have the same numbers
pub same_ends : (s t : Sign) (i j k l : ℕ) → key s i j ≡ key t k l → ((i ≡ k) × (j ≡ l)) ⊎ ((i ≡ l) × (j ≡ k))
same_ends s t i j k l e = at (ends_of_key s i j) (ends_of_key t k l)
  where
    parts : (a b c d : ℕ) → key s i j ≡ pair a b → key t k l ≡ pair c d → (a ≡ c) × (b ≡ d)
    parts a b c d f g = let h : pair a b ≡ pair c d = sym f ∙ e ∙ g in (ap (λ (z : Pair). z.0) h, ap (λ (z : Pair). z.1) h)

    at : (key s i j ≡ pair i j) ⊎ (key s i j ≡ pair j i) → (key t k l ≡ pair k l) ⊎ (key t k l ≡ pair l k)
        → ((i ≡ k) × (j ≡ l)) ⊎ ((i ≡ l) × (j ≡ k))
    at (inl f) (inl g) = inl (parts i j k l f g)
    at (inl f) (inr g) = inr (parts i j l k f g)
    at (inr f) (inl g) = let p = parts j i k l f g in inr (p.1, p.0)
    at (inr f) (inr g) = let p = parts j i l k f g in inl (p.1, p.0)

-- and the numbers of a key differ where those of the pair do
pub key_apart : (s : Sign) (i j : ℕ) → i ≢ j → (key s i j).0 ≢ (key s i j).1
key_apart s i j apart same = at (ends_of_key s i j)
  where
    at : (key s i j ≡ pair i j) ⊎ (key s i j ≡ pair j i) → ⊥
    at (inl e) = apart (sym (ap (λ (z : Pair). z.0) e) ∙ same ∙ ap (λ (z : Pair). z.1) e)
    at (inr e) = apart (sym (ap (λ (z : Pair). z.1) e) ∙ sym same ∙ ap (λ (z : Pair). z.0) e)
