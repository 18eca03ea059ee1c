-- Which numbers a list has after an insertion, a removal and an exchange.
use Rattle.std.proofs.Common.{◌≡◌, refl, sym, ap, ◌∙◌, arith, List, [], ◌∷◌, ℕ, zero, suc, ◌+◌, ◌<◌, Bool, true, false, cond, ◌||◌, ◌&&◌, not, nat_eq, length, Some}
use Rattle.std.specs.Prelude.{slice_get, insert, remove, swap}
use Rattle.std.proofs.lemmas.Bool.Decides.{nat_tests}
use Rattle.std.proofs.lemmas.Option.{same_Some}
use Rattle.std.proofs.lemmas.List.Sorted.{IsPermutation-swap, list_any-IsPermutation}
use Rattle.kin_algebra.proofs.Tests.{or_exchanged}
use Rattle.kin_rank.specs.Ranking.{has, without, AreDistinct, AreSame}
use Rattle.kin_rank.specs.Orders.{IsPlaced}
use Rattle.kin_rank.proofs.Members.{has_from_get, get_from_has, no_longer}
use Rattle.kin_rank.proofs.Placing.{apart}

-- a number at a place of one list is at one of the other
pub found_too : (xs ys : List ℕ) → AreSame xs ys → (p x : ℕ) → slice_get xs p ≡ Some x → (q : ℕ) × (slice_get ys q ≡ Some x)
found_too xs ys same p x a = get_from_has ys x (sym (same x) ∙ has_from_get xs p x a)

-- insertions
pub has-insert : (p x who : ℕ) (xs : List ℕ) → has (insert xs p who) x ≡ nat_eq x who || has xs x
has-insert zero x who xs = refl
has-insert (suc p) x who [] = refl
has-insert (suc p) x who (y ∷ ys) = ap (λ t. nat_eq x y || t) (has-insert p x who ys) ∙ or_exchanged (nat_eq x y) (nat_eq x who) (has ys x)

pub same-insert : (xs ys : List ℕ) (p q who : ℕ) → AreSame xs ys → AreSame (insert xs p who) (insert ys q who)
same-insert xs ys p q who same x = has-insert p x who xs ∙ ap (λ t. nat_eq x who || t) (same x) ∙ sym (has-insert q x who ys)

-- exchanges
pub has-swap : (xs : List ℕ) (p x : ℕ) → p + 1 < length xs → has (swap xs p (p + 1)) x ≡ has xs x
has-swap xs p x l = sym (list_any-IsPermutation (nat_eq x) xs (swap xs p (p + 1)) (IsPermutation-swap xs (swap xs p (p + 1)) p (p + 1) (omega arith) l refl))

-- removals
kept : (who : ℕ) (ys : List ℕ) → ((q : ℕ) → slice_get ys q ≡ Some who → ⊥) → without who ys ≡ ys
kept who [] none = refl
kept who (y ∷ ys) none = at (nat_eq who y) refl (kept who ys (λ q. none (suc q)))
  where
    at : (b : Bool) → nat_eq who y ≡ b → without who ys ≡ ys → cond (not b) (y ∷ without who ys) (without who ys) ≡ y ∷ ys
    at true e r = absurd (none zero (ap (λ (n : ℕ). Some n) (let s : y ≡ who = grind (arith, nat_tests, e) in s)))
    at false e r = ap (λ (l : List ℕ). y ∷ l) r

pub without_is : (xs : List ℕ) (p who : ℕ) → AreDistinct xs → slice_get xs p ≡ Some who → remove xs p ≡ without who xs
without_is [] p who apart a = absurd cc
without_is (y ∷ ys) zero who apart a = at (nat_eq who y) refl
  where
    rest : without who ys ≡ ys
    rest = kept who ys (λ q h. absurd (let e = apart zero (suc q) who a h in omega arith))

    at : (b : Bool) → nat_eq who y ≡ b → ys ≡ cond (not b) (y ∷ without who ys) (without who ys)
    at true e = sym rest
    at false e = absurd (let s : y ≡ who = same_Some y who a in grind (arith, nat_tests, e, s))
without_is (y ∷ ys) (suc p) who apart a = at (nat_eq who y) refl (without_is ys p who (λ i j x h k. let e = apart (suc i) (suc j) x h k in omega arith) a)
  where
    at : (b : Bool) → nat_eq who y ≡ b → remove ys p ≡ without who ys → y ∷ remove ys p ≡ cond (not b) (y ∷ without who ys) (without who ys)
    at true e rest = absurd (let s : y ≡ who = grind (arith, nat_tests, e) in let f = apart zero (suc p) who (ap (λ (n : ℕ). Some n) s) a in omega arith)
    at false e rest = ap (λ (l : List ℕ). y ∷ l) rest

pub has-without : (who x : ℕ) (xs : List ℕ) → has (without who xs) x ≡ has xs x && not (nat_eq who x)
has-without who x [] = refl
has-without who x (y ∷ ys) = at (nat_eq who y) (nat_eq x y) (nat_eq who x) (has ys x) refl refl refl (has-without who x ys)
  where
    at : (b c d e : Bool) → nat_eq who y ≡ b → nat_eq x y ≡ c → nat_eq who x ≡ d → has (without who ys) x ≡ e && not d
        → has (cond (not b) (y ∷ without who ys) (without who ys)) x ≡ (c || e) && not d
    at true true true e f g h r = r ∙ last e
      where
        last : (e : Bool) → e && false ≡ false
        last true = refl
        last false = refl
    at true true false e f g h r = absurd (grind (arith, nat_tests, f, g, h))
    at true false d e f g h r = r
    at false true true e f g h r = absurd (grind (arith, nat_tests, f, g, h))
    at false true false e f g h r = ap (λ (b : Bool). b || has (without who ys) x) g
    at false false d e f g h r = ap (λ (b : Bool). b || has (without who ys) x) g ∙ r

pub same-without : (xs ys : List ℕ) (who : ℕ) → AreSame xs ys → AreSame (without who xs) (without who ys)
same-without xs ys who same x = has-without who x xs ∙ ap (λ t. t && not (nat_eq who x)) (same x) ∙ sym (has-without who x ys)

-- two lists of the same different numbers have one length
pub same_length : (xs ys xp yp : List ℕ) → IsPlaced xs xp → IsPlaced ys yp → AreSame xs ys → length xs ≡ length ys
same_length xs ys xp yp px py same =
    let a = no_longer xs ys (apart xs xp px) (found_too xs ys same) in
    let b = no_longer ys xs (apart ys yp py) (found_too ys xs (λ x. sym (same x))) in
    omega (arith, a, b)
