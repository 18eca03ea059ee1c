-- The whole numbers as an ordered ring.
use Rattle.std.proofs.Common.{◌≡◌, ◌⊎◌, inl, inr, ℕ, zero, suc, ◌*◌, ◌<◌, ℤ, pos, negsuc, ◌+ℤ◌, ◌*ℤ◌, neg_ℤ, refl, ap, subst, arith}
use lib.Signed.{◌<ℤ◌}
use Rattle.std.proofs.lemmas.Int.{ints}
use Rattle.kin_algebra.specs.declared.sign.Sign.{Sign}
use Rattle.kin_algebra.specs.declared.sign.Sign.TheVariants.{Minus, Zero, Plus}
use Rattle.kin_algebra.specs.Signs.{sign_of, opposite_of, product_of}
use Rattle.kin_algebra.proofs.Integers.{integers}
use Rattle.kin_algebra.proofs.OrderedRings.{OrderedRing}

pub sign_of-pos : (n : ℕ) → 0 < n → sign_of (pos n) ≡ Plus
sign_of-pos zero h = absurd (omega arith)
sign_of-pos (suc n) h = refl

below : (n : ℕ) → 0 < n → sign_of (neg_ℤ (pos n)) ≡ Minus
below zero h = absurd (omega arith)
below (suc n) h = refl

pub sign_of-negative : (a : ℤ) → sign_of (neg_ℤ a) ≡ opposite_of (sign_of a)
sign_of-negative (pos zero) = refl
sign_of-negative (pos (suc n)) = refl
sign_of-negative (negsuc n) = refl

both : (m n : ℕ) → 0 < suc m * suc n
both m n = grind arith

none_left : (n : ℕ) → zero * n ≡ zero
none_left n = omega arith

none_right : (n : ℕ) → n * zero ≡ zero
none_right n = omega arith

pub sign_of-times : (a b : ℤ) → sign_of (a *ℤ b) ≡ product_of (sign_of a) (sign_of b)
sign_of-times (pos zero) (pos n) = ap (λ k. sign_of (pos k)) (none_left n)
sign_of-times (pos zero) (negsuc n) = ap (λ k. sign_of (neg_ℤ (pos k))) (none_left (suc n))
sign_of-times (pos (suc m)) (pos zero) = ap (λ k. sign_of (pos k)) (none_right (suc m))
sign_of-times (pos (suc m)) (pos (suc n)) = sign_of-pos (suc m * suc n) (both m n)
sign_of-times (pos (suc m)) (negsuc n) = below (suc m * suc n) (both m n)
sign_of-times (negsuc m) (pos zero) = ap (λ k. sign_of (neg_ℤ (pos k))) (none_right (suc m))
sign_of-times (negsuc m) (pos (suc n)) = below (suc m * suc n) (both m n)
sign_of-times (negsuc m) (negsuc n) = sign_of-pos (suc m * suc n) (both m n)

-- what a sign says of a number, for `omega (arith, ints, ..)`
abbrev pub Says : Sign → ℤ → Type 0
Says Minus a = a <ℤ pos 0
Says Zero a = a ≡ pos 0
Says Plus a = pos 0 <ℤ a

own_sign : (a : ℤ) → Says (sign_of a) a
own_sign (pos zero) = refl
own_sign (pos (suc n)) = omega (arith, ints)
own_sign (negsuc n) = omega (arith, ints)

pub sign_out : (s : Sign) (a : ℤ) → sign_of a ≡ s → Says s a
sign_out s a e = subst (λ t. Says t a) e (own_sign a)

apart : (s : Sign) (a : ℤ) → Says s a → (t : Sign) → Says t a → s ≡ t
apart Minus a h Minus k = refl
apart Minus a h Zero k = absurd (omega (arith, ints))
apart Minus a h Plus k = absurd (omega (arith, ints))
apart Zero a h Minus k = absurd (omega (arith, ints))
apart Zero a h Zero k = refl
apart Zero a h Plus k = absurd (omega (arith, ints))
apart Plus a h Minus k = absurd (omega (arith, ints))
apart Plus a h Zero k = absurd (omega (arith, ints))
apart Plus a h Plus k = refl

pub sign_in : (s : Sign) (a : ℤ) → Says s a → sign_of a ≡ s
sign_in s a h = apart (sign_of a) a (own_sign a) s h

says_plus : (s : Sign) (a b : ℤ) → Says s a → Says s b ⊎ Says Zero b → Says s (a +ℤ b)
says_plus Minus a b h (inl k) = omega (arith, ints)
says_plus Minus a b h (inr k) = omega (arith, ints)
says_plus Zero a b h (inl k) = omega (arith, ints)
says_plus Zero a b h (inr k) = omega (arith, ints)
says_plus Plus a b h (inl k) = omega (arith, ints)
says_plus Plus a b h (inr k) = omega (arith, ints)

pub zero_of : (a : ℤ) → sign_of a ≡ Zero → a ≡ pos 0
zero_of a e = sign_out Zero a e

either_says : (s : Sign) (b : ℤ) → (sign_of b ≡ s) ⊎ (sign_of b ≡ Zero) → Says s b ⊎ Says Zero b
either_says s b (inl f) = inl (sign_out s b f)
either_says s b (inr f) = inr (sign_out Zero b f)

pub sign_of-plus : (s : Sign) (a b : ℤ) → sign_of a ≡ s → (sign_of b ≡ s) ⊎ (sign_of b ≡ Zero) → sign_of (a +ℤ b) ≡ s
sign_of-plus s a b e f = sign_in s (a +ℤ b) (says_plus s a b (sign_out s a e) (either_says s b f))

abbrev pub ordered_integers : OrderedRing ℤ
ordered_integers = record {
  ring = integers;
  sign = sign_of;
  sign_one = refl;
  sign_negative = sign_of-negative;
  sign_times = sign_of-times;
  sign_plus = sign_of-plus;
}
