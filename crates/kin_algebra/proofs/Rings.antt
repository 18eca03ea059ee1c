-- Commutative rings with the whole numbers in them, and their first laws.
use Rattle.std.proofs.Common.{◌≡◌, sym, ap, ap₂, ◌∙◌}
use Rattle.std.specs.Prelude.{ℤ, pos, negsuc, ◌+ℤ◌, ◌*ℤ◌}

pub record CommutativeRing (R : Type 0) : Type 0 where
  -- a whole number in the ring
  pub whole : ℤ → R
  pub plus : R → R → R
  pub times : R → R → R
  pub negative : R → R
  pub plus_assoc : (a b c : R) → plus (plus a b) c ≡ plus a (plus b c)
  pub plus_comm : (a b : R) → plus a b ≡ plus b a
  pub plus_zero : (a : R) → plus a (whole (pos 0)) ≡ a
  pub plus_negative : (a : R) → plus a (negative a) ≡ whole (pos 0)
  pub times_assoc : (a b c : R) → times (times a b) c ≡ times a (times b c)
  pub times_comm : (a b : R) → times a b ≡ times b a
  pub times_one : (a : R) → times a (whole (pos 1)) ≡ a
  pub times_plus : (a b c : R) → times a (plus b c) ≡ plus (times a b) (times a c)
  pub whole_plus : (m n : ℤ) → whole (m +ℤ n) ≡ plus (whole m) (whole n)
  pub whole_times : (m n : ℤ) → whole (m *ℤ n) ≡ times (whole m) (whole n)

module _ {R : Type 0} (r : CommutativeRing R) where
  abbrev zero_in : R
  zero_in = r.whole (pos 0)

  abbrev one_in : R
  one_in = r.whole (pos 1)

  pub plus_left : (a b c : R) → r.plus a (r.plus b c) ≡ r.plus b (r.plus a c)
  plus_left a b c = sym (r.plus_assoc a b c) ∙ ap (λ x. r.plus x c) (r.plus_comm a b) ∙ r.plus_assoc b a c

  pub times_four : (a b c d : R) → r.times (r.times a b) (r.times c d) ≡ r.times (r.times a c) (r.times b d)
  times_four a b c d =
      r.times_assoc a b (r.times c d)
      ∙ ap (r.times a) (sym (r.times_assoc b c d) ∙ ap (λ x. r.times x d) (r.times_comm b c) ∙ r.times_assoc c b d)
      ∙ sym (r.times_assoc a c (r.times b d))

  pub zero_plus : (a : R) → r.plus zero_in a ≡ a
  zero_plus a = r.plus_comm zero_in a ∙ r.plus_zero a

  pub one_times : (a : R) → r.times one_in a ≡ a
  one_times a = r.times_comm one_in a ∙ r.times_one a

  pub plus_times : (a b c : R) → r.times (r.plus a b) c ≡ r.plus (r.times a c) (r.times b c)
  plus_times a b c = r.times_comm (r.plus a b) c ∙ r.times_plus c a b ∙ ap₂ r.plus (r.times_comm c a) (r.times_comm c b)

  pub negative_plus : (a : R) → r.plus (r.negative a) a ≡ zero_in
  negative_plus a = r.plus_comm (r.negative a) a ∙ r.plus_negative a

  -- what a + x = 0 says of x
  pub only_negative : (a x : R) → r.plus a x ≡ zero_in → x ≡ r.negative a
  only_negative a x e =
      sym (zero_plus x)
      ∙ ap (λ y. r.plus y x) (sym (negative_plus a))
      ∙ r.plus_assoc (r.negative a) a x
      ∙ ap (r.plus (r.negative a)) e
      ∙ r.plus_zero (r.negative a)

  pub negative_negative : (a : R) → r.negative (r.negative a) ≡ a
  negative_negative a = sym (only_negative (r.negative a) a (negative_plus a))

  -- x + x = x makes x nothing
  no_double : (x : R) → r.plus x x ≡ x → x ≡ zero_in
  no_double x e =
      sym (zero_plus x)
      ∙ ap (λ y. r.plus y x) (sym (negative_plus x))
      ∙ r.plus_assoc (r.negative x) x x
      ∙ ap (r.plus (r.negative x)) e
      ∙ negative_plus x

  pub times_zero : (a : R) → r.times a zero_in ≡ zero_in
  times_zero a = no_double (r.times a zero_in) (sym (r.times_plus a zero_in zero_in) ∙ ap (r.times a) (r.plus_zero zero_in))

  pub zero_times : (a : R) → r.times zero_in a ≡ zero_in
  zero_times a = r.times_comm zero_in a ∙ times_zero a

  -- -1 times a is the negative of a
  pub minus_one_times : (a : R) → r.times (r.whole (negsuc 0)) a ≡ r.negative a
  minus_one_times a =
      only_negative a (r.times (r.whole (negsuc 0)) a)
      (ap (λ x. r.plus x (r.times (r.whole (negsuc 0)) a)) (sym (one_times a))
      ∙ sym (plus_times one_in (r.whole (negsuc 0)) a)
      ∙ ap (λ x. r.times x a) (sym (r.whole_plus (pos 1) (negsuc 0)))
      ∙ zero_times a)

  -- what has no difference is equal
  pub equal_by_difference : (a b : R) → r.plus a (r.negative b) ≡ zero_in → a ≡ b
  equal_by_difference a b e = sym (negative_negative a) ∙ ap r.negative (sym (only_negative a (r.negative b) e)) ∙ negative_negative b
