-- Identities of whole numbers and of any commutative ring, quoted from the goal by `search`.
use Rattle.std.proofs.Common.{◌≡◌, ℕ, zero, suc, true, List, ◌∷◌, refl, sym, ◌∙◌, ap, ap₂}
use Rattle.std.specs.Prelude.{ℤ, pos, negsuc, ◌+ℤ◌, ◌*ℤ◌}
use lib.IntN.{neg_ℤ}
use Rattle.kin_algebra.proofs.Rings.{CommutativeRing}
use Rattle.kin_algebra.proofs.Identity.{Expr, var, num, minus, ◌⊕◌, ◌⊗◌, pick, eval, agree, identity}
use Rattle.kin_algebra.proofs.Integers.{integers}

-- an expression for a value
pub record Quote {R : Type 0} (r : CommutativeRing R) (xs : List R) (x : R) : Type 0 where
  pub expr : Expr
  pub is : eval r xs expr ≡ x

-- the place of a variable
pub record At {R : Type 0} (r : CommutativeRing R) (xs : List R) (x : R) : Type 0 where
  pub place : ℕ
  pub is : pick r xs place ≡ x

module _ {R : Type 0} {r : CommutativeRing R} where
  abbrev pub at_here : (x : R) (xs : List R) → At r (x ∷ xs) x
  at_here x xs = record { place = zero; is = refl }

  abbrev pub at_there : (x : R) (xs : List R) (z : R) → At r xs z → At r (x ∷ xs) z
  at_there x xs z a = record { place = suc a.place; is = a.is }

  abbrev pub q_variable : (xs : List R) (x : R) → At r xs x → Quote r xs x
  q_variable xs x a = record { expr = var a.place; is = a.is }

  abbrev pub q_whole : (xs : List R) (n : ℤ) → Quote r xs (r.whole n)
  q_whole xs n = record { expr = num n; is = refl }

  abbrev pub q_plus : (xs : List R) (x y : R) → Quote r xs x → Quote r xs y → Quote r xs (r.plus x y)
  q_plus xs x y p q = record { expr = p.expr ⊕ q.expr; is = ap₂ r.plus p.is q.is }

  abbrev pub q_times : (xs : List R) (x y : R) → Quote r xs x → Quote r xs y → Quote r xs (r.times x y)
  q_times xs x y p q = record { expr = p.expr ⊗ q.expr; is = ap₂ r.times p.is q.is }

  abbrev pub q_negative : (xs : List R) (x : R) → Quote r xs x → Quote r xs (r.negative x)
  q_negative xs x p = record { expr = minus p.expr; is = ap r.negative p.is }

-- two values whose expressions have the same monomials
pub by_identity : {R : Type 0} (r : CommutativeRing R) (xs : List R) (x y : R) (p : Quote r xs x) (q : Quote r xs y) → agree p.expr q.expr ≡ true → x ≡ y
by_identity r xs x y p q h = sym p.is ∙ identity r xs p.expr q.expr h ∙ q.is

pub ruleset quotes_in = (at_here, at_there, q_variable, q_whole, q_plus, q_times, q_negative)

-- ---- whole numbers
abbrev pub q_pos : (xs : List ℤ) (n : ℕ) → Quote integers xs (pos n)
q_pos xs n = record { expr = num (pos n); is = refl }

abbrev pub q_negsuc : (xs : List ℤ) (n : ℕ) → Quote integers xs (negsuc n)
q_negsuc xs n = record { expr = num (negsuc n); is = refl }

abbrev pub q_plus_ℤ : (xs : List ℤ) (x y : ℤ) → Quote integers xs x → Quote integers xs y → Quote integers xs (x +ℤ y)
q_plus_ℤ = q_plus

abbrev pub q_times_ℤ : (xs : List ℤ) (x y : ℤ) → Quote integers xs x → Quote integers xs y → Quote integers xs (x *ℤ y)
q_times_ℤ = q_times

abbrev pub q_negative_ℤ : (xs : List ℤ) (x : ℤ) → Quote integers xs x → Quote integers xs (neg_ℤ x)
q_negative_ℤ = q_negative

pub ruleset quotes = (at_here, at_there, q_variable, q_pos, q_negsuc, q_plus_ℤ, q_times_ℤ, q_negative_ℤ)

pub by_ring : (xs : List ℤ) (x y : ℤ) (p : Quote integers xs x) (q : Quote integers xs y) → agree p.expr q.expr ≡ true → x ≡ y
by_ring = by_identity integers
