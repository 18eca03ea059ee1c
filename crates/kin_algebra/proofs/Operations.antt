-- The operations of a ring, as they are written.
use Rattle.kin_algebra.proofs.Rings.{CommutativeRing}

pub record Operations (R : Type 0) : Type 0 where
  infixl 20 ◌·◌
  pub ◌·◌ : R → R → R
  infixl 19 ◌⊕◌
  pub ◌⊕◌ : R → R → R
  infixl 19 ◌⊖◌
  pub ◌⊖◌ : R → R → R

abbrev pub operations : {R : Type 0} → CommutativeRing R → Operations R
operations r = record { ◌·◌ = r.times; ◌⊕◌ = r.plus; ◌⊖◌ = λ a b. r.plus a (r.negative b) }
