-- The next root, from the roots.
use Rattle.std.proofs.Common.{◌≡◌, ◌≢◌, ◌⊎◌, inl, inr, Some, None, refl, ap, ap₂, sym, ◌∙◌, subst}
use Rattle.kin_algebra.specs.declared.sign.Sign.{Sign}
use Rattle.kin_algebra.specs.declared.sign.Sign.TheVariants.{Minus, Zero, Plus}
use Rattle.kin_algebra.specs.Signs.{sign_of}
use Rattle.kin_algebra.proofs.IntegerSigns.{zero_of}
use Rattle.kin_num.specs.declared.instant.Shape.{Shape}
use Rattle.kin_num.specs.Quadratic.{Quadratic}
use Rattle.kin_num.specs.Canonical.{discriminant}
use Rattle.kin_num.specs.Order.{IsLess}
use Rattle.kin_num.proofs.LowerFractions.{not_less_itself, less_asym}
use Rattle.kin_instant.specs.declared.roots.Roots.TheVariants.{Nowhere, One, Two, All}
use Rattle.kin_instant.specs.Roots.{AreRootsOf, count_by_signs, root_count}
use Rattle.kin_instant.specs.Places.{IsZeroPolynomial, IsNextRoot, HasNoRootAfter}

zero_signs : (s t u v : Sign) → count_by_signs s t u v ≡ None → (s ≡ Zero) × (t ≡ Zero) × (u ≡ Zero)
zero_signs Zero Zero Zero v e = (refl, refl, refl)
zero_signs Zero Zero Minus v e = absurd cc
zero_signs Zero Zero Plus v e = absurd cc
zero_signs Zero Minus u v e = absurd cc
zero_signs Zero Plus u v e = absurd cc
zero_signs Minus t u Minus e = absurd cc
zero_signs Minus t u Zero e = absurd cc
zero_signs Minus t u Plus e = absurd cc
zero_signs Plus t u Minus e = absurd cc
zero_signs Plus t u Zero e = absurd cc
zero_signs Plus t u Plus e = absurd cc

pub zero_of_count : (p : Quadratic) → root_count p ≡ None → IsZeroPolynomial p
zero_of_count p e =
    let z = zero_signs (sign_of p.a) (sign_of p.b) (sign_of p.c) (sign_of (discriminant p.a p.b p.c)) e in
    record { a_zero = zero_of p.a z.0; b_zero = zero_of p.b z.1; c_zero = zero_of p.c z.2 }

pub count_of_zero : (p : Quadratic) → IsZeroPolynomial p → root_count p ≡ None
count_of_zero p z =
    ap (λ (s : Sign). count_by_signs s (sign_of p.b) (sign_of p.c) (sign_of (discriminant p.a p.b p.c))) (ap sign_of z.a_zero)
    ∙ ap₂ (λ (s t : Sign). count_by_signs Zero s t (sign_of (discriminant p.a p.b p.c))) (ap sign_of z.b_zero) (ap sign_of z.c_zero)

module _ (p : Quadratic) (w : Shape) where
  abbrev pub IsEmpty : Type 0
  IsEmpty = IsZeroPolynomial p ⊎ HasNoRootAfter p w

  pub nowhere : AreRootsOf p Nowhere → IsEmpty
  nowhere h = inr (λ v i z l. (h.exact v i).0 z)

  pub everywhere : AreRootsOf p All → IsEmpty
  everywhere h = inl (zero_of_count p (sym h.number))

  -- a next root leaves neither case
  pub some_next : (r : Shape) → IsNextRoot p w r → root_count p ≢ None → ¬ IsEmpty
  some_next r n c (inl z) = c (count_of_zero p z)
  some_next r n c (inr e) = e r n.canonical.form n.root n.later

  pub two_counted : (r s : Shape) → AreRootsOf p (Two r s) → root_count p ≢ None
  two_counted r s h e = absurd (let f : Some 2 ≡ None = h.number ∙ e in cc)

  pub one_next : (r : Shape) → AreRootsOf p (One r) → IsLess w r → IsNextRoot p w r
  one_next r h l = record {
    canonical = h.canonical;
    root = (h.exact r h.canonical.form).1 refl;
    later = l;
    least = λ v i z m k. not_less_itself r (subst (λ x. IsLess x r) ((h.exact v i).0 z) k);
  }

  pub one_none : (r : Shape) → AreRootsOf p (One r) → ¬ (IsLess w r) → IsEmpty
  one_none r h n = inr (λ v i z l. n (subst (IsLess w) ((h.exact v i).0 z) l))

  pub first_next : (r s : Shape) → AreRootsOf p (Two r s) → IsLess w r → IsNextRoot p w r
  first_next r s h l = record {
    canonical = h.canonical.0;
    root = (h.exact r h.canonical.0.form).1 (inl refl);
    later = l;
    least = λ v i z m k. neither v k ((h.exact v i).0 z);
  }
    where
      neither : (v : Shape) → IsLess v r → (v ≡ r) ⊎ (v ≡ s) → ⊥
      neither v k (inl e) = not_less_itself r (subst (λ x. IsLess x r) e k)
      neither v k (inr e) = less_asym r s h.canonical.0.form h.canonical.1.form h.rising (subst (λ x. IsLess x r) e k)

  pub second_next : (r s : Shape) → AreRootsOf p (Two r s) → ¬ (IsLess w r) → IsLess w s → IsNextRoot p w s
  second_next r s h n l = record {
    canonical = h.canonical.1;
    root = (h.exact s h.canonical.1.form).1 (inr refl);
    later = l;
    least = λ v i z m k. neither v m k ((h.exact v i).0 z);
  }
    where
      neither : (v : Shape) → IsLess w v → IsLess v s → (v ≡ r) ⊎ (v ≡ s) → ⊥
      neither v m k (inl e) = n (subst (IsLess w) e m)
      neither v m k (inr e) = not_less_itself s (subst (λ x. IsLess x s) e k)

  pub two_none : (r s : Shape) → AreRootsOf p (Two r s) → ¬ (IsLess w r) → ¬ (IsLess w s) → IsEmpty
  two_none r s h n m = inr (λ v i z l. neither v l ((h.exact v i).0 z))
    where
      neither : (v : Shape) → IsLess w v → (v ≡ r) ⊎ (v ≡ s) → ⊥
      neither v l (inl e) = n (subst (IsLess w) e l)
      neither v l (inr e) = m (subst (IsLess w) e l)
