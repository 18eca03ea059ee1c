-- The roots of a quadratic, from its lesser root and its greater one.
use Rattle.std.proofs.Common.{◌≡◌, ◌⊎◌, inl, inr, Some, refl, ap, ap₂, sym, ◌∙◌, subst, true, false}
use Rattle.kin_num.specs.declared.instant.Shape.{Shape}
use Rattle.kin_num.specs.Quadratic.{Quadratic}
use Rattle.kin_num.specs.Canonical.{IsCanonicalForm}
use Rattle.kin_num.specs.Order.{IsLess}
use Rattle.kin_num.proofs.LowerFractions.{not_less_itself, less_asym}
use Rattle.kin_instant.specs.declared.roots.Roots.{Roots}
use Rattle.kin_instant.specs.declared.roots.Roots.TheVariants.{Nowhere, One, Two, All}
use Rattle.kin_instant.specs.Roots.{HasRoot, count_of, AreRootsOf}
use Rattle.kin_instant.specs.Sides.{root_on, IsRootOn}

module _ (p : Quadratic) where
  -- ---- a polynomial has one answer
  count : (x y : Roots) → AreRootsOf p x → AreRootsOf p y → count_of x ≡ count_of y
  count x y h k = h.number ∙ sym k.number

  listed : (x y : Roots) → AreRootsOf p x → AreRootsOf p y → (w : Shape) → IsCanonicalForm w → HasRoot x w → HasRoot y w
  listed x y h k w i l = (k.exact w i).0 ((h.exact w i).1 l)

  same_pair : (r s t u : Shape) → IsCanonicalForm r → IsCanonicalForm s → IsLess r s → IsLess t u → (r ≡ t) ⊎ (r ≡ u) → (s ≡ t) ⊎ (s ≡ u) → Two r s ≡ Two t u
  same_pair r s t u i j l m (inl a) (inr b) = ap₂ (λ (x y : Shape). Two x y) a b
  same_pair r s t u i j l m (inl a) (inl b) = absurd (not_less_itself s (subst (λ x. IsLess x s) (a ∙ sym b) l))
  same_pair r s t u i j l m (inr a) (inr b) = absurd (not_less_itself s (subst (λ x. IsLess x s) (a ∙ sym b) l))
  same_pair r s t u i j l m (inr a) (inl b) = absurd (less_asym r s i j l (subst (λ x. IsLess x r) (sym b) (subst (λ x. IsLess t x) (sym a) m)))

  one_answer : (x y : Roots) → AreRootsOf p x → AreRootsOf p y → x ≡ y
  one_answer Nowhere Nowhere h k = refl
  one_answer All All h k = refl
  one_answer (One r) (One s) h k = ap (λ (x : Shape). One x) (listed (One r) (One s) h k r h.canonical.form refl)
  one_answer (Two r s) (Two t u) h k =
      same_pair r s t u h.canonical.0.form h.canonical.1.form h.rising k.rising
      (listed (Two r s) (Two t u) h k r h.canonical.0.form (inl refl))
      (listed (Two r s) (Two t u) h k s h.canonical.1.form (inr refl))
  one_answer Nowhere (One s) h k = absurd (let e = count Nowhere (One s) h k in cc)
  one_answer Nowhere (Two t u) h k = absurd (let e = count Nowhere (Two t u) h k in cc)
  one_answer Nowhere All h k = absurd (let e = count Nowhere All h k in cc)
  one_answer (One r) Nowhere h k = absurd (let e = count (One r) Nowhere h k in cc)
  one_answer (One r) (Two t u) h k = absurd (let e = count (One r) (Two t u) h k in cc)
  one_answer (One r) All h k = absurd (let e = count (One r) All h k in cc)
  one_answer (Two r s) Nowhere h k = absurd (let e = count (Two r s) Nowhere h k in cc)
  one_answer (Two r s) (One t) h k = absurd (let e = count (Two r s) (One t) h k in cc)
  one_answer (Two r s) All h k = absurd (let e = count (Two r s) All h k in cc)
  one_answer All Nowhere h k = absurd (let e = count All Nowhere h k in cc)
  one_answer All (One s) h k = absurd (let e = count All (One s) h k in cc)
  one_answer All (Two t u) h k = absurd (let e = count All (Two t u) h k in cc)

  -- ---- a lesser root that isn't before the greater one is the only one
  module _ (r s : Shape) (lower : IsRootOn p false (Some r)) (upper : IsRootOn p true (Some s)) where
    greater : Some s ≡ root_on true lower.answer
    greater = upper.same ∙ ap (root_on true) (one_answer upper.answer lower.answer upper.roots lower.roots)

    pub one_root : ¬ (IsLess r s) → AreRootsOf p (One s)
    one_root n = at lower.answer lower.roots lower.same greater
      where
        at : (x : Roots) → AreRootsOf p x → Some r ≡ root_on false x → Some s ≡ root_on true x → AreRootsOf p (One s)
        at Nowhere k e f = absurd cc
        at (One t) k e f = subst (AreRootsOf p) (let same : One t ≡ One s = cc in same) k
        at (Two t u) k e f = absurd (n (subst (λ x. IsLess x s) (let same : t ≡ r = cc in same) (subst (λ x. IsLess t x) (let same : u ≡ s = cc in same) k.rising)))
        at All k e f = absurd cc
