-- Of two steps into an octant the one that goes less far along the third order ends nearer to the end of the other than the apex is.
use Rattle.std.proofs.Common.{◌≡◌, ◌⊎◌, inl, inr, [], ◌∷◌, pos, refl, sym, ap, ap₂, ◌∙◌, subst}
use Rattle.kin_algebra.specs.declared.sign.Sign.TheVariants.{Zero, Plus}
use Rattle.kin_algebra.specs.Signs.{product_of}
use Rattle.kin_algebra.proofs.Operations.{operations}
use Rattle.kin_algebra.proofs.Ring.{by_identity, quotes_in}
use Rattle.kin_algebra.proofs.Signs.{AtLeast, product-Zero, square_none}
use Rattle.kin_algebra.proofs.Vectors.{Vector as Step}
use Rattle.kin_algebra.proofs.OrderedRings.{OrderedRing, sign_twice, positive_sum, nonnegative_sum, sum_zero, positive_product, nonnegative_product, sign_square, positive_cancel}
use Rattle.kin_motion.specs.Octants.{Octant}
use Rattle.kin_motion.proofs.DistanceValues.{square}
use Rattle.kin_near.proofs.Coordinates.{two, three, between, as_read, as_read-between, rank, norm, Frame}

module _ {R : Type 0} (o : OrderedRing R) where
  open operations o.ring use {◌·◌, ◌⊕◌, ◌⊖◌}

  abbrev six : R
  six = o.ring.whole (pos 6)

  -- three times how much nearer the end of the step (c, d) is to that of (a, b) than to the apex
  identity : (a b c d : R) → three o · (norm o c d ⊖ norm o (c ⊖ a) (d ⊖ b))
      ≡ ((((three o · (a · c)) ⊕ (two o · (b · d))) ⊕ (rank o a b · (rank o c d ⊖ rank o a b))) ⊕ (six · (a · b))) ⊕ ((three o · (a · a)) ⊕ (b · b))
  identity a b c d = by_identity o.ring (a ∷ b ∷ c ∷ d ∷ []) _ _ (search quotes_in depth 30 fits 40000) (search quotes_in depth 30 fits 40000) refl

  -- ---- signs
  positive_two : o.sign (two o) ≡ Plus
  positive_two = ap o.sign (o.ring.whole_plus (pos 1) (pos 1)) ∙ sign_twice o (o.ring.whole (pos 1)) ∙ o.sign_one

  positive_three : o.sign (three o) ≡ Plus
  positive_three = ap o.sign (o.ring.whole_plus (pos 2) (pos 1)) ∙ positive_sum o positive_two (inl o.sign_one)

  positive_six : o.sign six ≡ Plus
  positive_six = ap o.sign (o.ring.whole_plus (pos 3) (pos 3)) ∙ sign_twice o (three o) ∙ positive_three

  -- a second summand that is positive
  sum_positive : {a b : R} → AtLeast (o.sign a) → o.sign b ≡ Plus → o.sign (a ⊕ b) ≡ Plus
  sum_positive {a} {b} h e = ap o.sign (o.ring.plus_comm a b) ∙ positive_sum o e h

  pub times_none : (a : R) {b : R} → o.sign b ≡ Zero → o.sign (a · b) ≡ Zero
  times_none a {b} e = o.sign_times a b ∙ ap (product_of (o.sign a)) e ∙ product-Zero (o.sign a)

  -- both are of sign 0
  abbrev pub AreNone : R → R → Type 0
  AreNone a b = (o.sign a ≡ Zero) × (o.sign b ≡ Zero)

  -- ---- in coordinates
  module _ {a b c d : R} (a_some : AtLeast (o.sign a)) (b_some : AtLeast (o.sign b)) (c_some : AtLeast (o.sign c)) (d_some : AtLeast (o.sign d)) (later : AtLeast (o.sign (rank o c d ⊖ rank o a b))) where
    products : AtLeast (o.sign ((((three o · (a · c)) ⊕ (two o · (b · d))) ⊕ (rank o a b · (rank o c d ⊖ rank o a b))) ⊕ (six · (a · b))))
    products =
        nonnegative_sum o
        (nonnegative_sum o
        (nonnegative_sum o (scaled positive_three (nonnegative_product o a_some c_some)) (scaled positive_two (nonnegative_product o b_some d_some)))
        (nonnegative_product o (nonnegative_sum o (scaled positive_three a_some) (scaled positive_two b_some)) later))
        (scaled positive_six (nonnegative_product o a_some b_some))
      where
        scaled : {k x : R} → o.sign k ≡ Plus → AtLeast (o.sign x) → AtLeast (o.sign (k · x))
        scaled {k} {x} e h = nonnegative_product o (inl e) h

    from_squares : o.sign ((three o · (a · a)) ⊕ (b · b)) ≡ Plus → o.sign (norm o c d ⊖ norm o (c ⊖ a) (d ⊖ b)) ≡ Plus
    from_squares e = positive_cancel o positive_three (ap o.sign (identity a b c d) ∙ sum_positive products e)

    pub nearer : (o.sign (norm o c d ⊖ norm o (c ⊖ a) (d ⊖ b)) ≡ Plus) ⊎ AreNone a b
    nearer = at a_some b_some
      where
        at : AtLeast (o.sign a) → AtLeast (o.sign b) → (o.sign (norm o c d ⊖ norm o (c ⊖ a) (d ⊖ b)) ≡ Plus) ⊎ AreNone a b
        at (inl e) h = inl (from_squares (positive_sum o (positive_product o positive_three (positive_product o e e)) (sign_square o b)))
        at (inr e) (inl f) = inl (from_squares (sum_positive (nonnegative_product o (inl positive_three) (sign_square o a)) (positive_product o f f)))
        at (inr e) (inr f) = inr (e, f)

  -- a sum of two of sign 0
  pub sum_none : {a b : R} → AreNone a b → o.sign (a ⊕ b) ≡ Zero
  sum_none {a} {b} k = o.sign_plus Zero a b k.0 (inr k.1)

  norm_none : {a b : R} → AreNone a b → o.sign (norm o a b) ≡ Zero
  norm_none {a} {b} (e, f) = sum_none (sum_none (times_none (two o) (times_none a e), times_none (two o) (times_none a f)), times_none b f)

  root_none : (a : R) → o.sign (a · a) ≡ Zero → o.sign a ≡ Zero
  root_none a e = square_none (o.sign a) (sym (o.sign_times a a) ∙ e)

  -- ---- in steps
  -- a step of no length goes nowhere
  pub no_length : (u : Step R) → o.sign (square o u) ≡ Zero → AreNone u.x u.y
  no_length u e = let k = sum_zero o (sign_square o u.x) (sign_square o u.y) e in (root_none u.x k.0, root_none u.y k.1)

  -- the step leads into the octant, by its two orders
  abbrev pub LeadsInto : Octant → Step R → Type 0
  LeadsInto w u = AtLeast (o.sign (as_read o w.first u)) × AtLeast (o.sign (as_read o w.second u))

  module _ (w : Octant) (f : Frame o w) where
    coordinates : (u : Step R) → LeadsInto w u → AtLeast (o.sign (as_read o f.a u)) × AtLeast (o.sign (as_read o f.b u))
    coordinates u h = at f.bounds
      where
        at : ((f.a ≡ w.first) × (f.b ≡ w.second)) ⊎ ((f.a ≡ w.second) × (f.b ≡ w.first)) → AtLeast (o.sign (as_read o f.a u)) × AtLeast (o.sign (as_read o f.b u))
        at (inl (e, g)) = (subst (λ r. AtLeast (o.sign (as_read o r u))) (sym e) h.0, subst (λ r. AtLeast (o.sign (as_read o r u))) (sym g) h.1)
        at (inr (e, g)) = (subst (λ r. AtLeast (o.sign (as_read o r u))) (sym e) h.1, subst (λ r. AtLeast (o.sign (as_read o r u))) (sym g) h.0)

    module _ (u v : Step R) where
      abbrev a : R
      a = as_read o f.a u

      abbrev b : R
      b = as_read o f.b u

      abbrev c : R
      c = as_read o f.a v

      abbrev d : R
      d = as_read o f.b v

      third : as_read o w.third (between o u v) ≡ rank o c d ⊖ rank o a b
      third = as_read-between o w.third u v ∙ ap₂ (λ x y. x ⊖ y) (f.third v) (f.third u)

      less : square o v ⊖ square o (between o u v) ≡ norm o c d ⊖ norm o (c ⊖ a) (d ⊖ b)
      less = ap₂ (λ x y. x ⊖ y) (f.length v) (f.length (between o u v) ∙ ap₂ (norm o) (as_read-between o f.a u v) (as_read-between o f.b u v))

      -- of two steps into an octant that end one after the other, the end of the first is nearer to that of the second than the apex is, or the first goes nowhere
      pub step_nearer : LeadsInto w u → LeadsInto w v → AtLeast (o.sign (as_read o w.third (between o u v))) → (o.sign (square o v ⊖ square o (between o u v)) ≡ Plus) ⊎ AreNone u.x u.y
      step_nearer in_u in_v later = at (nearer (coordinates u in_u).0 (coordinates u in_u).1 (coordinates v in_v).0 (coordinates v in_v).1 (subst (λ z. AtLeast (o.sign z)) third later))
        where
          at : (o.sign (norm o c d ⊖ norm o (c ⊖ a) (d ⊖ b)) ≡ Plus) ⊎ AreNone a b → (o.sign (square o v ⊖ square o (between o u v)) ≡ Plus) ⊎ AreNone u.x u.y
          at (inl e) = inl (ap o.sign less ∙ e)
          at (inr e) = inr (no_length u (ap o.sign (f.length u) ∙ norm_none e))
