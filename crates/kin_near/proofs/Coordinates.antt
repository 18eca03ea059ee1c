-- The coordinates of an octant: its two orders as they are read, by which its third order and the length of a step are written.
use Rattle.std.proofs.Common.{◌≡◌, ◌⊎◌, inl, inr, [], ◌∷◌, ℕ, zero, suc, pos, Bool, true, false, cond, refl, subst}
use Rattle.std.specs.Prelude.{Some, slice_get}
use Rattle.kin_algebra.proofs.Operations.{operations}
use Rattle.kin_algebra.proofs.Ring.{by_identity, quotes_in}
use Rattle.kin_algebra.proofs.Vectors.{Vector as Step, along_way}
use Rattle.kin_algebra.proofs.OrderedRings.{OrderedRing}
use Rattle.kin_motion.specs.Octants.{Reading, Octant, octants, direction_of}
use Rattle.kin_motion.proofs.DistanceValues.{square}

module _ {R : Type 0} (o : OrderedRing R) where
  open operations o.ring use {◌·◌, ◌⊕◌, ◌⊖◌}

  abbrev pub two : R
  two = o.ring.whole (pos 2)

  abbrev pub three : R
  three = o.ring.whole (pos 3)

  -- the second step, less the first
  abbrev pub between : Step R → Step R → Step R
  between u v = record { x = v.x ⊖ u.x; y = v.y ⊖ u.y }

  -- how far a step goes in an order as it is read
  abbrev pub as_read : Reading → Step R → R
  as_read r v = cond r.from_end (o.ring.negative (along_way o (direction_of r.part).dx (direction_of r.part).dy v)) (along_way o (direction_of r.part).dx (direction_of r.part).dy v)

  pub as_read-between : (r : Reading) (u v : Step R) → as_read r (between u v) ≡ as_read r v ⊖ as_read r u
  as_read-between r u v = at r.from_end (o.ring.whole (direction_of r.part).dx) (o.ring.whole (direction_of r.part).dy)
    where
      at : (b : Bool) (dx dy : R) → cond b (o.ring.negative ((dx · (v.x ⊖ u.x)) ⊕ (dy · (v.y ⊖ u.y)))) ((dx · (v.x ⊖ u.x)) ⊕ (dy · (v.y ⊖ u.y)))
          ≡ cond b (o.ring.negative ((dx · v.x) ⊕ (dy · v.y))) ((dx · v.x) ⊕ (dy · v.y)) ⊖ cond b (o.ring.negative ((dx · u.x) ⊕ (dy · u.y))) ((dx · u.x) ⊕ (dy · u.y))
      at true dx dy = by_identity o.ring (dx ∷ dy ∷ u.x ∷ u.y ∷ v.x ∷ v.y ∷ []) _ _ (search quotes_in depth 30 fits 40000) (search quotes_in depth 30 fits 40000) refl
      at false dx dy = by_identity o.ring (dx ∷ dy ∷ u.x ∷ u.y ∷ v.x ∷ v.y ∷ []) _ _ (search quotes_in depth 30 fits 40000) (search quotes_in depth 30 fits 40000) refl

  -- ---- coordinates
  -- how far it is along the third order
  abbrev pub rank : R → R → R
  rank a b = (three · a) ⊕ (two · b)

  -- the square of the length
  abbrev pub norm : R → R → R
  norm a b = ((two · (a · a)) ⊕ (two · (a · b))) ⊕ (b · b)

  -- two orders of an octant, such that these are the coordinates of the third order and of the length
  pub record Frame (w : Octant) : Type 0 where
    pub a : Reading
    pub b : Reading
    pub bounds : ((a ≡ w.first) × (b ≡ w.second)) ⊎ ((a ≡ w.second) × (b ≡ w.first))
    pub third : (v : Step R) → as_read w.third v ≡ rank (as_read a v) (as_read b v)
    pub length : (v : Step R) → square o v ≡ norm (as_read a v) (as_read b v)

  told : (v w : Octant) → Frame v → Some v ≡ Some w → Frame w
  told v w f e = let same : v ≡ w = cc in subst Frame same f

  -- the first order is a
  first_order : (w : Octant) → ((v : Step R) → as_read w.third v ≡ rank (as_read w.first v) (as_read w.second v)) → ((v : Step R) → square o v ≡ norm (as_read w.first v) (as_read w.second v)) → Frame w
  first_order w third length = record { a = w.first; b = w.second; bounds = inl (refl, refl); third = third; length = length }

  -- the second order is a
  second_order : (w : Octant) → ((v : Step R) → as_read w.third v ≡ rank (as_read w.second v) (as_read w.first v)) → ((v : Step R) → square o v ≡ norm (as_read w.second v) (as_read w.first v)) → Frame w
  second_order w third length = record { a = w.second; b = w.first; bounds = inr (refl, refl); third = third; length = length }

  pub frame_of : (n : ℕ) (w : Octant) → slice_get octants n ≡ Some w → Frame w
  frame_of zero w e = told _ w (first_order _ (λ v. by_identity o.ring (v.x ∷ v.y ∷ []) _ _ (search quotes_in depth 30) (search quotes_in depth 30) refl) (λ v. by_identity o.ring (v.x ∷ v.y ∷ []) _ _ (search quotes_in depth 30) (search quotes_in depth 30) refl)) e
  frame_of (suc zero) w e = told _ w (second_order _ (λ v. by_identity o.ring (v.x ∷ v.y ∷ []) _ _ (search quotes_in depth 30) (search quotes_in depth 30) refl) (λ v. by_identity o.ring (v.x ∷ v.y ∷ []) _ _ (search quotes_in depth 30) (search quotes_in depth 30) refl)) e
  frame_of (suc (suc zero)) w e = told _ w (first_order _ (λ v. by_identity o.ring (v.x ∷ v.y ∷ []) _ _ (search quotes_in depth 30) (search quotes_in depth 30) refl) (λ v. by_identity o.ring (v.x ∷ v.y ∷ []) _ _ (search quotes_in depth 30) (search quotes_in depth 30) refl)) e
  frame_of (suc (suc (suc zero))) w e = told _ w (second_order _ (λ v. by_identity o.ring (v.x ∷ v.y ∷ []) _ _ (search quotes_in depth 30) (search quotes_in depth 30) refl) (λ v. by_identity o.ring (v.x ∷ v.y ∷ []) _ _ (search quotes_in depth 30) (search quotes_in depth 30) refl)) e
  frame_of (suc (suc (suc (suc zero)))) w e = told _ w (first_order _ (λ v. by_identity o.ring (v.x ∷ v.y ∷ []) _ _ (search quotes_in depth 30) (search quotes_in depth 30) refl) (λ v. by_identity o.ring (v.x ∷ v.y ∷ []) _ _ (search quotes_in depth 30) (search quotes_in depth 30) refl)) e
  frame_of (suc (suc (suc (suc (suc zero))))) w e = told _ w (second_order _ (λ v. by_identity o.ring (v.x ∷ v.y ∷ []) _ _ (search quotes_in depth 30) (search quotes_in depth 30) refl) (λ v. by_identity o.ring (v.x ∷ v.y ∷ []) _ _ (search quotes_in depth 30) (search quotes_in depth 30) refl)) e
  frame_of (suc (suc (suc (suc (suc (suc zero)))))) w e = told _ w (first_order _ (λ v. by_identity o.ring (v.x ∷ v.y ∷ []) _ _ (search quotes_in depth 30) (search quotes_in depth 30) refl) (λ v. by_identity o.ring (v.x ∷ v.y ∷ []) _ _ (search quotes_in depth 30) (search quotes_in depth 30) refl)) e
  frame_of (suc (suc (suc (suc (suc (suc (suc zero))))))) w e = told _ w (second_order _ (λ v. by_identity o.ring (v.x ∷ v.y ∷ []) _ _ (search quotes_in depth 30) (search quotes_in depth 30) refl) (λ v. by_identity o.ring (v.x ∷ v.y ∷ []) _ _ (search quotes_in depth 30) (search quotes_in depth 30) refl)) e
  frame_of (suc (suc (suc (suc (suc (suc (suc (suc n)))))))) w e = absurd cc
