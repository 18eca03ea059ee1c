-- Three points of a real scene, as steps over an ordered ring that have the signs of the scene.
use Rattle.std.proofs.Common.{◌≡◌, ◌≢◌, ◌⊎◌, inl, inr, refl, sym, ap, ap₂, ◌∙◌, subst, List, [], ◌∷◌, map, ℕ, Bool, true, false, cond, ℤ, pos}
use Rattle.std.specs.Prelude.{Option, Some, slice_get}
use Rattle.std.proofs.lemmas.Bool.{and_parts}
use Rattle.kin_algebra.proofs.Members.{contains_from_get}
use Rattle.kin_algebra.specs.declared.sign.Sign.{Sign}
use Rattle.kin_algebra.specs.declared.sign.Sign.TheVariants.{Minus, Zero, Plus}
use Rattle.kin_algebra.specs.Signs.{opposite_of}
use Rattle.kin_algebra.proofs.Ring.{by_identity, quotes_in}
use Rattle.kin_algebra.proofs.Signs.{AtLeast}
use Rattle.kin_algebra.proofs.Vectors.{Vector as Step, along_way}
use Rattle.kin_algebra.proofs.OrderedRings.{OrderedRing}
use Rattle.kin_algebra.proofs.Pairs.{Pair}
use Rattle.kin_num.specs.Instants.{sign_at_number}
use Rattle.kin_num.proofs.NumberRing.{ring_over}
use Rattle.kin_motion.specs.declared.form.Form.{Form}
use Rattle.kin_motion.specs.declared.form.Form.TheVariants.{Line, Dist}
use Rattle.kin_motion.specs.Course.{Course}
use Rattle.kin_motion.specs.Forms.{x_of, y_of, x_step, y_step, polynomial_of, sign_of_form}
use Rattle.kin_motion.specs.Orders.{leads}
use Rattle.kin_motion.specs.Octants.{Reading, Octant, direction_of, comes_after, octants, is_in_octant}
use Rattle.kin_motion.specs.Scene.{Scene, IsReal}
use Rattle.kin_motion.proofs.RealLaws.{real_line_laws}
use Rattle.kin_motion.proofs.SetLaws.{contains_map}
use Rattle.kin_motion.proofs.SeenLaws.{SeenAt, seen_at}
use Rattle.kin_motion.proofs.LineValues.{step_at, line_value, line_value-minus, line_sign}
use Rattle.kin_motion.proofs.DistanceValues.{square, distance_sign}
use Rattle.kin_near.specs.Candidates.{AreCoincident, FirstIsNearer}
use Rattle.kin_near.proofs.Coordinates.{between, as_read, frame_of}
use Rattle.kin_near.proofs.Nearness.{AreNone, step_nearer}
use Rattle.kin_near.proofs.Coincidence.{along_x, along_y, IsNone, way_none, between_none, length_none, same_length, length_less, not_longer}

-- the way from c to q is that from the apex to q, less that from the apex to c
by_apex : {R : Type 0} (o : OrderedRing R) (p c q : R) → o.ring.plus q (o.ring.negative c) ≡ o.ring.plus (o.ring.plus q (o.ring.negative p)) (o.ring.negative (o.ring.plus c (o.ring.negative p)))
by_apex {R} o p c q = by_identity o.ring (p ∷ c ∷ q ∷ []) _ _ (search quotes_in depth 20) (search quotes_in depth 20) refl

-- the line of two numbers along an order
abbrev pub line_form : Reading → ℕ → ℕ → Form
line_form k i j = Line (direction_of k.part).dx (direction_of k.part).dy (pos 0) i j

module _ (s : Scene) (r : IsReal s) (w : Octant) (p c q : ℕ) where
  abbrev ms : List (Option Course)
  ms = r.motions

  -- all forms of these points that the closest pair rests on
  abbrev forms : List Form
  forms =
      line_form w.first p c ∷ line_form w.second p c ∷ line_form w.first p q ∷ line_form w.second p q ∷ line_form w.third c q
      ∷ Line (pos 1) (pos 0) (pos 0) p c ∷ Line (pos 0) (pos 1) (pos 0) p c ∷ Line (pos 1) (pos 0) (pos 0) p q ∷ Line (pos 0) (pos 1) (pos 0) p q
      ∷ Dist c q p q ∷ Dist p q p c ∷ []

  seen : SeenAt r.moment (map (polynomial_of ms) forms)
  seen = seen_at r.moment (map (polynomial_of ms) forms) r.canonical

  abbrev here : OrderedRing Pair
  here = ring_over (seen).number.radicand (seen).sound

  sign_here : (k : ℕ) (f : Form) → slice_get forms k ≡ Some f → s.sign f ≡ sign_at_number (polynomial_of ms f) (seen).number
  unfolding sign_of_form
  sign_here k f e = r.sign f ∙ (seen).each (polynomial_of ms f) (contains_map (polynomial_of ms) forms f (contains_from_get forms k f e))

  abbrev step : ℕ → ℕ → Step Pair
  step i j = step_at (seen).number (seen).sound (seen).positive (x_step ms i j) (y_step ms i j)

  step_between : step c q ≡ between here (step p c) (step p q)
  step_between =
      let value_x = λ (i j : ℕ). line_value-minus (x_of ms j) (x_of ms i) (seen).number in
      let value_y = λ (i j : ℕ). line_value-minus (y_of ms j) (y_of ms i) (seen).number in
      let x_same = value_x c q ∙ by_apex here (line_value (x_of ms p) (seen).number) (line_value (x_of ms c) (seen).number) (line_value (x_of ms q) (seen).number)
      ∙ sym (ap₂ (λ a b. here.ring.plus a (here.ring.negative b)) (value_x p q) (value_x p c)) in
      let y_same = value_y c q ∙ by_apex here (line_value (y_of ms p) (seen).number) (line_value (y_of ms c) (seen).number) (line_value (y_of ms q) (seen).number)
      ∙ sym (ap₂ (λ a b. here.ring.plus a (here.ring.negative b)) (value_y p q) (value_y p c)) in
      λ t. record { x = x_same t; y = y_same t }

  -- ---- signs
  line_here : (k : ℕ) (dx dy : ℤ) (i j : ℕ) → slice_get forms k ≡ Some (Line dx dy (pos 0) i j) → s.sign (Line dx dy (pos 0) i j) ≡ here.sign (along_way here dx dy (step i j))
  unfolding polynomial_of
  line_here k dx dy i j e = sign_here k (Line dx dy (pos 0) i j) e ∙ line_sign (seen).number (seen).sound (seen).positive dx dy (x_step ms i j) (y_step ms i j)

  dist_here : (n : ℕ) (i j k l : ℕ) → slice_get forms n ≡ Some (Dist i j k l) → s.sign (Dist i j k l) ≡ here.sign (here.ring.plus (square here (step k l)) (here.ring.negative (square here (step i j))))
  unfolding polynomial_of
  dist_here n i j k l e = sign_here n (Dist i j k l) e ∙ distance_sign (seen).number (seen).sound (seen).positive (x_step ms i j) (y_step ms i j) (x_step ms k l) (y_step ms k l)

  -- who comes after another as the order is read isn't behind it there
  ahead : (k : ℕ) (d : Reading) (i j : ℕ) → slice_get forms k ≡ Some (line_form d i j) → comes_after s d i j ≡ true → AtLeast (here.sign (as_read here d (step i j)))
  ahead k d i j e = at d.from_end
    where
      line_sign_here : s.sign (line_form d i j) ≡ here.sign (along_way here (direction_of d.part).dx (direction_of d.part).dy (step i j))
      line_sign_here = line_here k (direction_of d.part).dx (direction_of d.part).dy i j e

      not_behind : (t : Sign) (a b : ℕ) → leads t a b ≡ true → AtLeast t
      not_behind Minus a b h = absurd cc
      not_behind Zero a b h = inr refl
      not_behind Plus a b h = inl refl

      at : (b : Bool) → cond b (leads (s.sign (line_form d j i)) j i) (leads (s.sign (line_form d i j)) i j) ≡ true
          → AtLeast (here.sign (cond b (here.ring.negative (along_way here (direction_of d.part).dx (direction_of d.part).dy (step i j))) (along_way here (direction_of d.part).dx (direction_of d.part).dy (step i j))))
      at false h = subst AtLeast line_sign_here (not_behind _ i j h)
      at true h =
          subst AtLeast
          ((real_line_laws s r).opposite (direction_of d.part).dx (direction_of d.part).dy i j ∙ ap opposite_of line_sign_here ∙ sym (here.sign_negative (along_way here (direction_of d.part).dx (direction_of d.part).dy (step i j))))
          (not_behind _ j i h)

  -- ---- points at one place
  -- the lines along x and y stand there
  record HasAxes (i j : ℕ) : Type 0 where
    k : ℕ
    l : ℕ
    x_there : slice_get forms k ≡ Some (Line (pos 1) (pos 0) (pos 0) i j)
    y_there : slice_get forms l ≡ Some (Line (pos 0) (pos 1) (pos 0) i j)

  to_c : HasAxes p c
  to_c = record { k = 5; l = 6; x_there = refl; y_there = refl }

  to_q : HasAxes p q
  to_q = record { k = 7; l = 8; x_there = refl; y_there = refl }

  goes_nowhere : (i j : ℕ) → HasAxes i j → AreCoincident s i j → IsNone here (step i j)
  goes_nowhere i j a h = (
    ap here.sign (sym (along_x here (step i j))) ∙ sym (line_here a.k (pos 1) (pos 0) i j a.x_there) ∙ h.0,
    ap here.sign (sym (along_y here (step i j))) ∙ sym (line_here a.l (pos 0) (pos 1) i j a.y_there) ∙ h.1,
  )

  at_one_place : (i j : ℕ) → HasAxes i j → IsNone here (step i j) → AreCoincident s i j
  at_one_place i j a h = (
    line_here a.k (pos 1) (pos 0) i j a.x_there ∙ ap here.sign (along_x here (step i j)) ∙ h.0,
    line_here a.l (pos 0) (pos 1) i j a.y_there ∙ ap here.sign (along_y here (step i j)) ∙ h.1,
  )

  -- who is as near to the apex as a point at its place is there too
  pub as_near : AreCoincident s p c → s.sign (Dist p q p c) ≢ Minus → AreCoincident s p q
  as_near together near =
      at_one_place p q to_q (not_longer here (step p c) (step p q) (goes_nowhere p c to_c together) (λ e. near (dist_here 10 p q p c refl ∙ e)))

  -- two points at one place are equally far from a third one
  pub equally_far : AreCoincident s p c → s.sign (Dist c q p q) ≡ Zero
  equally_far together =
      dist_here 9 c q p q refl
      ∙ ap (λ (v : Step Pair). here.sign (here.ring.plus (square here (step p q)) (here.ring.negative (square here v)))) step_between
      ∙ same_length here (step p c) (step p q) (goes_nowhere p c to_c together)

  -- three points at one place: the distances are equal, and all are level in each order
  pub record AreLevel : Type 0 where
    pub distance : s.sign (Dist p q p c) ≡ Zero
    pub first_c : s.sign (line_form w.first p c) ≡ Zero
    pub second_c : s.sign (line_form w.second p c) ≡ Zero
    pub first_q : s.sign (line_form w.first p q) ≡ Zero
    pub second_q : s.sign (line_form w.second p q) ≡ Zero
    pub third : s.sign (line_form w.third c q) ≡ Zero

  pub level : AreCoincident s p c → AreCoincident s p q → AreLevel
  level with_c with_q = record {
    distance = dist_here 10 p q p c refl ∙ length_less here (step p c) (step p q) none_c ∙ ap opposite_of (length_none here (step p q) none_q);
    first_c = in_order 0 w.first p c refl none_c;
    second_c = in_order 1 w.second p c refl none_c;
    first_q = in_order 2 w.first p q refl none_q;
    second_q = in_order 3 w.second p q refl none_q;
    third = in_order 4 w.third c q refl (subst (IsNone here) (sym step_between) (between_none here (step p c) (step p q) none_c none_q));
  }
    where
      none_c : IsNone here (step p c)
      none_c = goes_nowhere p c to_c with_c

      none_q : IsNone here (step p q)
      none_q = goes_nowhere p q to_q with_q

      in_order : (k : ℕ) (d : Reading) (i j : ℕ) → slice_get forms k ≡ Some (line_form d i j) → IsNone here (step i j) → s.sign (line_form d i j) ≡ Zero
      in_order k d i j e none = line_here k (direction_of d.part).dx (direction_of d.part).dy i j e ∙ way_none here (direction_of d.part).dx (direction_of d.part).dy (step i j) none

  -- ---- the inequality
  pub first_nearer : (n : ℕ) → slice_get octants n ≡ Some w → is_in_octant s w p c ≡ true → is_in_octant s w p q ≡ true → comes_after s w.third c q ≡ true → (s.sign (Dist c q p q) ≡ Plus) ⊎ AreCoincident s p c
  first_nearer n e in_c in_q after =
      at
      (step_nearer here w (frame_of here n w e) (step p c) (step p q)
      (ahead 0 w.first p c refl (and_parts _ _ in_c).0, ahead 1 w.second p c refl (and_parts _ _ in_c).1)
      (ahead 2 w.first p q refl (and_parts _ _ in_q).0, ahead 3 w.second p q refl (and_parts _ _ in_q).1)
      (subst (λ (v : Step Pair). AtLeast (here.sign (as_read here w.third v))) step_between (ahead 4 w.third c q refl after)))
    where
      at : (here.sign (here.ring.plus (square here (step p q)) (here.ring.negative (square here (between here (step p c) (step p q))))) ≡ Plus) ⊎ AreNone here (step p c).x (step p c).y
          → (s.sign (Dist c q p q) ≡ Plus) ⊎ AreCoincident s p c
      at (inl f) = inl (dist_here 9 c q p q refl ∙ ap (λ (v : Step Pair). here.sign (here.ring.plus (square here (step p q)) (here.ring.negative (square here v)))) step_between ∙ f)
      at (inr f) = inr (at_one_place p c to_c f)

pub first_is_nearer : FirstIsNearer
first_is_nearer s n w p c q real e in_c in_q after = first_nearer s real w p c q n e in_c in_q after
