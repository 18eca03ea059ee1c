-- Two points that are farthest apart: all others lie between the two lines through them that are perpendicular to their step.
use Rattle.std.proofs.Common.{◌≡◌, ◌⊎◌, inl, inr, sym, ap, ◌∙◌, subst, ◌<◌, List, ℕ}
use Rattle.kin_algebra.specs.declared.sign.Sign.TheVariants.{Minus, Plus}
use Rattle.kin_algebra.specs.Signs.{opposite_of}
use Rattle.kin_algebra.proofs.Signs.{AtLeast, code, not_minus}
use Rattle.kin_algebra.proofs.OrderedRings.{OrderedRing, sign_twice, positive_sum}
use Rattle.kin_algebra.proofs.Vectors.{Vector, cross}
use Rattle.kin_motion.specs.Numbers.{IsIn}
use Rattle.kin_chain.proofs.Comparisons.{Below, Level, turned, level_turned, below_most, level_most, not_both}
use Rattle.kin_chain.proofs.Planes.{Places, step, bend}
use Rattle.kin_chain.proofs.Stays.{Stays}
use Rattle.kin_far.proofs.Lengths.{dot, bends, dot_up, dot_level, square_some, length, length_turned, forward, dot_turned, turned_dot, Together, no_length}

module _ {R : Type 0} (o : OrderedRing R) (ps : Places o) where
  pub together_turned : {i j : ℕ} → Together o ps i j → Together o ps j i
  together_turned {i} {j} t = (level_turned o t.0, level_turned o t.1)

  -- p and q are at different places, no two points of the set are farther apart, and each has the least number at its place
  pub record Far (set : List ℕ) (p q : ℕ) : Type 0 where
    pub p_in : IsIn p set
    pub q_in : IsIn q set
    pub apart : Together o ps p q → ⊥
    pub most : (k l : ℕ) → IsIn k set → IsIn l set → AtLeast (o.sign (o.ring.plus (length o ps p q) (o.ring.negative (length o ps k l))))
    pub p_least : (r : ℕ) → IsIn r set → Together o ps p r → r < p → ⊥
    pub q_least : (r : ℕ) → IsIn r set → Together o ps q r → r < q → ⊥

  pub far_turned : {set : List ℕ} {p q : ℕ} → Far set p q → Far set q p
  far_turned {set} {p} {q} f = record {
    p_in = f.q_in;
    q_in = f.p_in;
    apart = λ t. f.apart (together_turned t);
    most = λ k l a b. subst (λ (d : R). AtLeast (o.sign (o.ring.plus d (o.ring.negative (length o ps k l))))) (sym (length_turned o ps p q)) (f.most k l a b);
    p_least = f.q_least;
    q_least = f.p_least;
  }

  module _ {set : List ℕ} {p q : ℕ} (f : Far set p q) where
    abbrev u : Vector R
    u = step o ps p q

    -- every point elsewhere lies forward of p
    pub ahead : (r : ℕ) → IsIn r set → (o.sign (dot o u (step o ps p r)) ≡ Plus) ⊎ Together o ps p r
    ahead r i = at (square_some o (step o ps p r))
      where
        at : AtLeast (o.sign (length o ps p r)) → (o.sign (dot o u (step o ps p r)) ≡ Plus) ⊎ Together o ps p r
        at (inl e) = inl (sym (sign_twice o (dot o u (step o ps p r))) ∙ ap o.sign (forward o ps p q r) ∙ positive_sum o e (f.most q r f.q_in i))
        at (inr e) = inr (no_length o ps p r e)

  module _ {set : List ℕ} {p q : ℕ} (f : Far set p q) where
    abbrev v : Vector R
    v = step o ps p q

    -- and back of q
    pub before : (r : ℕ) → IsIn r set → (o.sign (dot o v (step o ps q r)) ≡ Minus) ⊎ Together o ps q r
    before r i = at (ahead (far_turned f) r i)
      where
        at : (o.sign (dot o (step o ps q p) (step o ps q r)) ≡ Plus) ⊎ Together o ps q r → (o.sign (dot o v (step o ps q r)) ≡ Minus) ⊎ Together o ps q r
        at (inl e) = inl (ap o.sign (turned_dot o ps p q (step o ps q r)) ∙ o.sign_negative (dot o (step o ps q p) (step o ps q r)) ∙ ap opposite_of e)
        at (inr t) = inr t

    -- ---- with x between them
    ahead_right : (r : ℕ) → IsIn r set → Below o ps.x p r → o.sign (dot o v (step o ps p r)) ≡ Plus
    ahead_right r i b = at (ahead f r i)
      where
        at : (o.sign (dot o v (step o ps p r)) ≡ Plus) ⊎ Together o ps p r → o.sign (dot o v (step o ps p r)) ≡ Plus
        at (inl e) = e
        at (inr t) = absurd (code (sym b.is ∙ t.0.is))

    before_right : (r : ℕ) → IsIn r set → Below o ps.x q r → o.sign (dot o v (step o ps q r)) ≡ Minus
    before_right r i b = at (before r i)
      where
        at : (o.sign (dot o v (step o ps q r)) ≡ Minus) ⊎ Together o ps q r → o.sign (dot o v (step o ps q r)) ≡ Minus
        at (inl e) = e
        at (inr t) = absurd (code (sym b.is ∙ t.0.is))

    -- the step from a point to the left of q, and that to p
    to_q : (r : ℕ) → IsIn r set → Below o ps.x r q → o.sign (dot o v (step o ps r q)) ≡ Plus
    to_q r i b = at (before r i)
      where
        at : (o.sign (dot o v (step o ps q r)) ≡ Minus) ⊎ Together o ps q r → o.sign (dot o v (step o ps r q)) ≡ Plus
        at (inl e) = ap o.sign (dot_turned o ps v q r) ∙ o.sign_negative (dot o v (step o ps q r)) ∙ ap opposite_of e
        at (inr t) = absurd (code (sym b.is ∙ (level_turned o t.0).is))

    to_p : (r : ℕ) → IsIn r set → Below o ps.x r p → o.sign (dot o v (step o ps r p)) ≡ Minus
    to_p r i b = at (ahead f r i)
      where
        at : (o.sign (dot o v (step o ps p r)) ≡ Plus) ⊎ Together o ps p r → o.sign (dot o v (step o ps r p)) ≡ Minus
        at (inl e) = ap o.sign (dot_turned o ps v p r) ∙ o.sign_negative (dot o v (step o ps p r)) ∙ ap opposite_of e
        at (inr t) = absurd (code (sym b.is ∙ (level_turned o t.0).is))

    -- ---- where q is higher than p
    module _ (up : Below o ps.y p q) where
      -- nothing keeps q off the upper chain
      pub stays_up : Stays o ps set q
      stays_up = record {
        no_double = λ r i x y less. f.q_least r i (x, y) less;
        no_above = λ r i x y. over r x y (before r i);
        no_segment = λ a b i j left right low.
            not_minus _ (subst (λ (z : R). AtLeast (o.sign z)) (bend o ps a q b) low.is)
            (bends o v (step o ps a q) (step o ps q b) Minus up.is left.is right.is (before_right b j right) (to_q a i left));
      }
        where
          over : (r : ℕ) → Level o ps.x q r → Below o ps.y q r → (o.sign (dot o v (step o ps q r)) ≡ Minus) ⊎ Together o ps q r → ⊥
          over r x y (inl e) = code (sym (dot_up o v (step o ps q r) up.is x.is y.is) ∙ e)
          over r x y (inr t) = code (sym y.is ∙ t.1.is)

      -- what leaves q is flatter than what enters p, seen from the right
      pub leaves_later : (n l : ℕ) → IsIn n set → IsIn l set → Below o ps.x q n → Below o ps.x p l → o.sign (cross o (step o ps p l) (step o ps q n)) ≡ Minus
      leaves_later n l i j right right' = bends o v (step o ps p l) (step o ps q n) Minus up.is right'.is right.is (before_right n i right) (ahead_right l j right')

      -- and what enters q is steeper than what leaves p
      pub enters_sooner : (a b : ℕ) → IsIn a set → IsIn b set → Below o ps.x a q → Below o ps.x b p → o.sign (cross o (step o ps b p) (step o ps a q)) ≡ Plus
      enters_sooner a b i j left left' = bends o v (step o ps b p) (step o ps a q) Plus up.is left'.is left.is (to_q a i left) (to_p b j left')

    -- ---- where q is as high as p, and farther right
    module _ (level : Level o ps.y p q) (right : Below o ps.x p q) where
      -- every point elsewhere is to the right of p
      pub right_of : (r : ℕ) → IsIn r set → Below o ps.x p r ⊎ Together o ps p r
      right_of r i = at (ahead f r i)
        where
          at : (o.sign (dot o v (step o ps p r)) ≡ Plus) ⊎ Together o ps p r → Below o ps.x p r ⊎ Together o ps p r
          at (inl e) = inl (record { is = sym (dot_level o v (step o ps p r) level.is right.is) ∙ e })
          at (inr t) = inr t

      -- and to the left of q
      pub left_of : (r : ℕ) → IsIn r set → Below o ps.x r q ⊎ Together o ps q r
      left_of r i = at (before r i)
        where
          at : (o.sign (dot o v (step o ps q r)) ≡ Minus) ⊎ Together o ps q r → Below o ps.x r q ⊎ Together o ps q r
          at (inl e) = inl (record { is = turned o ps.x q r ∙ ap opposite_of (sym (dot_level o v (step o ps q r) level.is right.is) ∙ e) })
          at (inr t) = inr t

      pub none_left : (r : ℕ) → IsIn r set → Below o ps.x r p → ⊥
      none_left r i b = at (right_of r i)
        where
          at : Below o ps.x p r ⊎ Together o ps p r → ⊥
          at (inl c) = not_both o b (below_most o c)
          at (inr t) = not_both o b (level_most o t.0)

      pub none_right : (r : ℕ) → IsIn r set → Below o ps.x q r → ⊥
      none_right r i b = at (left_of r i)
        where
          at : Below o ps.x r q ⊎ Together o ps q r → ⊥
          at (inl c) = not_both o b (below_most o c)
          at (inr t) = not_both o b (level_most o (level_turned o t.0))

      -- nothing keeps p off the upper chain
      pub stays_left : Stays o ps set p
      stays_left = record {
        no_double = λ r i x y less. f.p_least r i (x, y) less;
        no_above = λ r i x y. over r x y (right_of r i);
        no_segment = λ a b i j left right' low. none_left a i left;
      }
        where
          over : (r : ℕ) → Level o ps.x p r → Below o ps.y p r → Below o ps.x p r ⊎ Together o ps p r → ⊥
          over r x y (inl b) = code (sym b.is ∙ x.is)
          over r x y (inr t) = code (sym y.is ∙ t.1.is)

      -- nor q
      pub stays_right : Stays o ps set q
      stays_right = record {
        no_double = λ r i x y less. f.q_least r i (x, y) less;
        no_above = λ r i x y. over r x y (left_of r i);
        no_segment = λ a b i j left right' low. none_right b j right';
      }
        where
          over : (r : ℕ) → Level o ps.x q r → Below o ps.y q r → Below o ps.x r q ⊎ Together o ps q r → ⊥
          over r x y (inl b) = code (sym b.is ∙ (level_turned o x).is)
          over r x y (inr t) = code (sym y.is ∙ t.1.is)
