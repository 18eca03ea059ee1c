-- The two points of the farthest pair: one is on the upper chain and the other on the lower one, and their breakpoints are in this order.
use Rattle.std.proofs.Common.{◌≡◌, ◌≢◌, ◌⊎◌, inl, inr, refl, sym, ap, ap₂, ◌∙◌, subst, arith, ◌<◌, ℕ, Bool, true, false, not, ◌&&◌}
use Rattle.std.specs.Prelude.{pos}
use Rattle.std.proofs.lemmas.Bool.{and_from}
use Rattle.kin_algebra.specs.declared.sign.Sign.{Sign}
use Rattle.kin_algebra.specs.declared.sign.Sign.TheVariants.{Minus, Zero, Plus}
use Rattle.kin_algebra.specs.Signs.{opposite_of}
use Rattle.kin_algebra.proofs.OrderedRings.{OrderedRing, nonnegative_sum}
use Rattle.kin_algebra.proofs.Pairs.{Pair}
use Rattle.kin_algebra.proofs.Signs.{AtLeast}
use Rattle.kin_algebra.proofs.Vectors.{cross}
use Rattle.kin_motion.specs.declared.form.Form.TheVariants.{Slope}
use Rattle.kin_motion.specs.Chains.{is_zero, is_bare}
use Rattle.kin_motion.specs.Farthest.{are_apart, IsPairApart, IsFarthestPair}
use Rattle.kin_motion.specs.Numbers.{IsIn}
use Rattle.kin_motion.specs.Scene.{Scene, IsReal, x_sign, y_sign, reflected}
use Rattle.kin_motion.proofs.ChainLaws.{zero_from}
use Rattle.kin_motion.proofs.DistanceLaws.{three_ways}
use Rattle.kin_motion.proofs.RealLaws.{real_line_laws}
use Rattle.kin_motion.proofs.ReflectedFactLaws.{along_y}
use Rattle.kin_motion.proofs.ReflectedLaws.{reflected-real}
use Rattle.kin_chain.proofs.Comparisons.{Below, Level, level_own, level_behind}
use Rattle.kin_chain.proofs.Planes.{Places, Shows, step, fall}
use Rattle.kin_chain.proofs.RealPlanes.{here, places, shown}
use Rattle.kin_chain.proofs.Stays.{stays_bare}
use Rattle.kin_far.proofs.Lengths.{difference_turned, square_some, length, length_turned, Together, equally_far, length_none}
use Rattle.kin_far.proofs.FarSteps.{together_turned, Far, far_turned, stays_up, leaves_later, enters_sooner, none_left, none_right, stays_left, stays_right}

-- h is on the upper chain and l on the lower one; what leaves h is flatter than what leaves l, and what comes to h is steeper than what comes to l, from left to right
pub record Supported (s : Scene) (h l : ℕ) : Type 0 where
  pub h_in : IsIn h s.live
  pub l_in : IsIn l s.live
  pub h_bare : is_bare s s.live h ≡ true
  pub l_bare : is_bare (reflected s) s.live l ≡ true
  pub leaves : (n k : ℕ) → IsIn n s.live → IsIn k s.live → x_sign s h n ≡ Plus → x_sign s l k ≡ Plus → s.sign (Slope h n l k) ≡ Minus
  pub comes : (n k : ℕ) → IsIn n s.live → IsIn k s.live → x_sign s n h ≡ Plus → x_sign s k l ≡ Plus → s.sign (Slope n h k l) ≡ Plus

at_least_back : (t : Sign) → t ≢ Plus → AtLeast (opposite_of t)
at_least_back Minus n = inl refl
at_least_back Zero n = inr refl
at_least_back Plus n = absurd (n refl)

zero_back : (t : Sign) → is_zero (opposite_of t) ≡ is_zero t
zero_back Minus = refl
zero_back Zero = refl
zero_back Plus = refl

module _ (s : Scene) (real : IsReal s) where
  abbrev o : OrderedRing Pair
  o = here s real

  abbrev ps : Places o
  ps = places s real

  abbrev sh : Shows o s ps
  sh = shown s real

  -- ---- places
  together_through : {i r j : ℕ} → Together o ps i r → Together o ps r j → Together o ps i j
  together_through {i} {r} {j} t v = (
    record { is = sym (level_behind o {v = ps.x} i v.0) ∙ t.0.is },
    record { is = sym (level_behind o {v = ps.y} i v.1) ∙ t.1.is },
  )

  together_or : (i j : ℕ) → (are_apart s i j ≡ true) ⊎ Together o ps i j
  together_or i j = at (is_zero (x_sign s i j)) refl (is_zero (y_sign s i j)) refl
    where
      at : (a : Bool) → is_zero (x_sign s i j) ≡ a → (b : Bool) → is_zero (y_sign s i j) ≡ b → (not (a && b) ≡ true) ⊎ Together o ps i j
      at true e true g = inr (record { is = sym (sh.x_signs i j) ∙ zero_from e }, record { is = sym (sh.y_signs i j) ∙ zero_from g })
      at true e false g = inl refl
      at false e b g = inl refl

  pub not_together : (i j : ℕ) → are_apart s i j ≡ true → Together o ps i j → ⊥
  not_together i j e t =
      let k = and_from (is_zero (x_sign s i j)) (is_zero (y_sign s i j)) (ap is_zero (sh.x_signs i j ∙ t.0.is)) (ap is_zero (sh.y_signs i j ∙ t.1.is)) in
      let clash : true ≡ false = sym e ∙ ap not k in
      cc

  pub apart_from : (i j : ℕ) → (Together o ps i j → ⊥) → are_apart s i j ≡ true
  apart_from i j n = at (together_or i j)
    where
      at : (are_apart s i j ≡ true) ⊎ Together o ps i j → are_apart s i j ≡ true
      at (inl e) = e
      at (inr t) = absurd (n t)

  -- ---- the farthest pair at places
  module _ (i j : ℕ) (f : IsFarthestPair s i j) where
    elsewhere : Together o ps i j → ⊥
    elsewhere = not_together i j f.pair.apart

    not_more : (k l : ℕ) → IsPairApart s k l → AtLeast (o.sign (o.ring.plus (length o ps i j) (o.ring.negative (length o ps k l))))
    not_more k l p = subst AtLeast (sym (difference_turned o (length o ps k l) (length o ps i j))) (at_least_back _ (λ e. f.farthest k l p (sh.distances i j k l ∙ e)))

    most : (k l : ℕ) → IsIn k s.live → IsIn l s.live → AtLeast (o.sign (o.ring.plus (length o ps i j) (o.ring.negative (length o ps k l))))
    most k l a b = at (together_or k l) (three_ways k l)
      where
        at : (are_apart s k l ≡ true) ⊎ Together o ps k l → (k < l) ⊎ ((k ≡ l) ⊎ (l < k)) → AtLeast (o.sign (o.ring.plus (length o ps i j) (o.ring.negative (length o ps k l))))
        at (inr t) w = nonnegative_sum o (square_some o (step o ps i j)) (inr (o.sign_negative (length o ps k l) ∙ ap opposite_of (length_none o ps k l t)))
        at (inl e) (inl less) = not_more k l (record { i_live = a; j_live = b; rising = less; apart = e })
        at (inl e) (inr (inl same)) = absurd (not_together k l e (subst (λ n. Together o ps k n) same (level_own o ps.x k, level_own o ps.y k)))
        at (inl e) (inr (inr less)) =
            subst (λ z. AtLeast (o.sign (o.ring.plus (length o ps i j) (o.ring.negative z)))) (sym (length_turned o ps l k))
            (not_more l k (record { i_live = b; j_live = a; rising = less; apart = apart_from l k (λ t. not_together k l e (together_turned o ps t)) }))

    least_first : (r : ℕ) → IsIn r s.live → Together o ps i r → r < i → ⊥
    least_first r a t less =
        let rising = f.pair.rising in
        f.least r j (record { i_live = a; j_live = f.pair.j_live; rising = omega (arith, less, rising); apart = apart_from r j (λ v. elsewhere (together_through t v)) }) (inl less)
        (sh.distances i j r j ∙ equally_far o ps i r j t)

    least_second : (r : ℕ) → IsIn r s.live → Together o ps j r → r < j → ⊥
    least_second r a t less = at (three_ways r i)
      where
        not_first : Together o ps r i → ⊥
        not_first v = elsewhere (together_turned o ps (together_through t v))

        at : (r < i) ⊎ ((r ≡ i) ⊎ (i < r)) → ⊥
        at (inl low) =
            f.least r i (record { i_live = a; j_live = f.pair.i_live; rising = low; apart = apart_from r i not_first }) (inl low)
            (sh.distances i j r i ∙ ap (λ z. o.sign (o.ring.plus (length o ps r i) (o.ring.negative z))) (length_turned o ps j i) ∙ equally_far o ps j r i t)
        at (inr (inl same)) = elsewhere (together_turned o ps (subst (λ n. Together o ps j n) same t))
        at (inr (inr high)) =
            f.least i r (record { i_live = f.pair.i_live; j_live = a; rising = high; apart = apart_from i r (λ v. not_first (together_turned o ps v)) }) (inr (refl, less))
            (sh.distances i j i r ∙ ap₂ (λ y z. o.sign (o.ring.plus y (o.ring.negative z))) (length_turned o ps r i) (length_turned o ps j i) ∙ equally_far o ps j r i t)

    pub far_at : Far o ps s.live i j
    far_at = record { p_in = f.pair.i_live; q_in = f.pair.j_live; apart = elsewhere; most = most; p_least = least_first; q_least = least_second }

-- ---- after y is turned round
module _ (s : Scene) (real : IsReal s) where
  pub y_back : (i j : ℕ) → y_sign (reflected s) i j ≡ opposite_of (y_sign s i j)
  y_back i j = along_y s real (pos 1) i j

  same_apart : (i j : ℕ) → are_apart (reflected s) i j ≡ are_apart s i j
  same_apart i j = ap (λ b. not (is_zero (x_sign s i j) && b)) (ap is_zero (y_back i j) ∙ zero_back (y_sign s i j))

  pair_back : (i j : ℕ) → IsPairApart (reflected s) i j → IsPairApart s i j
  pair_back i j a = record { i_live = a.i_live; j_live = a.j_live; rising = a.rising; apart = sym (same_apart i j) ∙ a.apart }

  farthest_back : (i j : ℕ) → IsFarthestPair s i j → IsFarthestPair (reflected s) i j
  farthest_back i j f = record {
    pair = record { i_live = f.pair.i_live; j_live = f.pair.j_live; rising = f.pair.rising; apart = same_apart i j ∙ f.pair.apart };
    farthest = λ k l a. f.farthest k l (pair_back k l a);
    least = λ k l a h. f.least k l (pair_back k l a) h;
  }

  abbrev real' : IsReal (reflected s)
  real' = reflected-real s real

  -- both points are farthest in the scene and after y is turned round
  record BothWays (p q : ℕ) : Type 0 where
    here_far : Far (here s real) (places s real) s.live p q
    back_far : Far (here (reflected s) real') (places (reflected s) real') s.live p q

  turned_both : {p q : ℕ} → BothWays p q → BothWays q p
  turned_both {p} {q} b = record { here_far = far_turned (here s real) (places s real) b.here_far; back_far = far_turned (here (reflected s) real') (places (reflected s) real') b.back_far }

  y_other : (i j : ℕ) → y_sign s j i ≡ opposite_of (y_sign s i j)
  y_other i j = (real_line_laws s real).opposite (pos 0) (pos 1) i j

  x_other : (i j : ℕ) → x_sign s j i ≡ opposite_of (x_sign s i j)
  x_other i j = (real_line_laws s real).opposite (pos 1) (pos 0) i j

  slope_sign : (i j k l : ℕ) {t : Sign} → (here s real).sign (cross (here s real) (step (here s real) (places s real) k l) (step (here s real) (places s real) i j)) ≡ t → s.sign (Slope i j k l) ≡ t
  slope_sign i j k l {t} e = (shown s real).slopes i j k l ∙ ap (here s real).sign (fall (here s real) (places s real) (step (here s real) (places s real) i j) k l) ∙ e

  from_left : {i j : ℕ} → x_sign s i j ≡ Plus → Below (here s real) (places s real).x i j
  from_left {i} {j} e = record { is = sym ((shown s real).x_signs i j) ∙ e }

  -- one is higher
  when_higher : (p q : ℕ) → BothWays p q → y_sign s p q ≡ Plus → Supported s q p
  when_higher p q b e = record {
    h_in = b.here_far.q_in;
    l_in = b.here_far.p_in;
    h_bare = stays_bare (here s real) (places s real) s (shown s real) s.live q (stays_up (here s real) (places s real) b.here_far up);
    l_bare = stays_bare (here (reflected s) real') (places (reflected s) real') (reflected s) (shown (reflected s) real') s.live p (stays_up (here (reflected s) real') (places (reflected s) real') (turned_both b).back_far down);
    leaves = λ n k i j right right'. slope_sign q n p k (leaves_later (here s real) (places s real) b.here_far up n k i j (from_left right) (from_left right'));
    comes = λ n k i j left left'. slope_sign n q k p (enters_sooner (here s real) (places s real) b.here_far up n k i j (from_left left) (from_left left'));
  }
    where
      up : Below (here s real) (places s real).y p q
      up = record { is = sym ((shown s real).y_signs p q) ∙ e }

      down : Below (here (reflected s) real') (places (reflected s) real').y q p
      down = record { is = sym ((shown (reflected s) real').y_signs q p) ∙ y_back q p ∙ ap opposite_of (y_other p q ∙ ap opposite_of e) }

  -- both are equally high
  when_level : (p q : ℕ) → BothWays p q → y_sign s p q ≡ Zero → x_sign s p q ≡ Plus → Supported s p q
  when_level p q b e g = record {
    h_in = b.here_far.p_in;
    l_in = b.here_far.q_in;
    h_bare = stays_bare (here s real) (places s real) s (shown s real) s.live p (stays_left (here s real) (places s real) b.here_far level (from_left g));
    l_bare = stays_bare (here (reflected s) real') (places (reflected s) real') (reflected s) (shown (reflected s) real') s.live q (stays_right (here (reflected s) real') (places (reflected s) real') b.back_far level' right');
    leaves = λ n k i j right right'. absurd (none_right (here s real) (places s real) b.here_far level (from_left g) k j (from_left right'));
    comes = λ n k i j left left'. absurd (none_left (here s real) (places s real) b.here_far level (from_left g) n i (from_left left));
  }
    where
      level : Level (here s real) (places s real).y p q
      level = record { is = sym ((shown s real).y_signs p q) ∙ e }

      level' : Level (here (reflected s) real') (places (reflected s) real').y p q
      level' = record { is = sym ((shown (reflected s) real').y_signs p q) ∙ y_back p q ∙ ap opposite_of e }

      right' : Below (here (reflected s) real') (places (reflected s) real').x p q
      right' = record { is = sym ((shown (reflected s) real').x_signs p q) ∙ g }

  -- the points of the farthest pair, in one order or the other
  pub supported : (i j : ℕ) → IsFarthestPair s i j → Supported s i j ⊎ Supported s j i
  supported i j f = at (y_sign s i j) refl (x_sign s i j) refl
    where
      both : BothWays i j
      both = record { here_far = far_at s real i j f; back_far = far_at (reflected s) real' i j (farthest_back i j f) }

      at : (t : Sign) → y_sign s i j ≡ t → (w : Sign) → x_sign s i j ≡ w → Supported s i j ⊎ Supported s j i
      at Plus e w g = inr (when_higher i j both e)
      at Minus e w g = inl (when_higher j i (turned_both both) (y_other i j ∙ ap opposite_of e))
      at Zero e Plus g = inl (when_level i j both e g)
      at Zero e Minus g = inr (when_level j i (turned_both both) (y_other i j ∙ ap opposite_of e) (x_other i j ∙ ap opposite_of g))
      at Zero e Zero g = absurd (both.here_far.apart (record { is = sym ((shown s real).x_signs i j) ∙ g }, record { is = sym ((shown s real).y_signs i j) ∙ e }))
