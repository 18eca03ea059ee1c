-- Turns of three points of which some lie in an upper and some in a lower chain.
use Rattle.std.proofs.Common.{◌≡◌, ◌≢◌, ◌⊎◌, inl, inr, refl, sym, ap, ap₂, ◌∙◌, arith, List, ℕ, ◌<◌, true, false, not, ◌&&◌, pos}
use Rattle.std.specs.List.{list_any}
use Rattle.std.proofs.lemmas.Bool.{and_parts, not-true}
use Rattle.kin_algebra.specs.declared.sign.Sign.{Sign}
use Rattle.kin_algebra.specs.declared.sign.Sign.TheVariants.{Minus, Zero, Plus}
use Rattle.kin_algebra.specs.Signs.{opposite_of, product_of}
use Rattle.kin_algebra.proofs.OrderedRings.{OrderedRing}
use Rattle.kin_algebra.proofs.Pairs.{Pair}
use Rattle.kin_algebra.proofs.Signs.{opposite-opposite, product-Zero}
use Rattle.kin_algebra.proofs.Tests.{three_parts}
use Rattle.kin_algebra.proofs.Vectors.{cross}
use Rattle.kin_motion.specs.declared.form.Form.TheVariants.{Turn}
use Rattle.kin_motion.specs.Chains.{is_plus, is_zero, is_double, is_above, is_under_segment, is_bare, IsUpperChain, IsLowerChain}
use Rattle.kin_motion.specs.Numbers.{is_in, IsIn}
use Rattle.kin_motion.specs.Scene.{Scene, IsReal, x_sign, y_sign, reflected}
use Rattle.kin_motion.proofs.AgreementLaws.{none_passes}
use Rattle.kin_motion.proofs.ChainLaws.{chain_within}
use Rattle.kin_motion.proofs.ClaimLaws.{chain_is_strict, chain_has_least}
use Rattle.kin_motion.proofs.RealLaws.{real_line_laws, real_turn_laws}
use Rattle.kin_motion.proofs.ReflectedFactLaws.{along_y}
use Rattle.kin_chain.proofs.Comparisons.{way, Below, Level, level_before}
use Rattle.kin_chain.proofs.Geometry.{along, level_ends, straight}
use Rattle.kin_chain.proofs.Planes.{Places, step, rise, fall}
use Rattle.kin_chain.proofs.RealPlanes.{here, places, shown}

-- nothing of the set is straight above a point of its upper chain
none_above : (s : Scene) (set xs : List ℕ) (p q : ℕ) → IsUpperChain s set xs → IsIn p xs → IsIn q set → x_sign s p q ≡ Zero → y_sign s p q ≡ Plus → ⊥
none_above s set xs p q u there qs e f =
    let bare = three_parts (not (list_any (is_double s p) set)) (not (list_any (is_above s p) set)) (not (list_any (λ q. list_any (is_under_segment s p q) set) set)) (and_parts (is_in p set) (is_bare s set p) (sym (u.members p) ∙ there)).1 in
    let none = none_passes (is_above s p) set q (not-true (list_any (is_above s p) set) bare.1) qs in
    let clash : true ≡ false = sym (ap₂ (λ a b. is_zero a && is_plus b) e f) ∙ none in
    cc

-- what is known of p in an upper chain, where the sign is +, or in a lower one, where it is -
pub record IsOn (s : Scene) (set : List ℕ) (t : Sign) (p : ℕ) : Type 0 where
  pub inside : IsIn p set
  pub strict : (a b : ℕ) → IsIn a set → IsIn b set → x_sign s a p ≡ Plus → x_sign s p b ≡ Plus → s.sign (Turn a b p) ≡ t
  pub utmost : (q : ℕ) → IsIn q set → x_sign s p q ≡ Zero → y_sign s p q ≡ t → ⊥
  pub least : (q : ℕ) → IsIn q set → x_sign s p q ≡ Zero → y_sign s p q ≡ Zero → ¬ (q < p)

pub on_upper : (s : Scene) (set xs : List ℕ) (p : ℕ) → IsUpperChain s set xs → IsIn p xs → IsOn s set Plus p
on_upper s set xs p u h = record {
  inside = chain_within s set xs u p h;
  strict = λ a b. chain_is_strict s set xs p a b u h;
  utmost = λ q. none_above s set xs p q u h;
  least = λ q. chain_has_least s set xs p q u h;
}

pub turned_plus : (t : Sign) → opposite_of t ≡ Plus → t ≡ Minus
turned_plus t e = sym (opposite-opposite t) ∙ ap opposite_of e

module _ (s : Scene) (real : IsReal s) where
  pub on_lower : (set xs : List ℕ) (p : ℕ) → IsLowerChain s set xs → IsIn p xs → IsOn s set Minus p
  on_lower set xs p u h = record {
    inside = chain_within (reflected s) set xs u p h;
    strict = λ a b i j l r. turned_plus (s.sign (Turn a b p)) (chain_is_strict (reflected s) set xs p a b u h i j l r);
    utmost = λ q i e f. none_above (reflected s) set xs p q u h i e (along_y s real (pos 1) p q ∙ ap opposite_of f);
    least = λ q i e f. chain_has_least (reflected s) set xs p q u h i e (along_y s real (pos 1) p q ∙ ap opposite_of f);
  }

  -- ---- turns
  abbrev ring : OrderedRing Pair
  ring = here s real

  abbrev at_places : Places (here s real)
  at_places = places s real

  -- a turn with its numbers taken one further
  pub rotated : (i j k : ℕ) → s.sign (Turn j k i) ≡ s.sign (Turn i j k)
  rotated i j k =
      (shown s real).turns j k i ∙ ap ring.sign (fall ring at_places (step ring at_places j k) i j ∙ sym (rise ring at_places (step ring at_places i j) j k))
      ∙ sym (level_before ring k (level_ends ring at_places i j)) ∙ sym ((shown s real).turns i j k)

  -- the other way round it is the opposite
  pub reversed : (i j k : ℕ) → s.sign (Turn k j i) ≡ opposite_of (s.sign (Turn i j k))
  reversed i j k = sym (rotated k j i) ∙ sym (rotated j i k) ∙ (real_turn_laws s real).exchanged i j k

  right_of : {p q : ℕ} → x_sign s p q ≡ Plus → Below ring at_places.x p q
  right_of {p} {q} e = record { is = sym ((shown s real).x_signs p q) ∙ e }

  level_with : {p q : ℕ} → x_sign s p q ≡ Zero → Level ring at_places.x p q
  level_with {p} {q} e = record { is = sym ((shown s real).x_signs p q) ∙ e }

  -- to a point with the x of an end: the turn is as the point is above that end
  pub turn_at_start : (p q u : ℕ) → x_sign s p q ≡ Plus → x_sign s p u ≡ Zero → s.sign (Turn p q u) ≡ y_sign s p u
  turn_at_start p q u e f = (shown s real).turns p q u ∙ straight ring at_places (along ring at_places p q (right_of e)) (level_with f) ∙ sym ((shown s real).y_signs p u)

  pub turn_at_end : (p q u : ℕ) → x_sign s p q ≡ Plus → x_sign s q u ≡ Zero → s.sign (Turn p q u) ≡ y_sign s q u
  turn_at_end p q u e f =
      (shown s real).turns p q u ∙ level_before ring u (level_ends ring at_places p q)
      ∙ straight ring at_places (along ring at_places p q (right_of e)) (level_with f) ∙ sym ((shown s real).y_signs q u)

  -- three points on one vertical line don't turn
  pub flat : (p q r : ℕ) → x_sign s p q ≡ Zero → x_sign s p r ≡ Zero → s.sign (Turn p q r) ≡ Zero
  unfolding cross
  flat p q r e f =
      (shown s real).turns p q r ∙ ap ring.sign (rise ring at_places (step ring at_places p q) p r)
      ∙ ring.sign_plus Zero (ring.ring.times (way ring at_places.x p q) (way ring at_places.y p r)) (ring.ring.negative (ring.ring.times (way ring at_places.y p q) (way ring at_places.x p r))) first (inr second)
    where
      first : ring.sign (ring.ring.times (way ring at_places.x p q) (way ring at_places.y p r)) ≡ Zero
      first = ring.sign_times (way ring at_places.x p q) (way ring at_places.y p r) ∙ ap (λ t. product_of t (ring.sign (way ring at_places.y p r))) (level_with e).is

      second : ring.sign (ring.ring.negative (ring.ring.times (way ring at_places.y p q) (way ring at_places.x p r))) ≡ Zero
      second =
          ring.sign_negative (ring.ring.times (way ring at_places.y p q) (way ring at_places.x p r))
          ∙ ap opposite_of (ring.sign_times (way ring at_places.y p q) (way ring at_places.x p r) ∙ ap (product_of (ring.sign (way ring at_places.y p q))) (level_with f).is ∙ product-Zero (ring.sign (way ring at_places.y p q)))

  pub other_way : (i j : ℕ) → x_sign s j i ≡ opposite_of (x_sign s i j)
  other_way i j = (real_line_laws s real).opposite (pos 1) (pos 0) i j

  module _ (set : List ℕ) where
    -- of two points with one x, of an upper and a lower chain, that of the upper one is above, or they are one point
    pub beyond : (t : Sign) (p u : ℕ) → t ≢ Zero → IsOn s set (opposite_of t) p → IsOn s set t u → x_sign s p u ≡ Zero → (p ≡ u) ⊎ (y_sign s p u ≡ t)
    beyond t p u some a b e = at (y_sign s p u) refl t refl
      where
        y_back : y_sign s u p ≡ opposite_of (y_sign s p u)
        y_back = (real_line_laws s real).opposite (pos 0) (pos 1) p u

        x_back : x_sign s u p ≡ Zero
        x_back = other_way p u ∙ ap opposite_of e

        same : y_sign s p u ≡ Zero → p ≡ u
        same f =
            let m = a.least u b.inside e f in
            let n = b.least p a.inside x_back (y_back ∙ ap opposite_of f) in
            omega (arith, m, n)

        never : y_sign s p u ≡ opposite_of t → (p ≡ u) ⊎ (y_sign s p u ≡ t)
        never f = absurd (a.utmost u b.inside e f)

        at : (w : Sign) → y_sign s p u ≡ w → (v : Sign) → t ≡ v → (p ≡ u) ⊎ (y_sign s p u ≡ t)
        at Zero f v g = inl (same f)
        at Plus f Plus g = inr (f ∙ sym g)
        at Plus f Minus g = never (f ∙ ap opposite_of (sym g))
        at Plus f Zero g = absurd (some g)
        at Minus f Minus g = inr (f ∙ sym g)
        at Minus f Plus g = never (f ∙ ap opposite_of (sym g))
        at Minus f Zero g = absurd (some g)

    -- three points of one chain: the turn is as the middle one is under or over the segment of the others
    pub three_of_one : (t : Sign) (p q r : ℕ) → IsOn s set t p → IsOn s set t q → IsOn s set t r → x_sign s p q ≡ Plus → x_sign s q r ≡ Plus → s.sign (Turn p q r) ≡ opposite_of t
    three_of_one t p q r a b c e f = (real_turn_laws s real).exchanged p r q ∙ ap opposite_of (b.strict p r a.inside c.inside e f)

    -- from two points of one chain to another one of the other chain: the turn is to the side of that chain
    pub two_and_one : (t : Sign) (p q u : ℕ) → t ≢ Zero → IsOn s set (opposite_of t) p → IsOn s set (opposite_of t) q → IsOn s set t u → p ≢ u → q ≢ u → x_sign s p q ≡ Plus → s.sign (Turn p q u) ≡ t
    two_and_one t p q u some a b c not_p not_q e = by_start (x_sign s p u) refl
      where
        twice : {v : Sign} → v ≡ opposite_of t → opposite_of v ≡ t
        twice {v} f = ap opposite_of f ∙ opposite-opposite t

        start : x_sign s p u ≡ Zero → (p ≡ u) ⊎ (y_sign s p u ≡ t) → s.sign (Turn p q u) ≡ t
        start f (inl g) = absurd (not_p g)
        start f (inr g) = turn_at_start p q u e f ∙ g

        end : x_sign s q u ≡ Zero → (q ≡ u) ⊎ (y_sign s q u ≡ t) → s.sign (Turn p q u) ≡ t
        end f (inl g) = absurd (not_q g)
        end f (inr g) = turn_at_end p q u e f ∙ g

        by_end : x_sign s p u ≡ Plus → (w : Sign) → x_sign s q u ≡ w → s.sign (Turn p q u) ≡ t
        by_end f Minus g = c.strict p q a.inside b.inside f (other_way q u ∙ ap opposite_of g)
        by_end f Zero g = end g (beyond t q u some b c g)
        by_end f Plus g = (real_turn_laws s real).exchanged p u q ∙ twice (b.strict p u a.inside c.inside e g)

        by_start : (w : Sign) → x_sign s p u ≡ w → s.sign (Turn p q u) ≡ t
        by_start Minus f = reversed u q p ∙ twice (a.strict u q c.inside b.inside (other_way p u ∙ ap opposite_of f) e)
        by_start Zero f = start f (beyond t p u some a c f)
        by_start Plus f = by_end f (x_sign s q u) refl
