-- No live point is to the right of an edge of a hull: where one is, so is a corner.
use Rattle.std.proofs.Common.{◌≡◌, ◌≢◌, ◌⊎◌, inl, inr, refl, sym, ap, ◌∙◌, subst, arith, List, [], ◌∷◌, length, ℕ, ◌+◌, ◌-◌, ◌%◌, ◌<◌, pos, Some}
use Rattle.std.specs.Prelude.{slice_get}
use Rattle.std.proofs.lemmas.Option.{same_Some, slice_get_within}
use Rattle.kin_algebra.specs.declared.sign.Sign.{Sign}
use Rattle.kin_algebra.specs.declared.sign.Sign.TheVariants.{Minus, Zero, Plus}
use Rattle.kin_algebra.specs.Signs.{opposite_of, first_of, SumMayBe}
use Rattle.kin_algebra.proofs.Members.{contains_from_get, get_from_contains}
use Rattle.kin_algebra.proofs.Pairs.{Pair}
use Rattle.kin_algebra.proofs.Signs.{code, opposite-opposite, zero_from_opposite}
use Rattle.kin_motion.specs.declared.form.Form.TheVariants.{Turn, Slope}
use Rattle.kin_motion.specs.Chains.{is_plus, round, IsUpperChain, IsHullCycle}
use Rattle.kin_motion.specs.Merges.{last_of}
use Rattle.kin_motion.specs.Numbers.{IsIn}
use Rattle.kin_motion.specs.Scene.{Scene, IsReal, x_sign, y_sign, reflected}
use Rattle.kin_motion.proofs.MergeFormLaws.{last_in}
use Rattle.kin_motion.proofs.Members.{in_head, in_from_contains, contains_from_in}
use Rattle.kin_motion.proofs.RealLaws.{real_line_laws, real_turn_laws}
use Rattle.kin_motion.proofs.ReflectedLaws.{reflected-real}
use Rattle.kin_chain.proofs.ChainLaws.{best_point_proved, end_points}
use Rattle.kin_chain.proofs.Comparisons.{AtMost, Below, turned as turned_way, below_then, most_or_below}
use Rattle.kin_chain.proofs.Planes.{step, height}
use Rattle.kin_chain.proofs.RealPlanes.{here, places, shown}
use Rattle.kin_hull.specs.Corners.{corner_at, EdgesHaveAllLeft}
use Rattle.kin_hull.proofs.Bends.{flat, on_upper, on_lower, beyond, rotated, reversed, turned_plus, turn_at_start, turn_at_end, other_way}
use Rattle.kin_hull.proofs.Corners.{Further, IsHigh, further, corner_cases, corners_turn_left, same_of_chain, in_lower, in_upper}

-- ---- sums
-- a term that is + and one that isn't -
plus_then : (t u r : Sign) → t ≡ Plus → u ≢ Minus → SumMayBe t u r → r ≡ Plus
plus_then Minus u r e n sum = absurd (code e)
plus_then Zero u r e n sum = absurd (code e)
plus_then Plus Minus r e n sum = absurd (n refl)
plus_then Plus Zero r e n sum = sum
plus_then Plus Plus r e n sum = sum

then_plus : (t u r : Sign) → t ≢ Minus → u ≡ Plus → SumMayBe t u r → r ≡ Plus
then_plus Minus u r n e sum = absurd (n refl)
then_plus Zero u r n e sum = sum ∙ e
then_plus Plus Minus r n e sum = absurd (code e)
then_plus Plus Zero r n e sum = sum
then_plus Plus Plus r n e sum = sum

-- ---- where a point of the set is to one side, so is one of its chain
module _ (s : Scene) (real : IsReal s) where
  -- how high along the step from i to j
  abbrev high_along : ℕ → ℕ → ℕ → Pair
  high_along i j = height (here s real) (places s real) (step (here s real) (places s real) i j)

  -- above a step to the right
  above_step : (set chain : List ℕ) (i j q : ℕ) → IsUpperChain s set chain → x_sign s i j ≡ Plus → IsIn q set → s.sign (Turn i j q) ≡ Plus → (c : ℕ) × IsIn c chain × (s.sign (Turn i j c) ≡ Plus)
  above_step set chain i j q u right there over =
      let b = best_point_proved s set chain i j q real u (ap is_plus right) there in
      (b.0, b.1, (shown s real).turns i j b.0 ∙ (below_then (here s real) above (most b.0 b.2)).is)
    where
      above : Below (here s real) (high_along i j) i q
      above = record { is = sym ((shown s real).turns i j q) ∙ over }

      most : (c : ℕ) → s.sign (Slope i j c q) ≢ Minus → AtMost (here s real) (high_along i j) q c
      most c n = at (most_or_below (here s real) (high_along i j) q c)
        where
          at : AtMost (here s real) (high_along i j) q c ⊎ Below (here s real) (high_along i j) c q → AtMost (here s real) (high_along i j) q c
          at (inl m) = m
          at (inr r) = absurd (n ((shown s real).slopes i j c q ∙ turned_way (here s real) (high_along i j) c q ∙ ap opposite_of r.is))

  sum_of : (i j k : ℕ) → SumMayBe (x_sign s i j) (x_sign s j k) (x_sign s i k)
  sum_of i j k = (real_line_laws s real).chain (pos 1) (pos 0) i j k

  -- to the right of p
  right_of_it : (set chain : List ℕ) (p r w : ℕ) → IsUpperChain s set chain → IsIn w chain → IsIn r set → x_sign s p r ≡ Plus → (c : ℕ) × IsIn c chain × (x_sign s p c ≡ Plus)
  right_of_it set [] p r w u some there e = absurd cc
  right_of_it set (a ∷ more) p r w u some there e = (last_of a more, last_in a more, plus_then _ _ _ e back (sum_of p r (last_of a more)))
    where
      back : x_sign s r (last_of a more) ≢ Minus
      back f = (end_points s set a more r real u there).1 (ap (λ t. first_of (opposite_of t) (opposite_of (y_sign s (last_of a more) r))) (other_way s real r (last_of a more) ∙ ap opposite_of f))

  -- to the left of q
  left_of_it : (set chain : List ℕ) (q r w : ℕ) → IsUpperChain s set chain → IsIn w chain → IsIn r set → x_sign s q r ≡ Minus → (c : ℕ) × IsIn c chain × (x_sign s q c ≡ Minus)
  left_of_it set [] q r w u some there e = absurd cc
  left_of_it set (a ∷ more) q r w u some there e = (a, in_head a more, other_way s real a q ∙ ap opposite_of (then_plus _ _ _ first (other_way s real q r ∙ ap opposite_of e) (sum_of a r q)))
    where
      first : x_sign s a r ≢ Minus
      first f = (end_points s set a more r real u there).0 (ap (λ t. first_of t (opposite_of (y_sign s a r))) f)

  -- ---- turns with less than three places
  own_end : (p q : ℕ) → s.sign (Turn p q q) ≡ Zero
  own_end p q = zero_from_opposite (s.sign (Turn p q q)) ((real_turn_laws s real).exchanged p q q)

  own_step : (p r : ℕ) → s.sign (Turn p p r) ≡ Zero
  own_step p r = rotated s real r p p ∙ own_end r p

  own_start : (p q : ℕ) → s.sign (Turn p q p) ≡ Zero
  own_start p q = rotated s real p p q ∙ own_step p q

  swapped : (p q r : ℕ) → s.sign (Turn q p r) ≡ opposite_of (s.sign (Turn p q r))
  swapped p q r = rotated s real r q p ∙ reversed s real p q r

  -- ---- vertical edges
  -- what is to the right of a way upwards is to its right by x
  right_of_upward : (p q r : ℕ) → x_sign s p q ≡ Zero → y_sign s p q ≡ Plus → (t : Sign) → x_sign s p r ≡ t → s.sign (Turn p q r) ≡ opposite_of t
  right_of_upward p q r e f Plus g = (real_turn_laws s real).exchanged p r q ∙ ap opposite_of (turn_at_start s real p r q g e ∙ f)
  right_of_upward p q r e f Minus g = rotated s real r p q ∙ turn_at_end s real r p q (other_way s real p r ∙ ap opposite_of g) e ∙ f
  right_of_upward p q r e f Zero g = flat s real p q r e g

-- ---- around the cycle
-- no corner is to the right of an edge
no_corner_right : (s : Scene) (cycle : List ℕ) (i p q c : ℕ) → IsReal s → IsHullCycle s cycle → corner_at cycle i ≡ Some p → corner_at cycle (i + 1) ≡ Some q → IsIn c cycle → s.sign (Turn p q c) ≢ Minus
no_corner_right s cycle i p q c real hull a b there minus = at place.0 place.1 (further (length cycle) i 1 some some)
  where
    place : (k : ℕ) × (slice_get cycle k ≡ Some c)
    place = get_from_contains cycle c (contains_from_in cycle c there)

    within : (k : ℕ) → slice_get cycle k ≡ Some c → k < length cycle
    within k e = slice_get_within cycle k c e

    some : 0 < length cycle
    some = let h = within place.0 place.1 in omega (arith, h)

    plus : s.sign (Turn p q c) ≡ Plus → ⊥
    plus e = code (sym e ∙ minus)

    zero : s.sign (Turn p q c) ≡ Zero → ⊥
    zero e = code (sym e ∙ minus)

    is_start : p ≡ c → ⊥
    is_start e = zero (subst (λ n. s.sign (Turn p q n) ≡ Zero) e (own_start s real p q))

    is_end : q ≡ c → ⊥
    is_end e = zero (subst (λ n. s.sign (Turn p q n) ≡ Zero) e (own_end s real p q))

    same : {k m x y : ℕ} → k ≡ m → slice_get cycle k ≡ Some x → slice_get cycle m ≡ Some y → x ≡ y
    same {k} {m} {x} {y} e f g = same_Some x y (sym f ∙ ap (slice_get cycle) e ∙ g)

    at : (k : ℕ) → slice_get cycle k ≡ Some c → Further (length cycle) i 1 → ⊥
    at k f (inl (h, e)) = inner (grind arith)
      where
        next : slice_get cycle (i % length cycle + 1) ≡ Some q
        next = ap (slice_get cycle) (sym e) ∙ b

        inner : (k < i % length cycle) ⊎ (i % length cycle ≡ k) ⊎ (i % length cycle + 1 ≡ k) ⊎ (i % length cycle + 1 < k) → ⊥
        inner (inl g) = plus (rotated s real c p q ∙ corners_turn_left s cycle k (i % length cycle) (i % length cycle + 1) c p q real hull g (omega arith) f a next)
        inner (inr (inl g)) = is_start (same g a f)
        inner (inr (inr (inl g))) = is_end (same g next f)
        inner (inr (inr (inr g))) = plus (corners_turn_left s cycle (i % length cycle) (i % length cycle + 1) k p q c real hull (omega arith) g a next f)
    at k f (inr (h, e)) = outer (let l = within k f in grind (arith, h, l))
      where
        next : slice_get cycle (i % length cycle + 1 - length cycle) ≡ Some q
        next = ap (slice_get cycle) (sym e) ∙ b

        outer : (i % length cycle + 1 - length cycle ≡ k) ⊎ (i % length cycle ≡ k) ⊎ ((i % length cycle + 1 - length cycle < k) × (k < i % length cycle)) → ⊥
        outer (inl g) = is_end (same g next f)
        outer (inr (inl g)) = is_start (same g a f)
        outer (inr (inr (g, l))) = plus (sym (rotated s real p q c) ∙ corners_turn_left s cycle (i % length cycle + 1 - length cycle) k (i % length cycle) q c p real hull g l next f a)

pub edges_have_all_left : EdgesHaveAllLeft
edges_have_all_left s cycle i p q r real hull a b there minus = by_x (x_sign s p q) refl
  where
    corner : (c : ℕ) → IsIn c (round hull.lower hull.upper) → s.sign (Turn p q c) ≡ Minus → ⊥
    corner c h = no_corner_right s cycle i p q c real hull a b (subst (IsIn c) (sym hull.joined) h)

    low : (c : ℕ) → IsIn c hull.lower → s.sign (Turn p q c) ≡ Minus → ⊥
    low c h = corner c (in_lower hull.lower hull.upper c h)

    high : (c : ℕ) → IsIn c hull.upper → s.sign (Turn p q c) ≡ Minus → ⊥
    high c h = corner c (in_upper hull.lower hull.upper c h)

    side : (n m : ℕ) → corner_at cycle m ≡ Some n → IsIn n hull.lower ⊎ IsHigh hull.lower hull.upper n
    side n m e = corner_cases hull.lower hull.upper n (subst (IsIn n) hull.joined (in_from_contains cycle n (contains_from_get cycle (m % length cycle) n e)))

    one_place : p ≡ q → ⊥
    one_place e = code (sym (subst (λ n. s.sign (Turn p n r) ≡ Zero) e (own_step s real p r)) ∙ minus)

    -- where the edge goes upwards, or downwards
    upwards : IsIn q hull.upper → x_sign s p q ≡ Zero → (p ≡ q) ⊎ (y_sign s p q ≡ Plus) → ⊥
    upwards h e (inl f) = one_place f
    upwards h e (inr f) =
        let right : x_sign s p r ≡ Plus = sym (opposite-opposite (x_sign s p r)) ∙ ap opposite_of (sym (right_of_upward s real p q r e f (x_sign s p r) refl) ∙ minus) in
        let c = right_of_it s real s.live hull.upper p r q hull.upper_chain h there right in
        high c.0 c.1 (right_of_upward s real p q c.0 e f Plus c.2)

    downwards : IsIn p hull.upper → x_sign s p q ≡ Zero → (p ≡ q) ⊎ (y_sign s p q ≡ Minus) → ⊥
    downwards h e (inl f) = one_place f
    downwards h e (inr f) =
        let left : x_sign s q r ≡ Minus = sym (turn r) ∙ minus in
        let c = left_of_it s real s.live hull.upper q r p hull.upper_chain h there left in
        high c.0 c.1 (turn c.0 ∙ c.2)
      where
        turn : (n : ℕ) → s.sign (Turn p q n) ≡ x_sign s q n
        turn n =
            swapped s real q p n
            ∙ ap opposite_of (right_of_upward s real q p n (other_way s real p q ∙ ap opposite_of e) ((real_line_laws s real).opposite (pos 0) (pos 1) p q ∙ ap opposite_of f) (x_sign s q n) refl)
            ∙ opposite-opposite (x_sign s q n)

    vertical : x_sign s p q ≡ Zero → IsIn p hull.lower ⊎ IsHigh hull.lower hull.upper p → IsIn q hull.lower ⊎ IsHigh hull.lower hull.upper q → ⊥
    vertical e (inl h) (inl k) = one_place (same_of_chain (reflected s) s.live hull.lower p q (reflected-real s real) hull.lower_chain h k e)
    vertical e (inr h) (inr k) = one_place (same_of_chain s s.live hull.upper p q real hull.upper_chain h.0 k.0 e)
    vertical e (inl h) (inr k) = upwards k.0 e (beyond s real s.live Plus p q (λ z. code z) (on_lower s real s.live hull.lower p hull.lower_chain h) (on_upper s s.live hull.upper q hull.upper_chain k.0) e)
    vertical e (inr h) (inl k) = downwards h.0 e (beyond s real s.live Minus p q (λ z. code z) (on_upper s s.live hull.upper p hull.upper_chain h.0) (on_lower s real s.live hull.lower q hull.lower_chain k) e)

    by_x : (t : Sign) → x_sign s p q ≡ t → ⊥
    by_x Plus e = let c = above_step (reflected s) (reflected-real s real) s.live hull.lower p q r hull.lower_chain e there (ap opposite_of minus) in low c.0 c.1 (turned_plus (s.sign (Turn p q c.0)) c.2)
    by_x Minus e =
        let c = above_step s real s.live hull.upper q p r hull.upper_chain (other_way s real p q ∙ ap opposite_of e) there (swapped s real p q r ∙ ap opposite_of minus) in
        high c.0 c.1 (swapped s real q p c.0 ∙ ap opposite_of c.2)
    by_x Zero e = vertical e (side p i a) (side q (i + 1) b)
