-- The corners of a hull on one vertical line, each once in its cycle, and the turns of the cycle.
use Rattle.std.proofs.Common.{◌≡◌, ◌≢◌, ◌⊎◌, inl, inr, refl, sym, ap, ◌∙◌, subst, arith, List, length, ℕ, ◌+◌, ◌-◌, ◌%◌, ◌<◌, ◌≤◌, Bool, true, false, not, filter, reverse, pos, Some, IsFalse}
use Rattle.std.specs.Prelude.{slice_get}
use Rattle.std.proofs.lemmas.Bool.{and_from, and_parts, not-true}
use Rattle.std.proofs.lemmas.Nat.{mod_below}
use Rattle.std.proofs.Math.Nat.{mod-eq_of_lt, add-mod_left, mod-add-mod}
use Rattle.kin_algebra.specs.declared.sign.Sign.TheVariants.{Minus, Zero, Plus}
use Rattle.kin_algebra.specs.Signs.{opposite_of, SumMayBe}
use Rattle.kin_algebra.proofs.Signs.{code, zero_from_opposite}
use Rattle.kin_motion.specs.declared.form.Form.TheVariants.{Turn}
use Rattle.kin_motion.specs.Chains.{is_left, is_bare, round, IsUpperChain, IsLowerChain}
use Rattle.kin_motion.specs.Numbers.{is_in, IsIn, IsOnce}
use Rattle.kin_motion.specs.Scene.{Scene, IsReal, x_sign, reflected}
use Rattle.kin_motion.proofs.AgreementLaws.{kept-members}
use Rattle.kin_motion.proofs.ChainLaws.{left_through, plus_from}
use Rattle.kin_motion.proofs.Members.{in_left, in_right, in_either, in_reverse, into_reverse}
use Rattle.kin_motion.proofs.RealLaws.{real_line_laws}
use Rattle.kin_motion.proofs.ReflectedLaws.{reflected-real}
use Rattle.kin_chain.proofs.ChainLaws.{different_x}
use Rattle.kin_hull.specs.Corners.{IsHighestOnVertical, IsLowestOnVertical, CornersEndVerticals, TwoHaveOneX, CornersTurnLeft, NeighboursTurnLeft, CyclesListOnce}
use Rattle.kin_hull.proofs.Bends.{on_upper, on_lower, rotated, reversed, three_of_one, two_and_one, IsOn}
use Rattle.kin_hull.proofs.Sorted.{Sorted, chain_sorted, sorted_at, sorted_join, sorted_kept, sorted_with, sorted_back, sorted_once}

-- ---- the corners of a cycle
-- in the upper chain alone
abbrev pub IsHigh : List ℕ → List ℕ → ℕ → Type 0
IsHigh lower upper p = IsIn p upper × IsFalse (is_in p lower)

high_corner : (lower upper : List ℕ) (p : ℕ) → IsIn p (filter (λ q. not (is_in q lower)) (reverse upper)) → IsHigh lower upper p
high_corner lower upper p h = let k = and_parts (is_in p (reverse upper)) (not (is_in p lower)) (sym (kept-members (λ q. not (is_in q lower)) (reverse upper) p) ∙ h) in (in_reverse p upper k.0, not-true (is_in p lower) k.1)

pub corner_cases : (lower upper : List ℕ) (p : ℕ) → IsIn p (round lower upper) → IsIn p lower ⊎ IsHigh lower upper p
corner_cases lower upper p h = at (in_either p lower (filter (λ q. not (is_in q lower)) (reverse upper)) h)
  where
    at : IsIn p lower ⊎ IsIn p (filter (λ q. not (is_in q lower)) (reverse upper)) → IsIn p lower ⊎ IsHigh lower upper p
    at (inl k) = inl k
    at (inr k) = inr (high_corner lower upper p k)

-- all of both chains are corners
pub in_lower : (lower upper : List ℕ) (p : ℕ) → IsIn p lower → IsIn p (round lower upper)
in_lower lower upper p h = in_left p lower (filter (λ q. not (is_in q lower)) (reverse upper)) h

pub in_upper : (lower upper : List ℕ) (p : ℕ) → IsIn p upper → IsIn p (round lower upper)
in_upper lower upper p h = at (is_in p lower) refl
  where
    at : (b : Bool) → is_in p lower ≡ b → IsIn p (round lower upper)
    at true e = in_lower lower upper p e
    at false e =
        in_right p lower (filter (λ q. not (is_in q lower)) (reverse upper))
        (kept-members (λ q. not (is_in q lower)) (reverse upper) p ∙ and_from (is_in p (reverse upper)) (not (is_in p lower)) (into_reverse p upper h) (ap not e))

-- ---- on a vertical line
pub corners_end_verticals : CornersEndVerticals
corners_end_verticals s cycle p real hull there = at (corner_cases hull.lower hull.upper p (subst (IsIn p) hull.joined there))
  where
    at : IsIn p hull.lower ⊎ IsHigh hull.lower hull.upper p → IsHighestOnVertical s p ⊎ IsLowestOnVertical s p
    at (inl k) = inr (λ q i e f. (on_lower s real s.live hull.lower p hull.lower_chain k).utmost q i e f)
    at (inr k) = inl (λ q i e f. (on_upper s s.live hull.upper p hull.upper_chain k.0).utmost q i e f)

-- points of one chain have different x
pub same_of_chain : (s : Scene) (set xs : List ℕ) (p q : ℕ) → IsReal s → IsUpperChain s set xs → IsIn p xs → IsIn q xs → x_sign s p q ≡ Zero → p ≡ q
same_of_chain s set xs p q real u h k e = different_x s set p q real (stays p h) (stays q k) e
  where
    stays : (r : ℕ) → IsIn r xs → IsIn r set × (is_bare s set r ≡ true)
    stays r i = and_parts (is_in r set) (is_bare s set r) (sym (u.members r) ∙ i)

pub two_have_one_x : TwoHaveOneX
two_have_one_x s cycle p q r real hull a b c e f = at (sides p a) (sides q b) (sides r c)
  where
    sides : (n : ℕ) → IsIn n cycle → IsIn n hull.lower ⊎ IsHigh hull.lower hull.upper n
    sides n h = corner_cases hull.lower hull.upper n (subst (IsIn n) hull.joined h)

    g : x_sign s p r ≡ Zero
    g = subst (λ t. SumMayBe t (x_sign s q r) (x_sign s p r)) e ((real_line_laws s real).chain (pos 1) (pos 0) p q r) ∙ f

    low : (m n : ℕ) → IsIn m hull.lower → IsIn n hull.lower → x_sign s m n ≡ Zero → m ≡ n
    low m n h k z = same_of_chain (reflected s) s.live hull.lower m n (reflected-real s real) hull.lower_chain h k z

    high : (m n : ℕ) → IsHigh hull.lower hull.upper m → IsHigh hull.lower hull.upper n → x_sign s m n ≡ Zero → m ≡ n
    high m n h k z = same_of_chain s s.live hull.upper m n real hull.upper_chain h.0 k.0 z

    at : IsIn p hull.lower ⊎ IsHigh hull.lower hull.upper p → IsIn q hull.lower ⊎ IsHigh hull.lower hull.upper q → IsIn r hull.lower ⊎ IsHigh hull.lower hull.upper r → (p ≡ q) ⊎ (q ≡ r) ⊎ (p ≡ r)
    at (inl h) (inl k) l = inl (low p q h k e)
    at (inr h) (inr k) l = inl (high p q h k e)
    at (inl h) (inr k) (inl l) = inr (inr (low p r h l g))
    at (inl h) (inr k) (inr l) = inr (inl (high q r k l f))
    at (inr h) (inl k) (inl l) = inr (inl (low q r k l f))
    at (inr h) (inl k) (inr l) = inr (inr (high p r h l g))

-- ---- around the cycle
-- q comes after p: both are of the lower chain, from left to right, or q alone is of the upper one, or both are, from right to left
data Before (s : Scene) (lower upper : List ℕ) (p q : ℕ) : Type 0 where
  rightwards : IsIn p lower → IsIn q lower → x_sign s p q ≡ Plus → Before s lower upper p q
  over : IsIn p lower → IsHigh lower upper q → Before s lower upper p q
  leftwards : IsHigh lower upper p → IsHigh lower upper q → x_sign s q p ≡ Plus → Before s lower upper p q

not_high : (lower upper : List ℕ) (p q : ℕ) → IsIn p lower → IsHigh lower upper q → p ≢ q
not_high lower upper p q h k e = let clash : true ≡ false = sym h ∙ ap (λ n. is_in n lower) e ∙ k.1 in cc

module _ (s : Scene) (real : IsReal s) (lower upper : List ℕ) (low : IsLowerChain s s.live lower) (up : IsUpperChain s s.live upper) where
  through : (x y z : ℕ) → is_left s x y ≡ true → is_left s y z ≡ true → is_left s x z ≡ true
  through x y z = left_through _ _ _ ((real_line_laws s real).chain (pos 1) (pos 0) x y z)

  lower_sorted : Sorted (Before s lower upper) lower
  lower_sorted = sorted_with (λ x y. is_left s x y ≡ true) (Before s lower upper) lower (λ x y h k e. Before.rightwards h k (plus_from e)) (chain_sorted (is_left s) through lower low.rising)

  upper_sorted : Sorted (Before s lower upper) (filter (λ q. not (is_in q lower)) (reverse upper))
  upper_sorted =
      sorted_with (λ x y. is_left s y x ≡ true) (Before s lower upper) (filter (λ q. not (is_in q lower)) (reverse upper))
      (λ x y h k e. Before.leftwards (high_corner lower upper x h) (high_corner lower upper y k) (plus_from e))
      (sorted_kept (λ x y. is_left s y x ≡ true) (λ q. not (is_in q lower)) (reverse upper) (sorted_back (λ x y. is_left s x y ≡ true) upper (chain_sorted (is_left s) through upper up.rising)))

  round_sorted : Sorted (Before s lower upper) (round lower upper)
  round_sorted =
      sorted_join (Before s lower upper) lower (filter (λ q. not (is_in q lower)) (reverse upper)) lower_sorted upper_sorted
      (λ x y h k. Before.over h (high_corner lower upper y k))

  not_right : (p : ℕ) → x_sign s p p ≢ Plus
  not_right p e = code (sym (zero_from_opposite (x_sign s p p) ((real_line_laws s real).opposite (pos 1) (pos 0) p p)) ∙ e)

  not_itself : (p : ℕ) → Before s lower upper p p → ⊥
  not_itself p (Before.rightwards a b e) = not_right p e
  not_itself p (Before.over a b) = not_high lower upper p p a b refl
  not_itself p (Before.leftwards a b e) = not_right p e

  on_low : (p : ℕ) → IsIn p lower → IsOn s s.live Minus p
  on_low p h = on_lower s real s.live lower p low h

  on_up : (p : ℕ) → IsHigh lower upper p → IsOn s s.live Plus p
  on_up p h = on_upper s s.live upper p up h.0

  turns_left : (p q r : ℕ) → Before s lower upper p q → Before s lower upper q r → s.sign (Turn p q r) ≡ Plus
  turns_left p q r (Before.rightwards a b e) (Before.rightwards c d f) = three_of_one s real s.live Minus p q r (on_low p a) (on_low q b) (on_low r d) e f
  turns_left p q r (Before.rightwards a b e) (Before.over c d) =
      two_and_one s real s.live Plus p q r (λ z. absurd cc) (on_low p a) (on_low q b) (on_up r d) (not_high lower upper p r a d) (not_high lower upper q r b d) e
  turns_left p q r (Before.over a b) (Before.leftwards c d f) =
      reversed s real r q p ∙ ap opposite_of (two_and_one s real s.live Minus r q p (λ z. absurd cc) (on_up r d) (on_up q b) (on_low p a) (λ z. not_high lower upper p r a d (sym z)) (λ z. not_high lower upper p q a b (sym z)) f)
  turns_left p q r (Before.leftwards a b e) (Before.leftwards c d f) = reversed s real r q p ∙ ap opposite_of (three_of_one s real s.live Plus r q p (on_up r d) (on_up q b) (on_up p a) f e)
  turns_left p q r (Before.rightwards a b e) (Before.leftwards c d f) = absurd (not_high lower upper q q b c refl)
  turns_left p q r (Before.over a b) (Before.rightwards c d f) = absurd (not_high lower upper q q c b refl)
  turns_left p q r (Before.over a b) (Before.over c d) = absurd (not_high lower upper q q c b refl)
  turns_left p q r (Before.leftwards a b e) (Before.rightwards c d f) = absurd (not_high lower upper q q c b refl)
  turns_left p q r (Before.leftwards a b e) (Before.over c d) = absurd (not_high lower upper q q c b refl)

pub cycles_list_once : CyclesListOnce
cycles_list_once s cycle real hull =
    subst IsOnce (sym hull.joined)
    (sorted_once (Before s hull.lower hull.upper) (round hull.lower hull.upper) (not_itself s real hull.lower hull.upper hull.lower_chain hull.upper_chain) (round_sorted s real hull.lower hull.upper hull.lower_chain hull.upper_chain))

pub corners_turn_left : CornersTurnLeft
corners_turn_left s cycle i j k p q r real hull h g a b c = turns_left s real hull.lower hull.upper hull.lower_chain hull.upper_chain p q r (before i j p q h a b) (before j k q r g b c)
  where
    before : (m n x y : ℕ) → m < n → slice_get cycle m ≡ Some x → slice_get cycle n ≡ Some y → Before s hull.lower hull.upper x y
    before m n x y l e f =
        sorted_at (Before s hull.lower hull.upper) cycle m n x y
        (subst (Sorted (Before s hull.lower hull.upper)) (sym hull.joined) (round_sorted s real hull.lower hull.upper hull.lower_chain hull.upper_chain)) l e f

-- the place k further, where n places are gone around again and again: before the end, or past it
abbrev pub Further : ℕ → ℕ → ℕ → Type 0
Further n i k = ((i % n + k < n) × ((i + k) % n ≡ i % n + k)) ⊎ ((n ≤ i % n + k) × ((i + k) % n ≡ i % n + k - n))

pub further : (n i k : ℕ) → 0 < n → k ≤ n → Further n i k
further n i k some few = at (grind arith)
  where
    low : i % n < n
    low = mod_below i n some

    same : (i + k) % n ≡ (i % n + k) % n
    same = sym (mod-add-mod i n k)

    at : (n ≤ i % n + k) ⊎ (i % n + k < n) → Further n i k
    at (inr h) = inl (h, same ∙ mod-eq_of_lt h)
    at (inl h) =
        let over : i % n + k ≡ n + (i % n + k - n) = omega (arith, h) in
        let less : i % n + k - n < n = omega (arith, h, low, few) in
        inr (h, same ∙ ap (λ m. m % n) over ∙ add-mod_left n (i % n + k - n) ∙ mod-eq_of_lt less)

pub neighbours_turn_left : NeighboursTurnLeft
neighbours_turn_left s cycle i p q r real hull many a b c = at (further (length cycle) i 1 some (omega (arith, many))) (further (length cycle) i 2 some (omega (arith, many)))
  where
    some : 0 < length cycle
    some = omega (arith, many)

    low : i % length cycle < length cycle
    low = mod_below i (length cycle) some

    at : Further (length cycle) i 1 → Further (length cycle) i 2 → s.sign (Turn p q r) ≡ Plus
    at (inl (h, e)) (inl (g, f)) =
        corners_turn_left s cycle (i % length cycle) (i % length cycle + 1) (i % length cycle + 2) p q r real hull (omega arith) (omega arith)
        a (ap (slice_get cycle) (sym e) ∙ b) (ap (slice_get cycle) (sym f) ∙ c)
    at (inl (h, e)) (inr (g, f)) =
        rotated s real r p q
        ∙ corners_turn_left s cycle (i % length cycle + 2 - length cycle) (i % length cycle) (i % length cycle + 1) r p q real hull (omega (arith, h, g, many)) (omega arith)
        (ap (slice_get cycle) (sym f) ∙ c) a (ap (slice_get cycle) (sym e) ∙ b)
    at (inr (h, e)) (inr (g, f)) =
        sym (rotated s real p q r)
        ∙ corners_turn_left s cycle (i % length cycle + 1 - length cycle) (i % length cycle + 2 - length cycle) (i % length cycle) q r p real hull (omega (arith, h, g, many)) (omega (arith, h, g, many, low))
        (ap (slice_get cycle) (sym e) ∙ b) (ap (slice_get cycle) (sym f) ∙ c) a
    at (inr (h, e)) (inl (g, f)) = absurd (omega (arith, h, g))
