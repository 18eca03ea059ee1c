-- In the orders of the ends, places are as the signs say.
use Rattle.std.proofs.Common.{◌≡◌, ◌⊎◌, inl, inr, refl, sym, ap, ap₂, ◌∙◌, subst, arith, List, [], ◌∷◌, ℕ, zero, suc, ℤ, pos, ◌+ℤ◌, ◌-ℤ◌, ◌*ℤ◌, Bool, true, false, cond, not, ◌||◌, ◌&&◌, nat_eq, nat_lt}
use Rattle.std.specs.Prelude.{Option}
use Rattle.std.proofs.lemmas.Bool.{both_ways, eqb-true}
use Rattle.std.proofs.lemmas.Bool.Decides.{nat_tests}
use Rattle.kin_algebra.specs.declared.sign.Sign.{Sign}
use Rattle.kin_algebra.specs.declared.sign.Sign.TheVariants.{Zero}
use Rattle.kin_algebra.specs.Signs.{sign_of, first_of}
use Rattle.kin_algebra.proofs.Ring.{by_ring, quotes}
use Rattle.kin_num.specs.declared.instant.Moment.{Moment}
use Rattle.kin_num.specs.declared.instant.Phase.{Phase}
use Rattle.kin_num.specs.declared.instant.Phase.TheVariants.{At, After}
use Rattle.kin_num.specs.declared.instant.Shape.{Shape}
use Rattle.kin_num.specs.Canonical.{IsCanonical, IsCanonicalForm}
use Rattle.kin_num.specs.Instants.{sign_at, sign_at_phase}
use Rattle.kin_num.specs.Quadratic.{Quadratic, linear}
use Rattle.kin_num.proofs.Constants.{constant_sign}
use Rattle.kin_motion.specs.declared.form.Form.TheVariants.{Line}
use Rattle.kin_motion.specs.Boxes.{is_not_minus}
use Rattle.kin_motion.specs.Course.{Course}
use Rattle.kin_motion.specs.Forms.{x_of, y_of, polynomial_of, sign_of_form}
use Rattle.kin_motion.specs.Numbers.{is_in, IsOnce}
use Rattle.kin_motion.specs.Records.{stands_before}
use Rattle.kin_motion.specs.Scene.{Scene, IsReal}
use Rattle.kin_motion.specs.BoxEnds.{ends}
use Rattle.kin_motion.specs.Ranks.{is_before}
use Rattle.kin_motion.specs.BoxFacts.{low_end, high_end, IsEndOrder}
use Rattle.kin_motion.proofs.EndOrders.{ends_live}
use Rattle.kin_motion.proofs.EndPlaces.{never_same, low_there, high_there, low_live, high_live, in_places, reach_is}
use Rattle.kin_motion.proofs.EndRanks.{ends_strict}
use Rattle.kin_motion.proofs.OverlapLists.{both_true}
use Rattle.kin_motion.specs.Overlaps.{reaches, meet_along, overlap, IsOverlap}
use Rattle.kin_boxes.specs.Sweeps.{IsFound, IsAhead, meets, pair_of}
use Rattle.kin_boxes.proofs.Sweeping.{first_there, second_there, same_low}

-- ---- a box isn't of negative size
zero_steps : (dx dy x y : ℤ) → dx *ℤ (x -ℤ x) +ℤ dy *ℤ (y -ℤ y) ≡ pos 0
zero_steps dx dy x y = by_ring (dx ∷ dy ∷ x ∷ y ∷ []) _ _ (search quotes depth 24 fits 20000) (search quotes depth 24 fits 20000) refl

nothing_more : (z : ℤ) → pos 0 +ℤ z ≡ z
nothing_more z = by_ring (z ∷ []) _ _ (search quotes depth 20 fits 20000) (search quotes depth 20 fits 20000) refl

own_polynomial : (ms : List (Option Course)) (dx dy : ℤ) (n i : ℕ) → polynomial_of ms (Line dx dy (pos n) i i) ≡ linear (pos 0) (pos n)
unfolding polynomial_of
own_polynomial ms dx dy n i =
    let slope = zero_steps dx dy (x_of ms i).slope (y_of ms i).slope in
    let start = ap (λ z. z +ℤ pos n) (zero_steps dx dy (x_of ms i).start (y_of ms i).start) ∙ nothing_more (pos n) in
    λ t. record { a = pos 0; b = slope t; c = start t }

not_minus_first : (n : ℕ) (t u v : Sign) → t ≡ sign_of (pos n) → u ≡ Zero → v ≡ Zero → is_not_minus (first_of t (first_of u v)) ≡ true
not_minus_first zero t u v e f g = ap₂ (λ a b. is_not_minus (first_of a b)) e (ap₂ first_of f g)
not_minus_first (suc n) t u v e f g = ap (λ a. is_not_minus (first_of a (first_of u v))) e

constant_at : (n : ℕ) (w : Shape) (f : Phase) → IsCanonicalForm w → is_not_minus (sign_at_phase (linear (pos 0) (pos n)) w f) ≡ true
constant_at zero w At form = ap is_not_minus (constant_sign (pos 0) w form)
constant_at (suc n) w At form = ap is_not_minus (constant_sign (pos (suc n)) w form)
constant_at n w After form = not_minus_first n _ _ _ (constant_sign (pos n) w form) (constant_sign (pos 0) w form) (constant_sign (pos 0) w form)

own_sign : (ms : List (Option Course)) (m : Moment) (dx dy : ℤ) (n i : ℕ) → IsCanonical m.at → is_not_minus (sign_of_form ms (Line dx dy (pos n) i i) m) ≡ true
unfolding sign_of_form sign_at
own_sign ms m dx dy n i canonical = ap (λ (p : Quadratic). is_not_minus (sign_at_phase p m.at m.phase)) (own_polynomial ms dx dy n i) ∙ constant_at n m.at m.phase canonical.form

-- so it reaches itself
own_reach : (s : Scene) (dx dy size : ℤ) (n i : ℕ) → IsReal s → size ≡ pos n → reaches s dx dy size i i ≡ true
own_reach s dx dy size n i real e = ap (λ z. reaches s dx dy z i i) e ∙ ap is_not_minus (real.sign (Line dx dy (pos n) i i)) ∙ own_sign real.motions real.moment dx dy n i real.canonical

module _ (s : Scene) (dx dy size : ℤ) (real : IsReal s) (xs : List ℕ) (order : IsEndOrder s dx dy size xs) where
  -- they meet along the axis exactly where each low end comes before the other high one
  pub meets_is : (i j : ℕ) → is_in i s.live ≡ true → is_in j s.live ≡ true → meets xs i j ≡ meet_along s dx dy size i j
  meets_is i j h k = ap₂ (λ a b. a && b) (reach_is s dx dy size real xs order i j h k) (reach_is s dx dy size real xs order j i k h)

  -- a low end is before a high one exactly where the box of the high one reaches that far
  low_high : (i j : ℕ) → is_in i s.live ≡ true → is_in j s.live ≡ true → is_before s (ends 0 dx dy size) (low_end i) (high_end j) ≡ reaches s dx dy size i j
  low_high i j h k =
      sym (in_places s dx dy size real xs order (low_end i) (high_end j) (never_same i j) (low_there s dx dy size real xs order i h)
      (high_there s dx dy size real xs order j k)) ∙ reach_is s dx dy size real xs order i j h k

  module _ (n : ℕ) (whole : size ≡ pos n) where
    pub own_ends : (i : ℕ) → is_in i s.live ≡ true → stands_before xs (low_end i) (high_end i) ≡ true
    own_ends i h = reach_is s dx dy size real xs order i i h h ∙ own_reach s dx dy size n i real whole

    -- where the one opens while the other is open, they meet along this axis
    pub open_meets : (l k : ℕ) → is_in l s.live ≡ true → is_in k s.live ≡ true → (k ≡ l → ⊥) → stands_before xs (low_end l) (high_end k) ≡ true → stands_before xs (low_end k) (low_end l) ≡ true
        → meet_along s dx dy size l k ≡ true
    open_meets l k h g apart a b =
        let r = ends 0 dx dy size in
        let laws = ends_strict 0 dx dy size s real in
        let live = ends_live s 0 dx dy size xs order.all in
        let first : is_before s r (low_end k) (low_end l) ≡ true = sym (in_places s dx dy size real xs order (low_end k) (low_end l) (λ e. apart (same_low k l e)) (low_there s dx dy size real xs order k g) (low_there s dx dy size real xs order l h)) ∙ b in
        let second : is_before s r (low_end l) (high_end l) ≡ true = low_high l l h h ∙ own_reach s dx dy size n l real whole in
        let through = laws.transitive (low_end k) (low_end l) (high_end l) (live (low_end k) (low_there s dx dy size real xs order k g)) (live (low_end l) (low_there s dx dy size real xs order l h)) (live (high_end l) (high_there s dx dy size real xs order l h)) first second in
        ap₂ (λ u v. u && v) (sym (reach_is s dx dy size real xs order l k h g) ∙ a) (sym (low_high k l g h) ∙ through)

  -- of two boxes one opens first
  pub one_first : (i j : ℕ) → is_in i s.live ≡ true → is_in j s.live ≡ true → (i ≡ j → ⊥) → (stands_before xs (low_end i) (low_end j) ≡ true) ⊎ (stands_before xs (low_end j) (low_end i) ≡ true)
  one_first i j h k apart = at (is_before s (ends 0 dx dy size) (low_end i) (low_end j)) refl
    where
      at : (b : Bool) → is_before s (ends 0 dx dy size) (low_end i) (low_end j) ≡ b → (stands_before xs (low_end i) (low_end j) ≡ true) ⊎ (stands_before xs (low_end j) (low_end i) ≡ true)
      at true e = inl (in_places s dx dy size real xs order (low_end i) (low_end j) (λ f. apart (same_low i j f)) (low_there s dx dy size real xs order i h) (low_there s dx dy size real xs order j k) ∙ e)
      at false e = inr (in_places s dx dy size real xs order (low_end j) (low_end i) (λ f. apart (sym (same_low j i f))) (low_there s dx dy size real xs order j k) (low_there s dx dy size real xs order i h)
          ∙ (ends_strict 0 dx dy size s real).total (low_end i) (low_end j) (ends_live s 0 dx dy size xs order.all (low_end i) (low_there s dx dy size real xs order i h)) (ends_live s 0 dx dy size xs order.all (low_end j) (low_there s dx dy size real xs order j k))
          (λ f. apart (same_low i j f))
          ∙ ap not e)

-- ---- both axes
in_turn : (a b : Bool) → a && b ≡ b && a
in_turn true true = refl
in_turn true false = refl
in_turn false true = refl
in_turn false false = refl

overlap_turned : (s : Scene) (width height : ℤ) (i j : ℕ) → overlap s width height i j ≡ overlap s width height j i
overlap_turned s width height i j = ap₂ (λ a b. a && b)
    (in_turn (reaches s (pos 1) (pos 0) width i j) (reaches s (pos 1) (pos 0) width j i)) (in_turn (reaches s (pos 0) (pos 1) height i j) (reaches s (pos 0) (pos 1) height j i))

never_self : (xs : List ℕ) (a : ℕ) → IsOnce xs → stands_before xs a a ≡ false
never_self [] a once = refl
never_self (x ∷ xs) a once = ap₂ (λ u v. u || v) (at (nat_eq x a) refl) (never_self xs a once.1)
  where
    at : (b : Bool) → nat_eq x a ≡ b → nat_eq x a && is_in a xs ≡ false
    at true e = ap₂ (λ u v. u && v) e (ap (λ n. is_in n xs) (sym (eqb-true x a e)) ∙ once.0)
    at false e = ap (λ u. u && is_in a xs) e

module _ (s : Scene) (width height : ℤ) (m n : ℕ) (real : IsReal s) (wide : width ≡ pos m)
    (xs ys : List ℕ)
    (x_order : IsEndOrder s (pos 1) (pos 0) width xs) (y_order : IsEndOrder s (pos 0) (pos 1) height ys) where
  -- the whole sweep is ahead
  pub all_ahead : IsAhead [] xs
  all_ahead = record {
    once = x_order.once;
    open_once = tt;
    no_low = λ j h. absurd (let none : false ≡ true = h in cc);
    high = λ j h. absurd (let none : false ≡ true = h in cc);
    both = λ i h. own_ends s (pos 1) (pos 0) width real xs x_order m wide i (low_live s (pos 1) (pos 0) width real xs x_order i h);
  }

  in_pair : (l k : ℕ) → is_in l s.live ≡ true → is_in k s.live ≡ true → (k ≡ l → ⊥) → overlap s width height l k ≡ true → IsOverlap s width height (pair_of l k)
  in_pair l k h g apart o = at (nat_lt l k) refl
    where
      at : (b : Bool) → nat_lt l k ≡ b → IsOverlap s width height (cond {A = ℕ × ℕ} b (l, k) (k, l))
      at true e = record { first_live = h; second_live = g; rising = grind (arith, nat_tests, e); overlapping = o }
      at false e = record { first_live = g; second_live = h; rising = grind (arith, nat_tests, e, apart); overlapping = overlap_turned s width height k l ∙ o }

  -- what the sweep finds overlaps
  pub found_overlaps : (p : ℕ × ℕ) → IsFound (meets ys) [] xs p → IsOverlap s width height p
  found_overlaps p f = at f.opened
    where
      later_live : is_in f.later s.live ≡ true
      later_live = low_live s (pos 1) (pos 0) width real xs x_order f.later (first_there xs (low_end f.later) (high_end f.earlier) f.not_closed)

      earlier_live : is_in f.earlier s.live ≡ true
      earlier_live = high_live s (pos 1) (pos 0) width real xs x_order f.earlier (second_there xs (low_end f.later) (high_end f.earlier) f.not_closed)

      at : (is_in f.earlier [] ≡ true) ⊎ (stands_before xs (low_end f.earlier) (low_end f.later) ≡ true) → IsOverlap s width height p
      at (inl h) = absurd (let none : false ≡ true = h in cc)
      at (inr h) =
          let apart : f.earlier ≡ f.later → ⊥ = λ e. both_ways _ (never_self xs (low_end f.later) x_order.once) (ap (λ i. stands_before xs (low_end i) (low_end f.later)) (sym e) ∙ h) in
          let x_meet = open_meets s (pos 1) (pos 0) width real xs x_order m wide f.later f.earlier later_live earlier_live apart f.not_closed h in
          let y_meet = sym (meets_is s (pos 0) (pos 1) height real ys y_order f.later f.earlier later_live earlier_live) ∙ f.meeting in
          subst (IsOverlap s width height) (sym f.pair) (in_pair f.later f.earlier later_live earlier_live apart (ap₂ (λ u v. u && v) x_meet y_meet))

  -- and what overlaps is found
  pub overlaps_found : (p : ℕ × ℕ) → IsOverlap s width height p → IsFound (meets ys) [] xs p
  overlaps_found p o = at (one_first s (pos 1) (pos 0) width real xs x_order p.0 p.1 o.first_live o.second_live (λ e. let l = o.rising in omega (arith, l, e)))
    where
      both : (meet_along s (pos 1) (pos 0) width p.0 p.1 ≡ true) × (meet_along s (pos 0) (pos 1) height p.0 p.1 ≡ true)
      both = both_true (meet_along s (pos 1) (pos 0) width p.0 p.1) (meet_along s (pos 0) (pos 1) height p.0 p.1) o.overlapping

      reach : (reaches s (pos 1) (pos 0) width p.0 p.1 ≡ true) × (reaches s (pos 1) (pos 0) width p.1 p.0 ≡ true)
      reach = both_true (reaches s (pos 1) (pos 0) width p.0 p.1) (reaches s (pos 1) (pos 0) width p.1 p.0) both.0

      low : nat_lt p.0 p.1 ≡ true
      low = let l = o.rising in grind (arith, nat_tests, l)

      not_low : nat_lt p.1 p.0 ≡ false
      not_low = let l = o.rising in grind (arith, nat_tests, l)

      at : (stands_before xs (low_end p.0) (low_end p.1) ≡ true) ⊎ (stands_before xs (low_end p.1) (low_end p.0) ≡ true) → IsFound (meets ys) [] xs p
      at (inl h) = record {
        later = p.1;
        earlier = p.0;
        opened = inr h;
        not_closed = reach_is s (pos 1) (pos 0) width real xs x_order p.1 p.0 o.second_live o.first_live ∙ reach.1;
        meeting = meets_is s (pos 0) (pos 1) height real ys y_order p.1 p.0 o.second_live o.first_live
            ∙ in_turn (reaches s (pos 0) (pos 1) height p.1 p.0) (reaches s (pos 0) (pos 1) height p.0 p.1) ∙ both.1;
        pair = sym (ap (λ b. cond {A = ℕ × ℕ} b (p.1, p.0) (p.0, p.1)) not_low);
      }
      at (inr h) = record {
        later = p.0;
        earlier = p.1;
        opened = inr h;
        not_closed = reach_is s (pos 1) (pos 0) width real xs x_order p.0 p.1 o.first_live o.second_live ∙ reach.0;
        meeting = meets_is s (pos 0) (pos 1) height real ys y_order p.0 p.1 o.first_live o.second_live ∙ both.1;
        pair = sym (ap (λ b. cond {A = ℕ × ℕ} b (p.0, p.1) (p.1, p.0)) low);
      }
