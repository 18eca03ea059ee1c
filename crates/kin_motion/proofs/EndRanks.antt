-- The laws of the ends of boxes as ranked items.
use Rattle.std.specs.Prelude.{List, Option, ◌≡◌, ◌≢◌, ◌⊎◌, ℕ, zero, suc, ◌+◌, ◌*◌, ◌/◌, ◌<◌, ◌≤◌, ◌^◌, nat_lt, nat_eq, ◌||◌, ◌&&◌, Bool, true, false, not, ℤ, pos, ◌+ℤ◌, ◌-ℤ◌, ◌*ℤ◌, [], ◌∷◌, unsigned_abs}
use lib.IntN.{neg_ℤ}
use Rattle.std.proofs.Common.{refl, sym, ap, ap₂, ◌∙◌, subst, arith, inl, inr}
use Rattle.std.proofs.lemmas.Bool.{cases_order, both_ways, or_left, or_right}
use Rattle.std.proofs.lemmas.Bool.Decides.{nat_tests}
use Rattle.std.proofs.lemmas.List.Elements.{All-head}
use Rattle.kin_algebra.specs.declared.sign.Sign.{Sign}
use Rattle.kin_algebra.specs.declared.sign.Sign.TheVariants.{Minus, Zero, Plus}
use Rattle.kin_algebra.specs.Signs.{opposite_of, SumMayBe}
use Rattle.kin_algebra.proofs.Ring.{by_ring, quotes}
use Rattle.kin_num.specs.declared.instant.Moment.{Moment}
use Rattle.kin_num.specs.Quadratic.{Quadratic, quadratic_sum}
use Rattle.kin_num.specs.Instants.{sign_at}
use Rattle.kin_num.proofs.Near.{size_negative}
use Rattle.kin_num.proofs.SignLaws.{negated, sign_at-neg}
use Rattle.kin_motion.specs.declared.form.Form.TheVariants.{Line}
use Rattle.kin_motion.specs.Course.{Course}
use Rattle.kin_motion.specs.Forms.{x_of, y_of, polynomial_of, sign_of_form}
use Rattle.kin_motion.specs.Numbers.{IsIn}
use Rattle.kin_motion.specs.Scene.{Scene, IsReal}
use Rattle.kin_motion.proofs.RealLaws.{line_sum}
use Rattle.kin_motion.specs.BoxEnds.{ends}
use Rattle.kin_motion.specs.BoxFacts.{kind, point, offset, ties, end_leads, end_form}
use Rattle.kin_motion.specs.Rankings.{IsStrict, IsRanking}

-- ---- polynomials
part : (dx dy x x' y y' : ℤ) → dx *ℤ (x -ℤ x') +ℤ dy *ℤ (y -ℤ y') ≡ neg_ℤ (dx *ℤ (x' -ℤ x) +ℤ dy *ℤ (y' -ℤ y))
part dx dy x x' y y' = by_ring (dx ∷ dy ∷ x ∷ x' ∷ y ∷ y' ∷ []) _ _ (search quotes depth 20 fits 20000) (search quotes depth 20 fits 20000) refl

both_turned : (a o : ℤ) → neg_ℤ a +ℤ neg_ℤ o ≡ neg_ℤ (a +ℤ o)
both_turned a o = by_ring (a ∷ o ∷ []) _ _ (search quotes depth 20 fits 20000) (search quotes depth 20 fits 20000) refl

turned_width : (p q w : ℤ) → (p -ℤ q) *ℤ w ≡ neg_ℤ ((q -ℤ p) *ℤ w)
turned_width p q w = by_ring (p ∷ q ∷ w ∷ []) _ _ (search quotes depth 20 fits 20000) (search quotes depth 20 fits 20000) refl

steps_add : (dx dy x y x' y' x'' y'' : ℤ) → dx *ℤ (x'' -ℤ x) +ℤ dy *ℤ (y'' -ℤ y) ≡ (dx *ℤ (x' -ℤ x) +ℤ dy *ℤ (y' -ℤ y)) +ℤ
    (dx *ℤ (x'' -ℤ x') +ℤ dy *ℤ (y'' -ℤ y'))
steps_add dx dy x y x' y' x'' y'' = by_ring (dx ∷ dy ∷ x ∷ y ∷ x' ∷ y' ∷ x'' ∷ y'' ∷ []) _ _ (search quotes depth 30 fits 20000)
    (search quotes depth 30 fits 20000) refl

both_added : (a b o p : ℤ) → (a +ℤ b) +ℤ (o +ℤ p) ≡ (a +ℤ o) +ℤ (b +ℤ p)
both_added a b o p = by_ring (a ∷ b ∷ o ∷ p ∷ []) _ _ (search quotes depth 20 fits 20000) (search quotes depth 20 fits 20000) refl

widths_add : (p q r w : ℤ) → (r -ℤ p) *ℤ w ≡ ((q -ℤ p) *ℤ w) +ℤ ((r -ℤ q) *ℤ w)
widths_add p q r w = by_ring (p ∷ q ∷ r ∷ w ∷ []) _ _ (search quotes depth 20 fits 20000) (search quotes depth 20 fits 20000) refl

turned_polynomial : (ms : List (Option Course)) (dx dy o o' : ℤ) (i j : ℕ) → o' ≡ neg_ℤ o
    → polynomial_of ms (Line dx dy o' j i) ≡ negated (polynomial_of ms (Line dx dy o i j))
unfolding polynomial_of
turned_polynomial ms dx dy o o' i j e =
    let first = part dx dy (x_of ms i).slope (x_of ms j).slope (y_of ms i).slope (y_of ms j).slope in
    let steps = part dx dy (x_of ms i).start (x_of ms j).start (y_of ms i).start (y_of ms j).start in
    let second = ap₂ (λ (a b : ℤ). a +ℤ b) steps e ∙ both_turned _ o in
    λ t. record { a = pos 0; b = first t; c = second t }

added_polynomial : (ms : List (Option Course)) (dx dy o p q : ℤ) (i j k : ℕ) → q ≡ o +ℤ p
    → polynomial_of ms (Line dx dy q i k) ≡ quadratic_sum (polynomial_of ms (Line dx dy o i j)) (polynomial_of ms (Line dx dy p j k))
unfolding polynomial_of
added_polynomial ms dx dy o p q i j k e =
    let first = steps_add dx dy (x_of ms i).slope (y_of ms i).slope (x_of ms j).slope (y_of ms j).slope (x_of ms k).slope (y_of ms k).slope in
    let steps = steps_add dx dy (x_of ms i).start (y_of ms i).start (x_of ms j).start (y_of ms j).start (x_of ms k).start (y_of ms k).start in
    let second = ap₂ (λ (a b : ℤ). a +ℤ b) steps e ∙ both_added _ _ o p in
    λ t. record { a = pos 0; b = first t; c = second t }

turned_sign : (ms : List (Option Course)) (m : Moment) (dx dy o o' : ℤ) (i j : ℕ) → o' ≡ neg_ℤ o
    → sign_of_form ms (Line dx dy o' j i) m ≡ opposite_of (sign_of_form ms (Line dx dy o i j) m)
unfolding sign_of_form
turned_sign ms m dx dy o o' i j e = ap (λ (p : Quadratic). sign_at p m) (turned_polynomial ms dx dy o o' i j e)
    ∙ sign_at-neg (polynomial_of ms (Line dx dy o i j)) m

-- ---- which comes first
-- one kind is less, or the kinds are the same and one point is less
tie_cases : (a n b m : ℕ) → ties a n b m ≡ true → (a < b) ⊎ ((a ≡ b) × (n < m))
tie_cases a n b m h = at (nat_lt a b) refl (nat_eq a b) refl (nat_lt n m) refl h
  where
    at : (x : Bool) → nat_lt a b ≡ x → (y : Bool) → nat_eq a b ≡ y → (z : Bool) → nat_lt n m ≡ z → x || (y && z) ≡ true → (a < b) ⊎ ((a ≡ b) × (n < m))
    at true e y f z g k = inl (grind (arith, nat_tests, e))
    at false e true f true g k = inr (grind (arith, nat_tests, f), grind (arith, nat_tests, g))
    at false e true f false g k = absurd cc
    at false e false f z g k = absurd cc

tie_from : (a n b m : ℕ) → (a < b) ⊎ ((a ≡ b) × (n < m)) → ties a n b m ≡ true
tie_from a n b m (inl l) = or_left (nat_lt a b) (nat_eq a b && nat_lt n m) (grind (arith, nat_tests, l))
tie_from a n b m (inr (e, l)) =
    let f : nat_eq a b ≡ true = grind (arith, nat_tests, e) in
    let g : nat_lt n m ≡ true = grind (arith, nat_tests, l) in
    or_right (nat_lt a b) (nat_eq a b && nat_lt n m) (ap₂ (λ x y. x && y) f g)

turned_tie : (a n b m : ℕ) → (a ≡ b → n ≡ m → ⊥) → ties b m a n ≡ not (ties a n b m)
turned_tie a n b m apart = at (ties a n b m) refl (ties b m a n) refl
  where
    both : (a < b) ⊎ ((a ≡ b) × (n < m)) → (b < a) ⊎ ((b ≡ a) × (m < n)) → ⊥
    both (inl l) (inl k) = absurd (omega arith)
    both (inl l) (inr (e, k)) = absurd (omega arith)
    both (inr (e, l)) (inl k) = absurd (omega arith)
    both (inr (e, l)) (inr (f, k)) = absurd (omega arith)

    none : ties a n b m ≡ false → ties b m a n ≡ false → ⊥
    none f g = elim (cases_order a b) [
      | inl e ↦ elim (cases_order n m) [
        | inl h ↦ apart e h
        | inr c ↦ elim c [
          | inl l ↦ both_ways _ f (tie_from a n b m (inr (e, l)))
          | inr l ↦ both_ways _ g (tie_from b m a n (inr (sym e, l)))
        ]
      ]
      | inr c ↦ elim c [
        | inl l ↦ both_ways _ f (tie_from a n b m (inl l))
        | inr l ↦ both_ways _ g (tie_from b m a n (inl l))
      ]
    ]

    at : (x : Bool) → ties a n b m ≡ x → (y : Bool) → ties b m a n ≡ y → y ≡ not x
    at true e true f = absurd (both (tie_cases a n b m e) (tie_cases b m a n f))
    at true e false f = refl
    at false e true f = refl
    at false e false f = absurd (none e f)

tie_through : (a n b m c k : ℕ) → ties a n b m ≡ true → ties b m c k ≡ true → ties a n c k ≡ true
tie_through a n b m c k h g = tie_from a n c k (at (tie_cases a n b m h) (tie_cases b m c k g))
  where
    at : (a < b) ⊎ ((a ≡ b) × (n < m)) → (b < c) ⊎ ((b ≡ c) × (m < k)) → (a < c) ⊎ ((a ≡ c) × (n < k))
    at (inl l) (inl p) = inl (omega arith)
    at (inl l) (inr (e, p)) = inl (omega arith)
    at (inr (e, l)) (inl p) = inl (omega arith)
    at (inr (e, l)) (inr (f, p)) = inr (e ∙ f, omega arith)

-- the kind and the point make the slot
same_slot : (i j : ℕ) → kind i ≡ kind j → point i ≡ point j → i ≡ j
same_slot i j e f = omega (arith, e, f)

turned_leads : (t : Sign) (i j : ℕ) → i ≢ j → end_leads (opposite_of t) j i ≡ not (end_leads t i j)
turned_leads Minus i j n = refl
turned_leads Zero i j n = turned_tie (kind i) (point i) (kind j) (point j) (λ e f. n (same_slot i j e f))
turned_leads Plus i j n = refl

leads_through : (t u v : Sign) (i j k : ℕ) → SumMayBe t u v → end_leads t i j ≡ true → end_leads u j k ≡ true → end_leads v i k ≡ true
leads_through Minus u v i j k sum a b = absurd cc
leads_through Zero Minus v i j k sum a b = absurd cc
leads_through Zero Zero v i j k sum a b = subst (λ q. end_leads q i k ≡ true) (sym sum)
    (tie_through (kind i) (point i) (kind j) (point j) (kind k) (point k) a b)
leads_through Zero Plus v i j k sum a b = ap (λ q. end_leads q i k) sum
leads_through Plus Minus v i j k sum a b = absurd cc
leads_through Plus Zero v i j k sum a b = ap (λ q. end_leads q i k) sum
leads_through Plus Plus v i j k sum a b = ap (λ q. end_leads q i k) sum

by_signs : {t t' u u' v v' : Sign} → t ≡ t' → u ≡ u' → v ≡ v' → SumMayBe t' u' v' → SumMayBe t u v
by_signs {t} {t'} {u} {u'} {v} {v'} e f g h = subst (λ x. SumMayBe x u v) (sym e)
    (subst (λ y. SumMayBe t' y v) (sym f) (subst (λ z. SumMayBe t' u' z) (sym g) h))

-- ---- slots
kind_low : (i : ℕ) → kind i < 2
kind_low i = omega arith

same_line : (dx dy o o' : ℤ) (i j k : ℕ) → Line dx dy o i j ≡ Line dx dy o' i k → j ≡ k
same_line dx dy o o' i j k e = cc

one_width : (w : ℤ) → (pos 1 -ℤ pos 0) *ℤ w ≡ w
one_width w = by_ring (w ∷ []) _ _ (search quotes depth 20 fits 20000) (search quotes depth 20 fits 20000) refl

no_width : (p w : ℤ) → (p -ℤ p) *ℤ w ≡ pos 0
no_width p w = by_ring (p ∷ w ∷ []) _ _ (search quotes depth 20 fits 20000) (search quotes depth 20 fits 20000) refl

less_width : (w : ℤ) → (pos 0 -ℤ pos 1) *ℤ w ≡ neg_ℤ w
less_width w = by_ring (w ∷ []) _ _ (search quotes depth 20 fits 20000) (search quotes depth 20 fits 20000) refl

pub small_offset : (a b : ℕ) (w : ℤ) → a < 2 → b < 2 → unsigned_abs w ≤ 2 ^ 16 → unsigned_abs ((pos a -ℤ pos b) *ℤ w) ≤ 2 ^ 16
small_offset zero zero w l m h = subst (λ v. unsigned_abs v ≤ 2 ^ 16) (sym (no_width (pos 0) w)) (omega arith)
small_offset zero (suc zero) w l m h = subst (λ v. unsigned_abs v ≤ 2 ^ 16) (sym (less_width w)) (subst (λ n. n ≤ 2 ^ 16) (sym (size_negative w)) h)
small_offset zero (suc (suc b)) w l m h = absurd (omega arith)
small_offset (suc zero) zero w l m h = subst (λ v. unsigned_abs v ≤ 2 ^ 16) (sym (one_width w)) h
small_offset (suc zero) (suc zero) w l m h = subst (λ v. unsigned_abs v ≤ 2 ^ 16) (sym (no_width (pos 1) w)) (omega arith)
small_offset (suc zero) (suc (suc b)) w l m h = absurd (omega arith)
small_offset (suc (suc a)) b w l m h = absurd (omega arith)

-- a sign that is its own opposite is 0, and at 0 no end is before itself
own_leads : (t : Sign) (i : ℕ) → t ≡ opposite_of t → end_leads t i i ≡ false
own_leads Minus i e = refl
own_leads Zero i e = at (ties (kind i) (point i) (kind i) (point i)) refl
  where
    at : (b : Bool) → ties (kind i) (point i) (kind i) (point i) ≡ b → b ≡ false
    at false h = refl
    at true h = elim (tie_cases (kind i) (point i) (kind i) (point i) h) [
      | inl l ↦ absurd (omega (arith, l))
      | inr c ↦ absurd (let l = c.1 in omega (arith, l))
    ]
own_leads Plus i e = absurd cc

module _ (count : ℕ) (dx dy width : ℤ) where
  -- at any moment "before" is a strict total order, whatever the direction and the width are
  pub ends_strict : (s : Scene) → IsReal s → IsStrict s (ends count dx dy width)
  ends_strict s real =
      let line = end_form dx dy width in
      let opposite : (i j : ℕ) → s.sign (line j i) ≡ opposite_of (s.sign (line i j)) = λ i j.
      real.sign (line j i) ∙ turned_sign real.motions real.moment dx dy (offset width i j) (offset width j i) (point i) (point j)
      (turned_width (pos (kind i)) (pos (kind j)) width) ∙ ap opposite_of (sym (real.sign (line i j))) in
      record {
        irreflexive = λ i a. own_leads (s.sign (line i i)) i (opposite i i);
        total = λ i j a b d. ap (λ t. end_leads t j i) (opposite i j) ∙ turned_leads (s.sign (line i j)) i j d;
        transitive = λ i j k a b c. leads_through _ _ _ i j k (by_signs (real.sign (line i j)) (real.sign (line j k)) (real.sign (line i k))
            (line_sum real.motions real.moment real.canonical (line i j) (line j k) (line i k)
            (added_polynomial real.motions dx dy (offset width i j) (offset width j k) (offset width i k) (point i) (point j) (point k)
            (widths_add (pos (kind i)) (pos (kind j)) (pos (kind k)) width))));
        opposite = λ i j a b. opposite i j;
      }

  -- the part and the form of two neighbours name the left one
  pub ends_left : (i j : ℕ) → 2 * point i + (2 * kind i + kind j) / 2 ≡ i
  ends_left i j = omega arith

  pub ends_ranked : count ≤ 2 ^ 14 → unsigned_abs dx ≤ 16 → unsigned_abs dy ≤ 16 → unsigned_abs width ≤ 2 ^ 16 → IsRanking (ends count dx dy width)
  ends_ranked few dx_small dy_small small = record {
    strict = ends_strict;
    left = ends_left;
    right = λ i j k part form. same_slot j k (omega (arith, part)) (same_line dx dy (offset width i j) (offset width i k) (point i) (point j) (point k) form);
    askable = λ live i j a b. record {
      i_live = All-head (λ m. IsIn m live) (point i) [] a;
      j_live = All-head (λ m. IsIn m live) (point j) [] b;
      dx_small = dx_small;
      dy_small = dy_small;
      off_small = small_offset (kind j) (kind i) width (kind_low j) (kind_low i) small;
    };
    few_slots = omega arith;
    few_parts = omega arith;
    within = λ i j. omega arith;
  }
