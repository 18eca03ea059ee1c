-- Orders and the sides of a rectangle.
use Rattle.std.proofs.Common.{◌≡◌, inl, inr, refl, sym, ap, ap₂, ◌∙◌, subst, arith, List, [], ◌∷◌, ℕ, zero, suc, ◌+◌, ◌-◌, ◌<◌, ◌≤◌, ℤ, pos, ◌+ℤ◌, ◌-ℤ◌, ◌*ℤ◌, Bool, true, false, cond, ◌&&◌, nat_lt, nat_le, take, drop, length, filter}
use Rattle.std.specs.Prelude.{Option, Some, None, slice_get, slice_range, Contains}
use Rattle.std.proofs.lemmas.List.{take-append-drop}
use Rattle.std.proofs.lemmas.List.Elements.{Contains-append_left, Contains-append_right, filter_agree}
use Rattle.std.proofs.lemmas.Bool.Decides.{nat_tests}
use Rattle.std.proofs.lemmas.Option.{same_Some, slice_get_within}
use lib.IntN.{neg_ℤ}
use Rattle.kin_algebra.specs.declared.sign.Sign.{Sign}
use Rattle.kin_algebra.specs.declared.sign.Sign.TheVariants.{Minus, Zero, Plus}
use Rattle.kin_algebra.specs.Signs.{SumMayBe}
use Rattle.kin_algebra.proofs.Ring.{by_ring, quotes}
use Rattle.kin_num.specs.declared.instant.Moment.{Moment}
use Rattle.kin_num.specs.Canonical.{IsCanonical}
use Rattle.kin_num.specs.Instants.{sign_at}
use Rattle.kin_num.specs.Quadratic.{Quadratic, quadratic_sum}
use Rattle.kin_num.proofs.InstantLaws.{sign_at-sum}
use Rattle.kin_motion.specs.declared.form.Form.TheVariants.{Line}
use Rattle.kin_motion.specs.declared.keep.Rect.{Rect}
use Rattle.kin_motion.specs.Boxes.{is_not_minus, is_at_least, is_inside}
use Rattle.kin_motion.specs.Course.{Course, motion_of}
use Rattle.kin_motion.specs.Forms.{along, x_of, y_of, x_of_course, y_of_course, polynomial_of, sign_of_form}
use Rattle.kin_motion.specs.Laws.{HasLineLaws}
use Rattle.kin_motion.specs.Numbers.{is_in, IsChain}
use Rattle.kin_motion.specs.Orders.{leads, is_before, IsOrder}
use Rattle.kin_motion.specs.Scene.{Scene, scene_at, IsReal}
use Rattle.kin_motion.proofs.ListChains.{chain_tail}
use Rattle.kin_motion.proofs.Members.{in_from_contains}
use Rattle.kin_motion.proofs.OrderLaws.{before_through}
use Rattle.kin_motion.proofs.RealLaws.{real_line_laws}
use Rattle.kin_range.specs.Sides.{Span, is_in_span, is_within, left_of, right_of, bottom_of, top_of, IsSpanOf, TurnsOnce}

-- ---- a side's polynomial
pub side_polynomial : (ms : List (Option Course)) (i : ℕ) (course : Course) (dx dy off b c : ℤ) → motion_of ms i ≡ Some course → b ≡ dx *ℤ course.u +ℤ dy *ℤ course.v → c ≡ dx *ℤ course.x +ℤ dy *ℤ course.y +ℤ off
    → record { a = pos 0; b = b; c = c } ≡ along dx dy off (x_of ms i) (y_of ms i)
side_polynomial ms i course dx dy off b c known e f =
    subst (λ (found : Option Course). record { a = pos 0; b = b; c = c } ≡ along dx dy off (x_of_course found) (y_of_course found)) (sym known) (λ t. record { a = pos 0; b = e t; c = f t })

-- ---- what is before in the order isn't farther along
not_minus_if_leads : (s : Sign) (i j : ℕ) → leads s i j ≡ true → is_not_minus s ≡ true
not_minus_if_leads Minus i j h = absurd cc
not_minus_if_leads Zero i j h = refl
not_minus_if_leads Plus i j h = refl

not_minus_sum : (r s t : Sign) → SumMayBe r s t → is_not_minus r ≡ true → is_not_minus s ≡ true → is_not_minus t ≡ true
not_minus_sum Minus s t sum h k = absurd cc
not_minus_sum Zero s t sum h k = ap is_not_minus sum ∙ k
not_minus_sum Plus Minus t sum h k = absurd cc
not_minus_sum Plus Zero t sum h k = ap is_not_minus sum
not_minus_sum Plus Plus t sum h k = ap is_not_minus sum

module _ (s : Scene) (laws : HasLineLaws s) (dx dy : ℤ) where
  head_before : (x : ℕ) (xs : List ℕ) (q j : ℕ) → IsChain (is_before s dx dy) (x ∷ xs) → slice_get xs q ≡ Some j → is_before s dx dy x j ≡ true
  head_before x [] q j chain e = absurd cc
  head_before x (y ∷ ys) zero j chain e = ap (is_before s dx dy x) (sym (same_Some y j e)) ∙ chain.0
  head_before x (y ∷ ys) (suc q) j chain e = before_through s laws dx dy x y j chain.0 (head_before y ys q j chain.1 e)

  -- of two members the one at the earlier place is before the other
  by_places : (xs : List ℕ) → IsChain (is_before s dx dy) xs → (p q i j : ℕ) → p < q → slice_get xs p ≡ Some i → slice_get xs q ≡ Some j → is_before s dx dy i j ≡ true
  by_places [] chain p q i j h e f = absurd cc
  by_places (x ∷ xs) chain p zero i j h e f = absurd (omega (arith, h))
  by_places (x ∷ xs) chain zero (suc q) i j h e f = ap (λ n. is_before s dx dy n j) (sym (same_Some x i e)) ∙ head_before x xs q j chain f
  by_places (x ∷ xs) chain (suc p) (suc q) i j h e f = by_places xs (chain_tail (is_before s dx dy) x xs chain) p q i j (omega (arith, h)) e f

up : (dx dy off a b c d : ℤ) → dx *ℤ c +ℤ dy *ℤ d +ℤ off ≡ (dx *ℤ a +ℤ dy *ℤ b +ℤ off) +ℤ (dx *ℤ (c -ℤ a) +ℤ dy *ℤ (d -ℤ b) +ℤ pos 0)
up dx dy off a b c d = by_ring (dx ∷ dy ∷ off ∷ a ∷ b ∷ c ∷ d ∷ []) _ _ (search quotes depth 30 fits 20000) (search quotes depth 30 fits 20000) refl

up_slope : (dx dy a b c d : ℤ) → dx *ℤ c +ℤ dy *ℤ d ≡ (dx *ℤ a +ℤ dy *ℤ b) +ℤ (dx *ℤ (c -ℤ a) +ℤ dy *ℤ (d -ℤ b))
up_slope dx dy a b c d = by_ring (dx ∷ dy ∷ a ∷ b ∷ c ∷ d ∷ []) _ _ (search quotes depth 30 fits 20000) (search quotes depth 30 fits 20000) refl

down : (dx dy off a b c d : ℤ) → neg_ℤ dx *ℤ a +ℤ neg_ℤ dy *ℤ b +ℤ off ≡ (neg_ℤ dx *ℤ c +ℤ neg_ℤ dy *ℤ d +ℤ off) +ℤ (dx *ℤ (c -ℤ a) +ℤ dy *ℤ (d -ℤ b) +ℤ pos 0)
down dx dy off a b c d = by_ring (dx ∷ dy ∷ off ∷ a ∷ b ∷ c ∷ d ∷ []) _ _ (search quotes depth 30 fits 20000) (search quotes depth 30 fits 20000) refl

down_slope : (dx dy a b c d : ℤ) → neg_ℤ dx *ℤ a +ℤ neg_ℤ dy *ℤ b ≡ (neg_ℤ dx *ℤ c +ℤ neg_ℤ dy *ℤ d) +ℤ (dx *ℤ (c -ℤ a) +ℤ dy *ℤ (d -ℤ b))
down_slope dx dy a b c d = by_ring (dx ∷ dy ∷ a ∷ b ∷ c ∷ d ∷ []) _ _ (search quotes depth 30 fits 20000) (search quotes depth 30 fits 20000) refl

module _ (ms : List (Option Course)) (m : Moment) (canonical : IsCanonical m.at) (dx dy off : ℤ) (xs : List ℕ) (order : IsOrder (scene_at ms m) dx dy xs) where
  real : IsReal (scene_at ms m)
  real = record { motions = ms; moment = m; canonical = canonical; live = refl; sign = λ f. refl }

  -- the line from the member at the earlier place to the other isn't -
  forward : (p q i j : ℕ) → p < q → slice_get xs p ≡ Some i → slice_get xs q ≡ Some j → is_not_minus (sign_at (polynomial_of ms (Line dx dy (pos 0) i j)) m) ≡ true
  unfolding sign_of_form
  forward p q i j h e f = not_minus_if_leads (sign_of_form ms (Line dx dy (pos 0) i j) m) i j (by_places (scene_at ms m) (real_line_laws (scene_at ms m) real) dx dy xs order.chain p q i j h e f)

  sum_stays : (f g h : Quadratic) → h ≡ quadratic_sum f g → is_not_minus (sign_at f m) ≡ true → is_not_minus (sign_at g m) ≡ true → is_not_minus (sign_at h m) ≡ true
  sum_stays f g h e a b = ap (λ (p : Quadratic). is_not_minus (sign_at p m)) e ∙ not_minus_sum (sign_at f m) (sign_at g m) (sign_at (quadratic_sum f g) m) (sign_at-sum f g m canonical) a b

  upward : (i j : ℕ) → along dx dy off (x_of ms j) (y_of ms j) ≡ quadratic_sum (along dx dy off (x_of ms i) (y_of ms i)) (polynomial_of ms (Line dx dy (pos 0) i j))
  unfolding polynomial_of
  upward i j =
      let slope = up_slope dx dy (x_of ms i).slope (y_of ms i).slope (x_of ms j).slope (y_of ms j).slope in
      let start = up dx dy off (x_of ms i).start (y_of ms i).start (x_of ms j).start (y_of ms j).start in
      λ t. record { a = pos 0; b = slope t; c = start t }

  downward : (i j : ℕ) → along (neg_ℤ dx) (neg_ℤ dy) off (x_of ms i) (y_of ms i) ≡ quadratic_sum (along (neg_ℤ dx) (neg_ℤ dy) off (x_of ms j) (y_of ms j)) (polynomial_of ms (Line dx dy (pos 0) i j))
  unfolding polynomial_of
  downward i j =
      let slope = down_slope dx dy (x_of ms i).slope (y_of ms i).slope (x_of ms j).slope (y_of ms j).slope in
      let start = down dx dy off (x_of ms i).start (y_of ms i).start (x_of ms j).start (y_of ms j).start in
      λ t. record { a = pos 0; b = slope t; c = start t }

  -- behind a point that is within the lower side all are
  pub lower_side : TurnsOnce (is_at_least ms m dx dy off) false xs
  lower_side p q i j h e f out = at (is_at_least ms m dx dy off i) refl
    where
      at : (b : Bool) → is_at_least ms m dx dy off i ≡ b → b ≡ false
      at false g = refl
      at true g = absurd (let in_j = sum_stays _ _ _ (upward i j) g (forward p q i j h e f) in let clash : true ≡ false = sym in_j ∙ out in cc)

  -- before a point that is within the higher side all are
  pub higher_side : TurnsOnce (is_at_least ms m (neg_ℤ dx) (neg_ℤ dy) off) true xs
  higher_side p q i j h e f there = sum_stays _ _ _ (downward i j) there (forward p q i j h e f)

-- ---- what meets a test at the places in a span alone
take_nil : (n : ℕ) → take {A = ℕ} n [] ≡ []
take_nil zero = refl
take_nil (suc n) = refl

drop_nil : (n : ℕ) → drop {A = ℕ} n [] ≡ []
drop_nil zero = refl
drop_nil (suc n) = refl

less_at_first : (n : ℕ) → nat_lt 0 (suc n) ≡ true
less_at_first n = grind (arith, nat_tests)

less_than_none : (p : ℕ) → nat_lt p 0 ≡ false
less_than_none p = grind (arith, nat_tests)

less_by_one : (p n : ℕ) → nat_lt (suc p) (suc n) ≡ nat_lt p n
less_by_one p n = grind (arith, nat_tests)

up_from_none : (p : ℕ) → nat_le 0 p ≡ true
up_from_none p = grind (arith, nat_tests)

not_up_to_none : (n : ℕ) → nat_le (suc n) 0 ≡ false
not_up_to_none n = grind (arith, nat_tests)

up_by_one : (n p : ℕ) → nat_le (suc n) (suc p) ≡ nat_le n p
up_by_one n p = grind (arith, nat_tests)

never : (b : Bool) → b && false ≡ false
never true = refl
never false = refl

module _ (test : ℕ → Bool) where
  none_meets : (xs : List ℕ) → ((p i : ℕ) → slice_get xs p ≡ Some i → test i ≡ false) → filter test xs ≡ []
  none_meets [] h = refl
  none_meets (x ∷ xs) h = ap (λ b. cond b (x ∷ filter test xs) (filter test xs)) (h 0 x refl) ∙ none_meets xs (λ p i e. h (suc p) i e)

  first_meet : (n : ℕ) (xs : List ℕ) → ((p i : ℕ) → slice_get xs p ≡ Some i → test i ≡ nat_lt p n) → filter test xs ≡ take n xs
  first_meet n [] h = sym (take_nil n)
  first_meet zero (x ∷ xs) h = none_meets (x ∷ xs) (λ p i e. h p i e ∙ less_than_none p)
  first_meet (suc n) (x ∷ xs) h =
      ap (λ b. cond b (x ∷ filter test xs) (filter test xs)) (h 0 x refl ∙ less_at_first n)
      ∙ ap (λ ys. x ∷ ys) (first_meet n xs (λ p i e. h (suc p) i e ∙ less_by_one p n))

  middle_meet : (from to : ℕ) (xs : List ℕ) → ((p i : ℕ) → slice_get xs p ≡ Some i → test i ≡ nat_le from p && nat_lt p to) → filter test xs ≡ slice_range xs from to
  middle_meet from to [] h = sym (ap (take (to - from)) (drop_nil from) ∙ take_nil (to - from))
  middle_meet zero to (x ∷ xs) h =
      let all : to ≡ to - 0 = omega arith in
      first_meet to (x ∷ xs) (λ p i e. h p i e ∙ ap (λ b. b && nat_lt p to) (up_from_none p)) ∙ ap (λ n. take n (x ∷ xs)) all
  middle_meet (suc from) zero (x ∷ xs) h =
      let none : 0 ≡ 0 - suc from = omega arith in
      none_meets (x ∷ xs) (λ p i e. h p i e ∙ ap (λ b. nat_le (suc from) p && b) (less_than_none p) ∙ never (nat_le (suc from) p)) ∙ ap (λ n. take n (drop from xs)) none
  middle_meet (suc from) (suc to) (x ∷ xs) h =
      ap (λ b. cond b (x ∷ filter test xs) (filter test xs)) (h 0 x refl ∙ ap (λ b. b && nat_lt 0 (suc to)) (not_up_to_none from))
      ∙ middle_meet from to xs (λ p i e. h (suc p) i e ∙ ap₂ (λ a b. a && b) (up_by_one from p) (less_by_one p to))
      ∙ ap (λ n. take n (drop from xs)) (let same : to - from ≡ suc to - suc from = omega arith in same)

-- the items that meet the test are those of the span
pub span_has : (test : ℕ → Bool) (xs : List ℕ) (s : Span) → IsSpanOf test xs s → filter test xs ≡ slice_range xs s.from s.to
span_has test xs s h = middle_meet test s.from s.to xs h.each

-- what meets both tests, one after the other
pub filter_both : (test check : ℕ → Bool) (xs : List ℕ) → filter check (filter test xs) ≡ filter (λ i. test i && check i) xs
filter_both test check [] = refl
filter_both test check (x ∷ xs) = at (test x) (filter_both test check xs)
  where
    at : (b : Bool) → filter check (filter test xs) ≡ filter (λ i. test i && check i) xs
        → filter check (cond b (x ∷ filter test xs) (filter test xs)) ≡ cond (b && check x) (x ∷ filter (λ i. test i && check i) xs) (filter (λ i. test i && check i) xs)
    at true rest = ap (λ ys. cond (check x) (x ∷ ys) ys) rest
    at false rest = rest

in_turn : (a b : Bool) → a && b ≡ b && a
in_turn true true = refl
in_turn true false = refl
in_turn false true = refl
in_turn false false = refl

-- of a list without some, those in a span: what is picked from the span of one order by the places in another one
pub picked_from : (test check : ℕ → Bool) (xs picked : List ℕ) (s : Span) → IsSpanOf test xs s → picked ≡ filter check (slice_range xs s.from s.to) → picked ≡ filter (λ i. test i && check i) xs
picked_from test check xs picked s h e = e ∙ ap (filter check) (sym (span_has test xs s h)) ∙ filter_both test check xs

pub picked_from_other : (test check : ℕ → Bool) (xs picked : List ℕ) (s : Span) → IsSpanOf check xs s → picked ≡ filter test (slice_range xs s.from s.to) → picked ≡ filter (λ i. test i && check i) xs
picked_from_other test check xs picked s h e = picked_from check test xs picked s h e ∙ filter_agree _ _ (λ i. in_turn (check i) (test i)) xs

-- ---- within all four sides is on or within the border
module _ (ms : List (Option Course)) (m : Moment) (r : Rect) where
  regrouped : (a b c : Bool) → a && (b && c) ≡ a && b && c
  regrouped true b c = refl
  regrouped false b c = refl

  pub inside_by_sides : (xs : List ℕ) → filter (λ i. (is_within ms m (left_of r) i && is_within ms m (right_of r) i) && (is_within ms m (bottom_of r) i && is_within ms m (top_of r) i)) xs ≡ filter (is_inside ms m r) xs
  inside_by_sides xs = filter_agree _ _ (λ i. regrouped (is_within ms m (left_of r) i && is_within ms m (right_of r) i) (is_within ms m (bottom_of r) i) (is_within ms m (top_of r) i)) xs

-- ---- what a part of a list has, the list has
part_of_list : (xs : List ℕ) (from to i : ℕ) → Contains (slice_range xs from to) i → Contains xs i
part_of_list xs from to i h =
    let behind = subst (λ ys. Contains ys i) (take-append-drop (to - from) (drop from xs)) (Contains-append_left (take (to - from) (drop from xs)) (drop (to - from) (drop from xs)) i h) in
    subst (λ ys. Contains ys i) (take-append-drop from xs) (Contains-append_right (take from xs) (drop from xs) i behind)

-- so a number in a part of one list is in the other list, too
pub part_in_other : (xs ys : List ℕ) (from to : ℕ) → ((i : ℕ) → is_in i xs ≡ true → is_in i ys ≡ true) → (i : ℕ) → Contains (slice_range xs from to) i → is_in i ys ≡ true
part_in_other xs ys from to alike i h = alike i (in_from_contains xs i (part_of_list xs from to i h))
