-- The greatest numbers that the worked structures may ask.
use Rattle.std.proofs.Common.{◌≡◌, ◌⊎◌, inl, inr, refl, sym, ap, ◌∙◌, subst, arith, List, [], ◌∷◌, ℕ, ◌+◌, ◌*◌, ◌%◌, ◌^◌, ◌<◌, ◌≤◌, Bool, true, false, not, nat_eq, nat_lt, pos}
use Rattle.std.specs.Prelude.{Option, Contains, sum_by}
use Rattle.std.specs.Int.{IsGcd}
use Rattle.std.proofs.lemmas.Bool.{both_ways, cases_lt}
use Rattle.std.proofs.lemmas.Int.{ints}
use Rattle.std.proofs.lemmas.Nat.{pow_below}
use Rattle.std.proofs.lemmas.Nat.Gcd.{IsGcd-from_mod, IsGcd-from_zero}
use Rattle.kin_algebra.proofs.Tests.{or_exchanged}
use Rattle.kin_algebra.specs.declared.sign.Sign.TheVariants.{Plus}
use Rattle.kin_num.specs.Canonical.{IsCanonical}
use Rattle.kin_num.specs.Instants.{sign_at, sign_at_instant}
use Rattle.kin_motion.specs.declared.fact.Placed.{Placed}
use Rattle.kin_motion.specs.declared.form.Form.{Form}
use Rattle.kin_motion.specs.declared.form.Form.TheVariants.{Line}
use Rattle.kin_motion.specs.declared.keep.Keep.TheVariants.{Order}
use Rattle.kin_motion.specs.Course.{Course}
use Rattle.kin_motion.specs.Extremes.{IsExtremeFact, extreme_facts}
use Rattle.kin_motion.specs.Forms.{polynomial_of, sign_of_form}
use Rattle.kin_motion.specs.Journal.{same_sign}
use Rattle.kin_motion.specs.Numbers.{HasEntered}
use Rattle.kin_motion.specs.Octants.{Direction, direction}
use Rattle.kin_motion.specs.Orders.{IsOrderFact, order_facts}
use Rattle.kin_motion.specs.Scene.{Scene, IsReal, scene_at}
use Rattle.kin_motion.specs.Sets.{ListsExactly}
use Rattle.kin_motion.specs.Spending.{MayBisect, IsChangeCount, HasFailed, IsFactAlong, moved_along}
use Rattle.kin_motion.proofs.ClosestFactLaws.{order_facts_agree}
use Rattle.kin_motion.proofs.ExtremeFactLaws.{extreme_facts_agree}
use Rattle.kin_motion.proofs.LiveFactLaws.{differs, differ}
use Rattle.kin_motion.proofs.SetLaws.{contains_none, contains_cases, exactly_in_words, exactly_none}
use Rattle.kin_motion.proofs.SpendingLaws.{fact_along}
use Rattle.kin_rows.specs.Asking.{AsksAtMost, AskingRows, alone}
use Rattle.kin_rows.specs.Orders.{crossing, three}
use Rattle.kin_rows.specs.Settings.{at, fact}
use Rattle.kin_rows.proofs.AskingLaws.{AreMostHalvings, AreMostMarks, all_changed, none_changed, no_halvings, no_marks, orders_ask, extreme_asks}

-- ---- the scenes are real
canonical : (n : ℕ) → n % 1 ≡ 0 → n ≤ 2 ^ 31 → IsCanonical (at (pos n)).at
canonical n whole low = record {
  form = record { positive = omega (arith, ints); lowest = IsGcd-from_mod n 1 1 (subst (λ m. IsGcd 1 m 1) (sym whole) (IsGcd-from_zero 1 0 refl)) };
  small = record { n_small = low; d_small = omega arith };
}

real : (ms : List (Option Course)) (n : ℕ) → n % 1 ≡ 0 → n ≤ 2 ^ 31 → IsReal (scene_at ms (at (pos n)))
real ms n whole low = record { motions = ms; moment = at (pos n); canonical = canonical n whole low; live = refl; sign = λ f. refl }

abbrev three_at : ℕ → Scene
three_at n = scene_at three (at (pos n))

abbrev alone_4 : Scene
alone_4 = scene_at alone (at (pos 4))

abbrev crossing_4 : Scene
crossing_4 = scene_at crossing (at (pos 4))

-- ---- the facts of the orders
abbrev right : Direction
right = direction (pos 1) (pos 0)

abbrev ways : List Direction
ways = right ∷ []

abbrev gap : ℕ → ℕ → Form
gap i j = Line (pos 1) (pos 0) (pos 0) i j

abbrev rising : List Placed
rising = fact 0 (gap 0 1) Plus ∷ fact 0 (gap 1 2) Plus ∷ []

abbrev falling : List Placed
falling = fact 0 (gap 2 1) Plus ∷ fact 0 (gap 1 0) Plus ∷ []

abbrev first_gap : List Placed
first_gap = fact 0 (gap 0 1) Plus ∷ []

facts_3 : order_facts (three_at 3) (pos 1) (pos 0) 0 ≡ rising
unfolding sign_of_form polynomial_of sign_at sign_at_instant
facts_3 = refl

facts_4 : order_facts (three_at 4) (pos 1) (pos 0) 0 ≡ rising
unfolding sign_of_form polynomial_of sign_at sign_at_instant
facts_4 = refl

facts_6 : order_facts (three_at 6) (pos 1) (pos 0) 0 ≡ falling
unfolding sign_of_form polynomial_of sign_at sign_at_instant
facts_6 = refl

facts_alone : order_facts alone_4 (pos 1) (pos 0) 0 ≡ []
unfolding sign_of_form polynomial_of sign_at sign_at_instant
facts_alone = refl

facts_crossing : order_facts crossing_4 (pos 1) (pos 0) 0 ≡ first_gap
unfolding sign_of_form polynomial_of sign_at sign_at_instant
facts_crossing = refl

along : (s : Scene) (xs : List Placed) → IsReal s → order_facts s (pos 1) (pos 0) 0 ≡ xs → ListsExactly xs (IsFactAlong ways s)
along s xs is_real same = exactly_in_words xs (IsOrderFact s (pos 1) (pos 0) 0) (IsFactAlong ways s) (fact_along right s) (subst (λ (ys : List Placed). ListsExactly ys (IsOrderFact s (pos 1) (pos 0) 0)) same (order_facts_agree s (pos 1) (pos 0) 0 is_real))

-- whether the second number of a line is the greater one
rises : Form → Bool
rises (Line dx dy off i j) = nat_lt i j
rises _ = false

test_of_two : (test : Placed → Bool) (b : Bool) (x y z : Placed) → test x ≡ b → test y ≡ b → Contains (x ∷ y ∷ []) z → test z ≡ b
test_of_two test b x y z e f h = at (contains_cases x z (y ∷ []) h)
  where
    second : (y ≡ z) ⊎ Contains [] z → test z ≡ b
    second (inl same) = sym (ap test same) ∙ f
    second (inr k) = absurd (contains_none z k)

    at : (x ≡ z) ⊎ Contains (y ∷ []) z → test z ≡ b
    at (inl same) = sym (ap test same) ∙ e
    at (inr k) = second (contains_cases y z [] k)

apart : (p : Placed) → Contains rising p → Contains falling p → ⊥
unfolding rises
apart p h k =
    both_ways (rises p.fact.form) (test_of_two (λ (q : Placed). rises q.fact.form) false (fact 0 (gap 2 1) Plus) (fact 0 (gap 1 0) Plus) p refl refl k)
    (test_of_two (λ (q : Placed). rises q.fact.form) true (fact 0 (gap 0 1) Plus) (fact 0 (gap 1 2) Plus) p refl refl h)

-- ---- a number enters beside another
entered : HasEntered 1 (0 ∷ []) (0 ∷ 1 ∷ [])
entered = record { absent = refl; lists = record { once = (refl, (refl, tt)); same = λ i. or_exchanged (nat_eq i 1) (nat_eq i 0) false } }

two_halvings : AreMostHalvings alone_4 crossing_4 2
two_halvings = (inr (1, entered, omega arith), most)
  where
    most : (j : ℕ) → MayBisect alone_4 crossing_4 j → j ≤ 2
    most j (inl e) = omega (arith, e)
    most j (inr (i, enters, power)) = few (cases_lt 2 j)
      where
        few : (2 < j) ⊎ (j ≤ 2) → j ≤ 2
        few (inl more) = let great = pow_below 2 j more in absurd (omega (arith, great, power))
        few (inr le) = le

one_mark : AreMostMarks alone_4 crossing_4 1
one_mark = (inr (refl, (1, inl entered)), most)
  where
    most : (j : ℕ) → IsChangeCount alone_4.live crossing_4.live j → j ≤ 1
    most j (inl e) = omega (arith, e)
    most j (inr h) = let e = h.0 in omega (arith, e)

-- ---- orders
three_moved : 8 * (2 + 2 + sum_by (moved_along (three_at 4) (three_at 6)) ways) + 1 * 0 ≡ 56
unfolding sign_of_form polynomial_of sign_at sign_at_instant
three_moved = refl

none_moved : 8 * (0 + 0 + sum_by (moved_along (three_at 3) (three_at 4)) ways) + 1 * 0 ≡ 0
unfolding sign_of_form polynomial_of sign_at sign_at_instant
none_moved = refl

one_born : 8 * (0 + 1 + sum_by (moved_along alone_4 crossing_4) ways) + 1 * 2 ≡ 10
unfolding sign_of_form polynomial_of sign_at sign_at_instant
one_born = refl

three_order : AsksAtMost 2 (Order (pos 1) (pos 0)) (three_at 4) (three_at 6) 56
three_order = orders_ask ways (three_at 4) (three_at 6) (record { dropped = rising; born = falling }) 0 56
    (all_changed rising falling _ _ (along (three_at 4) rising (real three 4 refl (omega arith)) facts_4) (along (three_at 6) falling (real three 6 refl (omega arith)) facts_6) apart)
    (no_halvings (three_at 4) (three_at 6) refl) three_moved

still_order : AsksAtMost 2 (Order (pos 1) (pos 0)) (three_at 3) (three_at 4) 0
still_order = orders_ask ways (three_at 3) (three_at 4) (record { dropped = []; born = [] }) 0 0
    (none_changed rising rising _ _ (along (three_at 3) rising (real three 3 refl (omega arith)) facts_3) (along (three_at 4) rising (real three 4 refl (omega arith)) facts_4) refl)
    (no_halvings (three_at 3) (three_at 4) refl) none_moved

entered_order : AsksAtMost 1 (Order (pos 1) (pos 0)) alone_4 crossing_4 10
entered_order = orders_ask ways alone_4 crossing_4 (record { dropped = []; born = first_gap }) 2 10
    (all_changed [] first_gap _ _ (along alone_4 [] (real alone 4 refl (omega arith)) facts_alone) (along crossing_4 first_gap (real crossing 4 refl (omega arith)) facts_crossing) (λ p h k. contains_none p h))
    two_halvings one_born

-- ---- extreme points
abbrev matches : List Placed
matches = fact 1 (gap 1 2) Plus ∷ fact 2 (gap 0 1) Plus ∷ []

matches_3 : extreme_facts 2 (three_at 3) (pos 1) (pos 0) ≡ matches
unfolding sign_of_form polynomial_of sign_at sign_at_instant
matches_3 = refl

matches_4 : extreme_facts 2 (three_at 4) (pos 1) (pos 0) ≡ matches
unfolding sign_of_form polynomial_of sign_at sign_at_instant
matches_4 = refl

matches_alone : extreme_facts 1 alone_4 (pos 1) (pos 0) ≡ []
unfolding sign_of_form polynomial_of sign_at sign_at_instant
matches_alone = refl

played : (size : ℕ) (s : Scene) (xs : List Placed) → IsReal s → extreme_facts size s (pos 1) (pos 0) ≡ xs → ListsExactly xs (IsExtremeFact size s (pos 1) (pos 0))
played size s xs is_real same = subst (λ (ys : List Placed). ListsExactly ys (IsExtremeFact size s (pos 1) (pos 0))) same (extreme_facts_agree size s (pos 1) (pos 0) is_real)

-- whether a fact fails in a scene
abbrev fails_in : Scene → Placed → Bool
fails_in s p = not (same_sign (s.sign p.fact.form) p.fact.sign)

fail_6 : (p : Placed) → Contains matches p → fails_in (three_at 6) p ≡ true
unfolding sign_of_form polynomial_of sign_at sign_at_instant
fail_6 p h = test_of_two (fails_in (three_at 6)) true (fact 1 (gap 1 2) Plus) (fact 2 (gap 0 1) Plus) p refl refl h

both_failed : ListsExactly matches (HasFailed (IsExtremeFact 2 (three_at 4) (pos 1) (pos 0)) (three_at 4) (three_at 6))
both_failed =
    let known = played 2 (three_at 4) matches (real three 4 refl (omega arith)) matches_4 in
    exactly_in_words matches (IsExtremeFact 2 (three_at 4) (pos 1) (pos 0)) (HasFailed (IsExtremeFact 2 (three_at 4) (pos 1) (pos 0)) (three_at 4) (three_at 6))
    (λ p. ((λ h. record { was = h; stays = λ i named there. there; fails = differs _ _ (fail_6 p ((known.each p).1 h)) }), (λ h. h.was))) known

hold_4 : (p : Placed) → Contains matches p → fails_in (three_at 4) p ≡ false
unfolding sign_of_form polynomial_of sign_at sign_at_instant
hold_4 p h = test_of_two (fails_in (three_at 4)) false (fact 1 (gap 1 2) Plus) (fact 2 (gap 0 1) Plus) p refl refl h

none_failed : ListsExactly [] (HasFailed (IsExtremeFact 2 (three_at 3) (pos 1) (pos 0)) (three_at 3) (three_at 4))
none_failed =
    let known = played 2 (three_at 3) matches (real three 3 refl (omega arith)) matches_3 in
    exactly_none (HasFailed (IsExtremeFact 2 (three_at 3) (pos 1) (pos 0)) (three_at 3) (three_at 4)) (λ p h. both_ways (fails_in (three_at 4) p) (hold_4 p ((known.each p).1 h.was)) (differ _ _ h.fails))

none_played : ListsExactly [] (HasFailed (IsExtremeFact 1 alone_4 (pos 1) (pos 0)) alone_4 crossing_4)
none_played =
    let known = played 1 alone_4 [] (real alone 4 refl (omega arith)) matches_alone in
    exactly_none (HasFailed (IsExtremeFact 1 alone_4 (pos 1) (pos 0)) alone_4 crossing_4) (λ p h. contains_none p ((known.each p).1 h.was))

pub asking_rows : AskingRows
asking_rows = record {
  three_order = three_order;
  still_order = still_order;
  entered_order = entered_order;
  three_extreme = extreme_asks 2 right (three_at 4) (three_at 6) matches 0 4 both_failed (no_marks (three_at 4) (three_at 6) refl) refl;
  entered_extreme = extreme_asks 1 right alone_4 crossing_4 [] 1 1 none_played one_mark refl;
  still_extreme = extreme_asks 2 right (three_at 3) (three_at 4) [] 0 0 none_failed (no_marks (three_at 3) (three_at 4) refl) refl;
}
