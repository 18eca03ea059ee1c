-- A merge has at most twice as many facts as its chains have points, and on one level of a tree all chains together have at most the live points.
use Rattle.std.proofs.Common.{◌≡◌, refl, ap, arith, List, [], ◌∷◌, ◌++◌, ℕ, suc, ◌+◌, ◌*◌, ◌-◌, ◌^◌, ◌<◌, ◌≤◌, length, map, Bool, true, false, cond, ◌||◌, pos}
use Rattle.std.specs.Prelude.{Contains, filter}
use Rattle.std.proofs.lemmas.List.{length-append, length-map}
use Rattle.std.proofs.lemmas.List.Sums.{length-filter, count_by-le-length}
use Rattle.std.proofs.lemmas.Nat.{mul-le}
use Rattle.std.proofs.Math.Pow.{pow_pos}
use Rattle.kin_algebra.proofs.Members.{contains_head, contains_tail}
use Rattle.kin_motion.specs.declared.form.Form.TheVariants.{Line}
use Rattle.kin_motion.specs.Scene.{Scene, x_sign, placed_at, reflected}
use Rattle.kin_motion.specs.Chains.{is_zero, is_left, is_bare, upper_chain_of}
use Rattle.kin_motion.specs.Tournaments.{is_under}
use Rattle.kin_motion.specs.Merges.{Half.{A, B}, Half, Breakpoint, breakpoints_of, is_of, is_placed_before, put_before, merged, breakpoint_list, slope_form, slope_between, slopes_from, end_forms, last_of, forms_of_ends, current_after, turns_from, forms_of_merge, forms_of_chains, points_under, node_forms, hull_facts_of_node, hull_facts}
use Rattle.kin_motion.specs.Agreements.{FitsSize}
use Rattle.kin_motion.proofs.Members.{in_from_contains}
use Rattle.kin_motion.proofs.OrderCounts.{sorted-length}
use Rattle.kin_motion.proofs.TournamentLaws.{is_under-halves}
use Rattle.kin_motion.proofs.NodeLaws.{not_both_halves}
use Rattle.kin_motion.proofs.NodeSums.{length_in_turn, sum_at_most, sum_times, levels_at_most}

pub filter_at_most : {A : Type 0} (test : A → Bool) (xs : List A) → length (filter test xs) ≤ length xs
filter_at_most test xs = let e = length-filter test xs in let few = count_by-le-length test xs in omega (arith, e, few)

-- ---- one merge
pub breakpoints-length : (h : Half) (p : ℕ) (ps : List ℕ) → length (breakpoints_of h (p ∷ ps)) ≡ length ps
breakpoints-length h p [] = refl
breakpoints-length h p (q ∷ qs) = ap suc (breakpoints-length h q qs)

module _ (s : Scene) where
  put-length : (e : Breakpoint) (fs : List Breakpoint) → length (put_before s e fs) ≡ suc (length fs)
  put-length e [] = refl
  put-length e (f ∷ fs) = at (is_placed_before s e f) (put-length e fs)
    where
      at : (b : Bool) → length (put_before s e fs) ≡ suc (length fs) → length (cond b (e ∷ f ∷ fs) (f ∷ put_before s e fs)) ≡ suc (suc (length fs))
      at true h = refl
      at false h = ap suc h

  pub merged-length : (es fs : List Breakpoint) → length (merged s es fs) ≡ length es + length fs
  merged-length [] fs = omega arith
  merged-length (e ∷ es) fs = let one = put-length e (merged s es fs) in let rest = merged-length es fs in omega (arith, one, rest)

  turns-length : (a b : ℕ) (es : List Breakpoint) → length (turns_from a b es) ≡ length es
  turns-length a b [] = refl
  turns-length a b (e ∷ es) = ap suc (turns-length (current_after A e a) (current_after B e b) es)

  between_at_most : (e f : Breakpoint) → length (slope_between e f) ≤ 1
  between_at_most e f = at (is_of e.half f.half)
    where
      at : (b : Bool) → length (cond b [] (slope_form e f ∷ [])) ≤ 1
      at true = omega arith
      at false = omega arith

  pub slopes_at_most : (es : List Breakpoint) → length (slopes_from es) ≤ length es
  slopes_at_most [] = omega arith
  slopes_at_most (e ∷ []) = omega arith
  slopes_at_most (e ∷ f ∷ es) =
      let both = length-append (slope_between e f) (slopes_from (f ∷ es)) in
      let one = between_at_most e f in
      let rest = slopes_at_most (f ∷ es) in
      omega (arith, both, one, rest)

  end_at_most : (a b : ℕ) → length (end_forms s a b) ≤ 2
  end_at_most a b = at (is_zero (x_sign s a b))
    where
      at : (t : Bool) → length (Line (pos 1) (pos 0) (pos 0) a b ∷ cond t (Line (pos 0) (pos 1) (pos 0) a b ∷ []) []) ≤ 2
      at true = omega arith
      at false = omega arith

  both_ends : (a p b q : ℕ) → length (end_forms s a b ++ end_forms s p q) ≤ 4
  both_ends a p b q = let both = length-append (end_forms s a b) (end_forms s p q) in let first = end_at_most a b in let last = end_at_most p q in omega (arith, both, first, last)

  ends_at_most : (a : ℕ) (as' : List ℕ) (b : ℕ) (bs : List ℕ) → length (forms_of_ends s a as' b bs) ≤ 4
  ends_at_most a [] b [] = let one = end_at_most a b in omega (arith, one)
  ends_at_most a [] b (q ∷ qs) = both_ends a (last_of a []) b (last_of b (q ∷ qs))
  ends_at_most a (p ∷ ps) b [] = both_ends a (last_of a (p ∷ ps)) b (last_of b [])
  ends_at_most a (p ∷ ps) b (q ∷ qs) = both_ends a (last_of a (p ∷ ps)) b (last_of b (q ∷ qs))

  -- a turn for each breakpoint, a slope at most between each two, and four lines at most at the ends
  chains_count : (a b : List ℕ) → length (forms_of_chains s a b) ≤ 2 * (length a + length b)
  chains_count [] b = omega arith
  chains_count (a ∷ as') [] = omega arith
  chains_count (a ∷ as') (b ∷ bs) = at (breakpoint_list s (a ∷ as') (b ∷ bs)) (merged-length (breakpoints_of A (a ∷ as')) (breakpoints_of B (b ∷ bs)))
    where
      at : (es : List Breakpoint) → length es ≡ length (breakpoints_of A (a ∷ as')) + length (breakpoints_of B (b ∷ bs))
          → length (forms_of_merge s (a ∷ as') (b ∷ bs) es) ≤ 2 * (length (a ∷ as') + length (b ∷ bs))
      at es count =
          let of_a = breakpoints-length A a as' in
          let of_b = breakpoints-length B b bs in
          let all = length-append (turns_from a b es ++ slopes_from es) (forms_of_ends s a as' b bs) in
          let inner = length-append (turns_from a b es) (slopes_from es) in
          let turns = turns-length a b es in
          let slopes = slopes_at_most es in
          let ends = ends_at_most a as' b bs in
          omega (arith, count, of_a, of_b, all, inner, turns, slopes, ends)

  chain_at_most : (set : List ℕ) → length (upper_chain_of s set) ≤ length set
  chain_at_most set = let e = sorted-length (is_left s) (filter (is_bare s set) set) in let few = filter_at_most (is_bare s set) set in omega (arith, e, few)

  node_count : (size v : ℕ) → length (node_forms size s v) ≤ 2 * (length (points_under size s (2 * v)) + length (points_under size s (2 * v + 1)))
  node_count size v =
      let all = chains_count (upper_chain_of s (points_under size s (2 * v))) (upper_chain_of s (points_under size s (2 * v + 1))) in
      let left = chain_at_most (points_under size s (2 * v)) in
      let right = chain_at_most (points_under size s (2 * v + 1)) in
      omega (arith, all, left, right)

-- ---- both trees
-- what passes one of two tests that don't both pass passes a third
filter_in_two : {A : Type 0} (p q r : A → Bool) (xs : List A) → ((z : A) → Contains xs z → (r z ≡ p z || q z) × (p z ≡ true → q z ≡ true → ⊥))
    → length (filter p xs) + length (filter q xs) ≤ length (filter r xs)
filter_in_two {A} p q r [] each = omega arith
filter_in_two {A} p q r (x ∷ xs) each =
    let own = each x (contains_head x xs) in
    at (p x) (q x) (r x) own.0 own.1 (filter_in_two p q r xs (λ z c. each z (contains_tail x z xs c)))
  where
    at : (a b c : Bool) → c ≡ a || b → (a ≡ true → b ≡ true → ⊥) → length (filter p xs) + length (filter q xs) ≤ length (filter r xs)
        → length (cond a (x ∷ filter p xs) (filter p xs)) + length (cond b (x ∷ filter q xs) (filter q xs)) ≤ length (cond c (x ∷ filter r xs) (filter r xs))
    at true true c e apart rest = absurd (apart refl refl)
    at true false true e apart rest = omega (arith, rest)
    at true false false e apart rest = absurd cc
    at false true true e apart rest = omega (arith, rest)
    at false true false e apart rest = absurd cc
    at false false true e apart rest = omega (arith, rest)
    at false false false e apart rest = omega (arith, rest)

module _ (size : ℕ) (s : Scene) (fits : FitsSize size s) where
  -- how many live numbers are under a node
  abbrev count_under : ℕ → ℕ
  count_under v = length (points_under size s v)

  both_count : (v : ℕ) → length (hull_facts_of_node size s v) ≤ 4 * (count_under (2 * v) + count_under (2 * v + 1))
  both_count v =
      let both = length-append (map (placed_at s (2 * v)) (node_forms size s v)) (map (placed_at s (2 * v + 1)) (node_forms size (reflected s) v)) in
      let upper = length-map (node_forms size s v) (placed_at s (2 * v)) in
      let lower = length-map (node_forms size (reflected s) v) (placed_at s (2 * v + 1)) in
      let few_upper = node_count s size v in
      let few_lower = node_count (reflected s) size v in
      omega (arith, both, upper, lower, few_upper, few_lower)

  spread : (v : ℕ) → 1 ≤ v → v < 2 ^ size → count_under (2 * v) + count_under (2 * v + 1) ≤ count_under v
  spread v low high = filter_in_two (is_under size (2 * v)) (is_under size (2 * v + 1)) (is_under size v) s.live (λ i c. (
    is_under-halves size v i (omega (arith, low)) high (fits i (in_from_contains s.live i c)),
    not_both_halves size (2 ^ size + i) v (omega (arith, low)),
  ))

  pub hull_count : length (hull_facts size s) ≤ 4 * length s.live * size
  hull_count =
      let total = length_in_turn (hull_facts_of_node size s) 1 (2 ^ size - 1) in
      let positive = pow_pos size in
      let each = sum_at_most (λ v. length (hull_facts_of_node size s v)) (λ v. 4 * count_under v) 1 (2 ^ size - 1)
      (λ v low high. let own = both_count v in let halves = spread v low (omega (arith, high, positive)) in omega (arith, own, halves)) in
      let four = sum_times 4 count_under 1 (2 ^ size - 1) in
      let levels = levels_at_most count_under size spread in
      let root = mul-le size (count_under 1) size (length s.live) (omega arith) (filter_at_most (is_under size 1) s.live) in
      omega (arith, total, each, four, levels, root)
