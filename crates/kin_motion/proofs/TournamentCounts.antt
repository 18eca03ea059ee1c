-- A tournament has fewer matches than slots that hold something.
use Rattle.std.proofs.Common.{◌≡◌, ◌⊎◌, inl, inr, refl, sym, ap, ◌∙◌, subst, arith, List, [], ◌∷◌, ℕ, zero, suc, ◌+◌, ◌*◌, ◌-◌, ◌/◌, ◌^◌, ◌<◌, ◌≤◌, length, map, true, nat_eq}
use Rattle.std.specs.Prelude.{Option, Some, None, Contains}
use Rattle.std.proofs.lemmas.Bool.{or_cases}
use Rattle.std.proofs.lemmas.Bool.Decides.{nat_tests}
use Rattle.std.proofs.lemmas.List.{length-map}
use Rattle.std.proofs.Math.Pow.{pow_pos}
use Rattle.kin_algebra.proofs.Members.{contains_none, contains_head}
use Rattle.kin_motion.specs.declared.fact.Placed.{Placed}
use Rattle.kin_motion.specs.Scene.{Scene}
use Rattle.kin_motion.specs.Tournaments.{Key, item_in, comes_to, is_under, items_under, better_of, best_of, node_fact, tournament_facts}
use Rattle.kin_motion.proofs.SetLaws.{contains_map}
use Rattle.kin_motion.proofs.TournamentLaws.{is_under-halves}
use Rattle.kin_motion.proofs.UnderNodes.{under_root}
use Rattle.kin_motion.proofs.NodeLaws.{not_above, within_slots, under-sound, under-complete}
use Rattle.kin_motion.proofs.NodeSums.{sum_from, length_in_turn, matches_at_most, ones_at_most}

-- 1 where the list has something
abbrev some : {A : Type 0} → List A → ℕ
some [] = 0
some (x ∷ xs) = 1

one_at_most : {A : Type 0} (xs : List A) → some xs ≤ 1
one_at_most [] = omega arith
one_at_most (x ∷ xs) = omega arith

first_of : {A : Type 0} (xs : List A) → 1 ≤ some xs → (x : A) × Contains xs x
first_of [] h = absurd (omega (arith, h))
first_of (x ∷ xs) h = (x, contains_head x xs)

-- where all that a list has is in one of two others, and both have nothing, it has nothing
some_in_halves : {A : Type 0} (xs ys zs : List A) → ((z : A) → Contains zs z → Contains xs z ⊎ Contains ys z) → some zs ≤ some xs + some ys
some_in_halves {A} xs ys [] h = omega arith
some_in_halves {A} (x ∷ xs) ys (z ∷ zs) h = omega arith
some_in_halves {A} [] (y ∷ ys) (z ∷ zs) h = omega arith
some_in_halves {A} [] [] (z ∷ zs) h = absurd (at (h z (contains_head z zs)))
  where
    at : Contains [] z ⊎ Contains [] z → ⊥
    at (inl c) = contains_none z c
    at (inr c) = contains_none z c

-- a slot is under no other leaf than its own
own_leaf : (size i k : ℕ) → k < 2 ^ size → is_under size (2 ^ size + i) k ≡ true → i ≡ k
own_leaf zero i k low e = let f : 2 ^ zero + k ≡ 2 ^ zero + i = grind (arith, nat_tests, e) in omega (arith, f)
own_leaf (suc h) i k low e = at (or_cases (nat_eq (2 ^ suc h + k) (2 ^ suc h + i)) (comes_to h ((2 ^ suc h + k) / 2) (2 ^ suc h + i)) e)
  where
    at : (nat_eq (2 ^ suc h + k) (2 ^ suc h + i) ≡ true) ⊎ (comes_to h ((2 ^ suc h + k) / 2) (2 ^ suc h + i) ≡ true) → i ≡ k
    at (inl f) = let g : 2 ^ suc h + k ≡ 2 ^ suc h + i = grind (arith, nat_tests, f) in omega (arith, g)
    at (inr f) = let below = not_above h ((2 ^ suc h + k) / 2) (2 ^ suc h + i) f in absurd (omega (arith, below, low))

module _ {Item : Type 0} (s : Scene) (key : Key Item) where
  no_match : (v : ℕ) (x : Item) (o : Option Item) → length (node_fact s key v (better_of s key x o) None) ≡ 0
  no_match v x None = refl
  no_match v x (Some b) = refl

  one_match : (v : ℕ) (x y : Item) (o p : Option Item) → length (node_fact s key v (better_of s key x o) (better_of s key y p)) ≡ 1
  one_match v x y None None = refl
  one_match v x y None (Some b) = refl
  one_match v x y (Some a) None = refl
  one_match v x y (Some a) (Some b) = refl

  -- there is a match only where both halves have something
  match_count : (v : ℕ) (xs ys zs : List Item) → ((z : Item) → Contains zs z → Contains xs z ⊎ Contains ys z)
      → length (node_fact s key v (best_of s key xs) (best_of s key ys)) + some zs ≤ some xs + some ys
  match_count v [] ys zs h = let few = some_in_halves [] ys zs h in omega (arith, few)
  match_count v (x ∷ xs) [] zs h = let none = no_match v x (best_of s key xs) in let few = one_at_most zs in omega (arith, none, few)
  match_count v (x ∷ xs) (y ∷ ys) zs h = let one = one_match v x y (best_of s key xs) (best_of s key ys) in let few = one_at_most zs in omega (arith, one, few)

  module _ (size : ℕ) (slots : List (Option Item)) (fits : length slots ≤ 2 ^ size) where
    abbrev held : ℕ → ℕ
    held v = some (items_under size v slots)

    abbrev facts_at : ℕ → List Placed
    facts_at v = node_fact s key v (best_of s key (items_under size (2 * v) slots)) (best_of s key (items_under size (2 * v + 1) slots))

    in_a_half : (v : ℕ) → 1 ≤ v → v < 2 ^ size → (z : Item) → Contains (items_under size v slots) z
        → Contains (items_under size (2 * v) slots) z ⊎ Contains (items_under size (2 * v + 1) slots) z
    in_a_half v low inner z c =
        let r = under-sound size v slots z c in
        let within = within_slots slots r.0 z r.2 in
        at r.0 r.2 (or_cases (is_under size (2 * v) r.0) (is_under size (2 * v + 1) r.0) (sym (is_under-halves size v r.0 (omega (arith, low)) inner (omega (arith, within, fits))) ∙ r.1))
      where
        at : (k : ℕ) → item_in slots k ≡ Some z → (is_under size (2 * v) k ≡ true) ⊎ (is_under size (2 * v + 1) k ≡ true)
            → Contains (items_under size (2 * v) slots) z ⊎ Contains (items_under size (2 * v + 1) slots) z
        at k e (inl u) = inl (under-complete size (2 * v) slots k z u e)
        at k e (inr u) = inr (under-complete size (2 * v + 1) slots k z u e)

    -- all matches, and one more where anything is held, are at most as many as the places that hold something
    matches_and_one : (places : List ℕ) → ((i : ℕ) (a : Item) → item_in slots i ≡ Some a → Contains places i)
        → length (tournament_facts s key size slots) + held 1 ≤ length places
    matches_and_one places there =
        let total = length_in_turn facts_at 1 (2 ^ size - 1) in
        let positive = pow_pos size in
        let all : 1 + (2 ^ size - 1) ≡ 2 ^ size = omega (arith, positive) in
        let up = matches_at_most (λ v. length (facts_at v)) held (2 ^ size - 1)
        (λ v low high. match_count v (items_under size (2 * v) slots) (items_under size (2 * v + 1) slots) (items_under size v slots) (in_a_half v low (omega (arith, high, all)))) in
        let same : sum_from held (1 + (2 ^ size - 1)) (1 + (2 ^ size - 1)) ≡ sum_from held (2 ^ size) (2 ^ size) = ap (λ n. sum_from held n n) all in
        let leaves = ones_at_most held (λ v. one_at_most (items_under size v slots)) (2 ^ size) (2 ^ size) (map (λ i. 2 ^ size + i) places) leaf_there in
        let count = length-map places (λ i. 2 ^ size + i) in
        omega (arith, total, up, same, leaves, count)
      where
        leaf_there : (v : ℕ) → 2 ^ size ≤ v → v < 2 ^ size + 2 ^ size → 1 ≤ held v → Contains (map (λ i. 2 ^ size + i) places) v
        leaf_there v low high one =
            let first = first_of (items_under size v slots) one in
            let r = under-sound size v slots first.0 first.1 in
            let within = within_slots slots r.0 first.0 r.2 in
            let leaf : v ≡ 2 ^ size + (v - 2 ^ size) = omega (arith, low) in
            let own : v - 2 ^ size ≡ r.0 = own_leaf size (v - 2 ^ size) r.0 (omega (arith, within, fits)) (sym (ap (λ u. is_under size u r.0) leaf) ∙ r.1) in
            let same : 2 ^ size + r.0 ≡ v = omega (arith, leaf, own) in
            subst (λ u. Contains (map (λ i. 2 ^ size + i) places) u) same (contains_map (λ i. 2 ^ size + i) places r.0 (there r.0 first.0 r.2))

    -- matches are one fewer than the places that hold something
    pub tournament_count : (places : List ℕ) → ((i : ℕ) (a : Item) → item_in slots i ≡ Some a → Contains places i)
        → length (tournament_facts s key size slots) ≤ length places - 1
    tournament_count places there = at (items_under size 1 slots) refl
      where
        at : (xs : List Item) → items_under size 1 slots ≡ xs → length (tournament_facts s key size slots) ≤ length places - 1
        at (x ∷ xs) e =
            let all = matches_and_one places there in
            let one : held 1 ≡ 1 = ap some e in
            omega (arith, all, one)
        at [] e =
            let none = matches_and_one [] (λ i a h.
            let within = within_slots slots i a h in
            absurd (contains_none a (subst (λ (ys : List Item). Contains ys a) e (under-complete size 1 slots i a (under_root size i (omega (arith, within, fits))) h)))) in
            omega (arith, none)
