-- The overlaps by computation.
use Rattle.std.proofs.Common.{◌≡◌, ◌⊎◌, inl, inr, refl, sym, ap, ap₂, ◌∙◌, subst, arith, List, [], ◌∷◌, ◌++◌, ℕ, ◌+◌, ◌<◌, Bool, true, false, cond, ◌&&◌, nat_lt, nat_eq, map, filter}
use Rattle.std.specs.Prelude.{Contains, Option, Some, None}
use Rattle.std.proofs.lemmas.Bool.{or_cases, or_left, or_right, eqb-true}
use Rattle.std.proofs.lemmas.Bool.Decides.{nat_tests}
use Rattle.std.proofs.lemmas.List.Elements.{Contains-append_left, Contains-append_right, Contains-append_cases}
use Rattle.kin_algebra.proofs.Members.{contains_none, contains_head, contains_tail, contains_cases}
use Rattle.kin_motion.specs.Numbers.{IsChain, filled_from}
use Rattle.kin_motion.proofs.ListChains.{chain_tail, chain_first, same_list}
use Rattle.kin_motion.proofs.Members.{in_from_contains, contains_from_in}
use Rattle.kin_motion.proofs.SetLaws.{contains_map, contains_mapped, filter-sound, filter-complete}
use Rattle.kin_motion.specs.Overlaps.{overlap, pair_before, pairs_of}
use Rattle.kin_motion.specs.BoxTheorems.{OverlapsAgree, OneListOfOverlaps}

pub both_true : (a b : Bool) → a && b ≡ true → (a ≡ true) × (b ≡ true)
both_true true b h = (refl, h)
both_true false b h = absurd cc

-- ---- the order of pairs
before_cases : (p q : ℕ × ℕ) → pair_before p q ≡ true → (p.0 < q.0) ⊎ ((p.0 ≡ q.0) × (p.1 < q.1))
before_cases p q h = at (or_cases (nat_lt p.0 q.0) (nat_eq p.0 q.0 && nat_lt p.1 q.1) h)
  where
    at : (nat_lt p.0 q.0 ≡ true) ⊎ (nat_eq p.0 q.0 && nat_lt p.1 q.1 ≡ true) → (p.0 < q.0) ⊎ ((p.0 ≡ q.0) × (p.1 < q.1))
    at (inl k) = inl (grind (arith, nat_tests, k))
    at (inr k) = let b = both_true (nat_eq p.0 q.0) (nat_lt p.1 q.1) k in let l = b.1 in inr (eqb-true p.0 q.0 b.0, grind (arith, nat_tests, l))

before_from : (p q : ℕ × ℕ) → (p.0 < q.0) ⊎ ((p.0 ≡ q.0) × (p.1 < q.1)) → pair_before p q ≡ true
before_from p q (inl l) = or_left (nat_lt p.0 q.0) (nat_eq p.0 q.0 && nat_lt p.1 q.1) (let g : nat_lt p.0 q.0 ≡ true = grind (arith, nat_tests, l) in g)
before_from p q (inr (e, l)) = or_right (nat_lt p.0 q.0) (nat_eq p.0 q.0 && nat_lt p.1 q.1)
    (ap₂ (λ a b. a && b) (let g : nat_eq p.0 q.0 ≡ true = grind (arith, nat_tests, e) in g)
    (let g : nat_lt p.1 q.1 ≡ true = grind (arith, nat_tests, l) in g))

never : (p : ℕ × ℕ) → pair_before p p ≡ true → ⊥
never p h = at (before_cases p p h)
  where
    at : (p.0 < p.0) ⊎ ((p.0 ≡ p.0) × (p.1 < p.1)) → ⊥
    at (inl l) = omega (arith, l)
    at (inr (e, l)) = omega (arith, l)

through : (p q r : ℕ × ℕ) → pair_before p q ≡ true → pair_before q r ≡ true → pair_before p r ≡ true
through p q r h k = before_from p r (at (before_cases p q h) (before_cases q r k))
  where
    at : (p.0 < q.0) ⊎ ((p.0 ≡ q.0) × (p.1 < q.1)) → (q.0 < r.0) ⊎ ((q.0 ≡ r.0) × (q.1 < r.1)) → (p.0 < r.0) ⊎ ((p.0 ≡ r.0) × (p.1 < r.1))
    at (inl l) (inl m) = inl (omega (arith, l, m))
    at (inl l) (inr (f, m)) = inl (omega (arith, l, f))
    at (inr (e, l)) (inl m) = inl (omega (arith, e, m))
    at (inr (e, l)) (inr (f, m)) = inr (e ∙ f, omega (arith, l, m))

pub one_list : OneListOfOverlaps
one_list s width height ps qs a b = same_list pair_before never through ps qs a.rising b.rising
    (λ p c. (b.each p).1 ((a.each p).0 c)) (λ p c. (a.each p).1 ((b.each p).0 c))

-- ---- lists that rise
in_front : {A : Type 0} (lt : A → A → Bool) (x : A) (xs : List A) → IsChain lt xs → ((y : A) → Contains xs y → lt x y ≡ true) → IsChain lt (x ∷ xs)
in_front {A} lt x [] c h = tt
in_front {A} lt x (y ∷ ys) c h = (h y (contains_head y ys), c)

joined : {A : Type 0} (lt : A → A → Bool) (xs ys : List A) → IsChain lt xs → IsChain lt ys
    → ((x y : A) → Contains xs x → Contains ys y → lt x y ≡ true) → IsChain lt (xs ++ ys)
joined {A} lt [] ys c d h = d
joined {A} lt (x ∷ []) ys c d h = in_front lt x ys d (λ y k. h x y (contains_head x []) k)
joined {A} lt (x ∷ z ∷ zs) ys c d h = (c.0, joined lt (z ∷ zs) ys c.1 d (λ v y k l. h v y (contains_tail x v (z ∷ zs) k) l))

filtered : (test : ℕ × ℕ → Bool) (ps : List (ℕ × ℕ)) → IsChain pair_before ps → IsChain pair_before (filter test ps)
filtered test [] c = tt
filtered test (p ∷ ps) c = at (test p) (filtered test ps (chain_tail pair_before p ps c))
  where
    at : (b : Bool) → IsChain pair_before (filter test ps) → IsChain pair_before (cond b (p ∷ filter test ps) (filter test ps))
    at true rest = in_front pair_before p (filter test ps) rest (λ q k. chain_first pair_before through p ps c q (filter-sound test ps q k).0)
    at false rest = rest

live_after : {A : Type 0} (m n : ℕ) (cs : List (Option A)) → m < n → IsChain nat_lt (m ∷ filled_from n cs)
live_after {A} m n [] l = tt
live_after {A} m n (None ∷ cs) l = live_after m (n + 1) cs (omega (arith, l))
live_after {A} m n (Some c ∷ cs) l = ((let g : nat_lt m n ≡ true = grind (arith, nat_tests, l) in g), live_after n (n + 1) cs (omega arith))

live_rises : {A : Type 0} (n : ℕ) (cs : List (Option A)) → IsChain nat_lt (filled_from n cs)
live_rises {A} n [] = tt
live_rises {A} n (None ∷ cs) = live_rises (n + 1) cs
live_rises {A} n (Some c ∷ cs) = live_after n (n + 1) cs (omega arith)

less_through : (i j k : ℕ) → nat_lt i j ≡ true → nat_lt j k ≡ true → nat_lt i k ≡ true
less_through i j k h l = grind (arith, nat_tests, h, l)

first_less : (i : ℕ) (is : List ℕ) → IsChain nat_lt (i ∷ is) → (j : ℕ) → Contains is j → nat_lt i j ≡ true
first_less i is c j h = chain_first nat_lt less_through i is c j h

-- ---- the pairs of a list that rises
abbrev pair : ℕ → ℕ → ℕ × ℕ
pair i j = (i, j)

beside : (i : ℕ) (is : List ℕ) → IsChain nat_lt is → IsChain pair_before (map (λ j. (i, j)) is)
beside i [] c = tt
beside i (j ∷ []) c = tt
beside i (j ∷ k ∷ ks) c = (let l = c.0 in before_from (i, j) (i, k) (inr (refl, grind (arith, nat_tests, l))), beside i (k ∷ ks) c.1)

in_pairs : (xs : List ℕ) (p : ℕ × ℕ) → IsChain nat_lt xs → Contains (pairs_of xs) p → (Contains xs p.0) × (Contains xs p.1) × (nat_lt p.0 p.1 ≡ true)
in_pairs [] p c h = absurd (contains_none p h)
in_pairs (i ∷ is) p c h = at (Contains-append_cases (map (λ j. (i, j)) is) (pairs_of is) p h) (in_pairs is p (chain_tail nat_lt i is c))
  where
    at : Contains (map (λ j. (i, j)) is) p ⊎ Contains (pairs_of is) p
        → (Contains (pairs_of is) p → (Contains is p.0) × (Contains is p.1) × (nat_lt p.0 p.1 ≡ true))
        → (Contains (i ∷ is) p.0) × (Contains (i ∷ is) p.1) × (nat_lt p.0 p.1 ≡ true)
    at (inl k) rest =
        let m = contains_mapped (λ j. (i, j)) is p k in
        let there : (Contains (i ∷ is) i) × (Contains (i ∷ is) m.0) × (nat_lt i m.0 ≡ true) =
        (contains_head i is, contains_tail i m.0 is m.1, first_less i is c m.0 m.1) in
        subst (λ (q : ℕ × ℕ). (Contains (i ∷ is) q.0) × (Contains (i ∷ is) q.1) × (nat_lt q.0 q.1 ≡ true)) (sym m.2) there
    at (inr k) rest = let r = rest k in (contains_tail i p.0 is r.0, contains_tail i p.1 is r.1, r.2)

of_pairs : (xs : List ℕ) (a b : ℕ) → IsChain nat_lt xs → Contains xs a → Contains xs b → nat_lt a b ≡ true → Contains (pairs_of xs) (a, b)
of_pairs [] a b c h k l = absurd (contains_none a h)
of_pairs (i ∷ is) a b c h k l = at (contains_cases i a is h) (contains_cases i b is k) (of_pairs is a b (chain_tail nat_lt i is c))
  where
    at : (i ≡ a) ⊎ Contains is a → (i ≡ b) ⊎ Contains is b → (Contains is a → Contains is b → nat_lt a b ≡ true → Contains (pairs_of is) (a, b))
        → Contains (map (λ j. (i, j)) is ++ pairs_of is) (a, b)
    at (inl e) (inl f) rest = absurd (grind (arith, nat_tests, e, f, l))
    at (inl e) (inr v) rest = Contains-append_left (map (λ j. (i, j)) is) (pairs_of is) (a, b)
        (subst (λ n. Contains {X = ℕ × ℕ} (map (λ j. (i, j)) is) (n, b)) e
        (contains_map (λ (j : ℕ). pair i j) is b v))
    at (inr u) (inl f) rest = absurd (let m = first_less i is c a u in grind (arith, nat_tests, f, l, m))
    at (inr u) (inr v) rest = Contains-append_right (map (λ j. (i, j)) is) (pairs_of is) (a, b) (rest u v l)

pairs_rise : (xs : List ℕ) → IsChain nat_lt xs → IsChain pair_before (pairs_of xs)
pairs_rise [] c = tt
pairs_rise (i ∷ is) c = joined pair_before (map (λ j. (i, j)) is) (pairs_of is) (beside i is (chain_tail nat_lt i is c))
    (pairs_rise is (chain_tail nat_lt i is c)) (λ p q h k.
    let m = contains_mapped (λ j. (i, j)) is p h in
    let e : p.0 ≡ i = ap (λ (r : ℕ × ℕ). r.0) m.2 in
    let l = first_less i is c q.0 (in_pairs is q (chain_tail nat_lt i is c) k).0 in
    before_from p q (inl (grind (arith, nat_tests, e, l))))

-- ---- the overlaps by computation
pub overlaps_agree : OverlapsAgree
overlaps_agree s width height real =
    let rises : IsChain nat_lt s.live = subst (λ (xs : List ℕ). IsChain nat_lt xs) (sym real.live) (live_rises 0 real.motions) in
    let test : ℕ × ℕ → Bool = λ p. overlap s width height p.0 p.1 in
    record {
      rising = filtered test (pairs_of s.live) (pairs_rise s.live rises);
      each = λ p. (
        λ c. let f = filter-sound test (pairs_of s.live) p c in
            let m = in_pairs s.live p rises f.0 in
            let l = m.2 in
            record {
              first_live = in_from_contains s.live p.0 m.0;
              second_live = in_from_contains s.live p.1 m.1;
              rising = grind (arith, nat_tests, l);
              overlapping = f.1;
            },
        λ o. let l = o.rising in
            filter-complete test (pairs_of s.live) p
            (of_pairs s.live p.0 p.1 rises (contains_from_in s.live p.0 o.first_live) (contains_from_in s.live p.1 o.second_live)
            (grind (arith, nat_tests, l))) o.overlapping,
      );
    }
