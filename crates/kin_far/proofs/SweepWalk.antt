-- Along the sweep of two chains there is a cell in which the points of the farthest pair are current.
use Rattle.std.proofs.Common.{◌≡◌, ◌⊎◌, inl, inr, refl, sym, ap, ◌∙◌, subst, arith, List, [], ◌∷◌, ℕ, ◌+◌, ◌*◌, Bool, true, false, cond, nat_eq}
use Rattle.std.specs.Prelude.{Contains}
use Rattle.std.proofs.lemmas.Bool.Decides.{nat_tests}
use Rattle.kin_algebra.specs.declared.sign.Sign.TheVariants.{Minus}
use Rattle.kin_algebra.specs.Signs.{opposite_of}
use Rattle.kin_algebra.proofs.Members.{contains_head, contains_tail}
use Rattle.kin_motion.specs.ClosestFacts.{near}
use Rattle.kin_motion.specs.ClosestPairs.{Near}
use Rattle.kin_motion.specs.Laws.{HasSlopeLaws}
use Rattle.kin_motion.specs.Merges.{Half, Half.{A, B}, Breakpoint, is_of, own_of, breakpoints_of, goes_first}
use Rattle.kin_motion.specs.Numbers.{IsIn, IsChain}
use Rattle.kin_motion.specs.Scene.{Scene}
use Rattle.kin_motion.specs.Sweeps.{breakpoints_back, cell_pairs_from}
use Rattle.kin_motion.proofs.BreakpointLaws.{own_with, own_in, comes, comes_through, right_signs}
use Rattle.kin_motion.proofs.ListChains.{chain_tail, chain_first}
use Rattle.kin_motion.proofs.Members.{in_head, in_tail, in_cases}
use Rattle.kin_motion.proofs.SweepCells.{same_first, same_rest}
use Rattle.kin_far.proofs.FarPoints.{Supported}

-- ---- lists of breakpoints
same_or_not : (i j : ℕ) → (i ≡ j) ⊎ (i ≡ j → ⊥)
same_or_not i j = at (nat_eq i j) refl
  where
    at : (b : Bool) → nat_eq i j ≡ b → (i ≡ j) ⊎ (i ≡ j → ⊥)
    at true e = inl (grind (arith, nat_tests, e))
    at false e = inr (λ q. grind (arith, nat_tests, e, q))

later : (i p : ℕ) (ps : List ℕ) → IsIn i (p ∷ ps) → (i ≡ p → ⊥) → IsIn i ps
later i p ps k n = at (in_cases i p ps k)
  where
    at : (i ≡ p) ⊎ IsIn i ps → IsIn i ps
    at (inl e) = absurd (n e)
    at (inr h) = h

-- the breakpoint that leads to a later point of the upper chain
to_upper : (h p : ℕ) (ps : List ℕ) → IsIn h ps → (a : ℕ) × IsIn a (p ∷ ps) × Contains (breakpoints_of A (p ∷ ps)) (record { half = A; left = a; right = h })
to_upper h p [] i = absurd cc
to_upper h p (j ∷ ps) i = at (in_cases h j ps i) (to_upper h j ps)
  where
    at : (h ≡ j) ⊎ IsIn h ps → (IsIn h ps → (a : ℕ) × IsIn a (j ∷ ps) × Contains (breakpoints_of A (j ∷ ps)) (record { half = A; left = a; right = h }))
        → (a : ℕ) × IsIn a (p ∷ j ∷ ps) × Contains (breakpoints_of A (p ∷ j ∷ ps)) (record { half = A; left = a; right = h })
    at (inl e) rest = (p, in_head p (j ∷ ps), subst (λ n. Contains (breakpoints_of A (p ∷ j ∷ ps)) (record { half = A; left = p; right = n })) (sym e) (contains_head (record { half = A; left = p; right = j }) (breakpoints_of A (j ∷ ps))))
    at (inr k) rest = let r = rest k in (r.0, in_tail r.0 p (j ∷ ps) r.1, contains_tail (record { half = A; left = p; right = j }) (record { half = A; left = r.0; right = h }) (breakpoints_of A (j ∷ ps)) r.2)

-- and to a later point of the lower one
to_lower : (l q : ℕ) (qs : List ℕ) → IsIn l qs → (a : ℕ) × IsIn a (q ∷ qs) × Contains (breakpoints_back (q ∷ qs)) (record { half = B; left = l; right = a })
to_lower l q [] i = absurd cc
to_lower l q (j ∷ qs) i = at (in_cases l j qs i) (to_lower l j qs)
  where
    at : (l ≡ j) ⊎ IsIn l qs → (IsIn l qs → (a : ℕ) × IsIn a (j ∷ qs) × Contains (breakpoints_back (j ∷ qs)) (record { half = B; left = l; right = a }))
        → (a : ℕ) × IsIn a (q ∷ j ∷ qs) × Contains (breakpoints_back (q ∷ j ∷ qs)) (record { half = B; left = l; right = a })
    at (inl e) rest = (q, in_head q (j ∷ qs), subst (λ n. Contains (breakpoints_back (q ∷ j ∷ qs)) (record { half = B; left = n; right = q })) (sym e) (contains_head (record { half = B; left = j; right = q }) (breakpoints_back (j ∷ qs))))
    at (inr k) rest = let r = rest k in (r.0, in_tail r.0 q (j ∷ qs) r.1, contains_tail (record { half = B; left = j; right = q }) (record { half = B; left = l; right = r.0 }) (breakpoints_back (j ∷ qs)) r.2)

module _ (s : Scene) (slopes : HasSlopeLaws s) (h l : ℕ) (known : Supported s h l) where
  abbrev pub Live : List ℕ → Type 0
  Live xs = (c : ℕ) → IsIn c xs → IsIn c s.live

  -- one of the pairs is that of h and l
  abbrev pub Reaches : List Near → Type 0
  Reaches cs = (slot : ℕ) × Contains cs (near slot h l)

  -- ---- what can't come
  -- out of h before into l
  not_out : (n : ℕ) (es : List Breakpoint) (q : ℕ) (qs : List ℕ) → IsIn n s.live → own_of B es ≡ breakpoints_back (q ∷ qs) → IsChain (comes s slopes) (record { half = A; left = h; right = n } ∷ es) → Live (q ∷ qs) → IsIn l qs → ⊥
  not_out n es q qs n_live own chain live i =
      let e : Breakpoint = record { half = A; left = h; right = n } in
      let to = to_lower l q qs i in
      let f : Breakpoint = record { half = B; left = l; right = to.0 } in
      let after = own_in B es f (subst (λ (gs : List Breakpoint). Contains gs f) (sym own) to.2) in
      let k = right_signs s slopes e f (chain_first (comes s slopes) (comes_through s slopes) e es chain f after) in
      let clash : goes_first Minus A B ≡ true = ap (λ t. goes_first t A B) (sym (known.leaves n to.0 n_live (live to.0 to.1) k.0 k.1)) ∙ k.2 in
      cc

  -- out of l before into h
  not_down : (n : ℕ) (es : List Breakpoint) (p : ℕ) (ps : List ℕ) → IsIn n s.live → own_of A es ≡ breakpoints_of A (p ∷ ps) → IsChain (comes s slopes) (record { half = B; left = n; right = l } ∷ es) → Live (p ∷ ps) → IsIn h ps → ⊥
  not_down n es p ps n_live own chain live i =
      let e : Breakpoint = record { half = B; left = n; right = l } in
      let to = to_upper h p ps i in
      let f : Breakpoint = record { half = A; left = to.0; right = h } in
      let after = own_in A es f (subst (λ (gs : List Breakpoint). Contains gs f) (sym own) to.2) in
      let k = right_signs s slopes e f (chain_first (comes s slopes) (comes_through s slopes) e es chain f after) in
      let minus = slopes.opposite to.0 h n l ∙ ap opposite_of (known.comes to.0 n (live to.0 to.1) n_live k.1 k.0) in
      let clash : goes_first Minus B A ≡ true = ap (λ t. goes_first t B A) (sym minus) ∙ k.2 in
      cc

  -- ---- the walk
  -- before these breakpoints p and q are current, and h and l are still to come
  abbrev Walk : List Breakpoint → Type 0
  Walk es = (slot p q : ℕ) (ps qs : List ℕ) → own_of A es ≡ breakpoints_of A (p ∷ ps) → own_of B es ≡ breakpoints_back (q ∷ qs) → IsChain (comes s slopes) es
      → Live (p ∷ ps) → Live (q ∷ qs) → IsIn h (p ∷ ps) → IsIn l (q ∷ qs) → Reaches (cell_pairs_from slot p q es)

  last_upper : (p : ℕ) (ps : List ℕ) → [] ≡ breakpoints_of A (p ∷ ps) → IsIn h (p ∷ ps) → h ≡ p
  last_upper p [] e i = at (in_cases h p [] i)
    where
      at : (h ≡ p) ⊎ IsIn h [] → h ≡ p
      at (inl f) = f
      at (inr k) = absurd cc
  last_upper p (j ∷ ps) e i = absurd cc

  last_lower : (q : ℕ) (qs : List ℕ) → [] ≡ breakpoints_back (q ∷ qs) → IsIn l (q ∷ qs) → l ≡ q
  last_lower q [] e i = at (in_cases l q [] i)
    where
      at : (l ≡ q) ⊎ IsIn l [] → l ≡ q
      at (inl f) = f
      at (inr k) = absurd cc
  last_lower q (j ∷ qs) e i = absurd cc

  here_now : (slot p q : ℕ) (cs : List Near) → h ≡ p → l ≡ q → Reaches (near slot p q ∷ cs)
  here_now slot p q cs e f = (slot, subst (λ n. Contains (near slot p q ∷ cs) (near slot n l)) (sym e) (subst (λ n. Contains (near slot p q ∷ cs) (near slot p n)) (sym f) (contains_head (near slot p q) cs)))

  further : (n : Near) (cs : List Near) → Reaches cs → Reaches (n ∷ cs)
  further n cs r = (r.0, contains_tail n (near r.0 h l) cs r.1)

  -- the current points aren't both of the pair
  abbrev Elsewhere : ℕ → ℕ → Type 0
  Elsewhere p q = (h ≡ p) → (l ≡ q) → ⊥

  -- past a breakpoint of the upper chain
  past_upper : (e : Breakpoint) (es : List Breakpoint) (p q : ℕ) (ps qs : List ℕ) → e ∷ own_of A es ≡ breakpoints_of A (p ∷ ps) → own_of B es ≡ breakpoints_back (q ∷ qs) → IsChain (comes s slopes) (e ∷ es)
      → Live (p ∷ ps) → Live (q ∷ qs) → IsIn h (p ∷ ps) → IsIn l (q ∷ qs) → Elsewhere p q → Walk es → Reaches (cell_pairs_from (2 * e.right) e.right q es)
  past_upper e es p q [] qs own_a own_b chain live_a live_b i j not_here again = absurd cc
  past_upper e es p q (n ∷ ps) qs own_a own_b chain live_a live_b i j not_here again = subst (λ (f : Breakpoint). Reaches (cell_pairs_from (2 * f.right) f.right q es)) (sym (same_first own_a)) (at (same_or_not h p))
    where
      at : (h ≡ p) ⊎ (h ≡ p → ⊥) → Reaches (cell_pairs_from (2 * n) n q es)
      at (inr other) =
          again (2 * n) n q ps qs (same_rest own_a) own_b (chain_tail (comes s slopes) e es chain) (λ c k. live_a c (in_tail c p (n ∷ ps) k)) live_b (later h p (n ∷ ps) i other) j
      at (inl same) =
          absurd (not_out n es q qs (live_a n (in_tail n p (n ∷ ps) (in_head n ps))) own_b
          (subst (λ m. IsChain (comes s slopes) (record { half = A; left = m; right = n } ∷ es)) (sym same) (subst (λ (f : Breakpoint). IsChain (comes s slopes) (f ∷ es)) (same_first own_a) chain))
          live_b (later l q qs j (not_here same)))

  -- past a breakpoint of the lower chain
  past_lower : (e : Breakpoint) (es : List Breakpoint) (p q : ℕ) (ps qs : List ℕ) → own_of A es ≡ breakpoints_of A (p ∷ ps) → e ∷ own_of B es ≡ breakpoints_back (q ∷ qs) → IsChain (comes s slopes) (e ∷ es)
      → Live (p ∷ ps) → Live (q ∷ qs) → IsIn h (p ∷ ps) → IsIn l (q ∷ qs) → Elsewhere p q → Walk es → Reaches (cell_pairs_from (2 * e.left + 1) p e.left es)
  past_lower e es p q ps [] own_a own_b chain live_a live_b i j not_here again = absurd cc
  past_lower e es p q ps (n ∷ qs) own_a own_b chain live_a live_b i j not_here again = subst (λ (f : Breakpoint). Reaches (cell_pairs_from (2 * f.left + 1) p f.left es)) (sym (same_first own_b)) (at (same_or_not l q))
    where
      at : (l ≡ q) ⊎ (l ≡ q → ⊥) → Reaches (cell_pairs_from (2 * n + 1) p n es)
      at (inr other) =
          again (2 * n + 1) p n ps qs own_a (same_rest own_b) (chain_tail (comes s slopes) e es chain) live_a (λ c k. live_b c (in_tail c q (n ∷ qs) k)) i (later l q (n ∷ qs) j other)
      at (inl same) =
          absurd (not_down n es p ps (live_b n (in_tail n q (n ∷ qs) (in_head n qs))) own_a
          (subst (λ m. IsChain (comes s slopes) (record { half = B; left = n; right = m } ∷ es)) (sym same) (subst (λ (f : Breakpoint). IsChain (comes s slopes) (f ∷ es)) (same_first own_b) chain))
          live_a (later h p ps i (λ e. not_here e same)))

  pub walk : (es : List Breakpoint) → Walk es
  walk [] slot p q ps qs own_a own_b chain live_a live_b i j = here_now slot p q [] (last_upper p ps own_a i) (last_lower q qs own_b j)
  walk (e ∷ es) slot p q ps qs own_a own_b chain live_a live_b i j = at (same_or_not h p) (same_or_not l q) (walk es)
    where
      on : Elsewhere p q → Walk es → (g : Half) → e.half ≡ g → Reaches (cond (is_of A e.half) (cell_pairs_from (2 * e.right) e.right q es) (cell_pairs_from (2 * e.left + 1) p e.left es))
      on not_here again A g =
          subst (λ k. Reaches (cond (is_of A k) (cell_pairs_from (2 * e.right) e.right q es) (cell_pairs_from (2 * e.left + 1) p e.left es))) (sym g)
          (past_upper e es p q ps qs (sym (own_with A A e es g) ∙ own_a) (sym (own_with B A e es g) ∙ own_b) chain live_a live_b i j not_here again)
      on not_here again B g =
          subst (λ k. Reaches (cond (is_of A k) (cell_pairs_from (2 * e.right) e.right q es) (cell_pairs_from (2 * e.left + 1) p e.left es))) (sym g)
          (past_lower e es p q ps qs (sym (own_with A B e es g) ∙ own_a) (sym (own_with B B e es g) ∙ own_b) chain live_a live_b i j not_here again)

      at : (h ≡ p) ⊎ (h ≡ p → ⊥) → (l ≡ q) ⊎ (l ≡ q → ⊥) → Walk es → Reaches (cell_pairs_from slot p q (e ∷ es))
      at (inl a) (inl b) again = here_now slot p q (cond (is_of A e.half) (cell_pairs_from (2 * e.right) e.right q es) (cell_pairs_from (2 * e.left + 1) p e.left es)) a b
      at (inr a) b again = further (near slot p q) _ (on (λ x y. a x) again e.half refl)
      at (inl a) (inr b) again = further (near slot p q) _ (on (λ x y. b y) again e.half refl)
