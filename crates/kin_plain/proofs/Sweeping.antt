-- The sweep of two chains, and its cells.
use Rattle.std.proofs.Common.{◌≡◌, ◌<◌, ◌≤◌, refl, sym, subst, ap, ◌∙◌, arith, List, [], ◌∷◌, ◌++◌, ℕ, zero, suc, ◌+◌, ◌-◌, ◌*◌, ◌^◌, Bool, true, false, cond, nat_eq, nat_le, map, length, drop, reverse}
use Rattle.std.specs.Prelude.{Option, Some, IfSome}
use Rattle.std.specs.List.{All}
use Rattle.std.proofs.lemmas.List.{append-nil, length-drop}
use Rattle.std.proofs.lemmas.List.Elements.{All-nil, All-cons, All-head, All-tail, All-weaker}
use Rattle.std.proofs.lemmas.Bool.Decides.{nat_tests}
use Rattle.kin_motion.specs.declared.fact.Placed.{Placed}
use Rattle.kin_motion.specs.Chains.{lower_chain_of, upper_chain_of}
use Rattle.kin_motion.specs.ClosestFacts.{near}
use Rattle.kin_motion.specs.ClosestPairs.{Near}
use Rattle.kin_motion.specs.DiameterFacts.{diameter_facts}
use Rattle.kin_motion.specs.Merges.{Half.{A, B}, Breakpoint, is_of}
use Rattle.kin_motion.specs.Numbers.{IsIn, numbers_from}
use Rattle.kin_motion.specs.Sweeps.{breakpoints_back, cell_in, cell_pairs, cell_pairs_from, cell_slots, sweep_of}
use Rattle.kin_motion.specs.Scene.{Scene}
use Rattle.kin_motion.proofs.Members.{contains_from_in, in_from_contains, in_reverse}
use Rattle.kin_plain.specs.Cells.{AreEndsSmall, sweep_facts}
use Rattle.kin_plain.specs.Comparing.{AreBothLive}
use Rattle.kin_plain.specs.Halves.{AreEndsLive}
use Rattle.kin_plain.specs.Live.{AreLive}
use Rattle.kin_plain.proofs.LiveLists.{all_of_part}

alone : (xs : List ℕ) → length xs ≤ 1 → breakpoints_back xs ≡ []
alone [] le = refl
alone (x ∷ []) le = refl
alone (x ∷ y ∷ xs) le = absurd (omega (arith, le))

-- the last point has no next one
pub all_back : (xs : List ℕ) (i : ℕ) (es fs : List Breakpoint) → length xs ≤ i → 1 ≤ i → es ++ breakpoints_back (drop (i - 1) xs) ≡ fs → es ≡ fs
all_back xs i es fs high low e =
    sym (append-nil es) ∙ ap (λ (l : List Breakpoint). es ++ l) (sym (alone (drop (i - 1) xs) (let n = length-drop (i - 1) xs in omega (arith, n, high, low)))) ∙ e

module _ (live : List ℕ) where
  back_live : (xs : List ℕ) → All (λ (i : ℕ). IsIn i live) xs → All (AreEndsLive live) (breakpoints_back xs)
  back_live [] all = All-nil (AreEndsLive live)
  back_live (x ∷ []) all = All-nil (AreEndsLive live)
  back_live (x ∷ y ∷ xs) all =
      let rest = All-tail (λ (i : ℕ). IsIn i live) x (y ∷ xs) all in
      All-cons (AreEndsLive live) (record { half = B; left = y; right = x }) (breakpoints_back (y ∷ xs))
      (record { left_live = All-head (λ (i : ℕ). IsIn i live) y xs rest; right_live = All-head (λ (i : ℕ). IsIn i live) x (y ∷ xs) all }) (back_live (y ∷ xs) rest)

  pub new_back_live : (xs : List ℕ) (old new : List Breakpoint) → All (λ (i : ℕ). IsIn i live) xs → old ≡ [] → new ≡ old ++ breakpoints_back xs → All (AreEndsLive live) new
  new_back_live xs old new all none put = subst (All (AreEndsLive live)) (sym (put ∙ ap (λ (l : List Breakpoint). l ++ breakpoints_back xs) none)) (back_live xs all)

  -- the points of cells are live
  near_live : (slot p q : ℕ) → IsIn p live → IsIn q live → AreBothLive live (near slot p q)
  near_live slot p q p_live q_live = at (nat_le p q) refl
    where
      at : (b : Bool) → nat_le p q ≡ b → AreBothLive live (near slot p q)
      at true e =
          let le : p ≤ q = grind (arith, nat_tests) in
          record { i_live = subst (λ (i : ℕ). IsIn i live) (omega (arith, le)) p_live; j_live = subst (λ (i : ℕ). IsIn i live) (omega (arith, le)) q_live }
      at false e =
          let lt : q < p = grind (arith, nat_tests) in
          record { i_live = subst (λ (i : ℕ). IsIn i live) (omega (arith, lt)) q_live; j_live = subst (λ (i : ℕ). IsIn i live) (omega (arith, lt)) p_live }

-- numbers of live points are small
pub ends_small : (live : List ℕ) → ((i : ℕ) → IsIn i live → i < 2 ^ 12) → (es : List Breakpoint) → All (AreEndsLive live) es → All AreEndsSmall es
ends_small live small es all = All-weaker (AreEndsLive live) AreEndsSmall (λ e h. record { left_small = small e.left h.left_live; right_small = small e.right h.right_live }) es all

-- ---- cells and slots
either : {A : Type 0} (P : A → Type 0) (b : Bool) (xs ys : List A) → All P xs → All P ys → All P (cond b xs ys)
either P true xs ys h k = h
either P false xs ys h k = k

module _ (live : List ℕ) where
  cells_from_live : (slot p q : ℕ) (es : List Breakpoint) → IsIn p live → IsIn q live → All (AreEndsLive live) es → All (AreBothLive live) (cell_pairs_from slot p q es)
  cells_from_live slot p q [] p_live q_live all = All-cons (AreBothLive live) (near slot p q) [] (near_live live slot p q p_live q_live) (All-nil (AreBothLive live))
  cells_from_live slot p q (e ∷ es) p_live q_live all =
      let first = All-head (AreEndsLive live) e es all in
      let rest = All-tail (AreEndsLive live) e es all in
      let on = cells_from_live (2 * e.right) e.right q es first.right_live q_live rest in
      let back = cells_from_live (2 * e.left + 1) p e.left es p_live first.left_live rest in
      All-cons (AreBothLive live) (near slot p q) (cond (is_of A e.half) (cell_pairs_from (2 * e.right) e.right q es) (cell_pairs_from (2 * e.left + 1) p e.left es))
      (near_live live slot p q p_live q_live)
      (either (AreBothLive live) (is_of A e.half) (cell_pairs_from (2 * e.right) e.right q es) (cell_pairs_from (2 * e.left + 1) p e.left es) on back)

  cells_live : (us vs : List ℕ) (es : List Breakpoint) → All (λ (i : ℕ). IsIn i live) us → All (λ (i : ℕ). IsIn i live) vs → All (AreEndsLive live) es → All (AreBothLive live) (cell_pairs us vs es)
  cells_live [] vs es us_live vs_live all = All-nil (AreBothLive live)
  cells_live (p ∷ ps) [] es us_live vs_live all = All-nil (AreBothLive live)
  cells_live (p ∷ ps) (q ∷ qs) es us_live vs_live all = cells_from_live (2 * p) p q es (All-head (λ (i : ℕ). IsIn i live) p ps us_live) (All-head (λ (i : ℕ). IsIn i live) q qs vs_live) all

cell_passes : (P : Near → Type 0) (slot : ℕ) (cells : List Near) → All P cells → IfSome (cell_in slot cells) P
cell_passes P slot [] all = tt
cell_passes P slot (n ∷ ns) all = at (nat_eq n.slot slot) (cell_passes P slot ns (All-tail P n ns all))
  where
    at : (b : Bool) → IfSome (cell_in slot ns) P → IfSome (cond b (Some n) (cell_in slot ns)) P
    at true rest = All-head P n ns all
    at false rest = rest

slots_pass : (P : Near → Type 0) (cells : List Near) → All P cells → (a n : ℕ) → All (λ held. IfSome held P) (map (λ (slot : ℕ). cell_in slot cells) (numbers_from a n))
slots_pass P cells all a zero = All-nil (λ held. IfSome held P)
slots_pass P cells all a (suc n) =
    All-cons (λ held. IfSome held P) (cell_in a cells) (map (λ (slot : ℕ). cell_in slot cells) (numbers_from (a + 1) n)) (cell_passes P a cells all) (slots_pass P cells all (a + 1) n)

-- what the slots of cells hold may be compared
pub cells_may : (live : List ℕ) (size : ℕ) (us vs : List ℕ) (es : List Breakpoint) (cells : List Near) (slots : List (Option Near)) → All (λ (i : ℕ). IsIn i live) us → All (λ (i : ℕ). IsIn i live) vs
    → All (AreEndsLive live) es
    → cells ≡ cell_pairs us vs es → slots ≡ cell_slots size cells → All (λ held. IfSome held (AreBothLive live)) slots
cells_may live size us vs es cells slots us_live vs_live all cells_are slots_are =
    subst (λ (l : List (Option Near)). All (λ held. IfSome held (AreBothLive live)) l) (sym slots_are)
    (slots_pass (AreBothLive live) cells (subst (All (AreBothLive live)) (sym cells_are) (cells_live live us vs es us_live vs_live all)) 0 (2 ^ (size + 1)))

slots_count : (cells : List Near) (a n : ℕ) → length (map (λ (slot : ℕ). cell_in slot cells) (numbers_from a n)) ≡ n
slots_count cells a zero = refl
slots_count cells a (suc n) = let rest = slots_count cells (a + 1) n in omega (arith, rest)

-- slots have their count
pub cell_slots_count : (size : ℕ) (cells : List Near) (slots : List (Option Near)) → slots ≡ cell_slots size cells → length slots ≡ 2 ^ (size + 1)
cell_slots_count size cells slots e = ap length e ∙ slots_count cells 0 (2 ^ (size + 1))

-- ---- the whole
-- a list from its end
pub reversed_live : (s : Scene) (xs ys : List ℕ) → AreLive s xs → ys ≡ reverse xs → AreLive s ys
reversed_live s xs ys live e =
    subst (AreLive s) (sym e) (all_of_part (λ (i : ℕ). IsIn i s.live) xs (reverse xs) (λ z h. contains_from_in xs z (in_reverse z xs (in_from_contains (reverse xs) z h))) live)

-- from both chains of all live numbers
pub diameter_made : (s : Scene) (size : ℕ) (live us lower vs : List ℕ) (old new : List Placed) → live ≡ s.live → us ≡ upper_chain_of s live → lower ≡ lower_chain_of s live → vs ≡ reverse lower
    → new ≡ old ++ sweep_facts size s us vs (sweep_of s us vs) → new ≡ old ++ diameter_facts size s
diameter_made s size live us lower vs old new same us_is lower_is vs_is put =
    put ∙ ap (λ (l : List ℕ). old ++ sweep_facts size s l vs (sweep_of s l vs)) (us_is ∙ ap (upper_chain_of s) same)
    ∙ ap (λ (l : List ℕ). old ++ sweep_facts size s (upper_chain_of s s.live) l (sweep_of s (upper_chain_of s s.live) l)) (vs_is ∙ ap reverse (lower_is ∙ ap (lower_chain_of s) same))
