-- The farthest pair has at most four facts for each live number but one.
use Rattle.std.proofs.Common.{◌≡◌, refl, ap, arith, List, [], ◌∷◌, ℕ, suc, ◌+◌, ◌*◌, ◌-◌, ◌≤◌, length, map, reverse, subst, Bool, true, false, cond}
use Rattle.std.specs.Prelude.{Contains, Some, filter}
use Rattle.std.proofs.lemmas.List.{length-append, length-map, length-reverse}
use Rattle.kin_motion.specs.Chains.{is_left, is_bare, upper_chain_of, lower_chain_of}
use Rattle.kin_motion.specs.ClosestPairs.{Near}
use Rattle.kin_motion.specs.DiameterFacts.{facts_of_sweep, diameter_facts}
use Rattle.kin_motion.specs.FactCounts.{FewDiameterFacts}
use Rattle.kin_motion.specs.Farthest.{farness_key}
use Rattle.kin_motion.specs.Merges.{Half.{A}, Breakpoint, is_of, breakpoints_of, slopes_from}
use Rattle.kin_motion.specs.Parts.{moved_by}
use Rattle.kin_motion.specs.Scene.{Scene, IsReal, placed_at, reflected}
use Rattle.kin_motion.specs.Sweeps.{breakpoints_back, sweep_of, cell_pairs_from, cell_pairs, cell_slots}
use Rattle.kin_motion.specs.Tournaments.{item_in, tournament_facts}
use Rattle.kin_motion.proofs.CellSlots.{cells_fill}
use Rattle.kin_motion.proofs.DiameterFactLaws.{names_slot, diameter_facts_agree}
use Rattle.kin_motion.proofs.HullCounts.{filter_at_most, breakpoints-length, merged-length, slopes_at_most}
use Rattle.kin_motion.proofs.NodeLaws.{held_slot}
use Rattle.kin_motion.proofs.OrderCounts.{sorted-length}
use Rattle.kin_motion.proofs.SetLaws.{contains_map}
use Rattle.kin_motion.proofs.SetSizes.{no_longer}
use Rattle.kin_motion.proofs.TournamentCounts.{tournament_count}

-- ---- chains and breakpoints
chain_at_most : (s : Scene) (set : List ℕ) → length (upper_chain_of s set) ≤ length set
chain_at_most s set = let e = sorted-length (is_left s) (set_kept s set) in let few = filter_at_most (is_bare s set) set in omega (arith, e, few)
  where
    set_kept : Scene → List ℕ → List ℕ
    set_kept s set = filter (is_bare s set) set

upper_breakpoints : (us : List ℕ) → length (breakpoints_of A us) ≤ length us - 1
upper_breakpoints [] = omega arith
upper_breakpoints (p ∷ ps) = let e = breakpoints-length A p ps in omega (arith, e)

lower_breakpoints : (vs : List ℕ) → length (breakpoints_back vs) ≤ length vs - 1
lower_breakpoints [] = omega arith
lower_breakpoints (q ∷ []) = omega arith
lower_breakpoints (q ∷ r ∷ vs) = let rest = lower_breakpoints (r ∷ vs) in omega (arith, rest)

-- ---- cells
cells-length : (es : List Breakpoint) (slot p q : ℕ) → length (cell_pairs_from slot p q es) ≡ suc (length es)
cells-length [] slot p q = refl
cells-length (e ∷ es) slot p q = ap suc (at (is_of A e.half) (cells-length es (2 * e.right) e.right q) (cells-length es (2 * e.left + 1) p e.left))
  where
    at : (b : Bool) → length (cell_pairs_from (2 * e.right) e.right q es) ≡ suc (length es) → length (cell_pairs_from (2 * e.left + 1) p e.left es) ≡ suc (length es)
        → length (cond b (cell_pairs_from (2 * e.right) e.right q es) (cell_pairs_from (2 * e.left + 1) p e.left es)) ≡ suc (length es)
    at true u l = u
    at false u l = l

cells_at_most : (us vs : List ℕ) (es : List Breakpoint) → length (cell_pairs us vs es) - 1 ≤ length es
cells_at_most [] vs es = omega arith
cells_at_most (p ∷ ps) [] es = omega arith
cells_at_most (p ∷ ps) (q ∷ qs) es = let e = cells-length es (2 * p) p q in omega (arith, e)

module _ (size : ℕ) (s : Scene) (real : IsReal s) where
  -- the tournament of these cells
  matches_at_most : (cells : List Near) → length (tournament_facts s farness_key (size + 1) (cell_slots size cells)) ≤ length cells - 1
  matches_at_most cells =
      let count = (cells_fill size cells).count in
      let few = tournament_count s farness_key (size + 1) (cell_slots size cells) (omega (arith, count)) (map (λ (n : Near). n.slot) cells) there in
      let places = length-map cells (λ (n : Near). n.slot) in
      omega (arith, few, places)
    where
      there : (i : ℕ) (a : Near) → item_in (cell_slots size cells) i ≡ Some a → Contains (map (λ (n : Near). n.slot) cells) i
      there i a e =
          subst (λ k. Contains (map (λ (n : Near). n.slot) cells) k) (names_slot size cells i a e)
          (contains_map (λ (n : Near). n.slot) cells a ((cells_fill size cells).each i (Some a) (held_slot (cell_slots size cells) i a e)).0)

  sweep_at_most : (upper lower : List ℕ) (n : ℕ) → length upper ≤ n → length lower ≤ n → length (facts_of_sweep size s upper lower (sweep_of s upper (reverse lower))) ≤ 4 * (n - 1)
  sweep_at_most upper lower n u l =
      let es = sweep_of s upper (reverse lower) in
      let cells = cell_pairs upper (reverse lower) es in
      let pairs = tournament_facts s farness_key (size + 1) (cell_slots size cells) in
      let both = length-append (map (placed_at s 0) (slopes_from es)) (map (moved_by 1) pairs) in
      let first = length-map (slopes_from es) (placed_at s 0) in
      let second = length-map pairs (moved_by 1) in
      let slopes = slopes_at_most s es in
      let matches = matches_at_most cells in
      let some = cells_at_most upper (reverse lower) es in
      let merged = merged-length s (breakpoints_of A upper) (breakpoints_back (reverse lower)) in
      let a = upper_breakpoints upper in
      let b = lower_breakpoints (reverse lower) in
      let c = length-reverse lower in
      omega (arith, both, first, second, slopes, matches, some, merged, a, b, c, u, l)

  computed_at_most : length (diameter_facts size s) ≤ 4 * (length s.live - 1)
  computed_at_most = sweep_at_most (upper_chain_of s s.live) (lower_chain_of s s.live) (length s.live) (chain_at_most s s.live) (chain_at_most (reflected s) s.live)

pub few_diameter_facts : FewDiameterFacts
few_diameter_facts size s facts real exact =
    let few = no_longer facts (diameter_facts size s) exact.once (λ p c. ((diameter_facts_agree size s real).each p).1 ((exact.each p).0 c)) in
    let most = computed_at_most size s real in
    omega (arith, few, most)
