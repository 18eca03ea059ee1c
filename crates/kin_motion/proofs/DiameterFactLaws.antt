-- The facts of the farthest pair: each is listed once, and the computed ones are those of the definition.
use Rattle.std.proofs.Common.{◌≡◌, refl, sym, ap, ◌∙◌, subst, arith, ℕ, ◌+◌, ◌<◌, true, List, ◌++◌, map, reverse, pos}
use Rattle.std.specs.Prelude.{Contains, Option, Some, None}
use Rattle.kin_motion.specs.declared.fact.Placed.{Placed}
use Rattle.kin_motion.specs.Agreements.{DiameterFactsAgree}
use Rattle.kin_motion.specs.Chains.{is_left, IsUpperChain, IsLowerChain, upper_chain_of, lower_chain_of}
use Rattle.kin_motion.specs.ClosestPairs.{Near}
use Rattle.kin_motion.specs.DiameterFacts.{IsSweepFact, IsCellFact, IsDiameterFact, facts_of_sweep}
use Rattle.kin_motion.specs.Farthest.{farness_key}
use Rattle.kin_motion.specs.Merges.{Breakpoint, slopes_from}
use Rattle.kin_motion.specs.Parts.{moved_by}
use Rattle.kin_motion.specs.Scene.{Scene, IsReal, x_sign, placed_at, reflected}
use Rattle.kin_motion.specs.Sets.{AreDistinct, ListsExactly}
use Rattle.kin_motion.specs.Sweeps.{IsSweep, sweep_of, IsSwept, cell_pairs, HoldsCell, AreCellSlots, cell_slots}
use Rattle.kin_motion.specs.Theorems.{SlotsDiffer}
use Rattle.kin_motion.specs.Tournaments.{IsNodeFact, item_in, tournament_facts}
use Rattle.kin_motion.proofs.CellSlots.{cells_fill}
use Rattle.kin_motion.proofs.ChainLaws.{never_left, left_through, one_upper_chain}
use Rattle.kin_motion.proofs.DistanceLaws.{real_distance_laws}
use Rattle.kin_motion.proofs.FarthestLaws.{farther-otherwise, farther-through, farther-never}
use Rattle.kin_motion.proofs.ListChains.{chain_distinct}
use Rattle.kin_motion.proofs.NearLaws.{same_lists}
use Rattle.kin_motion.proofs.NodeLaws.{held_slot, tournament_agrees}
use Rattle.kin_motion.proofs.PartLaws.{moved_one}
use Rattle.kin_motion.proofs.Proved.{live-once, chain_proved}
use Rattle.kin_motion.proofs.RealLaws.{real_line_laws}
use Rattle.kin_motion.proofs.ReflectedLaws.{reflected-real}
use Rattle.kin_motion.proofs.SetLaws.{contains_mapped, contains_map, distinct_mapped, exactly_both, exactly_in_words, exactly_mapped}
use Rattle.kin_motion.proofs.SlopeLaws.{real_slope_laws}
use Rattle.kin_motion.proofs.SweepCells.{SlotsApart, slots_apart}
use Rattle.kin_motion.proofs.SweepLaws.{chain_reversed, in_order, only_one, one_sweep}
use Rattle.kin_motion.proofs.SweepSlopes.{slopes_once}

-- the pairs of all cells fill one list of slots
pub one_cell_slots : (size : ℕ) (cells : List Near) (xs ys : List (Option Near)) → SlotsApart cells → AreCellSlots size cells xs → AreCellSlots size cells ys → xs ≡ ys
one_cell_slots size cells xs ys apart a b = same_lists xs ys (a.count ∙ sym b.count) (λ i x y e f. at i x y (a.each i x e) (b.each i y f))
  where
    at : (i : ℕ) (x y : Option Near) → HoldsCell cells i x → HoldsCell cells i y → x ≡ y
    at i None None h k = refl
    at i None (Some n) h k = absurd (h n k.0 k.1)
    at i (Some m) None h k = absurd (k m h.0 h.1)
    at i (Some m) (Some n) h k = ap (λ (x : Near). Some x) (apart m n h.0 k.0 (h.1 ∙ sym k.1))

module _ (s : Scene) (real : IsReal s) (upper lower : List ℕ) (es : List Breakpoint) (swept : IsSwept s upper lower es) where
  -- there is one sweep
  record AreThese (u l : List ℕ) (fs : List Breakpoint) : Type 0 where
    same_upper : u ≡ upper
    same_lower : l ≡ lower
    same_list : fs ≡ es

  one_swept : (u l : List ℕ) (fs : List Breakpoint) → IsSwept s u l fs → AreThese u l fs
  one_swept u l fs w =
      let e = one_upper_chain s (real_line_laws s real) s.live u upper w.upper_chain swept.upper_chain in
      let f = one_upper_chain (reflected s) (real_line_laws (reflected s) (reflected-real s real)) s.live l lower w.lower_chain swept.lower_chain in
      let sweep = subst (λ xs. IsSweep s xs (reverse lower) fs) e (subst (λ xs. IsSweep s u (reverse xs) fs) f w.sweep) in
      record { same_upper = e; same_lower = f; same_list = only_one s (real_slope_laws s real) upper lower swept.upper_chain.rising swept.lower_chain.rising fs es sweep swept.sweep }

  -- ---- no cells with one slot
  left_then : (i j k : ℕ) → is_left s i j ≡ true → is_left s j k ≡ true → is_left s i k ≡ true
  left_then i j k = left_through _ _ _ ((real_line_laws s real).chain (pos 1) (pos 0) i j k)

  left_of_itself : (i : ℕ) → is_left s i i ≡ true → ⊥
  left_of_itself i = never_left (x_sign s i i) ((real_line_laws s real).opposite (pos 1) (pos 0) i i)

  upper_once : AreDistinct upper
  upper_once = chain_distinct (is_left s) left_then left_of_itself upper swept.upper_chain.rising

  lower_once : AreDistinct (reverse lower)
  lower_once = chain_distinct (λ x y. is_left s y x) (λ i j k a b. left_then k j i b a) left_of_itself (reverse lower) (chain_reversed (is_left s) lower swept.lower_chain.rising)

  pub differ : (m n : Near) → Contains (cell_pairs upper (reverse lower) es) m → Contains (cell_pairs upper (reverse lower) es) n → m.slot ≡ n.slot → m ≡ n
  differ m n c d g = slots_apart upper (reverse lower) es swept.sweep.of_upper swept.sweep.of_lower upper_once lower_once m n c d g

  -- ---- slopes
  slopes_exact : ListsExactly (map (placed_at s 0) (slopes_from es)) (IsSweepFact s)
  slopes_exact = record {
    once = distinct_mapped (placed_at s 0) (slopes_from es) (λ x y e. ap (λ (p : Placed). p.fact.form) e)
        (slopes_once s (real_slope_laws s real) es (in_order s (real_slope_laws s real) upper lower swept.upper_chain.rising swept.lower_chain.rising es swept.sweep));
    each = λ p. (to p, from p);
  }
    where
      to : (p : Placed) → Contains (map (placed_at s 0) (slopes_from es)) p → IsSweepFact s p
      to p c = let m = contains_mapped (placed_at s 0) (slopes_from es) p c in record { upper = upper; lower = lower; breakpoints = es; swept = swept; form = m.0; listed = m.1; fact = m.2 }

      from : (p : Placed) → IsSweepFact s p → Contains (map (placed_at s 0) (slopes_from es)) p
      from p w =
          let these = one_swept w.upper w.lower w.breakpoints w.swept in
          subst (λ (q : Placed). Contains (map (placed_at s 0) (slopes_from es)) q) (sym w.fact)
          (contains_map (placed_at s 0) (slopes_from es) w.form (subst (λ (fs : List Breakpoint). Contains (slopes_from fs) w.form) these.same_list w.listed))

  -- ---- the tournament
  module _ (size : ℕ) (slots : List (Option Near)) (filled : AreCellSlots size (cell_pairs upper (reverse lower) es) slots) where
    same_slots : (w : List (Option Near)) (u l : List ℕ) (fs : List Breakpoint) → IsSwept s u l fs → AreCellSlots size (cell_pairs u (reverse l) fs) w → w ≡ slots
    same_slots w u l fs known there =
        let these = one_swept u l fs known in
        one_cell_slots size (cell_pairs upper (reverse lower) es) w slots differ
        (subst (λ (gs : List Breakpoint). AreCellSlots size (cell_pairs upper (reverse lower) gs) w) these.same_list
        (subst (λ xs. AreCellSlots size (cell_pairs xs (reverse lower) fs) w) these.same_upper (subst (λ xs. AreCellSlots size (cell_pairs u (reverse xs) fs) w) these.same_lower there)))
        filled

    cells_exact : (pairs : List Placed) → ListsExactly pairs (IsNodeFact s farness_key (size + 1) slots) → ListsExactly (map (moved_by 1) pairs) (IsCellFact size s)
    cells_exact pairs exact =
        exactly_in_words (map (moved_by 1) pairs) _ _ (λ p. (to p, from p)) (exactly_mapped (moved_by 1) pairs (IsNodeFact s farness_key (size + 1) slots) (moved_one 1) exact)
      where
        to : (p : Placed) → (x : Placed) × IsNodeFact s farness_key (size + 1) slots x × (p ≡ moved_by 1 x) → IsCellFact size s p
        to p (x, f, e) = record { upper = upper; lower = lower; breakpoints = es; swept = swept; slots = slots; filled = filled; node = x; fact = f; placed = e }

        from : (p : Placed) → IsCellFact size s p → (x : Placed) × IsNodeFact s farness_key (size + 1) slots x × (p ≡ moved_by 1 x)
        from p w = (w.node, subst (λ xs. IsNodeFact s farness_key (size + 1) xs w.node) (same_slots w.slots w.upper w.lower w.breakpoints w.swept w.filled) w.fact, w.placed)

sweep_part : (s : Scene) (p : Placed) → IsSweepFact s p → p.part ≡ 0
sweep_part s p w = ap (λ (x : Placed). x.part) w.fact

cell_part : (size : ℕ) (s : Scene) (p : Placed) → IsCellFact size s p → 0 < p.part
cell_part size s p w = let e : p.part ≡ 1 + w.node.part = ap (λ (x : Placed). x.part) w.placed in omega (arith, e)

-- the facts of a sweep and of the tournament of its cells are those of the farthest pair
pub sweep_exact : (size : ℕ) (s : Scene) (real : IsReal s) (upper lower : List ℕ) (es : List Breakpoint) (swept : IsSwept s upper lower es) (slots : List (Option Near))
    → AreCellSlots size (cell_pairs upper (reverse lower) es) slots → (pairs : List Placed) → ListsExactly pairs (IsNodeFact s farness_key (size + 1) slots)
    → ListsExactly (map (placed_at s 0) (slopes_from es) ++ map (moved_by 1) pairs) (IsDiameterFact size s)
sweep_exact size s real upper lower es swept slots filled pairs exact =
    exactly_both (map (placed_at s 0) (slopes_from es)) (map (moved_by 1) pairs) (IsSweepFact s) (IsCellFact size s)
    (slopes_exact s real upper lower es swept) (cells_exact s real upper lower es swept size slots filled pairs exact)
    (λ p w v. let low = sweep_part s p w in let high = cell_part size s p v in omega (arith, low, high))

-- ---- by computation
module _ (size : ℕ) (cells : List Near) where
  -- a pair is in the slot that it names
  pub names_slot : (i : ℕ) (n : Near) → item_in (cell_slots size cells) i ≡ Some n → n.slot ≡ i
  names_slot i n e = ((cells_fill size cells).each i (Some n) (held_slot (cell_slots size cells) i n e)).1

  pub one_slot : (i j : ℕ) (a : Near) → item_in (cell_slots size cells) i ≡ Some a → item_in (cell_slots size cells) j ≡ Some a → i ≡ j
  one_slot i j a e f = sym (names_slot i a e) ∙ names_slot j a f

  pub nodes_exact : (s : Scene) → IsReal s → ListsExactly (tournament_facts s farness_key (size + 1) (cell_slots size cells)) (IsNodeFact s farness_key (size + 1) (cell_slots size cells))
  nodes_exact s real =
      let laws = real_distance_laws s real in
      tournament_agrees s farness_key (farther-otherwise s laws) (farther-through s laws) (farther-never s laws) (size + 1) (cell_slots size cells) one_slot
      (let c = (cells_fill size cells).count in omega (arith, c))

from_chains : (size : ℕ) (s : Scene) → IsReal s → (upper lower : List ℕ) → IsUpperChain s s.live upper → IsLowerChain s s.live lower
    → ListsExactly (facts_of_sweep size s upper lower (sweep_of s upper (reverse lower))) (IsDiameterFact size s)
from_chains size s real upper lower u l =
    let es = sweep_of s upper (reverse lower) in
    let cells = cell_pairs upper (reverse lower) es in
    let swept : IsSwept s upper lower es = record { upper_chain = u; lower_chain = l; sweep = (one_sweep s upper lower real u l).0 } in
    sweep_exact size s real upper lower es swept (cell_slots size cells) (cells_fill size cells) (tournament_facts s farness_key (size + 1) (cell_slots size cells)) (nodes_exact size cells s real)

pub diameter_facts_agree : DiameterFactsAgree
diameter_facts_agree size s real =
    from_chains size s real (upper_chain_of s s.live) (lower_chain_of s s.live) (chain_proved s s.live real (live-once s real)) (chain_proved (reflected s) s.live (reflected-real s real) (live-once s real))

pub slots_differ : SlotsDiffer
slots_differ s upper lower es m n real swept c d g = differ s real upper lower es swept m n c d g
