-- Where the octants and the tournament of their pairs are settled, the closest pair is.
use Rattle.std.proofs.Common.{◌≡◌, refl, sym, ap, ◌∙◌, subst, arith, ℕ, ◌+◌, ◌*◌, ◌^◌, ◌<◌, ◌≤◌, Bool, true, false, List, ◌++◌, map}
use Rattle.std.specs.Prelude.{Option, Some, None, slice_get}
use Rattle.std.proofs.lemmas.Nat.{pow-add}
use Rattle.std.proofs.lemmas.Option.{slice_get_within, same_Some}
use Rattle.kin_motion.specs.declared.fact.Placed.{Placed}
use Rattle.kin_motion.specs.Numbers.{is_in, IsIn}
use Rattle.kin_motion.specs.Sets.{ListsExactly}
use Rattle.kin_motion.specs.Scene.{Scene, IsReal}
use Rattle.kin_motion.specs.Agreements.{FitsSize}
use Rattle.kin_motion.specs.Contents.{IsWinner, IsSettledTournament, IsSettledClosest}
use Rattle.kin_motion.specs.Octants.{Octant, octants, eight_directions, AreCandidates, IsCandidateAnswer}
use Rattle.kin_motion.specs.Tournaments.{IsNodeFact, is_under, item_in}
use Rattle.kin_motion.specs.ClosestPairs.{Near, distance_key, pair_in}
use Rattle.kin_motion.specs.ClosestFacts.{near_of, HoldsNear, AreNearSlots, IsWedgeFact, IsPairFact}
use Rattle.kin_motion.specs.Parts.{moved_by}
use Rattle.kin_motion.proofs.NearLaws.{one_near}
use Rattle.kin_motion.proofs.PartLaws.{moved_one}
use Rattle.kin_motion.proofs.SetLaws.{exactly_both, exactly_in_words, exactly_mapped}
use Rattle.kin_motion.proofs.UnderNodes.{under_root, root_low}
use Rattle.kin_near.specs.BestPairs.{IsBestPair, HoldCandidates, ClosestIsSettled}
use Rattle.kin_motion.proofs.NodeLaws.{held_slot}
use Rattle.kin_near.proofs.BestPairs.{best_pair_is_closest}

module _ (size : ℕ) (s : Scene) (candidate : ℕ → ℕ → Option ℕ) (told : AreCandidates size s candidate) (slots : List (Option Near)) (h : HoldCandidates size candidate slots) where
  -- the slots of all candidates are the slots of pairs
  pub are_near : AreNearSlots size s slots
  are_near = record {
    count = h.count;
    each = λ p w o held e f.
        let w_low : w < 8 = slice_get_within octants w o e in
        let low : p < 2 ^ size = (let k = slice_get_within slots (8 * p + w) held f in let c = h.count in let g = pow-add 2 size 3 in omega (arith, k, c, g)) in
        subst (HoldsNear s o p (8 * p + w)) (same_Some _ _ (sym (h.each p w low w_low) ∙ f)) (rightly p w o e low w_low);
  }
    where
      rightly : (p w : ℕ) (o : Octant) → slice_get octants w ≡ Some o → p < 2 ^ size → w < 8 → HoldsNear s o p (8 * p + w) (near_of (8 * p + w) p (candidate p w))
      rightly p w o e low w_low = at (is_in p s.live) refl
        where
          of_live : IsIn p s.live → (a : Option ℕ) → IsCandidateAnswer s o p a → HoldsNear s o p (8 * p + w) (near_of (8 * p + w) p a)
          of_live live None k = λ c l. k c
          of_live live (Some c) k = (c, live, k, refl)

          at : (t : Bool) → is_in p s.live ≡ t → HoldsNear s o p (8 * p + w) (near_of (8 * p + w) p (candidate p w))
          at true live = of_live live (candidate p w) (told.of_live p w o live e)
          at false absent =
              let not_live : ¬ (IsIn p s.live) = λ l. absurd (let clash : false ≡ true = sym absent ∙ l in cc) in
              subst (λ a. HoldsNear s o p (8 * p + w) (near_of (8 * p + w) p a)) (sym (told.of_others p w low w_low not_live)) (λ c l. absurd (not_live l))

module _ (size : ℕ) (s : Scene) (slots : List (Option Near)) (filled : AreNearSlots size s slots) where
  -- the winner at the root is the best of all
  under : (i : ℕ) (b : Near) → item_in slots i ≡ Some b → is_under (size + 3) 1 i ≡ true
  under i b e = under_root (size + 3) i (let k = slice_get_within slots i (Some b) (held_slot slots i b e) in let c = filled.count in omega (arith, k, c))

  from_root : (winner : Option Near) → IsWinner s distance_key (size + 3) slots 1 winner → IsBestPair s slots winner
  from_root None none = λ i. at i (item_in slots i) refl
    where
      at : (i : ℕ) (x : Option Near) → item_in slots i ≡ x → item_in slots i ≡ None
      at i None e = e
      at i (Some b) e = none i (under i b e)
  from_root (Some m) best = record {
    slot = best.slot;
    among = refl;
    held = best.held;
    beats_others = λ i b n t e. best.beats_others i b n (under i b e) e;
  }

  pairs_exact : IsReal s → (pairs : List Placed) → ListsExactly pairs (IsNodeFact s distance_key (size + 3) slots) → ListsExactly (map (moved_by 8) pairs) (IsPairFact size s)
  pairs_exact real pairs exact =
      exactly_in_words (map (moved_by 8) pairs) _ _ (λ p. (to p, from p)) (exactly_mapped (moved_by 8) pairs (IsNodeFact s distance_key (size + 3) slots) (moved_one 8) exact)
    where
      to : (p : Placed) → (x : Placed) × IsNodeFact s distance_key (size + 3) slots x × (p ≡ moved_by 8 x) → IsPairFact size s p
      to p (x, f, e) = record { slots = slots; filled = filled; node = x; fact = f; placed = e }

      from : (p : Placed) → IsPairFact size s p → (x : Placed) × IsNodeFact s distance_key (size + 3) slots x × (p ≡ moved_by 8 x)
      from p w = (w.node, subst (λ xs. IsNodeFact s distance_key (size + 3) xs w.node) (one_near s real size w.slots slots w.filled filled) w.fact, w.placed)

pub wedge_part : (s : Scene) (p : Placed) → IsWedgeFact s p → p.part < 8
wedge_part s p w = slice_get_within eight_directions p.part w.way w.known

pair_part : (size : ℕ) (s : Scene) (p : Placed) → IsPairFact size s p → 8 ≤ p.part
pair_part size s p w = let e : p.part ≡ 8 + w.node.part = ap (λ (x : Placed). x.part) w.placed in omega (arith, e)

-- where the tournament of the pairs is settled, so is the closest pair
pub pairs_settle : (size : ℕ) (s : Scene) (slots : List (Option Near)) (winner : ℕ → Option Near) (orders pairs : List Placed) → IsReal s → FitsSize size s → ListsExactly orders (IsWedgeFact s)
    → AreNearSlots size s slots → IsSettledTournament s distance_key (size + 3) slots winner pairs → IsSettledClosest s size (pair_in (winner 1)) (orders ++ map (moved_by 8) pairs)
pairs_settle size s slots winner orders pairs real fits exact filled tourney = record {
  pair = best_pair_is_closest size s slots (winner 1) real fits filled (from_root size s slots filled (winner 1) (tourney.winners 1 (omega arith) (root_low (size + 3))));
  exact = exactly_both orders (map (moved_by 8) pairs) (IsWedgeFact s) (IsPairFact size s) exact (pairs_exact size s slots filled real pairs tourney.exact)
      (λ p w v. let low = wedge_part s p w in let high = pair_part size s p v in omega (arith, low, high));
}

pub closest_is_settled : ClosestIsSettled
closest_is_settled size s candidate slots winner orders pairs real fits wedges held tourney =
    pairs_settle size s slots winner orders pairs real fits wedges.exact (are_near size s candidate wedges.candidates slots held) tourney
