-- Without members it is settled wherever no number is live.
use Rattle.std.proofs.Common.{◌≡◌, inl, inr, refl, sym, ap, ◌∙◌, subst, arith, [], ◌++◌, ℕ, ◌+◌, ◌*◌, ◌/◌, ◌%◌, ◌^◌, ◌≤◌, length, map, true, false}
use Rattle.std.specs.Prelude.{Option, Some, None, slice_get, replicate}
use Rattle.std.proofs.lemmas.List.{length-replicate}
use Rattle.std.proofs.lemmas.Nat.{pow-add}
use Rattle.std.proofs.lemmas.Option.{none-some, slice_get-get_or}
use Rattle.std.proofs.Math.Pow.{pow_pos}
use Rattle.kin_algebra.proofs.Places.{get_or-replicate_any}
use Rattle.kin_algebra.specs.declared.sign.Sign.TheVariants.{Zero}
use Rattle.kin_motion.specs.declared.fact.Placed.{Placed}
use Rattle.kin_motion.specs.ClosestFacts.{HoldsNear, near_of, IsClosestFact}
use Rattle.kin_motion.specs.ClosestPairs.{Near, distance_key, pair_in, IsClosest}
use Rattle.kin_motion.specs.Contents.{IsSettledClosest, IsWinner}
use Rattle.kin_motion.specs.Numbers.{is_in, IsIn}
use Rattle.kin_motion.specs.Parts.{moved_by}
use Rattle.kin_motion.specs.Scene.{Scene}
use Rattle.kin_motion.specs.Sets.{ListsExactly}
use Rattle.kin_motion.specs.Tournaments.{item_in}
use Rattle.kin_motion.proofs.NodeLaws.{held_slot}
use Rattle.kin_motion.proofs.NearLaws.{octant_at}
use Rattle.kin_motion.proofs.SetLaws.{exactly_none}
use Rattle.kin_list.specs.declared.mark.Mark.TheVariants.{Rest, Enters}
use Rattle.kin_tourney.specs.Tournament.{Tournament, IsAtRest, IsSettled, winner_at}
use Rattle.kin_wedge.specs.Wedging.{Wedging, candidate_told}
use Rattle.kin_wedge.proofs.NoMembers.{HasNoMembers, candidate_none, no_wedge_fact, settled_without}
use Rattle.kin_near.specs.BestPairs.{HoldCandidates}
use Rattle.kin_pairs.specs.declared.distance.Distance.{Distance}
use Rattle.kin_closest.specs.Closing.{Closing, facts_of, pair_told, IsSettledClosing, AreJoined}
use Rattle.kin_pairs.specs.PairKeys.{pair_names}

-- the eight orders and the tournament of a structure without members
pub record AreNone (wedges : Wedging) (pairs : Tournament Distance Near) : Type 0 where
  pub orders : wedges.orders ≡ replicate 8 []
  pub facts : wedges.facts ≡ []
  pub candidates : wedges.candidates ≡ replicate (8 * 2 ^ wedges.size) None
  pub size : pairs.size ≡ wedges.size + 3
  pub slots : pairs.slots ≡ replicate (2 ^ (wedges.size + 3)) None
  pub pair_facts : pairs.facts ≡ []
  pub settled : (s : Scene) → IsSettled pair_names distance_key pairs s

module _ (k : Closing) (are : AreNone k.wedges k.pairs) (s : Scene) (none : s.live ≡ []) where
  no_live : (i : ℕ) → ¬ (IsIn i s.live)
  no_live i h = let clash : false ≡ true = sym (ap (is_in i) none) ∙ h in cc

  no_members : HasNoMembers k.wedges
  no_members = record { orders = are.orders; facts = are.facts; candidates = are.candidates }

  slot_none : (i : ℕ) → item_in k.pairs.slots i ≡ None
  slot_none i = ap (λ xs. item_in xs i) are.slots ∙ get_or-replicate_any (2 ^ (k.wedges.size + 3)) i None

  held : HoldCandidates k.wedges.size (candidate_told k.wedges) k.pairs.slots
  held = record {
    count = count;
    each = λ p w low eight.
        slice_get-get_or k.pairs.slots (8 * p + w) None (let g = pow-add 2 k.wedges.size 3 in let c = count in omega (arith, c, g, low, eight))
        ∙ ap (λ (x : Option Near). Some x) (slot_none (8 * p + w) ∙ sym (ap (near_of (8 * p + w) p) (candidate_none k.wedges no_members s none p w)));
  }
    where
      count : length k.pairs.slots ≡ 2 ^ (k.wedges.size + 3)
      count = ap length are.slots ∙ length-replicate (2 ^ (k.wedges.size + 3)) None

  no_winner : winner_at k.pairs 1 ≡ None
  no_winner = at (winner_at k.pairs 1) ((are.settled s).tournament.winners 1 (omega arith) (let g = pow-add 2 k.pairs.size 1 in omega (arith, g, pow_pos k.pairs.size)))
    where
      at : (x : Option Near) → IsWinner s distance_key k.pairs.size k.pairs.slots 1 x → x ≡ None
      at None h = refl
      at (Some m) h = absurd (none-some m (sym (slot_none h.slot) ∙ h.held))

  no_fact : (p : Placed) → ¬ (IsClosestFact k.wedges.size s p)
  no_fact p (inl w) = no_wedge_fact k.wedges no_members s none p w
  no_fact p (inr v) = no_live _ (here v.fact.left_best.slot v.fact.left v.fact.left_best.held).1
    where
      here : (i : ℕ) (m : Near) → item_in v.slots i ≡ Some m → HoldsNear s (octant_at (i % 8) (omega arith)).0 (i / 8) (8 * (i / 8) + i % 8) (Some m)
      here i m e = let place : i ≡ 8 * (i / 8) + i % 8 = omega arith in v.filled.each (i / 8) (i % 8) (octant_at (i % 8) (omega arith)).0 (Some m) (octant_at (i % 8) (omega arith)).1 (sym (ap (slice_get v.slots) place) ∙ held_slot v.slots i m e)

  closest : IsSettledClosest s k.wedges.size (pair_told k) (facts_of k)
  closest = record {
    pair = subst (IsClosest s) (sym (ap pair_in no_winner)) (λ i j a b. absurd (no_live i a));
    exact = subst (λ fs. ListsExactly fs (IsClosestFact k.wedges.size s)) (sym nothing) (exactly_none _ no_fact);
  }
    where
      nothing : facts_of k ≡ []
      nothing = λ t. are.facts t ++ map (moved_by 8) (are.pair_facts t)

  pub vacant_settled : IsSettledClosing k s
  vacant_settled = record { closest = closest; fits = λ i l. absurd (no_live i l); octants = settled_without k.wedges no_members s none; size = are.size; held = held; pairs = are.settled s }

-- a new structure has no members
pub none_made : (size : ℕ) (wedges : Wedging) (pairs : Tournament Distance Near) → wedges ≡ record { size = size; orders = replicate 8 []; facts = []; candidates = replicate (8 * 2 ^ size) None; changed = []; mark = Rest }
    → pairs.size ≡ size + 3 → pairs.slots ≡ replicate (2 ^ (size + 3)) None → pairs.facts ≡ [] → ((s : Scene) → IsSettled pair_names distance_key pairs s) → AreNone wedges pairs
none_made size wedges pairs is psize slots facts settled =
    subst (λ (w : Wedging). AreNone w pairs) (sym is)
    (record { orders = refl; facts = refl; candidates = refl; size = psize; slots = slots; pair_facts = facts; settled = settled })

pub joined_made : (size : ℕ) (wedges : Wedging) (pairs : Tournament Distance Near) → AreNone wedges pairs → wedges.mark ≡ Rest → wedges.size ≤ 12 → IsAtRest pairs → pairs.size ≡ size + 3 → pairs.marked ≡ replicate (2 ^ (size + 3)) false → AreJoined wedges pairs
joined_made size wedges pairs are rests small rest psize marked = record {
  seen = record { live = []; sign = λ f. Zero };
  settled = vacant_settled (record { wedges = wedges; pairs = pairs; whole = true }) are (record { live = []; sign = λ f. Zero }) refl;
  rest = rest;
  room = ap length marked ∙ length-replicate (2 ^ (size + 3)) false ∙ ap (λ n. 2 ^ n) (sym psize);
  entering = λ i e. absurd (let clash : Rest ≡ Enters i = sym rests ∙ e in cc);
  small = small;
}
