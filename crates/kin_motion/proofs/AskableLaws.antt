-- Every live fact may be asked for.
use Rattle.std.proofs.Common.{◌≡◌, ◌⊎◌, inl, inr, refl, sym, ap, ◌∙◌, subst, List, [], ◌∷◌, ℕ, zero, suc, ◌+◌, ◌*◌, ◌/◌, ◌%◌, ◌≤◌, ◌^◌, Bool, true, false, cond, map, ℤ, pos, unsigned_abs, arith}
use Rattle.std.specs.Prelude.{Option, Some, None, Contains, slice_get, ◌≤ℤ◌}
use Rattle.std.proofs.lemmas.Int.{ints}
use Rattle.std.proofs.Math.Nat.{div-add-mod}
use Rattle.std.proofs.lemmas.Nat.{mod_below}
use Rattle.std.proofs.lemmas.Bool.{and_parts}
use Rattle.kin_algebra.proofs.Members.{contains_none, contains_cases, contains_from_get}
use Rattle.kin_motion.specs.declared.form.Form.{Form}
use Rattle.kin_motion.specs.declared.form.Form.TheVariants.{Line, Dist}
use Rattle.kin_motion.specs.declared.fact.Placed.{Placed}
use Rattle.kin_motion.specs.declared.keep.Keep.{Keep}
use Rattle.kin_motion.specs.declared.keep.Keep.TheVariants.{Order, Extreme, Hull, Closest, Range, Nearest, Diameter, Boxes}
use Rattle.kin_motion.specs.Forms.{IsAskable}
use Rattle.kin_motion.specs.Numbers.{is_in, IsIn}
use Rattle.kin_motion.specs.Scene.{Scene, placed_at}
use Rattle.kin_motion.specs.Orders.{neighbour_forms, IsOrderFact}
use Rattle.kin_motion.specs.Tournaments.{item_in}
use Rattle.kin_motion.specs.Extremes.{slot_of_point, point_slots, along_key, IsExtremeFact}
use Rattle.kin_motion.specs.Octants.{Octant, is_in_octant, IsCandidate, Direction, eight_directions}
use Rattle.kin_motion.specs.ClosestPairs.{Near, distance_key}
use Rattle.kin_motion.specs.ClosestFacts.{HoldsNear, AreNearSlots, IsWedgeFact, IsClosestFact}
use Rattle.kin_motion.specs.Merges.{IsHullFact}
use Rattle.kin_motion.specs.Live.{IsKeepFact, IsSmallKeep}
use Rattle.kin_motion.specs.Theorems.{LiveFactsAreAskable}
use Rattle.kin_motion.proofs.BoxFactLaws.{box_fact_askable}
use Rattle.kin_motion.proofs.SetLaws.{contains_mapped}
use Rattle.kin_motion.proofs.AgreementLaws.{kept-members}
use Rattle.kin_motion.proofs.NearLaws.{octant_at}
use Rattle.kin_motion.proofs.AskableMerges.{AllLive, node_form_askable}
use Rattle.kin_motion.proofs.Members.{in_head, in_tail}
use Rattle.kin_motion.proofs.NodeLaws.{held_slot}
use Rattle.kin_motion.proofs.AskableNodes.{AreTwoLive, near_live, node_fact_askable}
use Rattle.kin_motion.proofs.AskableSweeps.{diameter_fact_askable}

-- ---- orders
neighbours_askable : (live : List ℕ) (dx dy : ℤ) → unsigned_abs dx ≤ 16 → unsigned_abs dy ≤ 16 → (xs : List ℕ) → AllLive live xs → (f : Form) → Contains (neighbour_forms dx dy xs) f → IsAskable live f
neighbours_askable live dx dy x_small y_small [] known f h = absurd (contains_none f h)
neighbours_askable live dx dy x_small y_small (i ∷ []) known f h = absurd (contains_none f h)
neighbours_askable live dx dy x_small y_small (i ∷ j ∷ xs) known f h =
    at (contains_cases (Line dx dy (pos 0) i j) f (neighbour_forms dx dy (j ∷ xs)) h) (neighbours_askable live dx dy x_small y_small (j ∷ xs) (λ k e. known k (in_tail k i (j ∷ xs) e)) f)
  where
    here : IsAskable live (Line dx dy (pos 0) i j)
    here = record {
      i_live = known i (in_head i (j ∷ xs));
      j_live = known j (in_tail j i (j ∷ xs) (in_head j xs));
      dx_small = x_small;
      dy_small = y_small;
      off_small = omega arith;
    }

    at : (Line dx dy (pos 0) i j ≡ f) ⊎ Contains (neighbour_forms dx dy (j ∷ xs)) f → (Contains (neighbour_forms dx dy (j ∷ xs)) f → IsAskable live f) → IsAskable live f
    at (inl e) rest = subst (IsAskable live) e here
    at (inr l) rest = rest l

pub order_fact_askable : (s : Scene) (dx dy : ℤ) (part : ℕ) → unsigned_abs dx ≤ 16 → unsigned_abs dy ≤ 16 → (p : Placed) → IsOrderFact s dx dy part p → IsAskable s.live p.fact.form
order_fact_askable s dx dy part x_small y_small p f =
    let m = contains_mapped (placed_at s part) (neighbour_forms dx dy f.order) p f.listed in
    let form : m.0 ≡ p.fact.form = sym (ap (λ (q : Placed). q.fact.form) m.2) in
    subst (IsAskable s.live) form (neighbours_askable s.live dx dy x_small y_small f.order (λ i e. sym (f.ordered.all.same i) ∙ e) m.0 m.1)

-- ---- tournaments
-- what a slot of points holds is live
held_live : (live xs : List ℕ) (n i : ℕ) → item_in (map (slot_of_point live) xs) n ≡ Some i → IsIn i live
held_live live [] n i e = absurd cc
held_live live (x ∷ xs) zero i e = at (is_in x live) refl e
  where
    at : (b : Bool) → is_in x live ≡ b → cond b (Some x) None ≡ Some i → IsIn i live
    at true f g = let same : x ≡ i = cc in subst (λ j. is_in j live ≡ true) same f
    at false f g = absurd cc
held_live live (x ∷ xs) (suc n) i e = held_live live xs n i e

extreme_fact_askable : (size : ℕ) (s : Scene) (dx dy : ℤ) → unsigned_abs dx ≤ 16 → unsigned_abs dy ≤ 16 → (p : Placed) → IsExtremeFact size s dx dy p → IsAskable s.live p.fact.form
extreme_fact_askable size s dx dy x_small y_small = node_fact_askable s (along_key dx dy) size (point_slots size s.live) (λ i j a b e f. record {
  i_live = held_live s.live _ i a e;
  j_live = held_live s.live _ j b f;
  dx_small = x_small;
  dy_small = y_small;
  off_small = omega arith;
})

-- ---- the closest pair
pair_live : (size : ℕ) (s : Scene) (slots : List (Option Near)) → AreNearSlots size s slots → (n : ℕ) (a : Near) → item_in slots n ≡ Some a → AreTwoLive s.live a
pair_live size s slots filled n a e =
    let o = octant_at (n % 8) (mod_below n 8 (omega arith)) in
    let held : slice_get slots (8 * (n / 8) + n % 8) ≡ Some (Some a) = ap (slice_get slots) (div-add-mod n 8) ∙ held_slot slots n a e in
    let k : HoldsNear s o.0 (n / 8) (8 * (n / 8) + n % 8) (Some a) = filled.each (n / 8) (n % 8) o.0 (Some a) o.1 held in
    subst (AreTwoLive s.live) (sym k.3) (near_live s.live (8 * (n / 8) + n % 8) (n / 8) k.0 k.1 (member o.0 (n / 8) k.0 k.2))
  where
    member : (o : Octant) (p c : ℕ) → IsCandidate s o p c → IsIn c s.live
    member o p c h = (and_parts (is_in c s.live) (is_in_octant s o p c) (sym (kept-members (is_in_octant s o p) s.live c) ∙ h.member)).0

small_of : {a : Direction} (d : Direction) → Some a ≡ Some d → unsigned_abs a.dx ≤ 16 → unsigned_abs a.dy ≤ 16 → (unsigned_abs d.dx ≤ 16) × (unsigned_abs d.dy ≤ 16)
small_of {a} d e x y = let same : a ≡ d = cc in subst (λ (k : Direction). (unsigned_abs k.dx ≤ 16) × (unsigned_abs k.dy ≤ 16)) same (x, y)

small_direction : (n : ℕ) (d : Direction) → slice_get eight_directions n ≡ Some d → (unsigned_abs d.dx ≤ 16) × (unsigned_abs d.dy ≤ 16)
small_direction zero d e = small_of d e (omega arith) (omega arith)
small_direction (suc zero) d e = small_of d e (omega arith) (omega arith)
small_direction (suc (suc zero)) d e = small_of d e (omega arith) (omega arith)
small_direction (suc (suc (suc zero))) d e = small_of d e (omega arith) (omega arith)
small_direction (suc (suc (suc (suc zero)))) d e = small_of d e (omega arith) (omega arith)
small_direction (suc (suc (suc (suc (suc zero))))) d e = small_of d e (omega arith) (omega arith)
small_direction (suc (suc (suc (suc (suc (suc zero)))))) d e = small_of d e (omega arith) (omega arith)
small_direction (suc (suc (suc (suc (suc (suc (suc zero))))))) d e = small_of d e (omega arith) (omega arith)
small_direction (suc (suc (suc (suc (suc (suc (suc (suc n)))))))) d e = absurd cc

wedge_fact_askable : (s : Scene) (p : Placed) → IsWedgeFact s p → IsAskable s.live p.fact.form
wedge_fact_askable s p w = let d = small_direction p.part w.way w.known in order_fact_askable s w.way.dx w.way.dy p.part d.0 d.1 p w.fact

closest_fact_askable : (size : ℕ) (s : Scene) (p : Placed) → IsClosestFact size s p → IsAskable s.live p.fact.form
closest_fact_askable size s p (inl w) = wedge_fact_askable s p w
closest_fact_askable size s p (inr f) =
    subst (IsAskable s.live) (sym (ap (λ (q : Placed). q.fact.form) f.placed))
    (node_fact_askable s distance_key (size + 3) f.slots (λ i j a b x y. pairs a b (pair_live size s f.slots f.filled i a x) (pair_live size s f.slots f.filled j b y)) f.node f.fact)
  where
    pairs : (a b : Near) → AreTwoLive s.live a → AreTwoLive s.live b → IsAskable s.live (Dist a.i a.j b.i b.j)
    pairs a b x y = (x.0, x.1, y.0, y.1)

-- ---- the hull
hull_fact_askable : (size : ℕ) (s : Scene) (p : Placed) → IsHullFact size s p → IsAskable s.live p.fact.form
hull_fact_askable size s p (inl f) = subst (IsAskable s.live) (sym (ap (λ (q : Placed). q.fact.form) f.fact)) (node_form_askable size s f.node f.form f.merge)
hull_fact_askable size s p (inr f) = subst (IsAskable s.live) (sym (ap (λ (q : Placed). q.fact.form) f.fact)) (node_form_askable size _ f.node f.form f.merge)

-- ---- boxes
small_size : (size : ℤ) → pos 0 ≤ℤ size → size ≤ℤ pos 4096 → unsigned_abs size ≤ 2 ^ 16
small_size size low high = omega (arith, ints, low, high)

-- ---- all structures
pub keep_fact_askable : (size : ℕ) (s : Scene) (k : Keep) (p : Placed) → IsSmallKeep k → IsKeepFact size s k p → IsAskable s.live p.fact.form
keep_fact_askable size s (Order dx dy) p small f = order_fact_askable s dx dy 0 small.0 small.1 p f
keep_fact_askable size s (Extreme dx dy) p small f = extreme_fact_askable size s dx dy small.0 small.1 p f
keep_fact_askable size s Hull p small f = hull_fact_askable size s p f
keep_fact_askable size s Closest p small f = closest_fact_askable size s p f
keep_fact_askable size s Range p small (inl f) = order_fact_askable s (pos 1) (pos 0) 0 (omega arith) (omega arith) p f
keep_fact_askable size s Range p small (inr f) = order_fact_askable s (pos 0) (pos 1) 1 (omega arith) (omega arith) p f
keep_fact_askable size s Nearest p small f = wedge_fact_askable s p f
keep_fact_askable size s Diameter p small f = diameter_fact_askable size s p f
keep_fact_askable size s (Boxes width height) p small f =
    box_fact_askable s width height p (small_size width small.0 small.1) (small_size height small.2 small.3) f

pub live_facts_are_askable : LiveFactsAreAskable
live_facts_are_askable size keeps s c small f =
    let k = contains_from_get keeps c.structure f.keep f.kept in
    keep_fact_askable size s f.keep c.placed (subst IsSmallKeep k.2 (small k.0 f.keep k.1)) f.fact
