-- A hull that is settled by its trees.
use Rattle.std.proofs.Common.{◌≡◌, ◌⊎◌, inl, inr, sym, ap, ap₂, ◌∙◌, subst, List, ◌++◌, ℕ, ◌^◌, ◌<◌, ◌≤◌, Bool, true, not, ◌&&◌, map, filter}
use Rattle.std.specs.Prelude.{Contains, IsTrue}
use Rattle.kin_motion.specs.declared.fact.Placed.{Placed}
use Rattle.kin_motion.specs.Deltas.{Change}
use Rattle.kin_motion.specs.Kinetics.{ListsFailing, HasChanged}
use Rattle.kin_motion.specs.Numbers.{is_in}
use Rattle.kin_motion.specs.Scene.{Scene, IsReal, reflected}
use Rattle.kin_motion.proofs.ChangeLaws.{both_changed}
use Rattle.kin_overlay.specs.Overlays.{names_any}
use Rattle.kin_env.specs.MarkLaws.{in_leaving, same_named}
use Rattle.kin_env.specs.Trees.{Envelope, IsEnvelopeAtRest, IsSettledEnvelope, chain_of_slot, leaving_of, names_leaving}
use Rattle.kin_env.specs.Walks.{slot_in, own_chain}
use Rattle.kin_hull.specs.declared.side.Side.{Side}
use Rattle.kin_hull.specs.declared.side.Side.TheVariants.{Upper, Lower}
use Rattle.kin_hull.specs.HullLaws.{settled_upright, hull_settled}
use Rattle.kin_hull.specs.Hulls.{Hull, ArePaired, IsReadyHull, facts_of}
use Rattle.kin_hull.specs.SideLaws.{same_form, not_of_both}
use Rattle.kin_hull.specs.Sides.{outward, inward, is_of}
use Rattle.kin_hull.proofs.Splitting.{sorted_failing, upper_out, lower_out, upper_back, lower_back, mapped_of}

-- from two trees with the same slots, settled alike, the same numbers leave
same_leave : (t u : Envelope) → u.size ≡ t.size → u.slots ≡ t.slots → ((i : ℕ) → i < 2 ^ t.size → chain_of_slot u i ≡ chain_of_slot t i) → (i : ℕ) → Contains (leaving_of u) i → Contains (leaving_of t) i
same_leave t u size slots leaves i c =
    let k = (in_leaving u i).0 c in
    let low = subst (λ n. i < 2 ^ n) size k.0 in
    (in_leaving t i).1 (low, ap₂ (λ (xs : List ℕ) (ss : List Bool). is_in i xs && not (slot_in ss i)) (sym (leaves i low)) (sym slots) ∙ k.1)

-- so a fact out in the hull is spared where it is in its tree
spared_out : (side : Side) (t : Envelope) (x : Placed) → names_leaving t (outward side x) ≡ names_leaving t x
spared_out side t x = ap (λ f. names_any f (leaving_of t)) (same_form side x)

spared_alike : (upper lower : Envelope) → ArePaired upper lower → (x : Placed) → names_leaving upper x ≡ names_leaving lower x
spared_alike upper lower known x =
    same_named x.fact.form (leaving_of upper) (leaving_of lower) (λ i. (same_leave lower upper (sym known.size) (sym known.slots) (λ j h. sym (known.leaves j (subst (λ n. j < 2 ^ n) known.size h))) i, same_leave upper lower known.size known.slots known.leaves i))

-- callers see the trees as a hull, which is ready
module _ (upper lower : Envelope) (whole : Bool) (s : Scene) (seen : Hull) (paired : IsTrue whole → ArePaired upper lower) (view : record { upper = upper; lower = lower; whole = whole } ≡ seen) (may : IsReadyHull seen s) where
  pub known : ArePaired upper lower
  known = paired (subst (λ (k : Hull). IsReadyHull k s) (sym view) may).whole

  module _ (failed : List Placed) (real : IsReal s) (told : ListsFailing (facts_of seen) (names_leaving seen.upper) s failed) where
    failing : ListsFailing (map (outward Upper) upper.facts ++ map (outward Lower) lower.facts) (names_leaving upper) s failed
    failing = subst (λ (k : Hull). ListsFailing (facts_of k) (names_leaving k.upper) s failed) (sym view) told

    pub upper_failing : ListsFailing upper.facts (names_leaving upper) s (map (inward Upper) (filter (is_of Upper) failed))
    upper_failing =
        sorted_failing Upper s real upper.facts (map (outward Upper) upper.facts ++ map (outward Lower) lower.facts) failed (names_leaving upper) (names_leaving upper)
        (settled_upright upper known.seen known.settled.upper) (upper_out upper.facts lower.facts) (upper_back upper.facts lower.facts)
        (spared_out Upper upper) failing

    pub lower_failing : ListsFailing lower.facts (names_leaving lower) (reflected s) (map (inward Lower) (filter (is_of Lower) failed))
    lower_failing =
        sorted_failing Lower s real lower.facts (map (outward Upper) upper.facts ++ map (outward Lower) lower.facts) failed (names_leaving upper) (names_leaving lower)
        (settled_upright lower (reflected known.seen) known.settled.lower) (lower_out upper.facts lower.facts) (lower_back upper.facts lower.facts)
        (λ x. spared_out Lower upper x ∙ spared_alike upper lower known x) failing

-- both trees, settled at rest over the same slots, are paired again
pub paired_again : (old_upper old_lower upper lower : Envelope) (s : Scene) → IsReal s → ArePaired old_upper old_lower
    → upper ≡ record old_upper { chains = upper.chains; facts = upper.facts } → lower ≡ record old_lower { chains = lower.chains; facts = lower.facts }
    → IsEnvelopeAtRest upper → IsEnvelopeAtRest lower → IsSettledEnvelope upper s → IsSettledEnvelope lower (reflected s) → ArePaired upper lower
paired_again old_upper old_lower upper lower s real known up low upper_rest lower_rest upper_settled lower_settled = record {
  size = size;
  small = subst (λ n. n ≤ 12) (sym upper_size) known.small;
  slots = slots;
  leaves = λ i h.
      lower_rest.unmarked i (subst (λ n. i < 2 ^ n) (sym size) h) ∙ ap (λ (xs : List Bool). own_chain i (slot_in xs i)) slots ∙ sym (upper_rest.unmarked i h);
  upper_whole = upper_rest.whole;
  lower_whole = lower_rest.whole;
  seen = s;
  settled = hull_settled (record { upper = upper; lower = lower; whole = upper.whole }) s real upper_settled lower_settled size;
}
  where
    upper_size : upper.size ≡ old_upper.size
    upper_size = ap (λ (t : Envelope). t.size) up

    upper_slots : upper.slots ≡ old_upper.slots
    upper_slots = ap (λ (t : Envelope). t.slots) up

    size : lower.size ≡ upper.size
    size = ap (λ (t : Envelope). t.size) low ∙ known.size ∙ sym upper_size

    slots : lower.slots ≡ upper.slots
    slots = ap (λ (t : Envelope). t.slots) low ∙ known.slots ∙ sym upper_slots

-- the reports of both trees are that of the hull
pub both_reported : (upper upper' lower lower' : List Placed) (out mid out' : Change) → HasChanged (map (outward Upper) upper) (map (outward Upper) upper') out mid → HasChanged (map (outward Lower) lower) (map (outward Lower) lower') mid out'
    → HasChanged (map (outward Upper) upper ++ map (outward Lower) lower) (map (outward Upper) upper' ++ map (outward Lower) lower') out out'
both_reported upper upper' lower lower' out mid out' first second =
    both_changed (map (outward Upper) upper) (map (outward Upper) upper') (map (outward Lower) lower) (map (outward Lower) lower') out mid out' (λ p a b. not_of_both p (of_upper p a) (of_lower p b)) first second
  where
    of_upper : (p : Placed) → Contains (map (outward Upper) upper) p ⊎ Contains (map (outward Upper) upper') p → is_of Upper p ≡ true
    of_upper p (inl c) = mapped_of Upper upper p c
    of_upper p (inr c) = mapped_of Upper upper' p c

    of_lower : (p : Placed) → Contains (map (outward Lower) lower) p ⊎ Contains (map (outward Lower) lower') p → is_of Lower p ≡ true
    of_lower p (inl c) = mapped_of Lower lower p c
    of_lower p (inr c) = mapped_of Lower lower' p c
