-- Slots that point at slots of their octant, as candidates.
use Rattle.std.proofs.Common.{◌≡◌, refl, sym, ap, ◌∙◌, subst, arith, List, ◌∷◌, ℕ, zero, suc, ◌+◌, ◌*◌, ◌/◌, ◌%◌, ◌^◌, ◌<◌, ◌≤◌, replicate, set, map, cond, Bool, true, false, Some, None, Option, option_map}
use Rattle.std.specs.Prelude.{nat_eq, nat_lt, slice_get, Contains}
use Rattle.std.proofs.lemmas.Bool.{eq-eqb}
use Rattle.std.proofs.Math.Nat.{div-add-mod}
use Rattle.std.proofs.lemmas.List.{length-replicate, map-set}
use Rattle.std.proofs.lemmas.Option.{slice_get-map, same_Some}
use Rattle.kin_algebra.proofs.Members.{contains_from_get}
use Rattle.kin_motion.specs.Sets.{AreDistinct, ListsExactly}
use Rattle.kin_motion.proofs.SetLaws.{contains_map, contains_mapped}
use Rattle.kin_wedge.specs.Tables.{AreSlots, candidates_of, number_of}
use Rattle.kin_wedge.specs.Threads.{named}
use Rattle.kin_wedge.proofs.Pointing.{none_points}
use Rattle.kin_wedge.proofs.Slots.{octant_again}

-- the candidates after one slot points at another, or at none
pub candidates_set : (old new : List (Option ℕ)) (candidates : List (Option ℕ)) (slot : ℕ) (target candidate : Option ℕ) → candidates_of old ≡ candidates → new ≡ set old slot target → number_of target ≡ candidate → candidates_of new ≡ set candidates slot candidate
candidates_set old new candidates slot target candidate e f g = ap candidates_of f ∙ map-set number_of old slot target ∙ λ t. set (e t) slot (g t)

pub number_again : (candidate slot : ℕ) → (8 * candidate + slot % 8) / 8 ≡ candidate
number_again candidate slot = omega arith

pub candidates_none : (n : ℕ) → candidates_of (replicate n None) ≡ replicate n None
candidates_none zero = refl
candidates_none (suc n) = ap (λ (xs : List (Option ℕ)). None ∷ xs) (candidates_none n)

pub slots_none : (n : ℕ) → n ≤ 2 ^ 12 → AreSlots (replicate (8 * n) None)
slots_none n small = record {
  numbers = n;
  room = length-replicate (8 * n) None;
  small = subst (λ (m : ℕ). m ≤ 2 ^ 15) (sym (length-replicate (8 * n) None)) (omega (arith, small));
  octant = λ slot target e. none_points (8 * n) slot target e;
}

from_map : (o : Option ℕ) (apex : ℕ) → option_map (λ (slot : ℕ). slot / 8) o ≡ Some apex → (slot : ℕ) × (o ≡ Some slot) × (slot / 8 ≡ apex)
from_map None apex e = absurd cc
from_map (Some slot) apex e = (slot, refl, same_Some _ _ e)

from_candidate : (o : Option (Option ℕ)) (c : ℕ) → option_map number_of o ≡ Some (Some c) → (target : ℕ) × (o ≡ Some (Some target)) × (target / 8 ≡ c)
from_candidate None c e = absurd cc
from_candidate (Some None) c e = absurd (let f : None ≡ Some c = same_Some _ _ e in cc)
from_candidate (Some (Some target)) c e = (target, refl, same_Some _ _ (same_Some _ _ e))

read_word : (word slot : ℕ) → named word ≡ Some slot → word ≡ slot
read_word word slot e = at (nat_lt word 65535) e
  where
    at : (b : Bool) → cond b (Some word) None ≡ Some slot → word ≡ slot
    at true f = same_Some word slot f
    at false f = absurd cc

-- the word of a slot whose candidate a number is
pub held_word : (targets : List (Option ℕ)) (slot c word : ℕ) → slice_get targets slot ≡ Some (named word) → slice_get (candidates_of targets) slot ≡ Some (Some c) → nat_eq (word / 8) c ≡ true
held_word targets slot c word e f =
    let t = from_candidate (slice_get targets slot) c (sym (slice_get-map number_of targets slot) ∙ f) in
    let same : named word ≡ Some t.0 = same_Some _ _ (sym e ∙ t.1) in
    eq-eqb (word / 8) c (ap (λ (n : ℕ). n / 8) (read_word word t.0 same) ∙ t.2)

-- the apexes of the slots that point at the slot of a number and an octant are those whose candidate in the octant it is
module _ (targets : List (Option ℕ)) (kept : AreSlots targets) (c w : ℕ) (low : w < 8) (slots : List ℕ) (exact : ListsExactly slots (λ slot. slice_get targets slot ≡ Some (Some (8 * c + w)))) where
  same_octant : (slot : ℕ) → slice_get targets slot ≡ Some (Some (8 * c + w)) → slot % 8 ≡ w
  same_octant slot e = sym (kept.octant slot (8 * c + w) e) ∙ octant_again c w low

  slot_again : (slot apex : ℕ) → slice_get targets slot ≡ Some (Some (8 * c + w)) → slot / 8 ≡ apex → 8 * apex + w ≡ slot
  slot_again slot apex e f = (λ t. 8 * sym f t + sym (same_octant slot e) t) ∙ div-add-mod slot 8

  once : AreDistinct (map (λ slot. slot / 8) slots)
  once i j apex a b =
      let x = from_map (slice_get slots i) apex (sym (slice_get-map (λ slot. slot / 8) slots i) ∙ a) in
      let y = from_map (slice_get slots j) apex (sym (slice_get-map (λ slot. slot / 8) slots j) ∙ b) in
      let e = slot_again x.0 apex ((exact.each x.0).0 (contains_from_get slots i x.0 x.1)) x.2 in
      let f = slot_again y.0 apex ((exact.each y.0).0 (contains_from_get slots j y.0 y.1)) y.2 in
      exact.once i j x.0 x.1 (y.1 ∙ ap (λ (n : ℕ). Some n) (sym f ∙ e))

  only : (apex : ℕ) → Contains (map (λ slot. slot / 8) slots) apex → slice_get (candidates_of targets) (8 * apex + w) ≡ Some (Some c)
  only apex h =
      let x = contains_mapped (λ slot. slot / 8) slots apex h in
      let here = (exact.each x.0).0 x.1 in
      let number : (8 * c + w) / 8 ≡ c = omega (arith, low) in
      ap (slice_get (candidates_of targets)) (slot_again x.0 apex here (sym x.2)) ∙ slice_get-map number_of targets x.0 ∙ ap (option_map number_of) here ∙ ap (λ (n : ℕ). Some (Some n)) number

  all : (apex : ℕ) → slice_get (candidates_of targets) (8 * apex + w) ≡ Some (Some c) → Contains (map (λ slot. slot / 8) slots) apex
  all apex e =
      let t = from_candidate (slice_get targets (8 * apex + w)) c (sym (slice_get-map number_of targets (8 * apex + w)) ∙ e) in
      let octant : t.0 % 8 ≡ w = kept.octant (8 * apex + w) t.0 t.1 ∙ octant_again apex w low in
      let target : t.0 ≡ 8 * c + w = sym (div-add-mod t.0 8) ∙ λ i. 8 * t.2 i + octant i in
      let here = (exact.each (8 * apex + w)).1 (t.1 ∙ ap (λ (n : ℕ). Some (Some n)) target) in
      let again : (8 * apex + w) / 8 ≡ apex = omega (arith, low) in
      subst (Contains (map (λ slot. slot / 8) slots)) again (contains_map (λ slot. slot / 8) slots (8 * apex + w) here)

  pub exact_hits : ListsExactly (map (λ slot. slot / 8) slots) (λ apex. slice_get (candidates_of targets) (8 * apex + w) ≡ Some (Some c))
  exact_hits = record { once = once; each = λ apex. (only apex, all apex) }
