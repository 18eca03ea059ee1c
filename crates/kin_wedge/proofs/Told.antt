-- What is told of the slots.
use Rattle.std.proofs.Common.{◌≡◌, refl, sym, ap, ◌∙◌, arith, List, ℕ, ◌+◌, ◌*◌, ◌^◌, ◌<◌, length, Some, None, Option}
use Rattle.std.specs.Prelude.{slice_get}
use Rattle.std.proofs.lemmas.Nat.{pow-add}
use Rattle.std.proofs.lemmas.Option.{slice_get_within, get_or_from_slice_get, slice_get-get_or}
use Rattle.kin_motion.specs.Octants.{ListsChanged}
use Rattle.kin_motion.specs.Sets.{ListsExactly}
use Rattle.kin_motion.proofs.NodeLaws.{held_slot}
use Rattle.kin_wedge.specs.Passages.{AreChanged}
use Rattle.kin_wedge.specs.Wedging.{candidate_at}

module _ (size : ℕ) (candidates : List (Option ℕ)) (slots : length candidates ≡ 8 * 2 ^ size) where
  -- a slot of an apex and an octant holds what is told of them
  pub held_as_told : (p w : ℕ) → p < 2 ^ size → w < 8 → slice_get candidates (8 * p + w) ≡ Some (candidate_at candidates p w)
  held_as_told p w h l = slice_get-get_or candidates (8 * p + w) None (omega (arith, h, l, slots))

  pub told_as_held : (p w : ℕ) (answer : Option ℕ) → slice_get candidates (8 * p + w) ≡ Some answer → candidate_at candidates p w ≡ answer
  told_as_held p w answer e = get_or_from_slice_get candidates (8 * p + w) answer None e

  apex_within : (p w n : ℕ) → n ≡ 2 ^ size → 8 * p + w < 8 * n → p < 2 ^ size
  apex_within p w n e h = omega (arith, e, h)

  -- only slots of numbers below 2^size hold something
  pub hit_room : (c w apex : ℕ) → candidate_at candidates apex w ≡ Some c → apex < 2 ^ size
  hit_room c w apex e = let l = slice_get_within candidates (8 * apex + w) _ (held_slot candidates (8 * apex + w) c e) in apex_within apex w (2 ^ size) refl (omega (arith, l, slots))

  pub hits_told : (c w : ℕ) (apexes : List ℕ) → w < 8 → ListsExactly apexes (λ p. slice_get candidates (8 * p + w) ≡ Some (Some c)) → ListsExactly apexes (λ p. (p < 2 ^ size) × (candidate_at candidates p w ≡ Some c))
  hits_told c w apexes low h = record {
    once = h.once;
    each = λ p. (
      λ k. let e = (h.each p).0 k in
          let l = slice_get_within candidates (8 * p + w) _ e in
          (apex_within p w (2 ^ size) refl (omega (arith, l, slots)), told_as_held p w _ e),
      λ k. (h.each p).1 (held_as_told p w k.0 low ∙ ap (λ (v : Option ℕ). Some v) k.1),
    );
  }

pub changed_told : (size : ℕ) (old new : List (Option ℕ)) (slots : List ℕ) → length old ≡ 8 * 2 ^ size → length new ≡ 8 * 2 ^ size → AreChanged old new slots → ListsChanged size (candidate_at old) (candidate_at new) slots
changed_told size old new slots m n c = record {
  rising = c.rising;
  within = λ slot h. let k = (c.only slot h).0 in let e = pow-add 2 size 3 in omega (arith, k, n, e);
  each = λ p w h l. (
    λ k d. (c.only (8 * p + w) k).1 (held_as_told size old m p w h l ∙ ap (λ (v : Option ℕ). Some v) d ∙ sym (held_as_told size new n p w h l)),
    λ d. c.all (8 * p + w) (λ e. d (told_as_held size old m p w (candidate_at new p w) (e ∙ held_as_told size new n p w h l))),
  );
}
