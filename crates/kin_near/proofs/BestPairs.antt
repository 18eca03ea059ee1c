-- The best pair of a point and its candidate is the closest pair.
use Rattle.std.proofs.Common.{◌≡◌, ◌≢◌, ◌⊎◌, inl, inr, refl, sym, ap, ◌∙◌, subst, arith, ℕ, ◌+◌, ◌*◌, ◌/◌, ◌%◌, ◌<◌, Bool, true, false, nat_eq, List, length}
use Rattle.std.specs.Prelude.{Option, Some, None, slice_get, min, max}
use Rattle.std.proofs.lemmas.Bool.{and_parts}
use Rattle.std.proofs.lemmas.Bool.Decides.{nat_tests}
use Rattle.std.proofs.lemmas.Nat.{pow-add}
use Rattle.std.proofs.lemmas.Option.{slice_get-get_or, slice_get_within, none-some, same_Some}
use Rattle.kin_algebra.specs.declared.sign.Sign.{Sign}
use Rattle.kin_algebra.specs.declared.sign.Sign.TheVariants.{Minus, Zero, Plus}
use Rattle.kin_algebra.specs.Signs.{opposite_of}
use Rattle.kin_motion.specs.declared.form.Form.TheVariants.{Dist}
use Rattle.kin_motion.specs.Agreements.{FitsSize}
use Rattle.kin_motion.specs.Numbers.{IsIn}
use Rattle.kin_motion.specs.Scene.{Scene, IsReal}
use Rattle.kin_motion.specs.Octants.{Octant, octants, comes_after, is_in_octant, IsCandidate}
use Rattle.kin_motion.specs.Tournaments.{beats, IsBest, item_in}
use Rattle.kin_motion.specs.ClosestPairs.{Near, left_is_nearer, distance_key, pair_in, IsClosestPair, IsClosest, closest_of}
use Rattle.kin_motion.specs.ClosestFacts.{near, HoldsNear, AreNearSlots}
use Rattle.kin_motion.proofs.AgreementLaws.{kept-members}
use Rattle.kin_motion.proofs.NodeLaws.{held_slot}
use Rattle.kin_motion.proofs.CandidateLaws.{one_candidate, never_after_itself}
use Rattle.kin_motion.proofs.ClosestLaws.{closest_proved}
use Rattle.kin_motion.proofs.DistanceLaws.{LessPair, less_from, three_ways, real_distance_laws}
use Rattle.kin_motion.proofs.NearLaws.{octant_at, own-slot}
use Rattle.kin_motion.proofs.RealLaws.{real_line_laws}
use Rattle.kin_near.specs.Candidates.{IsCandidatePair}
use Rattle.kin_near.specs.BestPairs.{IsBestPair, BestPairIsClosest}
use Rattle.kin_near.proofs.ClosestPoints.{closest_is_candidate}

module _ (size : ℕ) (s : Scene) (real : IsReal s) (fits : FitsSize size s) (slots : List (Option Near)) (filled : AreNearSlots size s slots) where
  -- ---- from a point and its candidate to their slot
  in_slot : (p n : ℕ) (w : Octant) (c : ℕ) → slice_get octants n ≡ Some w → IsIn p s.live → IsCandidate s w p c → item_in slots (8 * p + n) ≡ Some (near (8 * p + n) p c)
  in_slot p n w c e live k = held (item_in slots (8 * p + n)) (filled.each p n w (item_in slots (8 * p + n)) e (slice_get-get_or slots (8 * p + n) None there))
    where
      there : 8 * p + n < length slots
      there = let c = filled.count in let g = pow-add 2 size 3 in let f = fits p live in let h = slice_get_within octants n w e in omega (arith, c, g, f, h)

      held : (x : Option Near) → HoldsNear s w p (8 * p + n) x → x ≡ Some (near (8 * p + n) p c)
      held None h = absurd (h c live k)
      held (Some m) h = ap (λ (x : Near). Some x) (h.3 ∙ ap (near (8 * p + n) p) (one_candidate s w p h.0 c real h.2 k))

  -- a pair that stands in a slot
  record IsHeld (i j : ℕ) : Type 0 where
    slot : ℕ
    held : item_in slots slot ≡ Some (record { i = i; j = j; slot = slot })

  from_candidate : (i j : ℕ) → i < j → IsIn i s.live → IsIn j s.live → IsCandidatePair s i j → IsHeld i j
  from_candidate i j rising a b k = at k.candidate
    where
      as_pair : (p c : ℕ) → min p c ≡ i → max p c ≡ j → item_in slots (8 * p + k.n) ≡ Some (near (8 * p + k.n) p c) → IsHeld i j
      as_pair p c e f h = record { slot = 8 * p + k.n; held = h ∙ (λ t. Some (record { i = e t; j = f t; slot = 8 * p + k.n })) }

      at : IsCandidate s k.octant i j ⊎ IsCandidate s k.octant j i → IsHeld i j
      at (inl h) = as_pair i j (omega (arith, rising)) (omega (arith, rising)) (in_slot i k.n k.octant j k.known a h)
      at (inr h) = as_pair j i (omega (arith, rising)) (omega (arith, rising)) (in_slot j k.n k.octant i k.known b h)

  -- ---- from a slot to two live points
  pub record ArePoints (m : Near) : Type 0 where
    pub i_live : IsIn m.i s.live
    pub j_live : IsIn m.j s.live
    pub rising : m.i < m.j

  pub points : (slot : ℕ) (m : Near) → slice_get slots slot ≡ Some (Some m) → ArePoints m
  points slot m e = at (filled.each (slot / 8) (slot % 8) (octant_at (slot % 8) (omega arith)).0 (Some m) (octant_at (slot % 8) (omega arith)).1 (sym (ap (slice_get slots) place) ∙ e))
    where
      place : slot ≡ 8 * (slot / 8) + slot % 8
      place = omega arith

      at : HoldsNear s (octant_at (slot % 8) (omega arith)).0 (slot / 8) (8 * (slot / 8) + slot % 8) (Some m) → ArePoints m
      at (c, live, k, same) = subst ArePoints (sym same) (two (slot / 8) c (8 * (slot / 8) + slot % 8) live member.0 apart)
        where
          w : Octant
          w = (octant_at (slot % 8) (omega arith)).0

          member : (IsIn c s.live) × (is_in_octant s w (slot / 8) c ≡ true)
          member = and_parts _ _ (sym (kept-members (is_in_octant s w (slot / 8)) s.live c) ∙ k.member)

          apart : slot / 8 ≢ c
          apart f = never_after_itself s (real_line_laws s real) w.first (slot / 8) (ap (comes_after s w.first (slot / 8)) f ∙ (and_parts _ _ member.1).0)

          two : (p c slot : ℕ) → IsIn p s.live → IsIn c s.live → p ≢ c → ArePoints (near slot p c)
          two p c slot a b n = ordered (three_ways p c)
            where
              in_turn : (i j : ℕ) → IsIn i s.live → IsIn j s.live → i < j → min p c ≡ i → max p c ≡ j → ArePoints (near slot p c)
              in_turn i j x y h e f = record { i_live = subst (λ k. IsIn k s.live) (sym e) x; j_live = subst (λ k. IsIn k s.live) (sym f) y; rising = omega (arith, h, e, f) }

              ordered : (p < c) ⊎ ((p ≡ c) ⊎ (c < p)) → ArePoints (near slot p c)
              ordered (inl h) = in_turn p c a b h (omega (arith, h)) (omega (arith, h))
              ordered (inr (inl e)) = absurd (n e)
              ordered (inr (inr h)) = in_turn c p b a h (omega (arith, h)) (omega (arith, h))

  -- ---- the best pair
  closest_held : (i j : ℕ) → IsClosestPair s i j → IsHeld i j
  closest_held i j k = from_candidate i j k.rising k.i_live k.j_live (closest_is_candidate s real i j k)

  best_is_closest : (m : Near) → IsBest s distance_key slots (λ i. true) m → IsClosestPair s m.i m.j
  unfolding LessPair
  best_is_closest m best = at (closest_of s) (closest_proved s real)
    where
      there : slice_get slots best.slot ≡ Some (Some m)
      there = held_slot slots best.slot m best.held

      own : m.slot ≡ best.slot
      own = own-slot s real size best.slot slots m filled there

      p : ArePoints m
      p = points best.slot m there

      -- it beats the closest pair only where that is the same pair
      not_beaten : (i j : ℕ) → IsClosestPair s i j → (slot : ℕ) → beats s distance_key m (record { i = i; j = j; slot = slot }) ≡ true → IsClosestPair s m.i m.j
      not_beaten i j k slot wins = at (s.sign (Dist m.i m.j i j)) ((real_distance_laws s real).opposite m.i m.j i j) wins
        where
          tied : s.sign (Dist i j m.i m.j) ≡ Zero → (m.i < i) ⊎ ((m.i ≡ i) × ((m.j < j) ⊎ ((m.j ≡ j) × (m.slot < slot)))) → IsClosestPair s m.i m.j
          tied z (inl less) = absurd (k.least m.i m.j p.i_live p.j_live p.rising (inl less) z)
          tied z (inr (e, inl less)) = absurd (k.least m.i m.j p.i_live p.j_live p.rising (inr (e, less)) z)
          tied z (inr (e, inr (f, less))) = subst (λ v. IsClosestPair s v m.j) (sym e) (subst (IsClosestPair s i) (sym f) k)

          at : (t : Sign) → s.sign (Dist i j m.i m.j) ≡ opposite_of t → left_is_nearer t m (record { i = i; j = j; slot = slot }) ≡ true → IsClosestPair s m.i m.j
          at Minus o w = absurd cc
          at Plus o w = absurd (k.closest m.i m.j p.i_live p.j_live p.rising o)
          at Zero o w = tied o (less_from m (record { i = i; j = j; slot = slot }) w)

      at : (a : Option (ℕ × ℕ)) → IsClosest s a → IsClosestPair s m.i m.j
      at None h = absurd (let e = h m.i m.j p.i_live p.j_live in let r = p.rising in omega (arith, e, r))
      at (Some (i, j)) k = from_held (closest_held i j k)
        where
          from_held : IsHeld i j → IsClosestPair s m.i m.j
          from_held h = which (nat_eq h.slot best.slot) refl
            where
              which : (t : Bool) → nat_eq h.slot best.slot ≡ t → IsClosestPair s m.i m.j
              which true e =
                  let same : h.slot ≡ best.slot = grind (arith, nat_tests, e) in
                  let f : record { i = i; j = j; slot = h.slot } ≡ m = same_Some _ _ (sym h.held ∙ ap (item_in slots) same ∙ best.held) in
                  subst (λ (x : Near). IsClosestPair s x.i x.j) f k
              which false e = not_beaten i j k h.slot (best.beats_others h.slot (record { i = i; j = j; slot = h.slot }) (grind (arith, nat_tests, e)) refl h.held)

  best_pair : (answer : Option Near) → IsBestPair s slots answer → IsClosest s (pair_in answer)
  best_pair None none = at (closest_of s) (closest_proved s real)
    where
      at : (a : Option (ℕ × ℕ)) → IsClosest s a → IsClosest s None
      at None h = h
      at (Some (i, j)) h = let k = closest_held i j h in absurd (none-some _ (sym (none k.slot) ∙ k.held))
  best_pair (Some m) best = best_is_closest m best

pub best_pair_is_closest : BestPairIsClosest
best_pair_is_closest size s slots answer real fits filled best = best_pair size s real fits slots filled answer best
