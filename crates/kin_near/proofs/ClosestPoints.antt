-- Of the closest pair one is the candidate of the other.
use Rattle.std.proofs.Common.{◌≡◌, ◌≢◌, ◌⊎◌, inl, inr, refl, sym, ap, ◌∙◌, subst, arith, List, [], ◌∷◌, map, ℕ, zero, suc, ◌+◌, ◌%◌, ◌-◌, ◌<◌, ◌≤◌, Bool, true, false, cond, nat_lt}
use Rattle.std.specs.Prelude.{Option, Some, None, slice_get, count_by}
use Rattle.std.proofs.lemmas.Bool.{and_parts, and_from}
use Rattle.std.proofs.lemmas.Bool.Decides.{nat_tests}
use Rattle.std.proofs.lemmas.Option.{slice_get_within}
use Rattle.kin_algebra.specs.declared.sign.Sign.TheVariants.{Minus, Zero, Plus}
use Rattle.kin_algebra.specs.Signs.{opposite_of}
use Rattle.kin_motion.specs.declared.form.Form.TheVariants.{Dist}
use Rattle.kin_motion.specs.Numbers.{is_in, IsIn}
use Rattle.kin_motion.specs.Orders.{leads}
use Rattle.kin_motion.specs.Scene.{Scene, IsReal}
use Rattle.kin_motion.specs.Octants.{Reading, Octant, octants, comes_after, is_in_octant, octant_members, earlier_of, first_in, candidate_of, IsCandidate, IsCandidateAnswer}
use Rattle.kin_motion.specs.ClosestPairs.{IsClosestPair}
use Rattle.kin_motion.proofs.AgreementLaws.{kept-members}
use Rattle.kin_motion.proofs.CandidateLaws.{candidate_agrees, never_after_itself}
use Rattle.kin_motion.proofs.DistanceLaws.{three_ways, real_distance_laws}
use Rattle.kin_motion.proofs.NearLaws.{octant_at}
use Rattle.kin_motion.proofs.OctantLaws.{in_one_octant}
use Rattle.kin_motion.proofs.OppositeOctants.{octants_are_opposite}
use Rattle.kin_motion.proofs.RealLaws.{real_line_laws}
use Rattle.kin_near.specs.Candidates.{AreCoincident, IsCandidatePair, ClosestIsCandidate}
use Rattle.kin_near.proofs.SwappedPairs.{left_turned, right_turned}
use Rattle.kin_near.proofs.ThreePoints.{line_form, AreLevel, first_is_nearer, as_near, level}

-- ---- the octant of one that has the other
-- some octant passes a test that one passes
pub counted : (f : Octant → Bool) (ws : List Octant) → count_by (λ b. b) (map f ws) ≡ 1 → (n : ℕ) × (w : Octant) × (slice_get ws n ≡ Some w) × (f w ≡ true)
counted f [] e = absurd (omega (arith, e))
counted f (w ∷ ws) e = at (f w) refl e (counted f ws)
  where
    at : (t : Bool) → f w ≡ t → count_by (λ b. b) (t ∷ map f ws) ≡ 1 → (count_by (λ b. b) (map f ws) ≡ 1 → (n : ℕ) × (v : Octant) × (slice_get ws n ≡ Some v) × (f v ≡ true)) → (n : ℕ) × (v : Octant) × (slice_get (w ∷ ws) n ≡ Some v) × (f v ≡ true)
    at true h e rest = (zero, w, refl, h)
    at false h e rest = let k = rest e in (suc k.0, k.1, k.2, k.3)

-- the first four octants have an order that is read from the front, and are ranked from the front
record IsLower (w : Octant) : Type 0 where
  bound : (w.first.from_end ≡ false) ⊎ (w.second.from_end ≡ false)
  ranked : w.third.from_end ≡ false

told : (v w : Octant) → IsLower v → Some v ≡ Some w → IsLower w
told v w k e = let same : v ≡ w = cc in subst IsLower same k

lower : (n : ℕ) (w : Octant) → n < 4 → slice_get octants n ≡ Some w → IsLower w
lower zero w h e = told _ w (record { bound = inl refl; ranked = refl }) e
lower (suc zero) w h e = told _ w (record { bound = inr refl; ranked = refl }) e
lower (suc (suc zero)) w h e = told _ w (record { bound = inr refl; ranked = refl }) e
lower (suc (suc (suc zero))) w h e = told _ w (record { bound = inr refl; ranked = refl }) e
lower (suc (suc (suc (suc n)))) w h e = absurd (omega (arith, h))

-- a list with a member has a first one
pub first_there : (s : Scene) (t : Reading) (xs : List ℕ) (q : ℕ) → IsIn q xs → first_in s t xs ≢ None
first_there s t [] q h = absurd cc
first_there s t (x ∷ xs) q h = at (first_in s t xs)
  where
    at : (a : Option ℕ) → earlier_of s t x a ≢ None
    at None = λ e. absurd cc
    at (Some d) = λ e. absurd cc

-- ---- the closest pair either way round
-- no two are closer than p and q, and where p is less, none that are as close are p and a lesser than q
record AreClosest (s : Scene) (p q : ℕ) : Type 0 where
  p_live : IsIn p s.live
  q_live : IsIn q s.live
  apart : p ≢ q
  closest : (k l : ℕ) → IsIn k s.live → IsIn l s.live → k ≢ l → s.sign (Dist p q k l) ≢ Minus
  least : (l : ℕ) → IsIn l s.live → p < q → p < l → l < q → s.sign (Dist p q p l) ≢ Zero

module _ (s : Scene) (real : IsReal s) where
  forth : (i j : ℕ) → IsClosestPair s i j → AreClosest s i j
  forth i j k = record {
    p_live = k.i_live;
    q_live = k.j_live;
    apart = λ e. let h = k.rising in omega (arith, h, e);
    closest = λ a b a_live b_live n. at a b a_live b_live n (three_ways a b);
    least = λ l live rising more less. k.least i l k.i_live live more (inr (refl, less));
  }
    where
      at : (a b : ℕ) → IsIn a s.live → IsIn b s.live → a ≢ b → (a < b) ⊎ ((a ≡ b) ⊎ (b < a)) → s.sign (Dist i j a b) ≢ Minus
      at a b x y n (inl h) = k.closest a b x y h
      at a b x y n (inr (inl e)) = absurd (n e)
      at a b x y n (inr (inr h)) = λ e. k.closest b a y x h (sym (right_turned s real i j a b) ∙ e)

  back : (i j : ℕ) → i < j → AreClosest s i j → AreClosest s j i
  back i j rising k = record {
    p_live = k.q_live;
    q_live = k.p_live;
    apart = λ e. k.apart (sym e);
    closest = λ a b x y n e. k.closest a b x y n (left_turned s real i j a b ∙ e);
    least = λ l live falling more less. absurd (omega (arith, rising, falling));
  }

  -- ---- the candidate
  after_level : (t : Reading) (i j : ℕ) → t.from_end ≡ false → s.sign (line_form t i j) ≡ Zero → comes_after s t i j ≡ true → i < j
  after_level t i j e z h =
      let front : leads (s.sign (line_form t i j)) i j ≡ true = ap (λ b. cond b (leads (s.sign (line_form t j i)) j i) (leads (s.sign (line_form t i j)) i j)) (sym e) ∙ h in
      let less : nat_lt i j ≡ true = ap (λ g. leads g i j) (sym z) ∙ front in
      grind (arith, nat_tests, less)

  module _ (n : ℕ) (w : Octant) (low : n < 4) (known : slice_get octants n ≡ Some w) (p q : ℕ) (k : AreClosest s p q) (inside : is_in_octant s w p q ≡ true) where
    -- no member of the octant comes before it
    none_before : (c : ℕ) → IsIn c s.live → is_in_octant s w p c ≡ true → comes_after s w.third c q ≡ true → ⊥
    none_before c live in_c after = at (first_is_nearer s n w p c q real known in_c inside after)
      where
        no_self : p ≢ c
        no_self e = never_after_itself s (real_line_laws s real) w.first p (ap (comes_after s w.first p) e ∙ (and_parts _ _ in_c).0)

        not_same : c ≢ q
        not_same e = never_after_itself s (real_line_laws s real) w.third c (ap (comes_after s w.third c) e ∙ after)

        together : AreCoincident s p c → AreLevel s real w p c q
        together h = level s real w p c q h (as_near s real w p c q h (k.closest p c k.p_live live no_self))

        tied : AreLevel s real w p c q → IsLower w → ⊥
        tied t l = k.least c live rising lesser (after_level w.third c q l.ranked t.third after) t.distance
          where
            in_front : (w.first.from_end ≡ false) ⊎ (w.second.from_end ≡ false) → (p < q) × (p < c)
            in_front (inl e) = (after_level w.first p q e t.first_q (and_parts _ _ inside).0, after_level w.first p c e t.first_c (and_parts _ _ in_c).0)
            in_front (inr e) = (after_level w.second p q e t.second_q (and_parts _ _ inside).1, after_level w.second p c e t.second_c (and_parts _ _ in_c).1)

            rising : p < q
            rising = (in_front l.bound).0

            lesser : p < c
            lesser = (in_front l.bound).1

        at : (s.sign (Dist c q p q) ≡ Plus) ⊎ AreCoincident s p c → ⊥
        at (inl e) = k.closest c q live k.q_live not_same ((real_distance_laws s real).opposite c q p q ∙ ap opposite_of e)
        at (inr h) = tied (together h) (lower n w low known)

    is_candidate : IsCandidate s w p q
    is_candidate = at (candidate_of s w p) refl (candidate_agrees s w p real)
      where
        member : IsIn q (octant_members s w p)
        member = kept-members (is_in_octant s w p) s.live q ∙ and_from _ _ k.q_live inside

        at : (a : Option ℕ) → candidate_of s w p ≡ a → IsCandidateAnswer s w p a → IsCandidate s w p q
        at None e h = absurd (first_there s w.third (octant_members s w p) q member e)
        at (Some c) e h = other (h.first q member)
          where
            in_c : (is_in c s.live ≡ true) × (is_in_octant s w p c ≡ true)
            in_c = and_parts _ _ (sym (kept-members (is_in_octant s w p) s.live c) ∙ h.member)

            other : (q ≡ c) ⊎ (comes_after s w.third c q ≡ true) → IsCandidate s w p q
            other (inl f) = subst (IsCandidate s w p) (sym f) h
            other (inr after) = absurd (none_before c in_c.0 in_c.1 after)

  -- of two numbers one is in one of the octants 0 to 3 of the other
  record IsInLower (p q : ℕ) : Type 0 where
    n : ℕ
    low : n < 4
    w : Octant
    known : slice_get octants n ≡ Some w
    inside : (is_in_octant s w p q ≡ true) ⊎ (is_in_octant s w q p ≡ true)

  in_lower : (p q : ℕ) → p ≢ q → IsInLower p q
  in_lower p q n = at (counted (λ w. is_in_octant s w p q) octants (in_one_octant s (real_line_laws s real) p q n))
    where
      at : (m : ℕ) × (w : Octant) × (slice_get octants m ≡ Some w) × (is_in_octant s w p q ≡ true) → IsInLower p q
      at (m, w, e, h) = half (nat_lt m 4) refl
        where
          half : (t : Bool) → nat_lt m 4 ≡ t → IsInLower p q
          half true f = record { n = m; low = grind (arith, nat_tests, f); w = w; known = e; inside = inl h }
          half false f =
              let high : 4 ≤ m = grind (arith, nat_tests, f) in
              let below : m < 8 = slice_get_within octants m w e in
              let o = octant_at (m - 4) (omega (arith, high, below)) in
              let round : (m - 4 + 4) % 8 ≡ m = omega (arith, high, below) in
              record {
                n = m - 4;
                low = omega (arith, high, below);
                w = o.0;
                known = o.1;
                inside = inr (octants_are_opposite s (m - 4) o.0 w q p o.1 (ap (slice_get octants) round ∙ e) ∙ h);
              }

  pub closest_is_candidate : (i j : ℕ) → IsClosestPair s i j → IsCandidatePair s i j
  closest_is_candidate i j k = at (in_lower i j (forth i j k).apart)
    where
      at : IsInLower i j → IsCandidatePair s i j
      at l = record { n = l.n; low = l.low; octant = l.w; known = l.known; candidate = either l.inside }
        where
          either : (is_in_octant s l.w i j ≡ true) ⊎ (is_in_octant s l.w j i ≡ true) → IsCandidate s l.w i j ⊎ IsCandidate s l.w j i
          either (inl h) = inl (is_candidate l.n l.w l.low l.known i j (forth i j k) h)
          either (inr h) = inr (is_candidate l.n l.w l.low l.known j i (back i j k.rising (forth i j k)) h)

pub closest_proved : ClosestIsCandidate
closest_proved s i j real k = closest_is_candidate s real i j k
