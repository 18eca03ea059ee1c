-- One of the apexes whose candidate a point is leads to its nearest other point.
use Rattle.std.proofs.Common.{◌≡◌, ◌≢◌, ◌⊎◌, inl, inr, refl, sym, ap, ◌∙◌, subst, arith, List, [], ◌∷◌, ℕ, ◌<◌, ◌≤◌, Bool, true, false, ◌&&◌, nat_lt, pos, negsuc}
use Rattle.std.specs.Prelude.{Some, slice_get}
use Rattle.std.proofs.lemmas.Bool.{and_parts, and_from}
use Rattle.std.proofs.lemmas.Bool.Decides.{nat_tests}
use Rattle.std.proofs.lemmas.Option.{same_Some}
use Rattle.kin_algebra.specs.declared.sign.Sign.{Sign}
use Rattle.kin_algebra.specs.declared.sign.Sign.TheVariants.{Minus, Zero, Plus}
use Rattle.kin_algebra.specs.Signs.{opposite_of, SumMayBe}
use Rattle.kin_motion.specs.declared.form.Form.TheVariants.{Line, Dist}
use Rattle.kin_motion.specs.Laws.{HasLineLaws, HasDistanceLaws}
use Rattle.kin_motion.specs.Nearest.{IsNearestTo}
use Rattle.kin_motion.specs.Numbers.{IsIn}
use Rattle.kin_motion.specs.Octants.{Octant, octants, forward, comes_after, is_in_octant, IsCandidate}
use Rattle.kin_motion.specs.Orders.{leads}
use Rattle.kin_motion.specs.Scene.{Scene, IsReal, x_sign, y_sign}
use Rattle.kin_motion.proofs.CandidateLaws.{never_after_itself}
use Rattle.kin_motion.proofs.DistanceLaws.{three_ways, real_distance_laws}
use Rattle.kin_motion.proofs.Members.{in_head, in_tail, in_cases}
use Rattle.kin_motion.proofs.OctantLaws.{in_one_octant}
use Rattle.kin_motion.proofs.RealLaws.{real_line_laws}
use Rattle.kin_near.specs.Candidates.{AreCoincident, is_there}
use Rattle.kin_near.specs.Hits.{IsWayDown, IsHitFor, HitsSuffice}
use Rattle.kin_near.proofs.ClosestPoints.{counted}
use Rattle.kin_near.proofs.OnePlace.{octant_0, octant_4, together, turned, through, no_line, by_number, beside, greater_inside, lesser_inside, as_far, IsBeside, through_zero, with_itself, is_there-there, there-is_there}
use Rattle.kin_near.proofs.SwappedPairs.{left_turned, right_turned}
use Rattle.kin_near.proofs.ThreePoints.{first_is_nearer}
use Rattle.kin_near.proofs.WaysDown.{member, of_member, candidate_there}

-- ---- the greatest number that passes a test
record IsGreatest (test : ℕ → Bool) (xs : List ℕ) (g : ℕ) : Type 0 where
  listed : IsIn g xs
  passes : test g ≡ true
  greatest : (k : ℕ) → IsIn k xs → test k ≡ true → k ≤ g

greatest_or_none : (test : ℕ → Bool) (xs : List ℕ) → ((g : ℕ) × IsGreatest test xs g) ⊎ ((k : ℕ) → IsIn k xs → test k ≡ true → ⊥)
greatest_or_none test [] = inr (λ k h t. cc)
greatest_or_none test (x ∷ xs) = at (test x) refl (greatest_or_none test xs)
  where
    with_x : (g : ℕ) → test x ≡ true → ((k : ℕ) → IsIn k xs → test k ≡ true → k ≤ g) → g ≤ x → IsGreatest test (x ∷ xs) x
    with_x g e most less = record { listed = in_head x xs; passes = e; greatest = λ k h t. up k t (in_cases k x xs h) }
      where
        up : (k : ℕ) → test k ≡ true → (k ≡ x) ⊎ IsIn k xs → k ≤ x
        up k t (inl f) = omega (arith, f)
        up k t (inr h) = let l = most k h t in omega (arith, l, less)

    without_x : (g : ℕ) → IsGreatest test xs g → (test x ≡ true → x ≤ g) → IsGreatest test (x ∷ xs) g
    without_x g m less = record { listed = in_tail g x xs m.listed; passes = m.passes; greatest = λ k h t. up k t (in_cases k x xs h) }
      where
        up : (k : ℕ) → test k ≡ true → (k ≡ x) ⊎ IsIn k xs → k ≤ g
        up k t (inl f) = let l = less (subst (λ i. test i ≡ true) f t) in omega (arith, l, f)
        up k t (inr h) = m.greatest k h t

    alone : test x ≡ true → ((k : ℕ) → IsIn k xs → test k ≡ true → ⊥) → IsGreatest test (x ∷ xs) x
    alone e none = record { listed = in_head x xs; passes = e; greatest = λ k h t. up k t (in_cases k x xs h) }
      where
        up : (k : ℕ) → test k ≡ true → (k ≡ x) ⊎ IsIn k xs → k ≤ x
        up k t (inl f) = omega (arith, f)
        up k t (inr h) = absurd (none k h t)

    at : (b : Bool) → test x ≡ b → ((g : ℕ) × IsGreatest test xs g) ⊎ ((k : ℕ) → IsIn k xs → test k ≡ true → ⊥) → ((g : ℕ) × IsGreatest test (x ∷ xs) g) ⊎ ((k : ℕ) → IsIn k (x ∷ xs) → test k ≡ true → ⊥)
    at true e (inr none) = inl (x, alone e none)
    at true e (inl (g, m)) = larger (nat_lt g x) refl
      where
        larger : (b : Bool) → nat_lt g x ≡ b → ((g : ℕ) × IsGreatest test (x ∷ xs) g) ⊎ ((k : ℕ) → IsIn k (x ∷ xs) → test k ≡ true → ⊥)
        larger true f = inl (x, with_x g e m.greatest (grind (arith, nat_tests, f)))
        larger false f = inl (g, without_x g m (λ t. grind (arith, nat_tests, f)))
    at false e (inl (g, m)) = inl (g, without_x g m (λ t. absurd (let clash : true ≡ false = sym t ∙ e in cc)))
    at false e (inr none) = inr (λ k h t. neither k t (in_cases k x xs h))
      where
        neither : (k : ℕ) → test k ≡ true → (k ≡ x) ⊎ IsIn k xs → ⊥
        neither k t (inl f) = let clash : true ≡ false = sym (subst (λ i. test i ≡ true) f t) ∙ e in cc
        neither k t (inr h) = none k h t

greatest_of : (test : ℕ → Bool) (xs : List ℕ) (q : ℕ) → IsIn q xs → test q ≡ true → (g : ℕ) × IsGreatest test xs g
greatest_of test xs q h t = at (greatest_or_none test xs)
  where
    at : ((g : ℕ) × IsGreatest test xs g) ⊎ ((k : ℕ) → IsIn k xs → test k ≡ true → ⊥) → (g : ℕ) × IsGreatest test xs g
    at (inl m) = m
    at (inr none) = absurd (none q h t)

-- ---- signs
leading : (t : Sign) (i j : ℕ) → leads t i j ≡ true → t ≢ Minus
leading Minus i j h = absurd cc
leading Zero i j h = λ e. cc
leading Plus i j h = λ e. cc

pinned : (t u r : Sign) → SumMayBe t u r → t ≢ Minus → u ≢ Minus → r ≡ Zero → t ≡ Zero
pinned Minus u r sum h k e = absurd (h refl)
pinned Zero u r sum h k e = refl
pinned Plus Minus r sum h k e = absurd (k refl)
pinned Plus Zero r sum h k e = absurd (let clash : Plus ≡ Zero = sym sum ∙ e in cc)
pinned Plus Plus r sum h k e = absurd (let clash : Plus ≡ Zero = sym sum ∙ e in cc)

after_none : (t u r : Sign) → SumMayBe t u r → t ≡ Zero → r ≡ u
after_none Zero u r sum e = sum
after_none Minus u r sum e = absurd cc
after_none Plus u r sum e = absurd cc

module _ (s : Scene) (real : IsReal s) (p q : ℕ) (p_live : IsIn p s.live) (near : IsNearestTo s p q) where
  lines : HasLineLaws s
  lines = real_line_laws s real

  distances : HasDistanceLaws s
  distances = real_distance_laws s real

  -- of the live numbers at q's place, but for p, q is the least
  not_below : (k : ℕ) → IsIn k s.live → k ≢ p → AreCoincident s q k → k < q → ⊥
  not_below k live other there less = near.least k live other less (as_far s real q k p there)

  -- no other live number is nearer to p than those at q's place
  not_nearer : (h k : ℕ) → AreCoincident s q h → IsIn k s.live → k ≢ p → s.sign (Dist p h p k) ≢ Minus
  not_nearer h k there live other e =
      near.nearest k live other
      (sym (after_none _ _ _ ((distances).chain p h p q p k) (as_far s real h q p (turned s real q h there))) ∙ e)

  -- a candidate that isn't p comes before it at the apex's place
  first_of : (n : ℕ) (w : Octant) (h c : ℕ) → slice_get octants n ≡ Some w → AreCoincident s q h → is_in_octant s w h p ≡ true → IsCandidate s w h c → (c ≡ p) ⊎ (AreCoincident s h c × (comes_after s w.third c p ≡ true))
  first_of n w h c known there inside k = at (k.first p (member s real w h p p_live inside))
    where
      at : (p ≡ c) ⊎ (comes_after s w.third c p ≡ true) → (c ≡ p) ⊎ (AreCoincident s h c × (comes_after s w.third c p ≡ true))
      at (inl e) = inl (sym e)
      at (inr after) = nearer (first_is_nearer s n w h c p real known (of_member s real w h c k).1 inside after)
        where
          other : c ≢ p
          other e = never_after_itself s lines w.third c (ap (comes_after s w.third c) e ∙ after)

          nearer : (s.sign (Dist c p h p) ≡ Plus) ⊎ AreCoincident s h c → (c ≡ p) ⊎ (AreCoincident s h c × (comes_after s w.third c p ≡ true))
          nearer (inl e) =
              let f : s.sign (Dist p c p h) ≡ Plus = sym (right_turned s real p c h p) ∙ sym (left_turned s real c p h p) ∙ e in
              absurd (not_nearer h c there (of_member s real w h c k).0 other ((distances).opposite p c p h ∙ ap opposite_of f))
          nearer (inr here) = inr (here, after)

  -- an apex at q's place with p as its candidate
  hit_from : (n : ℕ) (w : Octant) (h c : ℕ) → slice_get octants n ≡ Some w → IsIn h s.live → IsCandidate s w h c → c ≡ p → ((e : ℕ) → IsWayDown s p h e → e ≡ q) → (h : ℕ) × IsHitFor s p q h
  hit_from n w h c known live k e ends = (h, record { live = live; n = n; octant = w; known = known; candidate = subst (IsCandidate s w h) e k; ends = ends })

  -- no way down ends below q
  not_lower : (h e : ℕ) → AreCoincident s q h → IsWayDown s p h e → e < q → ⊥
  not_lower h e there way less = not_below e way.live way.other (through s real q h e there way.there) less

  at_q : (h e : ℕ) → AreCoincident s q h → IsWayDown s p h e → (q < e → ⊥) → e ≡ q
  at_q h e there way high = at (three_ways e q)
    where
      at : (e < q) ⊎ ((e ≡ q) ⊎ (q < e)) → e ≡ q
      at (inl less) = absurd (not_lower h e there way less)
      at (inr (inl same)) = same
      at (inr (inr more)) = absurd (high more)

  -- ---- q is elsewhere
  module _ (apart : ¬ (AreCoincident s q p)) where
    -- p isn't in octant 0 of one and in octant 4 of another at one place
    clear : (g : ℕ) → AreCoincident s q g → is_in_octant s octant_0 q p ≡ true → is_in_octant s octant_4 g p ≡ true → ⊥
    clear g there up down = apart (x, y)
      where
        ahead : (is_in_octant s octant_0 q p ≡ true) → (comes_after s (forward 0) q p ≡ true) × (comes_after s (forward 1) q p ≡ true)
        ahead h = and_parts _ _ h

        behind : (is_in_octant s octant_4 g p ≡ true) → (comes_after s (forward 0) p g ≡ true) × (comes_after s (forward 1) p g ≡ true)
        behind h = and_parts _ _ h

        y : y_sign s q p ≡ Zero
        y = pinned _ _ _ ((lines).chain (pos 0) (pos 1) q p g) (leading _ q p (ahead up).0) (leading _ p g (behind down).0) (no_line s real (forward 0) q g there)

        d : s.sign (Line (pos 1) (negsuc 0) (pos 0) q p) ≡ Zero
        d = pinned _ _ _ ((lines).chain (pos 1) (negsuc 0) q p g) (leading _ q p (ahead up).1) (leading _ p g (behind down).1) (no_line s real (forward 1) q g there)

        x : x_sign s q p ≡ Zero
        x = through_zero _ _ _ ((lines).directions (pos 0) (pos 1) (pos 1) (negsuc 0) q p) y d

    other_there : (k : ℕ) → AreCoincident s q k → k ≢ p
    other_there k there e = apart (subst (AreCoincident s q) e there)

    ends_elsewhere : (h e : ℕ) → AreCoincident s q h → IsWayDown s p h e → e ≡ q
    ends_elsewhere h e there way = at_q h e there way (λ more. apart (through s real q h p there (way.lowest q near.live (turned s real q h there) more).0))

    -- the octant of an apex there that has p, and the candidate in it
    record HasOctant (h : ℕ) : Type 0 where
      n : ℕ
      w : Octant
      known : slice_get octants n ≡ Some w
      inside : is_in_octant s w h p ≡ true
      c : ℕ
      candidate : IsCandidate s w h c

    octant_with : (h : ℕ) → AreCoincident s q h → HasOctant h
    octant_with h there = at (counted (λ w. is_in_octant s w h p) octants (in_one_octant s lines h p (other_there h there)))
      where
        at : (n : ℕ) × (w : Octant) × (slice_get octants n ≡ Some w) × (is_in_octant s w h p ≡ true) → HasOctant h
        at (n, w, e, i) = let c = candidate_there s real w h p p_live i in record { n = n; w = w; known = e; inside = i; c = c.0; candidate = c.1 }

    -- the candidate is p, unless it is at the apex's place
    from_apex : (h : ℕ) → IsIn h s.live → AreCoincident s q h → (o : HasOctant h) → (IsIn o.c s.live → AreCoincident s h o.c → IsBeside s real o.n h o.c → ⊥) → (h : ℕ) × IsHitFor s p q h
    from_apex h live there o never = at (first_of o.n o.w h o.c o.known there o.inside o.candidate)
      where
        at : (o.c ≡ p) ⊎ (AreCoincident s h o.c × (comes_after s o.w.third o.c p ≡ true)) → (h : ℕ) × IsHitFor s p q h
        at (inl e) = hit_from o.n o.w h o.c o.known live o.candidate e (λ e way. ends_elsewhere h e there way)
        at (inr here) = let m = of_member s real o.w h o.c o.candidate in absurd (never m.0 here.0 (beside s real o.n o.w h o.c o.known here.0 m.1))

    in_octant : (n m : ℕ) (v w : Octant) (h : ℕ) → slice_get octants m ≡ Some v → slice_get octants n ≡ Some w → n ≡ m → is_in_octant s w h p ≡ true → is_in_octant s v h p ≡ true
    in_octant n m v w h e f same i = subst (λ (u : Octant). is_in_octant s u h p ≡ true) (same_Some w v (sym f ∙ ap (slice_get octants) same ∙ e)) i

    from_least : is_in_octant s octant_0 q p ≡ false → (h : ℕ) × IsHitFor s p q h
    from_least out = from_apex q near.live here o never
      where
        here : AreCoincident s q q
        here = with_itself s real q

        o : HasOctant q
        o = octant_with q here

        never : IsIn (o).c s.live → AreCoincident s q (o).c → IsBeside s real (o).n q (o).c → ⊥
        never live there (inl (e, more)) = let clash : true ≡ false = sym (in_octant (o).n 0 octant_0 (o).w q refl (o).known e (o).inside) ∙ out in cc
        never live there (inr (e, less)) = not_below (o).c live (other_there (o).c there) there less

    from_greatest : is_in_octant s octant_0 q p ≡ true → (h : ℕ) × IsHitFor s p q h
    from_greatest up = at (greatest_of (is_there s q) s.live q near.live (there-is_there s q q (with_itself s real q)))
      where
        at : (g : ℕ) × IsGreatest (is_there s q) s.live g → (h : ℕ) × IsHitFor s p q h
        at (g, m) = from_apex g m.listed here o never
          where
            here : AreCoincident s q g
            here = is_there-there s q g m.passes

            o : HasOctant g
            o = octant_with g here

            never : IsIn (o).c s.live → AreCoincident s g (o).c → IsBeside s real (o).n g (o).c → ⊥
            never live there (inl (e, more)) = let l = m.greatest (o).c live (there-is_there s q (o).c (through s real q g (o).c here there)) in omega (arith, l, more)
            never live there (inr (e, less)) = clear g here up (in_octant (o).n 4 octant_4 (o).w g refl (o).known e (o).inside)

    elsewhere : (h : ℕ) × IsHitFor s p q h
    elsewhere = at (is_in_octant s octant_0 q p) refl
      where
        at : (b : Bool) → is_in_octant s octant_0 q p ≡ b → (h : ℕ) × IsHitFor s p q h
        at true e = from_greatest e
        at false e = from_least e

  -- ---- q is at p's place
  module _ (here : AreCoincident s q p) where
    -- the numbers there that are less than p
    abbrev test : ℕ → Bool
    test k = is_there s q k && nat_lt k p

    -- q is less: the greatest lesser number there has p in octant 0
    from_below : q < p → (h : ℕ) × IsHitFor s p q h
    from_below less = at (greatest_of test s.live q near.live (and_from _ _ (there-is_there s q q (with_itself s real q)) (grind (arith, nat_tests, less))))
      where
        at : (h : ℕ) × IsGreatest test s.live h → (h : ℕ) × IsHitFor s p q h
        at (h, m) = up (first_of 0 octant_0 h c.0 refl there inside c.1)
          where
            there : AreCoincident s q h
            there = is_there-there s q h (and_parts (is_there s q h) (nat_lt h p) m.passes).0

            below : h < p
            below = let l = (and_parts (is_there s q h) (nat_lt h p) m.passes).1 in grind (arith, nat_tests, l)

            inside : is_in_octant s octant_0 h p ≡ true
            inside = greater_inside s real h p (through s real h q p (turned s real q h there) here) below

            c : (c : ℕ) × IsCandidate s octant_0 h c
            c = candidate_there s real octant_0 h p p_live inside

            between : AreCoincident s h (c).0 → (h < (c).0) → (c).0 < p → ⊥
            between with_h more less =
                let l = m.greatest (c).0 (of_member s real octant_0 h (c).0 (c).1).0 (and_from _ _ (there-is_there s q (c).0 (through s real q h (c).0 there with_h)) (grind (arith, nat_tests, less))) in
                omega (arith, l, more)

            rises : IsBeside s real 0 h (c).0 → h < (c).0
            rises (inl e) = e.1
            rises (inr e) = absurd (let f = e.0 in omega (arith, f))

            up : ((c).0 ≡ p) ⊎ (AreCoincident s h (c).0 × (comes_after s octant_0.third (c).0 p ≡ true)) → (h : ℕ) × IsHitFor s p q h
            up (inl e) = hit_from 0 octant_0 h (c).0 refl m.listed (c).1 e (λ e way. at_q h e there way (λ more. let l = (way.lowest q near.live (turned s real q h there) more).1 in let d = way.down in let b = below in omega (arith, l, d, b)))
            up (inr (with_h, after)) =
                let l : nat_lt (c).0 p ≡ true = sym (by_number s real octant_0.third (c).0 p (through s real (c).0 h p (turned s real h (c).0 with_h) (through s real h q p (turned s real q h there) here))) ∙ after in
                absurd (between with_h (rises (beside s real 0 octant_0 h (c).0 refl with_h (of_member s real octant_0 h (c).0 (c).1).1)) (grind (arith, nat_tests, l)))

    -- q is greater: it has p in octant 4
    from_above : p < q → (h : ℕ) × IsHitFor s p q h
    from_above more = up (first_of 4 octant_4 q c.0 refl (with_itself s real q) inside c.1)
      where
        inside : is_in_octant s octant_4 q p ≡ true
        inside = lesser_inside s real q p here more

        c : (c : ℕ) × IsCandidate s octant_4 q c
        c = candidate_there s real octant_4 q p p_live inside

        falls : IsBeside s real 4 q (c).0 → (c).0 < q
        falls (inl e) = absurd (let f = e.0 in omega (arith, f))
        falls (inr e) = e.1

        up : ((c).0 ≡ p) ⊎ (AreCoincident s q (c).0 × (comes_after s octant_4.third (c).0 p ≡ true)) → (h : ℕ) × IsHitFor s p q h
        up (inl e) = hit_from 4 octant_4 q (c).0 refl near.live (c).1 e (λ e way. at_q q e (with_itself s real q) way (λ above. let d = way.down in omega (arith, d, above)))
        up (inr (with_q, after)) =
            let l : nat_lt p (c).0 ≡ true = sym (by_number s real octant_4.third (c).0 p (through s real (c).0 q p (turned s real q (c).0 with_q) here)) ∙ after in
            let m = of_member s real octant_4 q (c).0 (c).1 in
            absurd (not_below (c).0 m.0 (λ e. grind (arith, nat_tests, l, e)) with_q (falls (beside s real 4 octant_4 q (c).0 refl with_q m.1)))

    at_one_place : (h : ℕ) × IsHitFor s p q h
    at_one_place = at (three_ways q p)
      where
        at : (q < p) ⊎ ((q ≡ p) ⊎ (p < q)) → (h : ℕ) × IsHitFor s p q h
        at (inl less) = from_below less
        at (inr (inl same)) = absurd (near.other same)
        at (inr (inr more)) = from_above more

pub hits_suffice : HitsSuffice
hits_suffice s p q real live near = at (together s real q p)
  where
    at : AreCoincident s q p ⊎ ¬ (AreCoincident s q p) → (h : ℕ) × IsHitFor s p q h
    at (inl here) = at_one_place s real p q live near here
    at (inr apart) = elsewhere s real p q live near apart
