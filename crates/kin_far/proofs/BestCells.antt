-- The best pair of a cell is the farthest pair.
use Rattle.std.proofs.Common.{◌≡◌, ◌≢◌, ◌⊎◌, inl, inr, refl, sym, ap, ◌∙◌, subst, arith, ◌<◌, ℕ, ◌+◌, ◌*◌, Bool, true, false, cond, nat_eq, nat_lt, List, length as list_length, reverse}
use Rattle.std.specs.Prelude.{Contains, Option, Some, None, min, max}
use Rattle.std.proofs.lemmas.Bool.{and_parts}
use Rattle.std.proofs.lemmas.Bool.Decides.{nat_tests}
use Rattle.std.proofs.lemmas.Nat.{pow-add}
use Rattle.std.proofs.lemmas.Option.{slice_get-get_or, none-some, same_Some}
use Rattle.kin_algebra.specs.declared.sign.Sign.{Sign}
use Rattle.kin_algebra.specs.declared.sign.Sign.TheVariants.{Minus, Zero, Plus}
use Rattle.kin_algebra.specs.Signs.{opposite_of}
use Rattle.kin_algebra.proofs.OrderedRings.{OrderedRing, positive_sum}
use Rattle.kin_algebra.proofs.Pairs.{Pair}
use Rattle.kin_algebra.proofs.Signs.{AtLeast, code, not_minus}
use Rattle.kin_motion.specs.declared.form.Form.TheVariants.{Dist}
use Rattle.kin_motion.specs.Agreements.{FitsSize}
use Rattle.kin_motion.specs.Chains.{is_bare}
use Rattle.kin_motion.specs.ClosestFacts.{near}
use Rattle.kin_motion.specs.ClosestPairs.{Near}
use Rattle.kin_motion.specs.Farthest.{IsPairApart, IsFarthestPair, IsFarthest, left_is_farther_pair, farness_key, farthest_of}
use Rattle.kin_motion.specs.Merges.{Breakpoint}
use Rattle.kin_motion.specs.Numbers.{IsIn}
use Rattle.kin_motion.specs.Scene.{Scene, IsReal, x_sign, y_sign, reflected}
use Rattle.kin_motion.specs.Sweeps.{IsSwept, cell_pairs, HoldsCell, AreCellSlots, two_in}
use Rattle.kin_motion.specs.Tournaments.{IsBest, item_in}
use Rattle.kin_motion.proofs.DistanceLaws.{LessPair, less_from, three_ways, real_distance_laws}
use Rattle.kin_motion.proofs.DiameterFactLaws.{differ}
use Rattle.kin_motion.proofs.FarthestLaws.{farthest_proved}
use Rattle.kin_motion.proofs.Members.{in_reverse}
use Rattle.kin_motion.proofs.NodeLaws.{held_slot}
use Rattle.kin_motion.proofs.SweepCells.{IsCellOf, cell_of}
use Rattle.kin_motion.proofs.ReflectedLaws.{reflected-real}
use Rattle.kin_chain.proofs.Comparisons.{level_own, level_turned}
use Rattle.kin_chain.proofs.Planes.{Places, step}
use Rattle.kin_chain.proofs.RealPlanes.{here, places, shown}
use Rattle.kin_chain.proofs.Stays.{bare_stays}
use Rattle.kin_far.specs.FarCells.{IsBestCell, BestCellIsFarthest}
use Rattle.kin_far.proofs.FarCells.{farthest_is_cell}
use Rattle.kin_far.proofs.FarPoints.{apart_from, far_at, y_back}
use Rattle.kin_far.proofs.FarSteps.{Far}
use Rattle.kin_far.proofs.Lengths.{square_some, length, length_none, no_length, Together}

module _ (s : Scene) (real : IsReal s) (upper lower : List ℕ) (es : List Breakpoint) (swept : IsSwept s upper lower es) where
  abbrev pub cells : List Near
  cells = cell_pairs upper (reverse lower) es

  -- ---- the points of a cell
  abbrev o : OrderedRing Pair
  o = here s real

  abbrev ps : Places o
  ps = places s real

  abbrev real' : IsReal (reflected s)
  real' = reflected-real s real

  -- an upper and a lower point at one place are one
  one_number : (u v : ℕ) → IsIn u upper → IsIn v (reverse lower) → Together o ps u v → u ≡ v
  one_number u v i j t = at (three_ways u v)
    where
      u_known : (IsIn u s.live) × (is_bare s s.live u ≡ true)
      u_known = and_parts _ _ (sym (swept.upper_chain.members u) ∙ i)

      v_known : (IsIn v s.live) × (is_bare (reflected s) s.live v ≡ true)
      v_known = and_parts _ _ (sym (swept.lower_chain.members v) ∙ in_reverse v lower j)

      x_none : x_sign s v u ≡ Zero
      x_none = (shown s real).x_signs v u ∙ (level_turned o t.0).is

      y_none : y_sign (reflected s) v u ≡ Zero
      y_none = y_back s real v u ∙ ap opposite_of ((shown s real).y_signs v u ∙ (level_turned o t.1).is)

      at : (u < v) ⊎ ((u ≡ v) ⊎ (v < u)) → u ≡ v
      at (inl less) =
          absurd
          ((bare_stays (here (reflected s) real') (places (reflected s) real') (reflected s) (shown (reflected s) real') s.live v v_known.1).no_double u u_known.0
          (record { is = sym ((shown (reflected s) real').x_signs v u) ∙ x_none }) (record { is = sym ((shown (reflected s) real').y_signs v u) ∙ y_none }) less)
      at (inr (inl e)) = e
      at (inr (inr more)) = absurd ((bare_stays o ps s (shown s real) s.live u u_known.1).no_double v v_known.0 t.0 t.1 more)

  -- both numbers of a cell are live; where they differ they are at different places
  record CellPoints (n : Near) : Type 0 where
    i_live : IsIn n.i s.live
    j_live : IsIn n.j s.live
    differing : n.i < n.j → IsPairApart s n.i n.j
    same : (n.i < n.j → ⊥) → n.i ≡ n.j

  in_turn : (slot u v i j : ℕ) → i < j → min u v ≡ i → max u v ≡ j → IsIn i s.live → IsIn j s.live → (Together o ps i j → ⊥) → CellPoints (near slot u v)
  in_turn slot u v i j less e f a b n = subst (λ (m : Near). CellPoints m) (λ t. record { i = sym e t; j = sym f t; slot = slot }) known
    where
      known : CellPoints (record { i = i; j = j; slot = slot })
      known = record { i_live = a; j_live = b; differing = λ h. record { i_live = a; j_live = b; rising = h; apart = apart_from s real i j n }; same = λ h. absurd (h less) }

  points : (n : Near) → Contains cells n → CellPoints n
  points n c = subst (λ (m : Near). CellPoints m) (sym k.pair) (at (three_ways k.u k.v))
    where
      k : IsCellOf upper (reverse lower) n
      k = cell_of upper (reverse lower) es swept.sweep.of_upper swept.sweep.of_lower n c

      u_live : IsIn k.u s.live
      u_live = (and_parts _ (is_bare s s.live k.u) (sym (swept.upper_chain.members k.u) ∙ k.upper)).0

      v_live : IsIn k.v s.live
      v_live = (and_parts _ (is_bare (reflected s) s.live k.v) (sym (swept.lower_chain.members k.v) ∙ in_reverse k.v lower k.lower)).0

      apart : k.u ≢ k.v → Together o ps k.u k.v → ⊥
      apart n t = n (one_number k.u k.v k.upper k.lower t)

      at : (k.u < k.v) ⊎ ((k.u ≡ k.v) ⊎ (k.v < k.u)) → CellPoints (near n.slot k.u k.v)
      at (inl less) = in_turn n.slot k.u k.v k.u k.v less (omega (arith, less)) (omega (arith, less)) u_live v_live (apart (λ e. omega (arith, less, e)))
      at (inr (inr more)) =
          in_turn n.slot k.u k.v k.v k.u more (omega (arith, more)) (omega (arith, more)) v_live u_live
          (λ t. apart (λ e. omega (arith, more, e)) (level_turned o t.0, level_turned o t.1))
      at (inr (inl e)) = record {
        i_live = subst (λ x. IsIn x s.live) (let f : k.u ≡ min k.u k.v = omega (arith, e) in f) u_live;
        j_live = subst (λ x. IsIn x s.live) (let f : k.u ≡ max k.u k.v = omega (arith, e) in f) u_live;
        differing = λ h. absurd (omega (arith, e, h));
        same = λ h. omega (arith, e);
      }

  -- ---- slots
  module _ (size : ℕ) (fits : FitsSize size s) (slots : List (Option Near)) (filled : AreCellSlots size cells slots) where
    in_slot : (n : Near) → Contains cells n → item_in slots n.slot ≡ Some n
    in_slot n c = held (item_in slots n.slot) (filled.each n.slot (item_in slots n.slot) (slice_get-get_or slots n.slot None there))
      where
        k : IsCellOf upper (reverse lower) n
        k = cell_of upper (reverse lower) es swept.sweep.of_upper swept.sweep.of_lower n c

        there : n.slot < list_length slots
        there = at k.slot
          where
            at : (n.slot ≡ 2 * k.u) ⊎ (n.slot ≡ 2 * k.v + 1) → n.slot < list_length slots
            at (inl e) =
                let f = fits k.u (and_parts _ (is_bare s s.live k.u) (sym (swept.upper_chain.members k.u) ∙ k.upper)).0 in
                let c = filled.count in
                let g = pow-add 2 size 1 in
                omega (arith, c, g, f, e)
            at (inr e) =
                let f = fits k.v (and_parts _ (is_bare (reflected s) s.live k.v) (sym (swept.lower_chain.members k.v) ∙ in_reverse k.v lower k.lower)).0 in
                let c = filled.count in
                let g = pow-add 2 size 1 in
                omega (arith, c, g, f, e)

        held : (x : Option Near) → HoldsCell cells n.slot x → x ≡ Some n
        held None h = absurd (h n c refl)
        held (Some m) h = ap (λ (x : Near). Some x) (differ s real upper lower es swept m n h.0 c h.1)

    from_slot : (i : ℕ) (m : Near) → item_in slots i ≡ Some m → Contains cells m
    from_slot i m e = (filled.each i (Some m) (held_slot slots i m e)).0

    -- ---- the best pair
    module _ (a : Near) (best : IsBest s farness_key slots (λ i. true) a) where
      known : CellPoints a
      known = points a (from_slot best.slot a best.held)

      -- the farthest pair isn't beaten
      module _ (i j : ℕ) (f : IsFarthestPair s i j) where
        far : Far o ps s.live i j
        far = far_at s real i j f

        abbrev Same : Type 0
        Same = (a.i ≡ i) × (a.j ≡ j)

        not_nearer : s.sign (Dist a.i a.j i j) ≢ Minus
        not_nearer e = not_minus _ (far.most a.i a.j known.i_live known.j_live) (sym ((shown s real).distances a.i a.j i j) ∙ e)

        not_one_number : s.sign (Dist a.i a.j i j) ≡ Zero → a.i ≡ a.j → ⊥
        not_one_number z e = at (square_some o (step o ps i j))
          where
            own : o.sign (length o ps a.i a.j) ≡ Zero
            own = length_none o ps a.i a.j (subst (λ n. Together o ps a.i n) e (level_own o ps.x a.i, level_own o ps.y a.i))

            at : AtLeast (o.sign (length o ps i j)) → ⊥
            at (inr none) = far.apart (no_length o ps i j none)
            at (inl some) =
                code
                (sym (positive_sum o some (inr (o.sign_negative (length o ps a.i a.j) ∙ ap opposite_of own)))
                ∙ sym ((shown s real).distances a.i a.j i j) ∙ z)

        tied : (slot : ℕ) → s.sign (Dist a.i a.j i j) ≡ Zero → LessPair a (record { i = i; j = j; slot = slot }) → Same
        unfolding LessPair
        tied slot z less = by_numbers (nat_lt a.i a.j) refl
          where
            zero : s.sign (Dist i j a.i a.j) ≡ Zero
            zero = (real_distance_laws s real).opposite a.i a.j i j ∙ ap opposite_of z

            at : IsPairApart s a.i a.j → (a.i < i) ⊎ ((a.i ≡ i) × ((a.j < j) ⊎ ((a.j ≡ j) × (a.slot < slot)))) → Same
            at p (inl h) = absurd (f.least a.i a.j p (inl h) zero)
            at p (inr (e, inl h)) = absurd (f.least a.i a.j p (inr (e, h)) zero)
            at p (inr (e, inr (g, h))) = (e, g)

            by_numbers : (b : Bool) → nat_lt a.i a.j ≡ b → Same
            by_numbers true e = at (known.differing (grind (arith, nat_tests, e))) less
            by_numbers false e = absurd (not_one_number z (known.same (λ h. grind (arith, nat_tests, e, h))))

        not_beaten : (slot : ℕ) (t : Sign) → s.sign (Dist a.i a.j i j) ≡ t → left_is_farther_pair t a (record { i = i; j = j; slot = slot }) ≡ true → Same
        not_beaten slot Plus e w = absurd cc
        not_beaten slot Minus e w = absurd (not_nearer e)
        not_beaten slot Zero e w = tied slot e (less_from a (record { i = i; j = j; slot = slot }) w)

        same_pair : Same
        same_pair = which (nat_eq cell.0 best.slot) refl
          where
            cell : (slot : ℕ) × Contains cells (record { i = i; j = j; slot = slot })
            cell = farthest_is_cell s upper lower es i j real swept f

            held : item_in slots cell.0 ≡ Some (record { i = i; j = j; slot = cell.0 })
            held = in_slot (record { i = i; j = j; slot = cell.0 }) cell.1

            which : (b : Bool) → nat_eq cell.0 best.slot ≡ b → Same
            which true e =
                let same : cell.0 ≡ best.slot = grind (arith, nat_tests, e) in
                let g : a ≡ record { i = i; j = j; slot = cell.0 } = same_Some _ _ (sym best.held ∙ ap (item_in slots) (sym same) ∙ held) in
                (ap (λ (x : Near). x.i) g, ap (λ (x : Near). x.j) g)
            which false e = not_beaten cell.0 _ refl (best.beats_others cell.0 (record { i = i; j = j; slot = cell.0 }) (grind (arith, nat_tests, e)) refl held)

      best_is_farthest : IsFarthest s (two_in (Some a))
      best_is_farthest = at (farthest_of s) (farthest_proved s real)
        where
          at : (x : Option (ℕ × ℕ)) → IsFarthest s x → IsFarthest s (cond (nat_lt a.i a.j) (Some (a.i, a.j)) None)
          at None none = by_numbers (nat_lt a.i a.j) refl
            where
              by_numbers : (b : Bool) → nat_lt a.i a.j ≡ b → IsFarthest s (cond b (Some (a.i, a.j)) None)
              by_numbers true e = absurd (none a.i a.j (known.differing (grind (arith, nat_tests, e))))
              by_numbers false e = none
          at (Some (i, j)) f =
              let same = same_pair i j f in
              let rising = f.pair.rising in
              let less : nat_lt a.i a.j ≡ true = (let e = same.0 in let g = same.1 in let h : a.i < a.j = omega (arith, e, g, rising) in grind (arith, nat_tests, h)) in
              subst (λ b. IsFarthest s (cond b (Some (a.i, a.j)) None)) (sym less) (subst (λ x. IsFarthestPair s x a.j) (sym same.0) (subst (λ x. IsFarthestPair s i x) (sym same.1) f))

    best_cell : (answer : Option Near) → IsBestCell s slots answer → IsFarthest s (two_in answer)
    best_cell None none = at (farthest_of s) (farthest_proved s real)
      where
        at : (x : Option (ℕ × ℕ)) → IsFarthest s x → IsFarthest s None
        at None h = h
        at (Some (i, j)) f =
            let cell = farthest_is_cell s upper lower es i j real swept f in
            absurd (none-some _ (sym (none cell.0) ∙ in_slot (record { i = i; j = j; slot = cell.0 }) cell.1))
    best_cell (Some a) best = best_is_farthest a best

pub best_cell_is_farthest : BestCellIsFarthest
best_cell_is_farthest size s upper lower es slots answer real fits swept filled best = best_cell s real upper lower es swept size fits slots filled answer best
