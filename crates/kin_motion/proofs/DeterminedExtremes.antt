-- The winner at the root of a tournament of points is the extreme point, and the facts determine it.
use Rattle.std.proofs.Common.{◌≡◌, ◌≢◌, ◌⊎◌, inl, inr, refl, sym, ap, ◌∙◌, subst, arith, List, [], ◌∷◌, ℕ, ◌^◌, ◌<◌, Bool, true, false, nat_eq, nat_lt, ℤ, pos}
use Rattle.std.specs.Prelude.{Option, Some, None}
use Rattle.std.proofs.lemmas.Bool.Decides.{nat_tests}
use Rattle.kin_algebra.specs.declared.sign.Sign.TheVariants.{Minus, Zero, Plus}
use Rattle.kin_algebra.specs.Signs.{opposite_of}
use Rattle.kin_motion.specs.declared.form.Form.TheVariants.{Line}
use Rattle.kin_motion.specs.declared.fact.Placed.{Placed}
use Rattle.kin_motion.specs.Agreements.{FitsSize}
use Rattle.kin_motion.specs.Contents.{IsWinner, IsSettledTournament}
use Rattle.kin_motion.specs.Extremes.{IsExtreme, IsExtremePoint, IsExtremeFact, along_key, left_is_farther, point_slots}
use Rattle.kin_motion.specs.Kinetics.{HaveSameLive, AllHold}
use Rattle.kin_motion.specs.Laws.{HasLineLaws}
use Rattle.kin_motion.specs.Numbers.{IsIn}
use Rattle.kin_motion.specs.Scene.{Scene, IsReal}
use Rattle.kin_motion.specs.Sets.{ListsExactly}
use Rattle.kin_motion.specs.Theorems.{ExtremeIsDetermined}
use Rattle.kin_motion.specs.Tournaments.{beats, is_under, IsBest, IsNodeFact}
use Rattle.kin_motion.proofs.BestLaws.{farther_turned}
use Rattle.kin_motion.proofs.ExtremeFactLaws.{farther-through, slot_count}
use Rattle.kin_motion.proofs.FairKeys.{IsFair}
use Rattle.kin_motion.proofs.HullClaims.{settled_states_exist}
use Rattle.kin_motion.proofs.Members.{in_head}
use Rattle.kin_motion.proofs.OneLaws.{one_extreme}
use Rattle.kin_motion.proofs.PlayedTournaments.{tournament_is_determined}
use Rattle.kin_motion.proofs.PointSlots.{slot_holds, point_in_slot}
use Rattle.kin_motion.proofs.RealLaws.{real_line_laws}
use Rattle.kin_motion.proofs.UnderNodes.{under_root, root_low}

-- ---- the winner at the root is the extreme point
no_number : (xs : List ℕ) → ((i : ℕ) → ¬ (IsIn i xs)) → xs ≡ []
no_number [] none = refl
no_number (x ∷ xs) none = absurd (none x (in_head x xs))

module _ (s : Scene) (real : IsReal s) (dx dy : ℤ) where
  not_farther : (i j : ℕ) → (i ≡ j) ⊎ (beats s (along_key dx dy) i j ≡ true) → s.sign (Line dx dy (pos 0) i j) ≢ Plus
  not_farther i j (inr win) e = let clash : false ≡ true = sym (ap (λ t. left_is_farther t i j) e) ∙ win in cc
  not_farther i j (inl same) e =
      let own : s.sign (Line dx dy (pos 0) i i) ≡ Plus = ap (λ k. s.sign (Line dx dy (pos 0) i k)) same ∙ e in
      let clash : Plus ≡ Minus = sym own ∙ (real_line_laws s real).opposite dx dy i i ∙ ap opposite_of own in
      cc

  not_level : (i j : ℕ) → (i ≡ j) ⊎ (beats s (along_key dx dy) i j ≡ true) → j < i → s.sign (Line dx dy (pos 0) i j) ≢ Zero
  not_level i j (inl same) less e = absurd (omega arith)
  not_level i j (inr win) less e = let least : nat_lt i j ≡ true = sym (ap (λ t. left_is_farther t i j) e) ∙ win in absurd (grind (arith, nat_tests, least, less))

  module _ (size : ℕ) (fits : FitsSize size s) where
    best_is_extreme : (a : ℕ) → IsBest s (along_key dx dy) (point_slots size s.live) (is_under size 1) a → IsExtreme s dx dy s.live a
    best_is_extreme a best = record {
      member = own.1;
      farthest = λ j h. not_farther a j (against j h);
      least = λ j h. not_level a j (against j h);
    }
      where
        own : (best.slot ≡ a) × IsIn a s.live
        own = slot_holds size s.live best.slot a best.held

        against : (j : ℕ) → IsIn j s.live → (a ≡ j) ⊎ (beats s (along_key dx dy) a j ≡ true)
        against j h = at (nat_eq j a) refl
          where
            at : (b : Bool) → nat_eq j a ≡ b → (a ≡ j) ⊎ (beats s (along_key dx dy) a j ≡ true)
            at true e = inl (grind (arith, nat_tests, e))
            at false e =
                let place : best.slot ≡ a = own.0 in
                inr (best.beats_others j j (grind (arith, nat_tests, e, place)) (under_root size j (fits j h)) (point_in_slot size s.live j (fits j h) h))

    pub root_is_extreme : (winner : Option ℕ) → IsWinner s (along_key dx dy) size (point_slots size s.live) 1 winner → IsExtremePoint s dx dy winner
    root_is_extreme (Some a) best = best_is_extreme a best
    root_is_extreme None empty = no_number s.live (λ i h. let clash : Some i ≡ None = sym (point_in_slot size s.live i (fits i h) h) ∙ empty i (under_root size i (fits i h)) in cc)

-- ---- the facts determine it
-- of two points one is farther, or as far and less; farther than a farther one is farther
fair_points : (s : Scene) (dx dy : ℤ) (size : ℕ) (live : List ℕ) → HasLineLaws s → IsFair s (along_key dx dy) (point_slots size live)
fair_points s dx dy size live laws = record {
  total = λ i j a b n here there.
      ap (λ t. left_is_farther t b a) (laws.opposite dx dy a b)
      ∙ farther_turned (s.sign (Line dx dy (pos 0) a b)) a b (λ e. n ((slot_holds size live i a here).0 ∙ e ∙ sym (slot_holds size live j b there).0));
  through = λ i j k a b c p q r. farther-through s laws dx dy a b c;
}

module _ (size : ℕ) (v w : Scene) (dx dy : ℤ) (real : IsReal v) (real' : IsReal w) (fits : FitsSize size v) (same : HaveSameLive v w) where
  -- the winner of each node is the one that it was, so the winner at the root is
  same_extreme : (winner : ℕ → Option ℕ) (facts : List Placed) → IsSettledTournament v (along_key dx dy) size (point_slots size v.live) winner facts → AllHold w facts
      → IsExtremePoint v dx dy (winner 1) × IsExtremePoint w dx dy (winner 1) × ListsExactly facts (IsExtremeFact size w dx dy)
  same_extreme winner facts here hold = (
    root_is_extreme v real dx dy size fits (winner 1) (here.winners 1 (omega arith) (root_low size)),
    root_is_extreme w real' dx dy size fits' (winner 1) (subst (λ live. IsWinner w (along_key dx dy) size (point_slots size live) 1 (winner 1)) same (there.winners 1 (omega arith) (root_low size))),
    subst (λ live. ListsExactly facts (IsNodeFact w (along_key dx dy) size (point_slots size live))) same there.exact,
  )
    where
      there : IsSettledTournament w (along_key dx dy) size (point_slots size v.live) winner facts
      there =
          tournament_is_determined v w (along_key dx dy) size (point_slots size v.live) (let c = slot_count v.live 0 (2 ^ size) in omega (arith, c))
          (fair_points v dx dy size v.live (real_line_laws v real)) (fair_points w dx dy size v.live (real_line_laws w real')) winner facts here hold

      fits' : FitsSize size w
      fits' i h = fits i (subst (IsIn i) (sym same) h)

pub extreme_is_determined : ExtremeIsDetermined
extreme_is_determined size v w dx dy point facts real real' fits same is_point exact hold =
    let told = (settled_states_exist size v real fits).tournament dx dy in
    let now = same_extreme size v w dx dy real real' fits same told.0 facts (record { winners = told.2.winners; exact = exact }) hold in
    (subst (IsExtremePoint w dx dy) (one_extreme v dx dy (told.0 1) point real now.0 is_point) now.1, now.2)
