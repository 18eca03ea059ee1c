-- The greatest number that a structure may ask, where the change between two scenes is known.
use Rattle.std.proofs.Common.{◌≡◌, inl, inr, refl, sym, ◌∙◌, subst, arith, List, [], ℕ, ◌+◌, ◌*◌, ◌≤◌, length}
use Rattle.std.specs.Prelude.{Contains, sum_by, ◌↔◌}
use Rattle.std.proofs.lemmas.Bool.{both_ways}
use Rattle.std.proofs.lemmas.Nat.{mul-le}
use Rattle.kin_motion.specs.declared.fact.Placed.{Placed}
use Rattle.kin_motion.specs.Deltas.{Change}
use Rattle.kin_motion.specs.Extremes.{IsExtremeFact}
use Rattle.kin_motion.specs.Numbers.{is_in, HasEntered}
use Rattle.kin_motion.specs.Octants.{Direction}
use Rattle.kin_motion.specs.Scene.{Scene}
use Rattle.kin_motion.specs.Sets.{ListsExactly}
use Rattle.kin_motion.specs.Spending.{AreChanged, HasFailed, IsFactAlong, moved_along, MayBisect, MayOrdersAsk, IsChangeCount, MayExtremeAsk}
use Rattle.kin_motion.proofs.Members.{in_head}
use Rattle.kin_motion.proofs.SetLaws.{exactly_none, exactly_in_words}
use Rattle.kin_motion.proofs.SetSizes.{no_longer}

same_length : {A : Type 0} (xs ys : List A) (which : A → Type 0) → ListsExactly xs which → ListsExactly ys which → length xs ≤ length ys
same_length {A} xs ys which l m = no_longer xs ys l.once (λ z h. (m.each z).1 ((l.each z).0 h))

-- ---- what has changed
module _ (xs ys : List Placed) (old new : Placed → Type 0) (were : ListsExactly xs old) (are : ListsExactly ys new) where
  -- everything, where no fact is in both
  pub all_changed : ((p : Placed) → Contains xs p → Contains ys p → ⊥) → AreChanged old new (record { dropped = xs; born = ys })
  all_changed apart = record {
    dropped = exactly_in_words xs old (λ p. old p × ¬ (new p)) (λ p. ((λ h. (h, λ k. apart p ((were.each p).1 h) ((are.each p).1 k))), (λ h. h.0))) were;
    born = exactly_in_words ys new (λ p. new p × ¬ (old p)) (λ p. ((λ h. (h, λ k. apart p ((were.each p).1 k) ((are.each p).1 h))), (λ h. h.0))) are;
  }

  -- nothing, where the facts are the same
  pub none_changed : xs ≡ ys → AreChanged old new (record { dropped = []; born = [] })
  none_changed same = record {
    dropped = exactly_none (λ p. old p × ¬ (new p)) (λ p h. h.1 ((are.each p).0 (subst (λ (zs : List Placed). Contains zs p) same ((were.each p).1 h.0))));
    born = exactly_none (λ p. new p × ¬ (old p)) (λ p h. h.1 ((were.each p).0 (subst (λ (zs : List Placed). Contains zs p) (sym same) ((are.each p).1 h.0))));
  }

-- ---- who has entered
none_enters : (i : ℕ) (live : List ℕ) → HasEntered i live live → ⊥
none_enters i live entered = both_ways (is_in i live) entered.absent (sym (entered.lists.same i) ∙ in_head i live)

-- the greatest number of halvings
abbrev pub AreMostHalvings : Scene → Scene → ℕ → Type 0
AreMostHalvings v w k = MayBisect v w k × ((j : ℕ) → MayBisect v w j → j ≤ k)

-- the greatest number of marks
abbrev pub AreMostMarks : Scene → Scene → ℕ → Type 0
AreMostMarks v w k = IsChangeCount v.live w.live k × ((j : ℕ) → IsChangeCount v.live w.live j → j ≤ k)

module _ (v w : Scene) (same : v.live ≡ w.live) where
  no_one : (i : ℕ) → HasEntered i v.live w.live → ⊥
  no_one i entered = none_enters i w.live (subst (λ (live : List ℕ). HasEntered i live w.live) same entered)

  no_one_left : (i : ℕ) → HasEntered i w.live v.live → ⊥
  no_one_left i left = none_enters i w.live (subst (λ (live : List ℕ). HasEntered i w.live live) same left)

  pub no_halvings : AreMostHalvings v w 0
  no_halvings = (inl refl, most)
    where
      most : (j : ℕ) → MayBisect v w j → j ≤ 0
      most j (inl e) = omega (arith, e)
      most j (inr (i, entered, power)) = absurd (no_one i entered)

  pub no_marks : AreMostMarks v w 0
  no_marks = (inl refl, most)
    where
      most : (j : ℕ) → IsChangeCount v.live w.live j → j ≤ 0
      most j (inl e) = omega (arith, e)
      most j (inr (e, (i, inl entered))) = absurd (no_one i entered)
      most j (inr (e, (i, inr left))) = absurd (no_one_left i left)

-- ---- the bounds
pub orders_ask : (ways : List Direction) (v w : Scene) (change : Change) (k most : ℕ) → AreChanged (IsFactAlong ways v) (IsFactAlong ways w) change → AreMostHalvings v w k
    → 8 * (length change.dropped + length change.born + sum_by (moved_along v w) ways) + length ways * k ≡ most → (asked : ℕ) → MayOrdersAsk ways v w asked ↔ (asked ≤ most)
orders_ask ways v w change k most changed halvings sum asked = (to, λ le. record { change = change; changed = changed; halvings = k; allowed = halvings.0; bound = omega (arith, le, sum) })
  where
    to : MayOrdersAsk ways v w asked → asked ≤ most
    to may =
        let dropped = same_length may.change.dropped change.dropped _ may.changed.dropped changed.dropped in
        let born = same_length may.change.born change.born _ may.changed.born changed.born in
        let halved = mul-le (length ways) may.halvings (length ways) k (omega arith) (halvings.1 may.halvings may.allowed) in
        let bound = may.bound in
        omega (arith, bound, dropped, born, halved, sum)

pub extreme_asks : (size : ℕ) (d : Direction) (v w : Scene) (failed : List Placed) (k most : ℕ) → ListsExactly failed (HasFailed (IsExtremeFact size v d.dx d.dy) v w) → AreMostMarks v w k
    → size * (length failed + k) ≡ most → (asked : ℕ) → MayExtremeAsk size d v w asked ↔ (asked ≤ most)
extreme_asks size d v w failed k most exactly marks sum asked = (to, λ le. record { failed = failed; exactly = exactly; marks = k; allowed = marks.0; bound = omega (arith, le, sum) })
  where
    to : MayExtremeAsk size d v w asked → asked ≤ most
    to may =
        let few = same_length may.failed failed _ may.exactly exactly in
        let more = marks.1 may.marks may.allowed in
        let times = mul-le size (length may.failed + may.marks) size (length failed + k) (omega arith) (omega (arith, few, more)) in
        let bound = may.bound in
        omega (arith, bound, times, sum)
