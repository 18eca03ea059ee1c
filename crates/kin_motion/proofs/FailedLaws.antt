-- The failed facts of a structure between two scenes, and those that are told to it.
use Rattle.std.proofs.Common.{◌≡◌, ◌⊎◌, inl, inr, refl, sym, subst, List, [], ◌∷◌, ℕ, ◌≤◌, Bool, true, false, not, ◌&&◌, ◌||◌, length}
use Rattle.std.specs.Prelude.{Contains, filter, IsTrue}
use Rattle.std.proofs.lemmas.Bool.{and_parts, and_from, both_ways}
use Rattle.kin_motion.specs.declared.fact.Placed.{Placed}
use Rattle.kin_motion.specs.Forms.{names, numbers_of}
use Rattle.kin_motion.specs.Journal.{same_sign}
use Rattle.kin_motion.specs.Numbers.{is_in, IsIn}
use Rattle.kin_motion.specs.Scene.{Scene, Holds}
use Rattle.kin_motion.specs.Sets.{AreDistinct, ListsExactly}
use Rattle.kin_motion.specs.Spending.{HasFailed}
use Rattle.kin_motion.proofs.LiveFactLaws.{differs, differ}
use Rattle.kin_motion.proofs.Members.{in_head, in_tail, in_cases}
use Rattle.kin_motion.proofs.SetLaws.{distinct_filter, filter-sound, filter-complete}
use Rattle.kin_motion.proofs.SetSizes.{no_longer}

-- ---- whether none of these numbers has left
stays : (before after : List ℕ) → ℕ → Bool
stays before after i = not (is_in i before) || is_in i after

stay : (before after xs : List ℕ) → Bool
stay before after [] = true
stay before after (x ∷ xs) = stays before after x && stay before after xs

module _ (before after : List ℕ) where
  one_stays : (i : ℕ) → stays before after i ≡ true → IsIn i before → IsIn i after
  unfolding stays
  one_stays i e there = at (is_in i before) there e
    where
      at : (b : Bool) → b ≡ true → not b || is_in i after ≡ true → IsIn i after
      at true same h = h
      at false same h = absurd cc

  that_stays : (i : ℕ) → (IsIn i before → IsIn i after) → stays before after i ≡ true
  unfolding stays
  that_stays i kept = at (is_in i before) kept
    where
      at : (b : Bool) → (b ≡ true → IsIn i after) → not b || is_in i after ≡ true
      at true h = h refl
      at false h = refl

  each_stays : (xs : List ℕ) → stay before after xs ≡ true → (i : ℕ) → IsIn i xs → IsIn i before → IsIn i after
  unfolding stay
  each_stays [] e i h there = absurd (both_ways false refl h)
  each_stays (x ∷ xs) e i h there = let parts = and_parts (stays before after x) (stay before after xs) e in at parts (in_cases i x xs h) (λ k. each_stays xs parts.1 i k there)
    where
      at : (stays before after x ≡ true) × (stay before after xs ≡ true) → (i ≡ x) ⊎ IsIn i xs → (IsIn i xs → IsIn i after) → IsIn i after
      at parts (inl same) rest = subst (λ j. IsIn j after) (sym same) (one_stays x parts.0 (subst (λ j. IsIn j before) same there))
      at parts (inr k) rest = rest k

  all_stay : (xs : List ℕ) → ((i : ℕ) → IsIn i xs → IsIn i before → IsIn i after) → stay before after xs ≡ true
  unfolding stay
  all_stay [] kept = refl
  all_stay (x ∷ xs) kept = and_from (stays before after x) (stay before after xs) (that_stays x (kept x (in_head x xs))) (all_stay xs (λ i h. kept i (in_tail i x xs h)))

-- ---- the failed facts, of which the told ones are some
pub record AreSomeFailed (old : Placed → Type 0) (v w : Scene) (told : List Placed) : Type 0 where
  pub failed : List Placed
  pub exactly : ListsExactly failed (HasFailed old v w)
  pub enough : length told ≤ length failed

-- whether a fact of the structure has failed
has_failed : Scene → Scene → Placed → Bool
has_failed v w p = not (same_sign (w.sign p.fact.form) p.fact.sign) && stay v.live w.live (numbers_of p.fact.form)

failed_sound : (v w : Scene) (p : Placed) → has_failed v w p ≡ true → ((i : ℕ) → IsTrue (names p.fact.form i) → IsIn i v.live → IsIn i w.live) × ¬ (Holds w p.fact)
unfolding has_failed
failed_sound v w p e =
    let parts = and_parts (not (same_sign (w.sign p.fact.form) p.fact.sign)) (stay v.live w.live (numbers_of p.fact.form)) e in
    (each_stays v.live w.live (numbers_of p.fact.form) parts.1, differs (w.sign p.fact.form) p.fact.sign parts.0)

failed_complete : (v w : Scene) (p : Placed) → ((i : ℕ) → IsTrue (names p.fact.form i) → IsIn i v.live → IsIn i w.live) → ¬ (Holds w p.fact) → has_failed v w p ≡ true
unfolding has_failed
failed_complete v w p kept fails =
    and_from (not (same_sign (w.sign p.fact.form) p.fact.sign)) (stay v.live w.live (numbers_of p.fact.form)) (differ (w.sign p.fact.form) p.fact.sign fails) (all_stay v.live w.live (numbers_of p.fact.form) kept)

pub some_failed : (facts : List Placed) (old : Placed → Type 0) (v w : Scene) (told : List Placed) → ListsExactly facts old → AreDistinct told → ((p : Placed) → Contains told p → HasFailed old v w p) → AreSomeFailed old v w told
some_failed facts old v w told were once each = record {
  failed = filter test facts;
  exactly = record { once = distinct_filter test facts were.once; each = λ p. (to p, from p) };
  enough = no_longer told (filter test facts) once (λ p h. from p (each p h));
}
  where
    test : Placed → Bool
    test = has_failed v w

    to : (p : Placed) → Contains (filter test facts) p → HasFailed old v w p
    to p h = let kept = filter-sound test facts p h in let failed = failed_sound v w p kept.1 in record { was = (were.each p).0 kept.0; stays = failed.0; fails = failed.1 }

    from : (p : Placed) → HasFailed old v w p → Contains (filter test facts) p
    from p failed = filter-complete test facts p ((were.each p).1 failed.was) (failed_complete v w p failed.stays failed.fails)
