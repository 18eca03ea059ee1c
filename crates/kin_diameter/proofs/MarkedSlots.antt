-- The marked slots as a list.
use Rattle.std.proofs.Common.{◌≡◌, ◌≢◌, ◌⊎◌, inl, inr, refl, sym, ◌∙◌, subst, arith, List, [], ◌∷◌, ℕ, zero, suc, ◌+◌, Bool, true, false, cond, length}
use Rattle.std.specs.Prelude.{Contains}
use Rattle.std.proofs.lemmas.List.Sums.{sum_by-cons}
use Rattle.kin_algebra.proofs.Members.{contains_none, contains_head, contains_tail, contains_cases}
use Rattle.kin_motion.specs.ClosestPairs.{Near}
use Rattle.kin_motion.specs.Sets.{AreDistinct, ListsExactly}
use Rattle.kin_motion.specs.Tournaments.{item_in}
use Rattle.kin_motion.proofs.SetLaws.{distinct_cons, distinct_none}
use Rattle.kin_tourney.specs.Tournament.{Tournament, mark_in, mark_count}
use Rattle.kin_diameter.specs.Seats.{IsKept, IsChanged, AreTold}

-- the marked slots, from slot i on
abbrev pub marked_from : ℕ → List Bool → List ℕ
marked_from i [] = []
marked_from i (m ∷ ms) = cond m (i ∷ marked_from (i + 1) ms) (marked_from (i + 1) ms)

marked_at : (i k : ℕ) (ms : List Bool) → Contains (marked_from i ms) k → (j : ℕ) × (k ≡ i + j) × (mark_in ms j ≡ true)
marked_at i k [] c = absurd (contains_none k c)
marked_at i k (m ∷ ms) c = at m refl c (marked_at (i + 1) k ms)
  where
    further : (j : ℕ) × (k ≡ i + 1 + j) × (mark_in ms j ≡ true) → (j : ℕ) × (k ≡ i + j) × (mark_in (m ∷ ms) j ≡ true)
    further (j, e, f) = (suc j, (let g : k ≡ i + suc j = omega (arith, e) in g), f)

    head_or_further : m ≡ true → (i ≡ k) ⊎ Contains (marked_from (i + 1) ms) k → (Contains (marked_from (i + 1) ms) k → (j : ℕ) × (k ≡ i + 1 + j) × (mark_in ms j ≡ true)) → (j : ℕ) × (k ≡ i + j) × (mark_in (m ∷ ms) j ≡ true)
    head_or_further e (inl f) rest = (0, (let g : k ≡ i + 0 = omega (arith, f) in g), e)
    head_or_further e (inr d) rest = further (rest d)

    at : (b : Bool) → m ≡ b → Contains (cond b (i ∷ marked_from (i + 1) ms) (marked_from (i + 1) ms)) k → (Contains (marked_from (i + 1) ms) k → (j : ℕ) × (k ≡ i + 1 + j) × (mark_in ms j ≡ true)) → (j : ℕ) × (k ≡ i + j) × (mark_in (m ∷ ms) j ≡ true)
    at true e d rest = head_or_further e (contains_cases i k (marked_from (i + 1) ms) d) rest
    at false e d rest = further (rest d)

listed_at : (i j : ℕ) (ms : List Bool) → mark_in ms j ≡ true → Contains (marked_from i ms) (i + j)
listed_at i j [] e = absurd cc
listed_at i zero (m ∷ ms) e = subst (λ b. Contains (cond b (i ∷ marked_from (i + 1) ms) (marked_from (i + 1) ms)) (i + 0)) (sym e) (subst (Contains (i ∷ marked_from (i + 1) ms)) (let g : i ≡ i + 0 = omega arith in g) (contains_head i (marked_from (i + 1) ms)))
listed_at i (suc j) (m ∷ ms) e = at m (subst (Contains (marked_from (i + 1) ms)) (let g : i + 1 + j ≡ i + suc j = omega arith in g) (listed_at (i + 1) j ms e))
  where
    at : (b : Bool) → Contains (marked_from (i + 1) ms) (i + suc j) → Contains (cond b (i ∷ marked_from (i + 1) ms) (marked_from (i + 1) ms)) (i + suc j)
    at true c = contains_tail i (i + suc j) (marked_from (i + 1) ms) c
    at false c = c

marked_once : (i : ℕ) (ms : List Bool) → AreDistinct (marked_from i ms)
marked_once i [] = distinct_none
marked_once i (m ∷ ms) = at m (marked_once (i + 1) ms)
  where
    at : (b : Bool) → AreDistinct (marked_from (i + 1) ms) → AreDistinct (cond b (i ∷ marked_from (i + 1) ms) (marked_from (i + 1) ms))
    at true once = distinct_cons i (marked_from (i + 1) ms) (λ c. let k = marked_at (i + 1) i ms c in let e = k.1 in omega (arith, e)) once
    at false once = once

marked_length : (i : ℕ) (ms : List Bool) → length (marked_from i ms) ≡ mark_count ms
marked_length i [] = refl
marked_length i (m ∷ ms) = at m (marked_length (i + 1) ms) ∙ sym (sum_by-cons (λ (b : Bool). cond b 1 0) m ms)
  where
    at : (b : Bool) → length (marked_from (i + 1) ms) ≡ mark_count ms → length (cond b (i ∷ marked_from (i + 1) ms) (marked_from (i + 1) ms)) ≡ cond b 1 0 + mark_count ms
    at true e = omega (arith, e)
    at false e = omega (arith, e)

module _ {K : Type 0} (t u : Tournament K Near) (told : AreTold (item_in u.slots) t u) (none : (i : ℕ) → mark_in t.marked i ≡ false) where
  abbrev pub marked_slots : List ℕ
  marked_slots = marked_from 0 u.marked

  pub marked_count : length marked_slots ≡ mark_count u.marked
  marked_count = marked_length 0 u.marked

  -- they are those that hold something else than before
  pub marked_changed : ListsExactly marked_slots (λ i. item_in t.slots i ≢ item_in u.slots i)
  marked_changed = record { once = marked_once 0 u.marked; each = λ i. (to i, from i) }
    where
      changed : (i : ℕ) → mark_in u.marked i ≡ true → IsKept t u i ⊎ IsChanged (item_in u.slots) t u i → item_in t.slots i ≢ item_in u.slots i
      changed i e (inl k) = λ f. absurd (let clash : true ≡ false = sym e ∙ k.1 ∙ none i in cc)
      changed i e (inr c) = c.2

      to : (i : ℕ) → Contains marked_slots i → item_in t.slots i ≢ item_in u.slots i
      to i c = let k = marked_at 0 i u.marked c in let same : i ≡ k.0 = (let e = k.1 in omega (arith, e)) in changed i (subst (λ j. mark_in u.marked j ≡ true) (sym same) k.2) (told.each i)

      from : (i : ℕ) → item_in t.slots i ≢ item_in u.slots i → Contains marked_slots i
      from i n = at (told.each i)
        where
          at : IsKept t u i ⊎ IsChanged (item_in u.slots) t u i → Contains marked_slots i
          at (inl k) = absurd (n (sym k.0))
          at (inr c) = subst (Contains marked_slots) (let e : 0 + i ≡ i = omega arith in e) (listed_at 0 i u.marked c.1)
