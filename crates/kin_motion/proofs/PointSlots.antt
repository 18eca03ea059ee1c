-- The slots of points: each live number stands in its own.
use Rattle.std.proofs.Common.{◌≡◌, ◌≢◌, refl, sym, ap, ap₂, ◌∙◌, arith, List, [], ◌∷◌, ℕ, zero, suc, ◌+◌, ◌^◌, ◌<◌, ◌≤◌, Bool, true, false, cond, map, set, replicate}
use Rattle.std.specs.Prelude.{Option, Some, None}
use Rattle.kin_motion.specs.Numbers.{is_in, IsIn, numbers_from}
use Rattle.kin_motion.specs.Tournaments.{item_in}
use Rattle.kin_motion.specs.Extremes.{slot_of_point, point_slots}

abbrev slots_from : List ℕ → ℕ → ℕ → List (Option ℕ)
slots_from live n k = map (slot_of_point live) (numbers_from n k)

own_or_none : (live : List ℕ) (j a : ℕ) → slot_of_point live j ≡ Some a → (j ≡ a) × (is_in a live ≡ true)
own_or_none live j a e = at (is_in j live) refl e
  where
    at : (b : Bool) → is_in j live ≡ b → cond b (Some j) None ≡ Some a → (j ≡ a) × (is_in a live ≡ true)
    at true f g = let same : j ≡ a = cc in (same, sym (ap (λ i. is_in i live) same) ∙ f)
    at false f g = absurd cc

held_from : (live : List ℕ) (n k i a : ℕ) → item_in (slots_from live n k) i ≡ Some a → (n + i ≡ a) × (is_in a live ≡ true)
held_from live n zero i a e = absurd cc
held_from live n (suc k) zero a e = let r = own_or_none live n a e in (omega (arith, r.0), r.1)
held_from live n (suc k) (suc i) a e = let r = held_from live (n + 1) k i a e in (omega (arith, r.0), r.1)

-- what a slot holds is its own number, which is live
pub slot_holds : (size : ℕ) (live : List ℕ) (i a : ℕ) → item_in (point_slots size live) i ≡ Some a → (i ≡ a) × IsIn a live
slot_holds size live i a e = let r = held_from live 0 (2 ^ size) i a e in (omega (arith, r.0), r.1)

found_from : (live : List ℕ) (n k i a : ℕ) → i < k → n + i ≡ a → is_in a live ≡ true → item_in (slots_from live n k) i ≡ Some a
found_from live n zero i a low here e = absurd (omega arith)
found_from live n (suc k) zero a low here e =
    let same : n ≡ a = omega (arith, here) in ap (slot_of_point live) same ∙ ap (λ b. cond b (Some a) None) e
found_from live n (suc k) (suc i) a low here e = found_from live (n + 1) k i a (omega arith) (omega (arith, here)) e

-- each live number stands in its slot
pub point_in_slot : (size : ℕ) (live : List ℕ) (i : ℕ) → i < 2 ^ size → IsIn i live → item_in (point_slots size live) i ≡ Some i
point_in_slot size live i low e = found_from live 0 (2 ^ size) i i low (omega arith) e

same_from : (before after : List ℕ) (n k : ℕ) → ((j : ℕ) → n ≤ j → is_in j before ≡ is_in j after) → slots_from before n k ≡ slots_from after n k
same_from before after n zero same = refl
same_from before after n (suc k) same =
    ap₂ (λ (x : Option ℕ) (xs : List (Option ℕ)). x ∷ xs) (ap (λ b. cond b (Some n) None) (same n (omega arith)))
    (same_from before after (n + 1) k (λ j h. same j (omega (arith, h))))

set_from : (before after : List ℕ) (n k i a : ℕ) → i < k → n + i ≡ a → ((j : ℕ) → j ≢ a → is_in j before ≡ is_in j after) → is_in a after ≡ true
    → set (slots_from before n k) i (Some a) ≡ slots_from after n k
set_from before after n zero i a low here others own = absurd (omega arith)
set_from before after n (suc k) zero a low here others own =
    let same : a ≡ n = omega (arith, here) in
    let there : is_in n after ≡ true = sym (ap (λ j. is_in j after) same) ∙ own in
    ap₂ (λ (x : Option ℕ) (xs : List (Option ℕ)). x ∷ xs) (ap Some same ∙ ap (λ b. cond b (Some n) None) (sym there))
    (same_from before after (n + 1) k (λ j h. others j (λ e. absurd (omega (arith, e, h, same)))))
set_from before after n (suc k) (suc i) a low here others own =
    ap₂ (λ (x : Option ℕ) (xs : List (Option ℕ)). x ∷ xs) (ap (λ b. cond b (Some n) None) (others n (λ e. absurd (omega (arith, e, here)))))
    (set_from before after (n + 1) k i a (omega arith) (omega (arith, here)) others own)

-- the slots with one number more
pub slots_with : (size : ℕ) (before after : List ℕ) (a : ℕ) → a < 2 ^ size → ((j : ℕ) → j ≢ a → is_in j before ≡ is_in j after) → is_in a after ≡ true
    → set (point_slots size before) a (Some a) ≡ point_slots size after
slots_with size before after a low others own = set_from before after 0 (2 ^ size) a a low (omega arith) others own

clear_from : (before after : List ℕ) (n k i a : ℕ) → n + i ≡ a → ((j : ℕ) → j ≢ a → is_in j before ≡ is_in j after) → is_in a after ≡ false
    → set (slots_from before n k) i None ≡ slots_from after n k
clear_from before after n zero i a here others own = refl
clear_from before after n (suc k) zero a here others own =
    let same : a ≡ n = omega (arith, here) in
    let there : is_in n after ≡ false = sym (ap (λ j. is_in j after) same) ∙ own in
    ap₂ (λ (x : Option ℕ) (xs : List (Option ℕ)). x ∷ xs) (ap (λ b. cond b (Some n) None) (sym there))
    (same_from before after (n + 1) k (λ j h. others j (λ e. absurd (omega (arith, e, h, same)))))
clear_from before after n (suc k) (suc i) a here others own =
    ap₂ (λ (x : Option ℕ) (xs : List (Option ℕ)). x ∷ xs) (ap (λ b. cond b (Some n) None) (others n (λ e. absurd (omega (arith, e, here)))))
    (clear_from before after (n + 1) k i a (omega (arith, here)) others own)

-- the slots with one number less
pub slots_without : (size : ℕ) (before after : List ℕ) (a : ℕ) → ((j : ℕ) → j ≢ a → is_in j before ≡ is_in j after) → is_in a after ≡ false
    → set (point_slots size before) a None ≡ point_slots size after
slots_without size before after a others own = clear_from before after 0 (2 ^ size) a a (omega arith) others own

empty_from : (n k : ℕ) → slots_from [] n k ≡ replicate k None
empty_from n zero = refl
empty_from n (suc k) = ap (λ (xs : List (Option ℕ)). None ∷ xs) (empty_from (n + 1) k)

-- the slots without numbers
pub empty_slots : (size : ℕ) → point_slots size [] ≡ replicate (2 ^ size) None
empty_slots size = empty_from 0 (2 ^ size)
