-- The computed facts of a tournament are the facts of its nodes.
use Rattle.std.proofs.Common.{◌≡◌, ◌≢◌, ◌⊎◌, inl, inr, refl, sym, ap, ◌∙◌, subst, arith, List, [], ◌∷◌, ℕ, zero, suc, ◌+◌, ◌*◌, ◌-◌, ◌/◌, ◌^◌, ◌<◌, ◌≤◌, Bool, true, false, cond, nat_eq, IsTrue, length}
use Rattle.std.specs.Prelude.{Option, Some, None, Contains, slice_get}
use Rattle.std.proofs.lemmas.Bool.Decides.{nat_tests}
use Rattle.std.proofs.lemmas.Nat.{pow-add}
use Rattle.std.proofs.lemmas.Bool.{cases_eq, or_cases}
use Rattle.std.proofs.lemmas.Option.{same_Some}
use Rattle.kin_algebra.proofs.Members.{contains_none, contains_head, contains_tail, contains_cases}
use Rattle.kin_motion.specs.declared.fact.Placed.{Placed}
use Rattle.kin_motion.specs.Sets.{ListsExactly}
use Rattle.kin_motion.specs.Scene.{Scene, placed_at}
use Rattle.kin_motion.specs.Tournaments.{Key, beats, IsBest, item_in, comes_to, is_under, items_from, items_under, best_of, IsNodeFact, node_fact, tournament_facts}
use Rattle.kin_motion.proofs.SetLaws.{exactly_none, exactly_one, exactly_in_turn, exactly_in_words}
use Rattle.kin_motion.proofs.BestLaws.{none_there, best_is_top}
use Rattle.kin_motion.proofs.Choices.{IsTop}

-- ---- which nodes have slots
pub not_above : (h u v : ℕ) → comes_to h u v ≡ true → v ≤ u
not_above zero u v e = let f : u ≡ v = grind (arith, nat_tests, e) in omega (arith, f)
not_above (suc h) u v e = at (or_cases (nat_eq u v) (comes_to h (u / 2) v) e) (not_above h (u / 2) v)
  where
    at : (nat_eq u v ≡ true) ⊎ (comes_to h (u / 2) v ≡ true) → (comes_to h (u / 2) v ≡ true → v ≤ u / 2) → v ≤ u
    at (inl f) rest = let g : u ≡ v = grind (arith, nat_tests, f) in omega (arith, g)
    at (inr f) rest = let g = rest f in omega (arith, g)

not_none : (h u v : ℕ) → 2 ^ h ≤ u → comes_to h u v ≡ true → 0 < v
not_none zero u v low e = let f : u ≡ v = grind (arith, nat_tests, e) in omega (arith, f, low)
not_none (suc h) u v low e = at (or_cases (nat_eq u v) (comes_to h (u / 2) v) e) (not_none h (u / 2) v)
  where
    power : 2 ^ suc h ≡ 2 * 2 ^ h
    power = let p = pow-add 2 h 1 in let q : 2 ^ suc h ≡ 2 ^ (h + 1) = ap (λ (k : ℕ). 2 ^ k) (omega arith) in omega (arith, p, q)

    half : 2 ^ h ≤ u / 2
    half = omega (arith, power, low)

    positive : (h : ℕ) → 0 < 2 ^ h
    positive zero = omega arith
    positive (suc h) = let p = pow-add 2 h 1 in let q : 2 ^ suc h ≡ 2 ^ (h + 1) = ap (λ (k : ℕ). 2 ^ k) (omega arith) in let r = positive h in omega (arith, p, q, r)

    at : (nat_eq u v ≡ true) ⊎ (comes_to h (u / 2) v ≡ true) → (2 ^ h ≤ u / 2 → comes_to h (u / 2) v ≡ true → 0 < v) → 0 < v
    at (inl f) rest = let g : u ≡ v = grind (arith, nat_tests, f) in let p = positive h in omega (arith, g, low, power, p)
    at (inr f) rest = rest half f

-- no number comes to both halves of a node
pub not_both_halves : (h u v : ℕ) → 0 < v → comes_to h u (2 * v) ≡ true → comes_to h u (2 * v + 1) ≡ true → ⊥
not_both_halves zero u v some p q = let e : u ≡ 2 * v = grind (arith, nat_tests, p) in let f : u ≡ 2 * v + 1 = grind (arith, nat_tests, q) in omega (arith, e, f)
not_both_halves (suc h) u v some p q = at (or_cases (nat_eq u (2 * v)) (comes_to h (u / 2) (2 * v)) p) (or_cases (nat_eq u (2 * v + 1)) (comes_to h (u / 2) (2 * v + 1)) q) (not_both_halves h (u / 2) v some)
  where
    at : (nat_eq u (2 * v) ≡ true) ⊎ (comes_to h (u / 2) (2 * v) ≡ true) → (nat_eq u (2 * v + 1) ≡ true) ⊎ (comes_to h (u / 2) (2 * v + 1) ≡ true)
        → (comes_to h (u / 2) (2 * v) ≡ true → comes_to h (u / 2) (2 * v + 1) ≡ true → ⊥) → ⊥
    at (inl e) (inl f) rest = let g : u ≡ 2 * v = grind (arith, nat_tests, e) in let k : u ≡ 2 * v + 1 = grind (arith, nat_tests, f) in omega (arith, g, k)
    at (inl e) (inr f) rest = let g : u ≡ 2 * v = grind (arith, nat_tests, e) in let k = not_above h (u / 2) (2 * v + 1) f in omega (arith, g, k, some)
    at (inr e) (inl f) rest = let g : u ≡ 2 * v + 1 = grind (arith, nat_tests, f) in let k = not_above h (u / 2) (2 * v) e in omega (arith, g, k, some)
    at (inr e) (inr f) rest = rest e f

pub node_with_slot : (size v i : ℕ) → i < 2 ^ size → is_under size (2 * v) i ≡ true → (1 ≤ v) × (v < 2 ^ size)
node_with_slot size v i low e =
    let some = not_none size (2 ^ size + i) (2 * v) (omega arith) e in
    let most = not_above size (2 ^ size + i) (2 * v) e in
    (omega (arith, some), omega (arith, most, low))

pub within_slots : {A : Type 0} (slots : List (Option A)) (i : ℕ) (a : A) → item_in slots i ≡ Some a → i < length slots
within_slots {A} [] i a e = absurd cc
within_slots {A} (x ∷ xs) zero a e = omega arith
within_slots {A} (x ∷ xs) (suc i) a e = let h = within_slots xs i a e in omega (arith, h)

-- ---- the items under a node
module _ {Item : Type 0} (size v : ℕ) where
  items_from-sound : (n : ℕ) (slots : List (Option Item)) (a : Item) → Contains (items_from size v n slots) a → (k : ℕ) × (is_under size v (n + k) ≡ true) × (item_in slots k ≡ Some a)
  items_from-sound n [] a h = absurd (contains_none a h)
  items_from-sound n (None ∷ slots) a h =
      let r = items_from-sound (n + 1) slots a h in (suc (r.0), ap (is_under size v) (omega arith) ∙ r.1, r.2)
  items_from-sound n (Some b ∷ slots) a h = at (is_under size v n) refl h (items_from-sound (n + 1) slots a)
    where
      at : (t : Bool) → is_under size v n ≡ t → Contains (cond t (b ∷ items_from size v (n + 1) slots) (items_from size v (n + 1) slots)) a
          → (Contains (items_from size v (n + 1) slots) a → (k : ℕ) × (is_under size v (n + 1 + k) ≡ true) × (item_in slots k ≡ Some a))
          → (k : ℕ) × (is_under size v (n + k) ≡ true) × (item_in (Some b ∷ slots) k ≡ Some a)
      at false e h rest = let r = rest h in (suc (r.0), ap (is_under size v) (omega arith) ∙ r.1, r.2)
      at true e h rest = first (contains_cases b a (items_from size v (n + 1) slots) h)
        where
          first : (b ≡ a) ⊎ Contains (items_from size v (n + 1) slots) a → (k : ℕ) × (is_under size v (n + k) ≡ true) × (item_in (Some b ∷ slots) k ≡ Some a)
          first (inl f) = (zero, ap (is_under size v) (omega arith) ∙ e, ap (λ (x : Item). Some x) f)
          first (inr g) = let r = rest g in (suc (r.0), ap (is_under size v) (omega arith) ∙ r.1, r.2)

  items_from-complete : (n : ℕ) (slots : List (Option Item)) (k : ℕ) (a : Item) → is_under size v (n + k) ≡ true → item_in slots k ≡ Some a → Contains (items_from size v n slots) a
  items_from-complete n [] k a u e = absurd cc
  items_from-complete n (None ∷ slots) zero a u e = absurd cc
  items_from-complete n (None ∷ slots) (suc k) a u e = items_from-complete (n + 1) slots k a (ap (is_under size v) (omega arith) ∙ u) e
  items_from-complete n (Some b ∷ slots) zero a u e =
      subst (λ t. Contains (cond t (b ∷ items_from size v (n + 1) slots) (items_from size v (n + 1) slots)) a) (sym (ap (is_under size v) (omega arith) ∙ u))
      (subst (λ (x : Item). Contains (b ∷ items_from size v (n + 1) slots) x) (same_Some _ _ e) (contains_head b (items_from size v (n + 1) slots)))
  items_from-complete n (Some b ∷ slots) (suc k) a u e = at (is_under size v n) (items_from-complete (n + 1) slots k a (ap (is_under size v) (omega arith) ∙ u) e)
    where
      at : (t : Bool) → Contains (items_from size v (n + 1) slots) a → Contains (cond t (b ∷ items_from size v (n + 1) slots) (items_from size v (n + 1) slots)) a
      at true h = contains_tail b a (items_from size v (n + 1) slots) h
      at false h = h

  pub under-sound : (slots : List (Option Item)) (a : Item) → Contains (items_under size v slots) a → (k : ℕ) × (is_under size v k ≡ true) × (item_in slots k ≡ Some a)
  under-sound slots a h = let r = items_from-sound 0 slots a h in (r.0, ap (is_under size v) (omega arith) ∙ r.1, r.2)

  pub under-complete : (slots : List (Option Item)) (k : ℕ) (a : Item) → is_under size v k ≡ true → item_in slots k ≡ Some a → Contains (items_under size v slots) a
  under-complete slots k a u e = items_from-complete 0 slots k a (ap (is_under size v) (omega arith) ∙ u) e

-- the item of a slot stands there
pub held_slot : {A : Type 0} (slots : List (Option A)) (i : ℕ) (a : A) → item_in slots i ≡ Some a → slice_get slots i ≡ Some (Some a)
held_slot {A} [] i a e = absurd cc
held_slot {A} (x ∷ xs) zero a e = ap (λ (y : Option A). Some y) e
held_slot {A} (x ∷ xs) (suc i) a e = held_slot xs i a e

-- ---- bests
-- where no two slots beat each other, a set of them has one best item at most
pub one_best_of : {Item : Type 0} (s : Scene) (key : Key Item) (slots : List (Option Item))
    → ((i j : ℕ) (a b : Item) → i ≢ j → item_in slots i ≡ Some a → item_in slots j ≡ Some b → beats s key a b ≡ true → beats s key b a ≡ true → ⊥)
    → (among : ℕ → Bool) (a b : Item) → IsBest s key slots among a → IsBest s key slots among b → a ≡ b
one_best_of s key slots not_both among a b p q = at (cases_eq p.slot q.slot)
  where
    at : (p.slot ≡ q.slot) ⊎ (p.slot ≢ q.slot) → a ≡ b
    at (inl e) = same_Some _ _ (sym p.held ∙ ap (item_in slots) e ∙ q.held)
    at (inr n) = absurd (not_both p.slot q.slot a b n p.held q.held (p.beats_others q.slot b (λ f. n (sym f)) q.among q.held) (q.beats_others p.slot a n p.among p.held))

module _ {Item : Type 0} (s : Scene) (key : Key Item)
    (otherwise : (a b : Item) → beats s key a b ≡ false → (a ≡ b) ⊎ (beats s key b a ≡ true))
    (through : (a b c : Item) → beats s key a b ≡ true → beats s key b c ≡ true → beats s key a c ≡ true)
    (never : (a : Item) → beats s key a a ≡ true → ⊥)
    (size : ℕ) (slots : List (Option Item))
    (apart : (i j : ℕ) (a : Item) → item_in slots i ≡ Some a → item_in slots j ≡ Some a → i ≡ j) where
  -- a node has one best item at most
  one_best : (among : ℕ → Bool) (a b : Item) → IsBest s key slots among a → IsBest s key slots among b → a ≡ b
  one_best = one_best_of s key slots (λ i j a b n e f h k. never a (through a b a h k))

  best_from_top : (v : ℕ) (a : Item) → IsTop (beats s key) (items_under size v slots) a → IsBest s key slots (is_under size v) a
  unfolding IsTop
  best_from_top v a top =
      let r = under-sound size v slots a top.0 in
      record {
        slot = r.0;
        among = r.1;
        held = r.2;
        beats_others = λ i b n u e. other r.0 r.2 i b n e (top.1 b (under-complete size v slots i b u e));
      }
    where
      other : (k : ℕ) → item_in slots k ≡ Some a → (i : ℕ) (b : Item) → i ≢ k → item_in slots i ≡ Some b → (a ≡ b) ⊎ (beats s key a b ≡ true) → IsTrue (beats s key a b)
      other k held i b n e (inl f) = absurd (n (apart i k a (e ∙ ap (λ (x : Item). Some x) (sym f)) held))
      other k held i b n e (inr w) = w

  -- the computed best item is the best one
  pub best_agrees : (v : ℕ) (a : Item) → best_of s key (items_under size v slots) ≡ Some a → IsBest s key slots (is_under size v) a
  best_agrees v a e = best_from_top v a (best_is_top s key otherwise through (items_under size v slots) a e)

  -- where none is computed there is none
  pub none_agrees : (v : ℕ) (a : Item) → best_of s key (items_under size v slots) ≡ None → IsBest s key slots (is_under size v) a → ⊥
  none_agrees v a e b = contains_none a (subst (λ xs. Contains xs a) (none_there s key otherwise through (items_under size v slots) e) (under-complete size v slots b.slot a b.among b.held))

  node_exact : (v : ℕ) → ListsExactly (node_fact s key v (best_of s key (items_under size (2 * v) slots)) (best_of s key (items_under size (2 * v + 1) slots))) (λ p. IsNodeFact s key size slots p × (p.part ≡ v))
  node_exact v = at (best_of s key (items_under size (2 * v) slots)) refl (best_of s key (items_under size (2 * v + 1) slots)) refl
    where
      left_of : (p : Placed) → IsNodeFact s key size slots p → p.part ≡ v → (a : Item) × IsBest s key slots (is_under size (2 * v)) a
      left_of p f e = (f.left, subst (λ u. IsBest s key slots (is_under size (2 * u)) f.left) e f.left_best)

      right_of : (p : Placed) → IsNodeFact s key size slots p → p.part ≡ v → (a : Item) × IsBest s key slots (is_under size (2 * v + 1)) a
      right_of p f e = (f.right, subst (λ u. IsBest s key slots (is_under size (2 * u + 1)) f.right) e f.right_best)

      at : (x : Option Item) → best_of s key (items_under size (2 * v) slots) ≡ x → (y : Option Item) → best_of s key (items_under size (2 * v + 1) slots) ≡ y
          → ListsExactly (node_fact s key v x y) (λ p. IsNodeFact s key size slots p × (p.part ≡ v))
      at None e y f = exactly_none _ (λ p w. let l = left_of p w.0 w.1 in none_agrees (2 * v) l.0 e l.1)
      at (Some a) e None f = exactly_none _ (λ p w. let l = right_of p w.0 w.1 in none_agrees (2 * v + 1) l.0 f l.1)
      at (Some a) e (Some b) f =
          exactly_one (placed_at s v (key.form a b)) _
          (record { left = a; right = b; left_best = best_agrees (2 * v) a e; right_best = best_agrees (2 * v + 1) b f; fact = refl }, refl)
          only
        where
          only : (p : Placed) → IsNodeFact s key size slots p × (p.part ≡ v) → p ≡ placed_at s v (key.form a b)
          only p w =
              let l = left_of p w.0 w.1 in
              let r = right_of p w.0 w.1 in
              let le : w.0.left ≡ a = one_best (is_under size (2 * v)) w.0.left a l.1 (best_agrees (2 * v) a e) in
              let re : w.0.right ≡ b = one_best (is_under size (2 * v + 1)) w.0.right b r.1 (best_agrees (2 * v + 1) b f) in
              w.0.fact ∙ (λ t. placed_at s (w.1 t) (key.form (le t) (re t)))

  -- the computed facts are those of the nodes
  pub tournament_agrees : length slots ≤ 2 ^ size → ListsExactly (tournament_facts s key size slots) (IsNodeFact s key size slots)
  tournament_agrees fits =
      exactly_in_words (tournament_facts s key size slots) _ _ (λ p. (to p, from p))
      (exactly_in_turn
      (λ v. node_fact s key v (best_of s key (items_under size (2 * v) slots)) (best_of s key (items_under size (2 * v + 1) slots)))
      (λ v p. IsNodeFact s key size slots p × (p.part ≡ v)) node_exact (λ m n p w x. sym w.1 ∙ x.1) 1 (2 ^ size - 1))
    where
      to : (p : Placed) → (n : ℕ) × (1 ≤ n) × (n < 1 + (2 ^ size - 1)) × (IsNodeFact s key size slots p × (p.part ≡ n)) → IsNodeFact s key size slots p
      to p w = w.3.0

      from : (p : Placed) → IsNodeFact s key size slots p → (n : ℕ) × (1 ≤ n) × (n < 1 + (2 ^ size - 1)) × (IsNodeFact s key size slots p × (p.part ≡ n))
      from p f =
          let low = within_slots slots f.left_best.slot f.left f.left_best.held in
          let r = node_with_slot size p.part f.left_best.slot (omega (arith, low, fits)) f.left_best.among in
          let h : 1 ≤ p.part = r.0 in
          let g : p.part < 2 ^ size = r.1 in
          (p.part, h, omega (arith, g), (f, refl))
