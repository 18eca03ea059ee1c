-- A slot holds another pair exactly where its apex has another candidate.
use Rattle.std.proofs.Common.{◌≡◌, ◌≢◌, ◌⊎◌, inl, inr, refl, sym, ap, ◌∙◌, subst, arith, List, [], ◌∷◌, ℕ, ◌+◌, ◌*◌, ◌/◌, ◌%◌, ◌^◌, ◌<◌, ◌≤◌, nat_lt}
use Rattle.std.specs.Prelude.{Option, Some, None, slice_get, Contains, min, max, ◌↔◌}
use Rattle.std.proofs.lemmas.Bool.Decides.{nat_tests}
use Rattle.std.proofs.lemmas.Nat.{pow-add}
use Rattle.std.proofs.lemmas.Option.{slice_get_past, same_Some}
use Rattle.kin_motion.specs.Numbers.{IsIn, IsChain}
use Rattle.kin_motion.specs.Sets.{AreDistinct, ListsExactly}
use Rattle.kin_motion.specs.Scene.{Scene, IsReal}
use Rattle.kin_motion.specs.Octants.{AreCandidates, ListsChanged}
use Rattle.kin_motion.specs.ClosestPairs.{Near}
use Rattle.kin_motion.specs.ClosestFacts.{near, near_of, near_slots}
use Rattle.kin_motion.proofs.Members.{in_from_contains, contains_from_in}
use Rattle.kin_motion.proofs.NearLaws.{near_agrees, one_near}
use Rattle.kin_motion.proofs.SetLaws.{contains_none, contains_cases, distinct_none, distinct_cons}
use Rattle.kin_near.specs.BestPairs.{HoldCandidates}
use Rattle.kin_near.proofs.SettledPairs.{are_near}

-- ---- rising numbers are different
behind_more : (x : ℕ) (xs : List ℕ) → IsChain nat_lt (x ∷ xs) → (i : ℕ) → Contains xs i → x < i
behind_more x [] rising i c = absurd (contains_none i c)
behind_more x (y ∷ ys) rising i c = at (contains_cases y i ys c) (behind_more y ys rising.1 i)
  where
    first : x < y
    first = let e = rising.0 in grind (arith, nat_tests, e)

    at : (y ≡ i) ⊎ Contains ys i → (Contains ys i → y < i) → x < i
    at (inl e) rest = subst (λ n. x < n) e first
    at (inr k) rest = let more = rest k in let less = first in omega (arith, more, less)

rising_distinct : (xs : List ℕ) → IsChain nat_lt xs → AreDistinct xs
rising_distinct [] rising = distinct_none
rising_distinct (x ∷ []) rising = distinct_cons x [] (contains_none x) distinct_none
rising_distinct (x ∷ y ∷ ys) rising = distinct_cons x (y ∷ ys) (λ c. let less = behind_more x (y ∷ ys) rising x c in omega (arith, less)) (rising_distinct (y ∷ ys) rising.1)

-- ---- a pair tells the candidate
same_other : (p c d : ℕ) → min p c ≡ min p d → max p c ≡ max p d → c ≡ d
same_other p c d least most = omega (arith, least, most)

pub same_candidate : (slot p : ℕ) (a b : Option ℕ) → near_of slot p a ≡ near_of slot p b → a ≡ b
same_candidate slot p None None e = refl
same_candidate slot p None (Some d) e = absurd cc
same_candidate slot p (Some c) None e = absurd cc
same_candidate slot p (Some c) (Some d) e =
    let same : near slot p c ≡ near slot p d = same_Some (near slot p c) (near slot p d) e in
    ap (λ (n : ℕ). Some n) (same_other p c d (ap (λ (n : Near). n.i) same) (ap (λ (n : Near). n.j) same))

module _ (size : ℕ) (s : Scene) (real : IsReal s) (candidate : ℕ → ℕ → Option ℕ) (told : AreCandidates size s candidate) (slots : List (Option Near)) (held : HoldCandidates size candidate slots) where
  -- what the slot of p and w holds
  pub pair_held : (p w : ℕ) → p < 2 ^ size → w < 8 → slice_get (near_slots size s) (8 * p + w) ≡ Some (near_of (8 * p + w) p (candidate p w))
  pair_held p w low eight =
      let same : near_slots size s ≡ slots = one_near s real size (near_slots size s) slots (near_agrees s real size) (are_near size s candidate told slots held) in
      ap (λ (xs : List (Option Near)). slice_get xs (8 * p + w)) same ∙ held.each p w low eight

  pub none_past : (k : ℕ) → 2 ^ (size + 3) ≤ k → slice_get (near_slots size s) k ≡ None
  none_past k high = let count = (near_agrees s real size).count in slice_get_past (near_slots size s) k (omega (arith, high, count))

module _ (size : ℕ) (v w : Scene) (real : IsReal v) (real' : IsReal w) (old new : ℕ → ℕ → Option ℕ) (slots slots' : List (Option Near))
    (were : AreCandidates size v old) (held : HoldCandidates size old slots) (are : AreCandidates size w new) (held' : HoldCandidates size new slots') where
  abbrev HoldsOther : ℕ → Type 0
  HoldsOther k = slice_get (near_slots size v) k ≢ slice_get (near_slots size w) k

  holds_other : (p o : ℕ) → p < 2 ^ size → o < 8 → HoldsOther (8 * p + o) ↔ (old p o ≢ new p o)
  holds_other p o low eight = (to, from)
    where
      was : slice_get (near_slots size v) (8 * p + o) ≡ Some (near_of (8 * p + o) p (old p o))
      was = pair_held size v real old were slots held p o low eight

      is : slice_get (near_slots size w) (8 * p + o) ≡ Some (near_of (8 * p + o) p (new p o))
      is = pair_held size w real' new are slots' held' p o low eight

      to : HoldsOther (8 * p + o) → old p o ≢ new p o
      to other e = other (was ∙ ap (λ a. Some (near_of (8 * p + o) p a)) e ∙ sym is)

      from : old p o ≢ new p o → HoldsOther (8 * p + o)
      from other e = other (same_candidate (8 * p + o) p (old p o) (new p o) (same_Some (near_of (8 * p + o) p (old p o)) (near_of (8 * p + o) p (new p o)) (sym was ∙ e ∙ is)))

  -- so the slots whose candidate has changed are those that hold another pair
  pub changed_pairs : (changed : List ℕ) → ListsChanged size old new changed → ListsExactly changed HoldsOther
  changed_pairs changed lists = record { once = rising_distinct changed lists.rising; each = λ k. (λ c. other_at k (in_from_contains changed k c), λ other. contains_from_in changed k (listed k other)) }
    where
      apex : (k : ℕ) → k < 2 ^ (size + 3) → k / 8 < 2 ^ size
      apex k low = let e = pow-add 2 size 3 in omega (arith, low, e)

      octant : (k : ℕ) → k % 8 < 8
      octant k = omega arith

      split : (k : ℕ) → 8 * (k / 8) + k % 8 ≡ k
      split k = omega arith

      other_at : (k : ℕ) → IsIn k changed → HoldsOther k
      other_at k there =
          let low = apex k (lists.within k there) in
          subst HoldsOther (split k) ((holds_other (k / 8) (k % 8) low (octant k)).1 ((lists.each (k / 8) (k % 8) low (octant k)).0 (subst (λ n. IsIn n changed) (sym (split k)) there)))

      listed : (k : ℕ) → HoldsOther k → IsIn k changed
      listed k other = at (grind arith)
        where
          at : (k < 2 ^ (size + 3)) ⊎ (2 ^ (size + 3) ≤ k) → IsIn k changed
          at (inl inside) =
              let low = apex k inside in
              subst (λ n. IsIn n changed) (split k) ((lists.each (k / 8) (k % 8) low (octant k)).1 ((holds_other (k / 8) (k % 8) low (octant k)).0 (subst HoldsOther (sym (split k)) other)))
          at (inr past) = absurd (other (none_past size v real old were slots held k past ∙ sym (none_past size w real' new are slots' held' k past)))
