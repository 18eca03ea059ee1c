-- What one list is told, and what it reports.
use Rattle.std.proofs.Common.{◌≡◌, ◌≢◌, ◌⊎◌, inl, inr, refl, sym, ap, ◌∙◌, arith, List, [], ◌∷◌, ◌++◌, ℕ, zero, suc, ◌+◌, ◌<◌, ◌≤◌, Bool, true, false, cond, length, map, filter, take, drop, set, get_or, append_assoc}
use Rattle.std.proofs.lemmas.Bool.{cases_eq, cases_lt}
use Rattle.std.proofs.lemmas.List.{drop_more, drop_all, append-nil, length-set, get_or-set_same, get_or-set_other}
use Rattle.kin_motion.specs.declared.fact.Placed.{Placed}
use Rattle.kin_wedge.specs.Parts.{in_part, is_of_part, told_to}

-- one fact more is told, or left out
pub picked_more : (f : Placed → Placed) (test : Placed → Bool) (xs picked next whole : List Placed) (i : ℕ) (d : Placed) → i < length xs → picked ++ map f (filter test (drop i xs)) ≡ whole
    → next ≡ cond (test (get_or xs i d)) (picked ++ f (get_or xs i d) ∷ []) picked → next ++ map f (filter test (drop (i + 1) xs)) ≡ whole
picked_more f test xs picked next whole i d l e n = at (test (get_or xs i d)) refl
  where
    tail : List Placed
    tail = map f (filter test (drop (i + 1) xs))

    before : picked ++ map f (cond (test (get_or xs i d)) (get_or xs i d ∷ filter test (drop (i + 1) xs)) (filter test (drop (i + 1) xs))) ≡ whole
    before = sym (ap (λ (v : List Placed). picked ++ map f (filter test v)) (drop_more xs i d l)) ∙ e

    at : (b : Bool) → test (get_or xs i d) ≡ b → next ++ map f (filter test (drop (i + 1) xs)) ≡ whole
    at true t =
        ap (λ (v : List Placed). v ++ map f (filter test (drop (i + 1) xs))) (n ∙ ap (λ (b : Bool). cond b (picked ++ f (get_or xs i d) ∷ []) picked) t)
        ∙ append_assoc {A = Placed} picked (f (get_or xs i d) ∷ []) (map f (filter test (drop (i + 1) xs)))
        ∙ sym (ap (λ (b : Bool). picked ++ map f (cond b (get_or xs i d ∷ filter test (drop (i + 1) xs)) (filter test (drop (i + 1) xs)))) t) ∙ before
    at false t =
        ap (λ (v : List Placed). v ++ map f (filter test (drop (i + 1) xs))) (n ∙ ap (λ (b : Bool). cond b (picked ++ f (get_or xs i d) ∷ []) picked) t)
        ∙ sym (ap (λ (b : Bool). picked ++ map f (cond b (get_or xs i d ∷ filter test (drop (i + 1) xs)) (filter test (drop (i + 1) xs)))) t) ∙ before

pub picked_all : (f : Placed → Placed) (test : Placed → Bool) (xs picked whole : List Placed) (i : ℕ) → length xs ≤ i → picked ++ map f (filter test (drop i xs)) ≡ whole → picked ≡ whole
picked_all f test xs picked whole i l e = sym (ap (λ (v : List Placed). picked ++ map f (filter test v)) (drop_all i xs l) ∙ append-nil picked) ∙ e

-- the boxes up to a place and those from the end on are empty
pub record AreEmptied (first now : List (List Placed)) (end i : ℕ) : Type 0 where
  pub count : length now ≡ length first
  pub empty : (part : ℕ) → part < i → told_to now part ≡ []
  pub behind : (part : ℕ) → end ≤ part → told_to now part ≡ []

pub emptied_more : (first now : List (List Placed)) (end i : ℕ) (facts : List Placed) → i < end → i < length now → AreEmptied first now end i → facts ≡ [] → AreEmptied first (set now i facts) end (i + 1)
emptied_more first now end i facts h l a e = record {
  count = length-set now i facts ∙ a.count;
  empty = λ part k. at part (cases_eq part i) k;
  behind = λ part k. get_or-set_other now i part facts [] (λ s. omega (arith, s, h, k)) ∙ a.behind part k;
}
  where
    at : (part : ℕ) → (part ≡ i) ⊎ (part ≢ i) → part < i + 1 → told_to (set now i facts) part ≡ []
    at part (inl s) k = ap (told_to (set now i facts)) s ∙ get_or-set_same now i facts [] l ∙ e
    at part (inr n) k = get_or-set_other now i part facts [] n ∙ a.empty part (omega (arith, k, n))

pub emptied_all : (first now : List (List Placed)) (end i part : ℕ) → end ≤ i → AreEmptied first now end i → told_to now part ≡ []
emptied_all first now end i part l a = at (cases_lt part i)
  where
    at : (part < i) ⊎ (i ≤ part) → told_to now part ≡ []
    at (inl h) = a.empty part h
    at (inr h) = a.behind part (omega (arith, l, h))

-- so many of the facts are sorted out among as many boxes
pub record AreSorted (failed : List Placed) (first now : List (List Placed)) (i : ℕ) : Type 0 where
  pub count : length now ≡ length first
  pub told : (part : ℕ) → part < length first → told_to now part ++ map (in_part 0) (filter (is_of_part part) (drop i failed)) ≡ map (in_part 0) (filter (is_of_part part) failed)

module _ (failed : List Placed) (first : List (List Placed)) where
  pub sorted_none : (now : List (List Placed)) → length now ≡ length first → ((part : ℕ) → told_to now part ≡ []) → AreSorted failed first now 0
  sorted_none now n e = record { count = n; told = λ part h. ap (λ (v : List Placed). v ++ map (in_part 0) (filter (is_of_part part) failed)) (e part) }

  pub sorted_more : (now next : List (List Placed)) (i : ℕ) (d : Placed) → i < length failed → AreSorted failed first now i → length next ≡ length now
      → ((part : ℕ) → part < length now → told_to next part ≡ cond (is_of_part part (get_or failed i d)) (told_to now part ++ in_part 0 (get_or failed i d) ∷ []) (told_to now part)) → AreSorted failed first next (i + 1)
  sorted_more now next i d l a n t = record {
    count = n ∙ a.count;
    told = λ part h. picked_more (in_part 0) (is_of_part part) failed (told_to now part) (told_to next part) (map (in_part 0) (filter (is_of_part part) failed)) i d l (a.told part h) (t part (let c = a.count in omega (arith, h, c)));
  }

  pub sorted_all : (now : List (List Placed)) (i part : ℕ) → length failed ≤ i → AreSorted failed first now i → part < length first → told_to now part ≡ map (in_part 0) (filter (is_of_part part) failed)
  sorted_all now i part l a h = picked_all (in_part 0) (is_of_part part) failed (told_to now part) (map (in_part 0) (filter (is_of_part part) failed)) i l (a.told part h)

-- one fact more is moved
pub moved_here : (f : Placed → Placed) (xs : List Placed) (k : ℕ) (d : Placed) → k < length xs → take (suc k) (set xs k (f (get_or xs k d))) ++ map f (drop (suc k) (set xs k (f (get_or xs k d)))) ≡ take k xs ++ map f (drop k xs)
moved_here f [] k d l = absurd (omega (arith, l))
moved_here f (x ∷ xs) zero d l = refl
moved_here f (x ∷ xs) (suc k) d l = ap (λ (v : List Placed). x ∷ v) (moved_here f xs k d (omega (arith, l)))
