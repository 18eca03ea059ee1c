-- The sweep under way.
use Rattle.std.proofs.Common.{◌≡◌, ◌⊎◌, inl, inr, refl, sym, ap, ap₂, ◌∙◌, subst, arith, List, [], ◌∷◌, ◌++◌, append_assoc, ℕ, zero, suc, ◌+◌, ◌*◌, ◌<◌, ◌≤◌, Bool, true, false, cond, not, ◌||◌, ◌&&◌, nat_eq, nat_lt, map, filter, drop, length, get_or, Some}
use Rattle.std.specs.Prelude.{slice_get}
use Rattle.std.proofs.lemmas.Bool.{both_ways, or_cases, eqb-true, ne_eqb}
use Rattle.std.proofs.lemmas.Bool.Decides.{nat_tests}
use Rattle.std.proofs.lemmas.List.{drop_more, drop_all, append-nil}
use Rattle.kin_motion.specs.Numbers.{is_in, IsOnce}
use Rattle.kin_motion.specs.Records.{stands_before}
use Rattle.kin_motion.proofs.Members.{is_in-push}
use Rattle.std.proofs.lemmas.Option.{same_Some}
use Rattle.kin_sorted.specs.declared.ends.Ends.{Ends}
use Rattle.kin_sorted.specs.declared.ends.End.{End}
use Rattle.kin_sorted.specs.declared.ends.Side.{Side}
use Rattle.kin_sorted.specs.declared.ends.Side.TheVariants.{Low, High}
use Rattle.kin_sorted.specs.EndSlots.{end_slot, kind_of}
use Rattle.kin_sorted.specs.Marks.{without}
use Rattle.kin_sorted.proofs.EndLaws.{end_point}
use Rattle.kin_sorted.proofs.MarkLaws.{in-without}
use Rattle.kin_sorted.specs.Sorting.{Sorting, unmarked}
use Rattle.kin_motion.proofs.RankedOrders.{absent_first, absent_last}
use Rattle.kin_sorted.proofs.RowLaws.{is_in_from_get}
use Rattle.kin_boxes.specs.Boxing.{AreJoined}
use Rattle.kin_motion.specs.BoxFacts.{low_end, high_end, kind, point}
use Rattle.kin_boxes.specs.Sweeps.{pair_of, met, meets, HasBox, HasBoxes}
use Rattle.kin_boxes.proofs.Marking.{none_marked}
use Rattle.kin_boxes.proofs.Sweeping.{swept, before_first}

never_and : (b : Bool) → (b && false) || false ≡ false
never_and true = refl
never_and false = refl

get_there : (xs : List ℕ) (i d : ℕ) → i < length xs → slice_get xs i ≡ Some (get_or xs i d)
get_there [] i d l = absurd (omega (arith, l))
get_there (x ∷ xs) zero d l = refl
get_there (x ∷ xs) (suc i) d l = get_there xs i d (omega (arith, l))

pub item_there : (xs : List ℕ) (i d : ℕ) → i < length xs → is_in (get_or xs i d) xs ≡ true
item_there xs i d l = is_in_from_get xs i (get_or xs i d) (get_there xs i d l)

only_first : (b c : Bool) → b ≡ false → b ≡ b && c
only_first true c e = absurd cc
only_first false c e = refl

pub kept_others : (who : ℕ) (xs : List ℕ) → filter (λ x. not (nat_eq x who)) xs ≡ without who xs
kept_others who [] = refl
kept_others who (x ∷ xs) = at (nat_eq x who) (nat_eq who x) (let e : nat_eq x who ≡ nat_eq who x = grind (arith, nat_tests) in e) (kept_others who xs)
  where
    at : (a b : Bool) → a ≡ b → filter (λ y. not (nat_eq y who)) xs ≡ without who xs → cond (not a) (x ∷ filter (λ y. not (nat_eq y who)) xs) (filter (λ y. not (nat_eq y who)) xs) ≡ cond b
        (without who xs) (x ∷ without who xs)
    at true true e rest = rest
    at true false e rest = absurd cc
    at false true e rest = absurd cc
    at false false e rest = ap (λ ys. x ∷ ys) rest

-- ---- one open box more
module _ (meet : ℕ → ℕ → Bool) (who : ℕ) (open' : List ℕ) (pairs whole : List (ℕ × ℕ)) (i d : ℕ) (l : i < length open') (e : pairs ++ met meet who (drop i open') ≡ whole) where
  next : pairs ++ map (pair_of who) (cond (meet who (get_or open' i d)) (get_or open' i d ∷ filter (meet who) (drop (i + 1) open')) (filter (meet who) (drop (i + 1) open'))) ≡ whole
  next = sym (ap (λ js. pairs ++ met meet who js) (drop_more open' i d l)) ∙ e

  pub met_one : meet who (get_or open' i d) ≡ true → (pairs ++ pair_of who (get_or open' i d) ∷ []) ++ met meet who (drop (i + 1) open') ≡ whole
  met_one h =
      append_assoc {A = ℕ × ℕ} pairs (pair_of who (get_or open' i d) ∷ []) (met meet who (drop (i + 1) open'))
      ∙ sym (ap (λ b. pairs ++ map (pair_of who) (cond b (get_or open' i d ∷ filter (meet who) (drop (i + 1) open')) (filter (meet who) (drop (i + 1) open')))) h)
      ∙ next

  pub passed_one : meet who (get_or open' i d) ≡ false → pairs ++ met meet who (drop (i + 1) open') ≡ whole
  passed_one h = sym (ap (λ b. pairs ++ map (pair_of who) (cond b (get_or open' i d ∷ filter (meet who) (drop (i + 1) open')) (filter (meet who) (drop (i + 1) open')))) h) ∙ next

pub met_all : (meet : ℕ → ℕ → Bool) (who : ℕ) (open' : List ℕ) (pairs whole : List (ℕ × ℕ)) (i : ℕ) → length open' ≤ i → pairs ++ met meet who (drop i open') ≡ whole → pairs ≡ whole
met_all meet who open' pairs whole i l e = sym (ap (λ js. pairs ++ met meet who js) (drop_all i open' l) ∙ append-nil pairs) ∙ e

-- ---- one end more
module _ (meet : ℕ → ℕ → Bool) (es open' : List ℕ) (pairs whole : List (ℕ × ℕ)) (i d : ℕ) (l : i < length es) (e : pairs ++ swept meet open' (drop i es) ≡ whole) where
  end_next : pairs ++ cond (nat_eq (kind (get_or es i d)) 0) (met meet (point (get_or es i d)) open' ++ swept meet (open' ++ point (get_or es i d) ∷ []) (drop (i + 1) es))
      (swept meet (without (point (get_or es i d)) open') (drop (i + 1) es)) ≡ whole
  end_next = sym (ap (λ js. pairs ++ swept meet open' js) (drop_more es i d l)) ∙ e

  pub opened_one : (who : ℕ) (pairs' : List (ℕ × ℕ)) → get_or es i d ≡ low_end who → pairs' ≡ pairs ++ met meet who open' → pairs' ++ swept meet (open' ++ who ∷ []) (drop (i + 1) es) ≡ whole
  opened_one who pairs' f g =
      let k : nat_eq (kind (get_or es i d)) 0 ≡ true = grind (arith, nat_tests, f) in
      let p : point (get_or es i d) ≡ who = omega (arith, f) in
      ap (λ ps. ps ++ swept meet (open' ++ who ∷ []) (drop (i + 1) es)) g
      ∙ append_assoc {A = ℕ × ℕ} pairs (met meet who open') (swept meet (open' ++ who ∷ []) (drop (i + 1) es))
      ∙ ap (λ n. pairs ++ (met meet n open' ++ swept meet (open' ++ n ∷ []) (drop (i + 1) es))) (sym p)
      ∙ sym (ap (λ b. pairs ++ cond b (met meet (point (get_or es i d)) open' ++ swept meet (open' ++ point (get_or es i d) ∷ []) (drop (i + 1) es))
      (swept meet (without (point (get_or es i d)) open') (drop (i + 1) es))) k)
      ∙ end_next

  pub closed_one : (who : ℕ) → get_or es i d ≡ high_end who → pairs ++ swept meet (without who open') (drop (i + 1) es) ≡ whole
  closed_one who f =
      let k : nat_eq (kind (get_or es i d)) 0 ≡ false = grind (arith, nat_tests, f) in
      let p : point (get_or es i d) ≡ who = omega (arith, f) in
      ap (λ n. pairs ++ swept meet (without n open') (drop (i + 1) es)) (sym p)
      ∙ sym (ap (λ b. pairs ++ cond b (met meet (point (get_or es i d)) open' ++ swept meet (open' ++ point (get_or es i d) ∷ []) (drop (i + 1) es))
      (swept meet (without (point (get_or es i d)) open') (drop (i + 1) es))) k)
      ∙ end_next

pub swept_all : (meet : ℕ → ℕ → Bool) (es open' : List ℕ) (pairs whole : List (ℕ × ℕ)) (i : ℕ) → length es ≤ i → pairs ++ swept meet open' (drop i es) ≡ whole → pairs ≡ whole
swept_all meet es open' pairs whole i l e = sym (ap (λ js. pairs ++ swept meet open' js) (drop_all i es l) ∙ append-nil pairs) ∙ e

-- ---- places
-- of two members the one at the earlier place comes before the other
pub compared : (xs : List ℕ) (p q i j : ℕ) → IsOnce xs → slice_get xs p ≡ Some i → slice_get xs q ≡ Some j → nat_lt p q ≡ stands_before xs i j
compared [] p q i j once a b = absurd cc
compared (x ∷ xs) zero zero i j once a b =
    let e : i ≡ x = sym (same_Some x i a) in
    let f : j ≡ x = sym (same_Some x j b) in
    let n : nat_lt 0 0 ≡ false = grind (arith, nat_tests) in
    n ∙ sym (ap₂ (λ m k. stands_before (x ∷ xs) m k) e f ∙ ap₂ (λ u v. (nat_eq x x && u) || v) once.0 (absent_first xs x x once.0) ∙ never_and (nat_eq x x))
compared (x ∷ xs) zero (suc q) i j once a b =
    let e : x ≡ i = same_Some x i a in
    let n : nat_lt 0 (suc q) ≡ true = grind (arith, nat_tests) in
    n ∙ sym (ap (λ m. stands_before (x ∷ xs) m j) (sym e) ∙ before_first x xs j (is_in_from_get xs q j b))
compared (x ∷ xs) (suc p) zero i j once a b =
    let e : x ≡ j = same_Some x j b in
    let n : nat_lt (suc p) 0 ≡ false = grind (arith, nat_tests) in
    n ∙ sym (ap (λ m. stands_before (x ∷ xs) i m) (sym e) ∙ ap₂ (λ u v. (nat_eq x i && u) || v) once.0 (absent_last xs i x once.0) ∙ never_and (nat_eq x i))
compared (x ∷ xs) (suc p) (suc q) i j once a b =
    let n : nat_lt (suc p) (suc q) ≡ nat_lt p q = grind (arith, nat_tests) in
    let other : nat_eq x i ≡ false = ne_eqb x i (λ e. both_ways _ once.0 (ap (λ m. is_in m xs) e ∙ is_in_from_get xs p i a)) in
    n ∙ compared xs p q i j once.1 a b ∙ sym (ap (λ u. (u && is_in j xs) || stands_before xs i j) other)

pub meets_by_places : (xs : List ℕ) (i j p q p' q' : ℕ) → IsOnce xs → slice_get xs p ≡ Some (low_end i) → slice_get xs q ≡ Some (high_end i) → slice_get xs p' ≡ Some (low_end j)
    → slice_get xs q' ≡ Some (high_end j)
    → nat_lt p q' && nat_lt p' q ≡ meets xs i j
meets_by_places xs i j p q p' q' once a b c d = ap₂ (λ u v. u && v) (compared xs p q' (low_end i) (high_end j) once a d) (compared xs p' q (low_end j) (high_end i) once c b)

-- ---- the open boxes are there
pub pushed_there : (k : Sorting Ends) (open' : List ℕ) (who : ℕ) → HasBox k who → ((i : ℕ) → is_in i open' ≡ true → HasBox k i) → (i : ℕ) → is_in i (open' ++ who ∷ []) ≡ true → HasBox k i
pushed_there k open' who here there i h = at (or_cases (nat_eq i who) (is_in i open') (sym (is_in-push i who open') ∙ h))
  where
    at : (nat_eq i who ≡ true) ⊎ (is_in i open' ≡ true) → HasBox k i
    at (inl e) = subst (HasBox k) (sym (eqb-true i who e)) here
    at (inr c) = there i c

pub box_there : (k : Sorting Ends) (es fs : List ℕ) (i d who : ℕ) → fs ≡ es → i < length fs → HasBoxes es k → point (get_or fs i d) ≡ who → HasBox k who
box_there k es fs i d who same l boxes e = subst (HasBox k) e (boxes (get_or fs i d) (subst (λ (xs : List ℕ). is_in (get_or fs i d) xs ≡ true) same (item_there fs i d l)))

-- both lists have the same boxes
pub boxes_there : (x y : Sorting Ends) → AreJoined x y → x.marks ≡ unmarked → HasBoxes x.items y
boxes_there x y known rest e h = record {
  within = let l = known.within e (none_marked x.marks x.items e rest ∙ h) in let c = known.count in omega (arith, l, c);
  low = known.same (low_end (point e)) ∙ known.boxes (low_end (point e)) e (omega arith) ∙ h;
  high = known.same (high_end (point e)) ∙ known.boxes (high_end (point e)) e (omega arith) ∙ h;
}

-- ---- the tests of two places
module _ (xs : List ℕ) (i j p q p' q' : ℕ) (once : IsOnce xs) (a : slice_get xs p ≡ Some (low_end i)) (b : slice_get xs q ≡ Some (high_end i)) (c : slice_get xs p' ≡ Some (low_end j))
    (d : slice_get xs q' ≡ Some (high_end j)) where
  pub meets_then : p < q' → nat_lt p' q ≡ meets xs i j
  meets_then l = ap (λ u. u && nat_lt p' q) (let t : true ≡ nat_lt p q' = sym (let n : nat_lt p q' ≡ true = grind (arith, nat_tests, l) in n) in t) ∙ meets_by_places xs i j p q p' q' once a b c d

  pub meets_else : q' ≤ p → nat_lt p q' ≡ meets xs i j
  meets_else l = (let n : nat_lt p q' ≡ nat_lt p q' && nat_lt p' q = only_first (nat_lt p q') (nat_lt p' q) (grind (arith, nat_tests, l)) in n) ∙ meets_by_places xs i j p q p' q' once a b c d

-- ---- one step of the sweep
low_slot : (e : End) (slot : ℕ) → end_slot e ≡ slot → e.side ≡ Low → slot ≡ low_end e.point
low_slot e slot h side = sym h ∙ ap (λ (k : Side). 2 * e.point + kind_of k) side ∙ omega arith

high_slot : (e : End) (slot : ℕ) → end_slot e ≡ slot → e.side ≡ High → slot ≡ high_end e.point
high_slot e slot h side = sym h ∙ ap (λ (k : Side). 2 * e.point + kind_of k) side

module _ (k : Sorting Ends) (meet : ℕ → ℕ → Bool) (es fs open' : List ℕ) (pairs whole : List (ℕ × ℕ)) (i d : ℕ) (same : fs ≡ es) (l : i < length fs) (boxes : HasBoxes es k) (e : End)
    (slot : end_slot e ≡ get_or fs i d)
    (found : (pairs ++ swept meet open' (drop i es) ≡ whole) × ((j : ℕ) → is_in j open' ≡ true → HasBox k j)) where
  here : i < length es
  here = subst (λ (xs : List ℕ). i < length xs) same l

  slot_here : end_slot e ≡ get_or es i d
  slot_here = slot ∙ ap (λ (xs : List ℕ). get_or xs i d) same

  pub step_low : e.side ≡ Low → (pairs' : List (ℕ × ℕ)) (open'' : List ℕ) → pairs' ≡ pairs ++ met meet e.point open' → open'' ≡ open' ++ e.point ∷ []
      → (pairs' ++ swept meet open'' (drop (i + 1) es) ≡ whole) × ((j : ℕ) → is_in j open'' ≡ true → HasBox k j)
  step_low side pairs' open'' f g = (
    ap (λ os. pairs' ++ swept meet os (drop (i + 1) es)) g ∙ opened_one meet es open' pairs whole i d here found.0 e.point pairs' (low_slot e (get_or es i d) slot_here side) f,
    λ j h. pushed_there k open' e.point (box_there k es fs i d e.point same l boxes (ap point (sym slot) ∙ end_point e)) found.1 j (ap (is_in j) (sym g) ∙ h),
  )

  pub step_high : e.side ≡ High → (open'' : List ℕ) → open'' ≡ without e.point open' → (pairs ++ swept meet open'' (drop (i + 1) es) ≡ whole) × ((j : ℕ) → is_in j open'' ≡ true → HasBox k j)
  step_high side open'' g = (
    ap (λ os. pairs ++ swept meet os (drop (i + 1) es)) g ∙ closed_one meet es open' pairs whole i d here found.0 e.point (high_slot e (get_or es i d) slot_here side),
    λ j h. found.1 j (in-without j e.point open' (ap (is_in j) (sym g) ∙ h)),
  )
