-- Marked slots and the nodes above them.
use Rattle.std.proofs.Common.{◌≡◌, ◌≢◌, ◌⊎◌, inl, inr, refl, sym, ap, ◌∙◌, subst, arith, List, [], ◌∷◌, ℕ, zero, suc, ◌+◌, ◌/◌, ◌^◌, ◌<◌, ◌≤◌, length, Bool, true, false, ◌&&◌, cond, nat_eq, nat_lt, set}
use Rattle.std.proofs.lemmas.Bool.Decides.{nat_tests}
use Rattle.std.proofs.lemmas.List.{get_or-set_same, get_or-set_other, get_or_past}
use Rattle.std.proofs.lemmas.List.Sums.{sum_by-set, sum_by-le}
use Rattle.std.proofs.lemmas.List.Elements.{All-from_get_or}
use Rattle.std.proofs.lemmas.Bool.{or_cases, cases_eq, and_parts}
use Rattle.kin_motion.specs.Tournaments.{comes_to, is_under}
use Rattle.kin_motion.proofs.NodeLaws.{not_above}
use Rattle.kin_tourney.specs.declared.doubt.Doubt.{Doubt}
use Rattle.kin_tourney.specs.declared.doubt.Doubt.TheVariants.{Clear, Here}
use Rattle.kin_tourney.specs.Tournament.{mark_in, mark_count, is_above_mark, is_above_mark_from}
use Rattle.kin_tourney.specs.Standings.{IsClosed, doubt_in, doubt_count}
use Rattle.kin_tourney.proofs.Doubts.{weight, doubt_cases, here_is_doubt, count_lowered, count_top}

-- above a node in doubt, all are
up_doubt : (ds : List Doubt) → IsClosed ds → (h u v : ℕ) → 0 < v → doubt_in ds u ≢ Clear → comes_to h u v ≡ true → doubt_in ds v ≢ Clear
up_doubt ds closed zero u v some n e = let same : u ≡ v = grind (arith, nat_tests, e) in subst (λ w. doubt_in ds w ≢ Clear) same n
up_doubt ds closed (suc h) u v some n e = at (or_cases (nat_eq u v) (comes_to h (u / 2) v) e) (up_doubt ds closed h (u / 2) v some)
  where
    at : (nat_eq u v ≡ true) ⊎ (comes_to h (u / 2) v ≡ true) → (doubt_in ds (u / 2) ≢ Clear → comes_to h (u / 2) v ≡ true → doubt_in ds v ≢ Clear) → doubt_in ds v ≢ Clear
    at (inl f) rest = let same : u ≡ v = grind (arith, nat_tests, f) in subst (λ w. doubt_in ds w ≢ Clear) same n
    at (inr f) rest = let low = not_above h (u / 2) v f in rest (λ g. n (closed.below u (omega arith) g)) f

-- above a leaf whose node above is in doubt, all inner nodes are
pub leaf_doubt : (ds : List Doubt) → IsClosed ds → (size v i : ℕ) → 0 < v → v < 2 ^ size → doubt_in ds ((2 ^ size + i) / 2) ≢ Clear → is_under size v i ≡ true → doubt_in ds v ≢ Clear
leaf_doubt ds closed zero v i some inner n e = absurd (let p : 2 ^ 0 ≡ 1 = refl in omega arith)
leaf_doubt ds closed (suc h) v i some inner n e = at (or_cases (nat_eq (2 ^ suc h + i) v) (comes_to h ((2 ^ suc h + i) / 2) v) e)
  where
    at : (nat_eq (2 ^ suc h + i) v ≡ true) ⊎ (comes_to h ((2 ^ suc h + i) / 2) v ≡ true) → doubt_in ds v ≢ Clear
    at (inl f) = let same : 2 ^ suc h + i ≡ v = grind (arith, nat_tests, f) in absurd (omega arith)
    at (inr f) = up_doubt ds closed h ((2 ^ suc h + i) / 2) v some n f

-- a node above a mark has a marked slot under it
mark_under_from : (size v i : ℕ) (marked : List Bool) → is_above_mark_from size v i marked ≡ true → (k : ℕ) × (mark_in marked k ≡ true) × (is_under size v (i + k) ≡ true)
mark_under_from size v i [] e = absurd cc
mark_under_from size v i (m ∷ ms) e = at (or_cases (m && is_under size v i) (is_above_mark_from size v (i + 1) ms) e) (mark_under_from size v (i + 1) ms)
  where
    next : (k : ℕ) × (mark_in ms k ≡ true) × (is_under size v (i + 1 + k) ≡ true) → (k : ℕ) × (mark_in (m ∷ ms) k ≡ true) × (is_under size v (i + k) ≡ true)
    next (k, a, b) = let same : i + 1 + k ≡ i + suc k = omega arith in (suc k, a, subst (λ j. is_under size v j ≡ true) same b)

    at : (m && is_under size v i ≡ true) ⊎ (is_above_mark_from size v (i + 1) ms ≡ true) → (is_above_mark_from size v (i + 1) ms ≡ true → (k : ℕ) × (mark_in ms k ≡ true) × (is_under size v (i + 1 + k) ≡ true)) → (k : ℕ) × (mark_in (m ∷ ms) k ≡ true) × (is_under size v (i + k) ≡ true)
    at (inl f) rest = let b = and_parts m (is_under size v i) f in let same : i ≡ i + 0 = omega arith in (0, b.0, subst (λ j. is_under size v j ≡ true) same b.1)
    at (inr f) rest = next (rest f)

pub mark_under : (size v : ℕ) (marked : List Bool) → is_above_mark size marked v ≡ true → (k : ℕ) × (mark_in marked k ≡ true) × (is_under size v k ≡ true)
mark_under size v marked e = at (mark_under_from size v 0 marked e)
  where
    at : (k : ℕ) × (mark_in marked k ≡ true) × (is_under size v (0 + k) ≡ true) → (k : ℕ) × (mark_in marked k ≡ true) × (is_under size v k ≡ true)
    at (k, a, b) = let same : 0 + k ≡ k = omega arith in (k, a, subst (λ j. is_under size v j ≡ true) same b)

abbrev one_if : Bool → ℕ
one_if m = cond m 1 0

mark_set : (marked : List Bool) (i : ℕ) → i < length marked → mark_count (set marked i true) + one_if (mark_in marked i) ≡ mark_count marked + one_if true
mark_set marked i inside = sum_by-set one_if marked i true false inside

pub mark_more : (marked : List Bool) (i : ℕ) → i < length marked → mark_in marked i ≡ false → mark_count (set marked i true) ≡ mark_count marked + 1
mark_more marked i inside e = let k = mark_set marked i inside in let old : one_if (mark_in marked i) ≡ 0 = ap one_if e in let new : one_if true ≡ 1 = refl in omega arith

pub mark_again : (marked : List Bool) (i : ℕ) → i < length marked → mark_in marked i ≡ true → mark_count (set marked i true) ≡ mark_count marked
mark_again marked i inside e = let k = mark_set marked i inside in let old : one_if (mark_in marked i) ≡ 1 = ap one_if e in let new : one_if true ≡ 1 = refl in omega arith

-- where only node 0 is in doubt, it alone counts
pub count_of_top : (ds : List Doubt) → IsClosed ds → ((v : ℕ) → 0 < v → doubt_in ds v ≡ Clear) → doubt_count ds ≡ 1
count_of_top ds closed clear =
    let none : doubt_count (set ds 0 Clear) ≤ 0 = let k = sum_by-le weight 0 (set ds 0 Clear) (All-from_get_or (λ d. weight d ≤ 0) (set ds 0 Clear) Clear (λ i inside. let e : weight (doubt_in (set ds 0 Clear) i) ≡ 0 = ap weight (at i (cases_eq i 0)) in omega arith)) in omega arith in
    let k = count_lowered ds 0 some (λ e. here_is_doubt (sym closed.top ∙ e)) in
    omega arith
  where
    some : 0 < length ds
    some = known (nat_eq (length ds) 0) refl
      where
        known : (t : Bool) → nat_eq (length ds) 0 ≡ t → 0 < length ds
        known true e =
            let none : length ds ≤ 0 = grind (arith, nat_tests, e) in
            absurd (let k : Clear ≡ Here = sym (get_or_past ds 0 Clear none) ∙ closed.top in cc)
        known false e = grind (arith, nat_tests, e)

    at : (i : ℕ) → (i ≡ 0) ⊎ (i ≢ 0) → doubt_in (set ds 0 Clear) i ≡ Clear
    at i (inl e) = ap (doubt_in (set ds 0 Clear)) e ∙ get_or-set_same ds 0 Clear Clear some
    at i (inr n) = get_or-set_other ds 0 i Clear Clear n ∙ clear i (omega arith)

-- where little is in doubt, node 0 is alone
pub clear_but_top : (ds : List Doubt) → IsClosed ds → doubt_count ds ≤ 1 → (v : ℕ) → 0 < v → doubt_in ds v ≡ Clear
clear_but_top ds closed few v some = at (doubt_cases (doubt_in ds v))
  where
    at : (doubt_in ds v ≡ Clear) ⊎ (doubt_in ds v ≢ Clear) → doubt_in ds v ≡ Clear
    at (inl e) = e
    at (inr n) = known (nat_lt v (length ds)) refl
      where
        known : (t : Bool) → nat_lt v (length ds) ≡ t → doubt_in ds v ≡ Clear
        known true e =
            let inside : v < length ds = grind (arith, nat_tests, e) in
            let k = count_lowered ds v inside n in
            let top = count_top (set ds v Clear) (get_or-set_other ds v 0 Clear Clear (omega arith) ∙ closed.top) in
            absurd (omega arith)
        known false e = get_or_past ds v Clear (grind (arith, nat_tests, e))
