-- A sketch that is drawn, put in order and filled in is the merge of both chains.
use Rattle.std.proofs.Common.{◌≡◌, refl, sym, ap, ◌∙◌, subst, arith, List, [], ◌∷◌, ◌++◌, ℕ, suc, ◌+◌, ◌-◌, ◌*◌, ◌<◌, ◌≤◌, Bool, true, false, cond, length, get_or, map, Some}
use Rattle.std.specs.Prelude.{flat_map}
use Rattle.std.proofs.lemmas.List.{length-map, length-append}
use Rattle.kin_motion.specs.Numbers.{is_in, IsIn, IsOnce, IsChain}
use Rattle.kin_motion.specs.Scene.{Scene}
use Rattle.kin_motion.specs.Merges.{Half.{A, B}, Half, Breakpoint, is_of, last_of, other_current, current_after, IsInterleaving}
use Rattle.kin_motion.proofs.Members.{in_head, in_tail}
use Rattle.kin_chain.specs.Merging.{is_in_place}
use Rattle.kin_overlay.specs.declared.draft.Draft.{Draft}
use Rattle.kin_overlay.specs.Fingers.{AreLive, AreLess, AreNoted, IsMerged, end_at, right_end}
use Rattle.kin_overlay.specs.Lists.{front, behind}
use Rattle.kin_overlay.specs.Remembered.{Remembered, place_of, breakpoints, turn_fact, slope_facts, end_facts, facts_of}
use Rattle.kin_overlay.specs.Sketches.{spot_of, half_at, spots, of_half, is_told, is_gap, gaps, missing_turns}
use Rattle.kin_overlay.specs.Resorting.{is_in_row, HaveSameHalves, AreSeated, unseated}
use Rattle.kin_overlay.specs.Filling.{lefts}
use Rattle.kin_overlay.proofs.SketchLaws.{own-spots}
use Rattle.kin_overlay.proofs.FillLaws.{lefts-once}

-- ---- ends
pub first_live : (live xs : List ℕ) → 0 < length xs → AreLive live xs → IsIn (get_or xs 0 0) live
first_live live [] l k = absurd (omega arith)
first_live live (x ∷ xs) l k = k x (in_head x xs)

pub first_is : (xs : List ℕ) → get_or xs 0 0 ≡ front xs
first_is [] = refl
first_is (x ∷ xs) = refl

pub last_is : (xs : List ℕ) → 0 < length xs → get_or xs (length xs - 1) 0 ≡ last_of (front xs) (behind xs)
last_is [] l = absurd (omega arith)
last_is (x ∷ []) l = refl
last_is (x ∷ y ∷ ys) l = ap (λ (n : ℕ). get_or (x ∷ y ∷ ys) n 0) places ∙ last_is (y ∷ ys) (omega arith)
  where
    places : length (x ∷ y ∷ ys) - 1 ≡ suc (length (y ∷ ys) - 1)
    places = omega arith

pub last_live : (live xs : List ℕ) → 0 < length xs → AreLive live xs → IsIn (get_or xs (length xs - 1) 0) live
last_live live xs l k = subst (λ (n : ℕ). IsIn n live) (sym (last_is xs l)) (k (last_of (front xs) (behind xs)) (within xs l))
  where
    within : (ys : List ℕ) → 0 < length ys → is_in (last_of (front ys) (behind ys)) ys ≡ true
    within [] l = absurd (omega arith)
    within (x ∷ []) l = in_head x []
    within (x ∷ y ∷ ys) l = in_tail (last_of y ys) x (y ∷ ys) (within (y ∷ ys) (omega arith))

pub right_is : (s : Scene) (a b : List ℕ) → 0 < length a → 0 < length b → 2 < length a + length b → right_end s (front a) (behind a) (front b) (behind b) ≡ Some (end_at s (last_of (front a) (behind a)) (last_of (front b) (behind b)))
right_is s [] b l m n = absurd (omega arith)
right_is s (x ∷ xs) [] l m n = absurd (omega arith)
right_is s (x ∷ []) (y ∷ []) l m n = absurd (omega arith)
right_is s (x ∷ []) (y ∷ z ∷ zs) l m n = refl
right_is s (x ∷ w ∷ ws) (y ∷ ys) l m n = refl

-- ---- the list
row_places : (s : Scene) (ds : List Draft) → IsChain (is_in_row s) ds → IsChain (is_in_place s) (spots ds)
row_places s [] c = tt
row_places s (d ∷ []) c = tt
row_places s (d ∷ e ∷ es) c = (c.0, row_places s (e ∷ es) c.1)

pub interleaved : (a b : List ℕ) (p r : List Draft) → IsInterleaving a b (spots p) → HaveSameHalves p r → IsInterleaving a b (spots r)
interleaved a b p r i same = record {
  of_a = own-spots A r ∙ ap spots (same A) ∙ sym (own-spots A p) ∙ i.of_a;
  of_b = own-spots B r ∙ ap spots (same B) ∙ sym (own-spots B p) ∙ i.of_b;
}

pub once_left : (a b : List ℕ) (p r : List Draft) → IsInterleaving a b (spots p) → HaveSameHalves p r → IsOnce a → IsOnce b → AreLess a b → IsOnce (lefts (spots r))
once_left a b p r i same oa ob less = let k = interleaved a b p r i same in lefts-once (spots r) a b k.of_a k.of_b oa ob less

pub merged_so : (s : Scene) (a b : List ℕ) (p r : List Draft) (m : Remembered) → IsInterleaving a b (spots p) → HaveSameHalves p r → IsChain (is_in_row s) r → breakpoints m.records ≡ spots r → AreNoted s (front a) (front b) m.records
    → m.left ≡ Some (end_at s (front a) (front b)) → m.right ≡ right_end s (front a) (behind a) (front b) (behind b) → IsMerged s a b m
merged_so s a b p r m i same row places noted left right = record {
  interleaved = subst (λ (l : List Breakpoint). IsInterleaving a b l) (sym places) (interleaved a b p r i same);
  in_place = subst (IsChain (is_in_place s)) (sym places) (row_places s r row);
  noted = noted;
  left = left;
  right = right;
}

-- ---- how many signs at most
-- nothing has a seat
abbrev pub no_seat : Draft → ℕ → Bool
no_seat d n = false

pub none_seated : (f ds : List Draft) → AreSeated no_seat f ds
none_seated f [] = tt
none_seated f (d ∷ ds) = (λ n e. absurd cc, none_seated (f ++ d ∷ []) ds)

all_unseated : (f ds : List Draft) → unseated no_seat f ds ≡ length ds
all_unseated f [] = refl
all_unseated f (d ∷ ds) = let e = all_unseated (f ++ d ∷ []) ds in omega (arith, e)

one_or_none : (b : Bool) → cond {A = ℕ} b 1 0 ≤ 1
one_or_none true = omega arith
one_or_none false = omega arith

none_or_one : (b : Bool) → cond {A = ℕ} b 0 1 ≤ 1
none_or_one true = omega arith
none_or_one false = omega arith

gaps_few : (ds : List Draft) → gaps ds ≤ length ds
gaps_few [] = omega arith
gaps_few (d ∷ []) = omega arith
gaps_few (d ∷ e ∷ es) = let k = gaps_few (e ∷ es) in let l = one_or_none (is_gap d e) in omega (arith, k, l)

missing_few : (a b : ℕ) (ds : List Draft) → missing_turns a b ds ≤ length ds
missing_few a b [] = omega arith
missing_few a b (d ∷ ds) =
    let k = missing_few (current_after A (spot_of d) a) (current_after B (spot_of d) b) ds in
    let l = none_or_one (is_told d (other_current (half_at d) a b)) in omega (arith, k, l)

both_halves : (ds : List Draft) → length (of_half A ds) + length (of_half B ds) ≡ length ds
both_halves [] = refl
both_halves (d ∷ ds) = at (half_at d) refl (both_halves ds)
  where
    at : (h : Half) → half_at d ≡ h → length (of_half A ds) + length (of_half B ds) ≡ length ds → length (of_half A (d ∷ ds)) + length (of_half B (d ∷ ds)) ≡ length (d ∷ ds)
    at A e k =
        let p : length (of_half A (d ∷ ds)) ≡ length (of_half A ds) + 1 = ap (λ (h : Half). length (cond (is_of A h) (d ∷ of_half A ds) (of_half A ds))) e ∙ omega arith in
        let q : length (of_half B (d ∷ ds)) ≡ length (of_half B ds) = ap (λ (h : Half). length (cond (is_of B h) (d ∷ of_half B ds) (of_half B ds))) e in
        omega (arith, p, q, k)
    at B e k =
        let p : length (of_half A (d ∷ ds)) ≡ length (of_half A ds) = ap (λ (h : Half). length (cond (is_of A h) (d ∷ of_half A ds) (of_half A ds))) e in
        let q : length (of_half B (d ∷ ds)) ≡ length (of_half B ds) + 1 = ap (λ (h : Half). length (cond (is_of B h) (d ∷ of_half B ds) (of_half B ds))) e ∙ omega arith in
        omega (arith, p, q, k)

same_length : (p r : List Draft) → HaveSameHalves p r → length r ≡ length p
same_length p r same = let a = ap length (same A) in let b = ap length (same B) in omega (arith, a, b, both_halves p, both_halves r)

pub few : (a b : ℕ) (p r : List Draft) (m : Remembered) (s0 s1 s2 s3 s4 : ℕ) → HaveSameHalves p r → breakpoints m.records ≡ spots r → s1 ≤ s0 + gaps p + 2 * unseated no_seat [] r → s2 ≡ s1 + (missing_turns a b r + gaps r)
    → s3 ≤ s2 + length (end_facts m.left) → s4 ≤ s3 + length (end_facts m.right) → s4 ≤ s0 + 5 * length (facts_of m)
few a b p r m s0 s1 s2 s3 s4 same places c1 c2 c3 c4 =
    let n = sym (length-map m.records place_of) ∙ ap length places ∙ length-map r spot_of in
    let u = all_unseated [] r in
    let g = gaps_few p in
    let h = gaps_few r in
    let k = missing_few a b r in
    let l = same_length p r same in
    let t = length-map m.records turn_fact in
    let f1 = length-append (map turn_fact m.records ++ flat_map slope_facts m.records ++ end_facts m.left) (end_facts m.right) in
    let f2 = length-append (map turn_fact m.records ++ flat_map slope_facts m.records) (end_facts m.left) in
    let f3 = length-append (map turn_fact m.records) (flat_map slope_facts m.records) in
    omega (arith, n, u, g, h, k, l, t, f1, f2, f3, c1, c2, c3, c4)
