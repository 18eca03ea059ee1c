-- A list sorted by rank is in the journal's order.
use Rattle.std.proofs.Common.{◌≡◌, ◌≢◌, ℕ, suc, ◌+◌, ◌<◌, Bool, true, false, ◌&&◌, ◌||◌, ℤ, pos, ◌<ℤ◌, int_lt, int_le, List, [], ◌∷◌, ◌++◌, length, get_or, IsTrue, Ordering, Less, Equal, Greater, refl, sym, ap, ap₂, subst, ◌∙◌, arith}
use Rattle.std.proofs.lemmas.Int.{ints}
use Rattle.std.specs.List.{AllPairs}
use Rattle.std.specs.List.Sorted.{IsSortedByKey}
use Rattle.std.specs.Ordering.{int_cmp, ordering_then, ordering_reverse, is_lt}
use Rattle.std.specs.Cmp.Lexicographic.{slice_cmp}
use Rattle.std.proofs.lemmas.Cmp.{int_cmp_total, lists_total, int_ranked, tied_itself}
use Rattle.kin_motion.specs.declared.form.Form.{Form}
use Rattle.kin_motion.specs.declared.form.Form.TheVariants.{Line, Turn, Slope, Dist}
use Rattle.kin_motion.specs.Journal.{is_less_rank, form_rank}
use Rattle.kin_motion.specs.Numbers.{IsChain}
use Rattle.kin_motion.proofs.JournalLaws.{by_first, by_rest}
use Rattle.kin_fail.specs.declared.owned.Owned.{Owned}
use Rattle.kin_fail.specs.Rank.{padded_rank, padding, owned_rank}
use Rattle.kin_cert.specs.Taken.{is_taken_before}

is_less : (x y : ℤ) → x <ℤ y → (b : Bool) → int_lt x y ≡ b → b ≡ true
is_less x y h true e = refl
is_less x y h false e = absurd (omega (arith, ints, h, e))

is_most : (x : ℤ) (b : Bool) → int_le x x ≡ b → b ≡ true
is_most x true e = refl
is_most x false e = absurd (omega (arith, ints, e))

-- one place of two lists
step : (x y : ℤ) (o : Ordering) (r : Bool) → ordering_then (int_cmp x y) o ≡ Less → (o ≡ Less → r ≡ true) → int_lt x y || (int_le x y && r) ≡ true
step x y o r h rest =
    elim (int_cmp x y) as (λ c. int_cmp x y ≡ c → ordering_then c o ≡ Less → int_lt x y || (int_le x y && r) ≡ true) [
      | Less ↦ λ e h. let lt : x <ℤ y = int_ranked x y Less (sym e) in by_first (int_lt x y) (int_le x y) r (is_less x y lt (int_lt x y) refl)
      | Equal ↦ λ e h. let same : x ≡ y = int_ranked x y Equal (sym e) in by_rest (int_lt x y) (int_le x y) r (subst (λ (z : ℤ). int_le x z ≡ true) same (is_most x (int_le x x) refl)) (rest h)
      | Greater ↦ λ e h. absurd (cc)
    ] refl h

-- lists of one length, with one list behind both
equal_length : (xs ys zs : List ℤ) → length xs ≡ length ys → slice_cmp int_cmp (xs ++ zs) (ys ++ zs) ≡ Less → is_less_rank xs ys ≡ true
equal_length [] [] zs e h = let same : slice_cmp int_cmp zs zs ≡ Equal = tied_itself (lists_total int_cmp_total) zs in absurd (cc)
equal_length [] (y ∷ ys) zs e h = absurd (omega (arith, e))
equal_length (x ∷ xs) [] zs e h = absurd (omega (arith, e))
equal_length (x ∷ xs) (y ∷ ys) zs e h = step x y (slice_cmp int_cmp (xs ++ zs) (ys ++ zs)) (is_less_rank xs ys) h (equal_length xs ys zs (omega (arith, e)))

-- lists whose third places differ
third_differs : (s s' p p' a b : ℤ) (xs ys zs ws : List ℤ) → int_cmp a b ≢ Equal → slice_cmp int_cmp (s ∷ p ∷ a ∷ xs) (s' ∷ p' ∷ b ∷ ys) ≡ Less → is_less_rank (s ∷ p ∷ a ∷ zs) (s' ∷ p' ∷ b ∷ ws) ≡ true
third_differs s s' p p' a b xs ys zs ws n h =
    step s s' (ordering_then (int_cmp p p') (ordering_then (int_cmp a b) (slice_cmp int_cmp xs ys))) (is_less_rank (p ∷ a ∷ zs) (p' ∷ b ∷ ws)) h (λ h1.
    step p p' (ordering_then (int_cmp a b) (slice_cmp int_cmp xs ys)) (is_less_rank (a ∷ zs) (b ∷ ws)) h1 (λ h2.
    elim (int_cmp a b) as (λ c. int_cmp a b ≡ c → ordering_then c (slice_cmp int_cmp xs ys) ≡ Less → is_less_rank (a ∷ zs) (b ∷ ws) ≡ true) [
      | Less ↦ λ e h3. let lt : a <ℤ b = int_ranked a b Less (sym e) in by_first (int_lt a b) (int_le a b) (is_less_rank zs ws) (is_less a b lt (int_lt a b) refl)
      | Equal ↦ λ e h3. absurd (n e)
      | Greater ↦ λ e h3. absurd (cc)
    ] refl h2))

pub listed : (s p : ℕ) (f : Form) (s' p' : ℕ) (f' : Form) → slice_cmp int_cmp (padded_rank s p f) (padded_rank s' p' f') ≡ Less → is_less_rank (pos s ∷ pos p ∷ form_rank f) (pos s' ∷ pos p' ∷ form_rank f') ≡ true
listed s p (Line dx dy off i j) s' p' (Line dx' dy' off' i' j') h = equal_length (pos s ∷ pos p ∷ form_rank (Line dx dy off i j)) (pos s' ∷ pos p' ∷ form_rank (Line dx' dy' off' i' j')) (padding (Line dx dy off i j)) refl h
listed s p (Line dx dy off i j) s' p' (Turn i' j' k') h = third_differs (pos s) (pos s') (pos p) (pos p') (pos 0) (pos 1) (dx ∷ dy ∷ off ∷ pos i ∷ pos j ∷ []) (pos i' ∷ pos j' ∷ pos k' ∷ pos 0 ∷ pos 0 ∷ []) (dx ∷ dy ∷ off ∷ pos i ∷ pos j ∷ []) (pos i' ∷ pos j' ∷ pos k' ∷ []) (λ e. absurd cc) h
listed s p (Line dx dy off i j) s' p' (Slope i' j' k' l') h = third_differs (pos s) (pos s') (pos p) (pos p') (pos 0) (pos 2) (dx ∷ dy ∷ off ∷ pos i ∷ pos j ∷ []) (pos i' ∷ pos j' ∷ pos k' ∷ pos l' ∷ pos 0 ∷ []) (dx ∷ dy ∷ off ∷ pos i ∷ pos j ∷ []) (pos i' ∷ pos j' ∷ pos k' ∷ pos l' ∷ []) (λ e. absurd cc) h
listed s p (Line dx dy off i j) s' p' (Dist i' j' k' l') h = third_differs (pos s) (pos s') (pos p) (pos p') (pos 0) (pos 3) (dx ∷ dy ∷ off ∷ pos i ∷ pos j ∷ []) (pos i' ∷ pos j' ∷ pos k' ∷ pos l' ∷ pos 0 ∷ []) (dx ∷ dy ∷ off ∷ pos i ∷ pos j ∷ []) (pos i' ∷ pos j' ∷ pos k' ∷ pos l' ∷ []) (λ e. absurd cc) h
listed s p (Turn i j k) s' p' (Line dx' dy' off' i' j') h = third_differs (pos s) (pos s') (pos p) (pos p') (pos 1) (pos 0) (pos i ∷ pos j ∷ pos k ∷ pos 0 ∷ pos 0 ∷ []) (dx' ∷ dy' ∷ off' ∷ pos i' ∷ pos j' ∷ []) (pos i ∷ pos j ∷ pos k ∷ []) (dx' ∷ dy' ∷ off' ∷ pos i' ∷ pos j' ∷ []) (λ e. absurd cc) h
listed s p (Turn i j k) s' p' (Turn i' j' k') h = equal_length (pos s ∷ pos p ∷ form_rank (Turn i j k)) (pos s' ∷ pos p' ∷ form_rank (Turn i' j' k')) (padding (Turn i j k)) refl h
listed s p (Turn i j k) s' p' (Slope i' j' k' l') h = third_differs (pos s) (pos s') (pos p) (pos p') (pos 1) (pos 2) (pos i ∷ pos j ∷ pos k ∷ pos 0 ∷ pos 0 ∷ []) (pos i' ∷ pos j' ∷ pos k' ∷ pos l' ∷ pos 0 ∷ []) (pos i ∷ pos j ∷ pos k ∷ []) (pos i' ∷ pos j' ∷ pos k' ∷ pos l' ∷ []) (λ e. absurd cc) h
listed s p (Turn i j k) s' p' (Dist i' j' k' l') h = third_differs (pos s) (pos s') (pos p) (pos p') (pos 1) (pos 3) (pos i ∷ pos j ∷ pos k ∷ pos 0 ∷ pos 0 ∷ []) (pos i' ∷ pos j' ∷ pos k' ∷ pos l' ∷ pos 0 ∷ []) (pos i ∷ pos j ∷ pos k ∷ []) (pos i' ∷ pos j' ∷ pos k' ∷ pos l' ∷ []) (λ e. absurd cc) h
listed s p (Slope i j k l) s' p' (Line dx' dy' off' i' j') h = third_differs (pos s) (pos s') (pos p) (pos p') (pos 2) (pos 0) (pos i ∷ pos j ∷ pos k ∷ pos l ∷ pos 0 ∷ []) (dx' ∷ dy' ∷ off' ∷ pos i' ∷ pos j' ∷ []) (pos i ∷ pos j ∷ pos k ∷ pos l ∷ []) (dx' ∷ dy' ∷ off' ∷ pos i' ∷ pos j' ∷ []) (λ e. absurd cc) h
listed s p (Slope i j k l) s' p' (Turn i' j' k') h = third_differs (pos s) (pos s') (pos p) (pos p') (pos 2) (pos 1) (pos i ∷ pos j ∷ pos k ∷ pos l ∷ pos 0 ∷ []) (pos i' ∷ pos j' ∷ pos k' ∷ pos 0 ∷ pos 0 ∷ []) (pos i ∷ pos j ∷ pos k ∷ pos l ∷ []) (pos i' ∷ pos j' ∷ pos k' ∷ []) (λ e. absurd cc) h
listed s p (Slope i j k l) s' p' (Slope i' j' k' l') h = equal_length (pos s ∷ pos p ∷ form_rank (Slope i j k l)) (pos s' ∷ pos p' ∷ form_rank (Slope i' j' k' l')) (padding (Slope i j k l)) refl h
listed s p (Slope i j k l) s' p' (Dist i' j' k' l') h = third_differs (pos s) (pos s') (pos p) (pos p') (pos 2) (pos 3) (pos i ∷ pos j ∷ pos k ∷ pos l ∷ pos 0 ∷ []) (pos i' ∷ pos j' ∷ pos k' ∷ pos l' ∷ pos 0 ∷ []) (pos i ∷ pos j ∷ pos k ∷ pos l ∷ []) (pos i' ∷ pos j' ∷ pos k' ∷ pos l' ∷ []) (λ e. absurd cc) h
listed s p (Dist i j k l) s' p' (Line dx' dy' off' i' j') h = third_differs (pos s) (pos s') (pos p) (pos p') (pos 3) (pos 0) (pos i ∷ pos j ∷ pos k ∷ pos l ∷ pos 0 ∷ []) (dx' ∷ dy' ∷ off' ∷ pos i' ∷ pos j' ∷ []) (pos i ∷ pos j ∷ pos k ∷ pos l ∷ []) (dx' ∷ dy' ∷ off' ∷ pos i' ∷ pos j' ∷ []) (λ e. absurd cc) h
listed s p (Dist i j k l) s' p' (Turn i' j' k') h = third_differs (pos s) (pos s') (pos p) (pos p') (pos 3) (pos 1) (pos i ∷ pos j ∷ pos k ∷ pos l ∷ pos 0 ∷ []) (pos i' ∷ pos j' ∷ pos k' ∷ pos 0 ∷ pos 0 ∷ []) (pos i ∷ pos j ∷ pos k ∷ pos l ∷ []) (pos i' ∷ pos j' ∷ pos k' ∷ []) (λ e. absurd cc) h
listed s p (Dist i j k l) s' p' (Slope i' j' k' l') h = third_differs (pos s) (pos s') (pos p) (pos p') (pos 3) (pos 2) (pos i ∷ pos j ∷ pos k ∷ pos l ∷ pos 0 ∷ []) (pos i' ∷ pos j' ∷ pos k' ∷ pos l' ∷ pos 0 ∷ []) (pos i ∷ pos j ∷ pos k ∷ pos l ∷ []) (pos i' ∷ pos j' ∷ pos k' ∷ pos l' ∷ []) (λ e. absurd cc) h
listed s p (Dist i j k l) s' p' (Dist i' j' k' l') h = equal_length (pos s ∷ pos p ∷ form_rank (Dist i j k l)) (pos s' ∷ pos p' ∷ form_rank (Dist i' j' k' l')) (padding (Dist i j k l)) refl h

less_of : (r : Ordering) → is_lt (ordering_reverse r) ≡ false → r ≢ Equal → r ≡ Less
less_of Less e n = refl
less_of Equal e n = absurd (n refl)
less_of Greater e n = absurd cc

pub equal_ranks : (xs ys : List ℤ) → slice_cmp int_cmp xs ys ≡ Equal → xs ≡ ys
equal_ranks [] [] e = refl
equal_ranks [] (y ∷ ys) e = absurd cc
equal_ranks (x ∷ xs) [] e = absurd cc
equal_ranks (x ∷ xs) (y ∷ ys) e =
    elim (int_cmp x y) as (λ c. int_cmp x y ≡ c → ordering_then c (slice_cmp int_cmp xs ys) ≡ Equal → x ∷ xs ≡ y ∷ ys) [
      | Less ↦ λ c h. absurd cc
      | Equal ↦ λ c h. let same : x ≡ y = int_ranked x y Equal (sym c) in ap₂ (λ (z : ℤ) (zs : List ℤ). z ∷ zs) same (equal_ranks xs ys h)
      | Greater ↦ λ c h. absurd cc
    ] refl e

listed_pair : (o p : Owned) → is_lt (slice_cmp int_cmp (owned_rank p) (owned_rank o)) ≡ false → owned_rank o ≢ owned_rank p → IsTrue (is_taken_before o p)
listed_pair o p sorted apart =
    listed o.structure o.part o.fact.form p.structure p.part p.fact.form
    (less_of (slice_cmp int_cmp (owned_rank o) (owned_rank p)) (ap is_lt (sym ((lists_total int_cmp_total).antisymm (owned_rank p) (owned_rank o))) ∙ sorted) (λ e. apart (equal_ranks (owned_rank o) (owned_rank p) e)))

pub sorted-chain : (xs : List Owned) → IsSortedByKey owned_rank (slice_cmp int_cmp) xs → AllPairs (λ o p. owned_rank o ≢ owned_rank p) xs → IsChain is_taken_before xs
sorted-chain [] s a = tt
sorted-chain (x ∷ []) s a = tt
sorted-chain (x ∷ y ∷ xs) s a = (
  listed_pair x y (s 0 x (omega arith) (omega arith)) (a 0 1 x (omega arith) (omega arith)),
  sorted-chain (y ∷ xs) (λ k d le lt. s' k d lt) (λ i j d lt within. a (suc i) (suc j) d (omega (arith, lt)) (omega (arith, within))),
)
  where
    s' : (k : ℕ) (d : Owned) → k + 1 < length (y ∷ xs) → is_lt (slice_cmp int_cmp (owned_rank (get_or (y ∷ xs) (k + 1) d)) (owned_rank (get_or (y ∷ xs) k d))) ≡ false
    s' k d lt =
        let e : suc k + 1 ≡ suc (k + 1) = omega arith in
        subst (λ (n : ℕ). is_lt (slice_cmp int_cmp (owned_rank (get_or (x ∷ y ∷ xs) n d)) (owned_rank (get_or (y ∷ xs) k d))) ≡ false) e (s (suc k) d (omega arith) (omega (arith, lt)))
