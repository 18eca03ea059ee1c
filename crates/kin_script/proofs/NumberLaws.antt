-- Digits, one after the other.
use Rattle.std.proofs.Common.{◌≡◌, ℕ, ◌+◌, ◌-◌, ◌*◌, ◌<◌, ◌≤◌, Bool, true, false, cond, nat_le, List, [], ◌∷◌, Some, None, length, drop, get_or, suc, drop-cons, add-one, refl, arith}
use Rattle.std.proofs.lemmas.Bool.Decides.{nat_tests}
use Rattle.std.proofs.lemmas.List.{drop_all}
use Rattle.kin_script.specs.Lines.{Word}
use Rattle.kin_script.specs.Numbers.{is_digit, digits_after, up_to, numeral_of}

next_digit : (n d : ℕ) (ds : List ℕ) → is_digit d ≡ true → digits_after n (d ∷ ds) ≡ digits_after (10 * n + (d - 48)) ds
unfolding digits_after
next_digit n d ds h = rw h refl

no_digit : (n d : ℕ) (ds : List ℕ) → is_digit d ≡ false → digits_after n (d ∷ ds) ≡ None
unfolding digits_after
no_digit n d ds h = rw h refl

-- more digits make it no smaller
pub too_large : (most n : ℕ) (ds : List ℕ) → most < n → up_to most (digits_after n ds) ≡ None
unfolding digits_after
too_large most n [] h = above (nat_le n most) (grind (arith, nat_tests))
  where
    above : (b : Bool) → b ≡ false → cond b (Some n) None ≡ None
    above b e = rw e refl
too_large most n (d ∷ ds) h = at (is_digit d) (too_large most (10 * n + (d - 48)) ds (omega arith))
  where
    at : (b : Bool) → up_to most (digits_after (10 * n + (d - 48)) ds) ≡ None → up_to most (cond b (digits_after (10 * n + (d - 48)) ds) None) ≡ None
    at true e = e
    at false e = refl

pub within : (most n : ℕ) → n ≤ most → up_to most (Some n) ≡ Some n
within most n h = at (nat_le n most) (grind (arith, nat_tests))
  where
    at : (b : Bool) → b ≡ true → cond b (Some n) None ≡ Some n
    at b e = rw e refl

pub at_end : (most n i : ℕ) (ds : List ℕ) → length ds ≤ i → n ≤ most → up_to most (digits_after n (drop i ds)) ≡ Some n
unfolding digits_after
at_end most n i ds le h = rw (drop_all i ds le) (within most n h)

pub at_digit : (n i : ℕ) (ds : List ℕ) → i < length ds → is_digit (get_or ds i 0) ≡ true → digits_after n (drop i ds) ≡ digits_after (10 * n + (get_or ds i 0 - 48)) (drop (i + 1) ds)
at_digit n i ds lt h = rw (add-one, drop-cons ds i 0) (next_digit n (get_or ds i 0) (drop (suc i) ds) h)

pub at_other : (n i : ℕ) (ds : List ℕ) → i < length ds → is_digit (get_or ds i 0) ≡ false → digits_after n (drop i ds) ≡ None
at_other n i ds lt h = rw (drop-cons ds i 0) (no_digit n (get_or ds i 0) _ h)

pub starts : (most : ℕ) (w : Word) → 0 < length w → up_to most (digits_after 0 w) ≡ up_to most (numeral_of w)
unfolding numeral_of
starts most [] h = absurd (omega arith)
starts most (d ∷ ds) h = refl

pub no_numeral : (w : Word) → length w ≡ 0 → numeral_of w ≡ None
unfolding numeral_of
no_numeral [] h = refl
no_numeral (d ∷ ds) h = absurd (omega arith)
