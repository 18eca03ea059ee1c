-- The first line of the bytes.
use Rattle.std.proofs.Common.{◌≡◌, ℕ, ◌+◌, ◌-◌, ◌<◌, ◌≤◌, Bool, true, false, cond, nat_lt, List, [], ◌∷◌, length, take, drop, Some, None, refl, sym, ap, ◌∙◌, arith}
use Rattle.std.proofs.lemmas.Option.{cond_some}
use Rattle.std.proofs.lemmas.Bool.{ltb-true, ltb-false}
use Rattle.std.proofs.lemmas.List.Splits.{slice_split_first, length-slice_split}
use Rattle.std.specs.List.{slice_split, onto_first, position, position_or_len}
use Rattle.std.proofs.lemmas.List.{take_rest}
use Rattle.kin_script.specs.Lines.{is_line_feed, without_empty_end, lines_of}

module _ {X : Type 0} (p : X → Bool) where
  pub place_found : (xs : List X) (at : ℕ) → position p xs ≡ Some at → (position_or_len p xs ≡ at) × (at < length xs)
  place_found xs at e =
      let t = cond_some (nat_lt (position_or_len p xs) (length xs)) (position_or_len p xs) at e in
      let lt : position_or_len p xs < length xs = ltb-true _ _ t.0 in
      (t.1, omega (arith, t.1))

  none_at : (b : Bool) (n : ℕ) → cond b (Some n) None ≡ None → b ≡ false
  none_at true n e = absurd cc
  none_at false n e = refl

  uncut_more : (x : X) (xs : List X) (b : Bool) → p x ≡ b → (length xs ≤ position_or_len p xs → slice_split p xs ≡ xs ∷ []) → length (x ∷ xs) ≤ position_or_len p (x ∷ xs) → slice_split p (x ∷ xs) ≡ (x ∷ xs) ∷ []
  uncut_more x xs true h rest le = let k = rw h at le in absurd (omega arith)
  uncut_more x xs false h rest le =
      let k = rw h at le in
      let fewer : length xs ≤ position_or_len p xs = omega arith in
      rw h (ap (onto_first x) (rest fewer))

  uncut : (xs : List X) → length xs ≤ position_or_len p xs → slice_split p xs ≡ xs ∷ []
  uncut [] le = refl
  uncut (x ∷ xs) le = uncut_more x xs (p x) refl (uncut xs) le

  pub one_piece : (xs : List X) → position p xs ≡ None → slice_split p xs ≡ xs ∷ []
  one_piece xs e = uncut xs (ltb-false _ _ (none_at (nat_lt (position_or_len p xs) (length xs)) (position_or_len p xs) e))

more_lines : (x : List ℕ) (ps : List (List ℕ)) → 0 < length ps → without_empty_end (x ∷ ps) ≡ x ∷ without_empty_end ps
more_lines x [] h = absurd (omega arith)
more_lines [] (p ∷ ps) h = refl
more_lines (b ∷ bs) (p ∷ ps) h = refl

pub no_lines : lines_of [] ≡ []
unfolding lines_of
no_lines = refl

-- a line that ends in a line feed
pub lines_of-cut : (bs : List ℕ) (at : ℕ) → position is_line_feed bs ≡ Some at → lines_of bs ≡ take at bs ∷ lines_of (take (length bs - (at + 1)) (drop (at + 1) bs))
unfolding lines_of
lines_of-cut bs at e =
    let f = place_found is_line_feed bs at e in
    let lt : position_or_len is_line_feed bs < length bs = omega (arith, f.0, f.1) in
    let pieces : slice_split is_line_feed bs ≡ take at bs ∷ slice_split is_line_feed (drop (at + 1) bs) = rw (← f.0) (slice_split_first is_line_feed bs 0 lt) in
    ap without_empty_end pieces
    ∙ more_lines (take at bs) (slice_split is_line_feed (drop (at + 1) bs)) (omega (arith, length-slice_split is_line_feed (drop (at + 1) bs)))
    ∙ ap (λ (t : List ℕ). take at bs ∷ without_empty_end (slice_split is_line_feed t)) (sym (take_rest bs (at + 1)))

-- a last line without one
pub lines_of-whole : (bs : List ℕ) → 0 < length bs → position is_line_feed bs ≡ None → lines_of bs ≡ bs ∷ lines_of []
unfolding lines_of
lines_of-whole [] h e = absurd (omega arith)
lines_of-whole (b ∷ bs) h e = ap without_empty_end (one_piece is_line_feed (b ∷ bs) e)

pub lines_of-empty : (bs : List ℕ) → length bs ≡ 0 → lines_of bs ≡ []
unfolding lines_of
lines_of-empty [] h = refl
lines_of-empty (b ∷ bs) h = absurd (omega arith)
