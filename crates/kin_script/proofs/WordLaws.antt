-- The first word of a line, and the words behind it.
use Rattle.std.proofs.Common.{◌≡◌, ℕ, suc, ◌+◌, ◌-◌, ◌<◌, Bool, true, false, cond, not, List, [], ◌∷◌, length, get_or, take, drop, drop-cons, add-one, Some, None, refl, sym, ap, subst, ◌∙◌, arith}
use Rattle.std.proofs.lemmas.Bool.Decides.{nat_tests}
use Rattle.std.proofs.lemmas.List.{length-take, take_rest}
use Rattle.std.proofs.lemmas.List.Sums.{passes_at_first}
use Rattle.std.proofs.lemmas.List.Splits.{slice_split_first}
use Rattle.std.specs.Prelude.{filter, ◌==◌}
use Rattle.std.specs.List.{slice_split, position, position_or_len}
use Rattle.kin_script.proofs.LineLaws.{place_found, one_piece}
use Rattle.kin_script.specs.Lines.{is_blank, pieces_of}

abbrev is_some_word : List ℕ → Bool
is_some_word w = not (length w == 0)

kept : (w : List ℕ) (ws : List (List ℕ)) → 0 < length w → filter is_some_word (w ∷ ws) ≡ w ∷ filter is_some_word ws
kept [] ws h = absurd (omega arith)
kept (b ∷ bs) ws h = at (suc (length bs) == 0) (grind (arith, nat_tests))
  where
    at : (t : Bool) → t ≡ false → cond (not t) ((b ∷ bs) ∷ filter is_some_word ws) (filter is_some_word ws) ≡ (b ∷ bs) ∷ filter is_some_word ws
    at t e = rw e refl

pub behind_blank : (b : ℕ) (bs : List ℕ) → is_blank b ≡ true → pieces_of (b ∷ bs) ≡ pieces_of bs
unfolding pieces_of
behind_blank b bs h = rw h refl

pub passes_blank : (bs : List ℕ) (i : ℕ) → i < length bs → is_blank (get_or bs i 0) ≡ true → pieces_of (drop i bs) ≡ pieces_of (drop (i + 1) bs)
passes_blank bs i lt h = rw (add-one, drop-cons bs i 0) (behind_blank (get_or bs i 0) (drop (suc i) bs) h)

pub none_of_nothing : (bs : List ℕ) → length bs ≡ 0 → pieces_of bs ≡ []
unfolding pieces_of
none_of_nothing [] h = refl
none_of_nothing (b ∷ bs) h = absurd (omega arith)

-- a word isn't empty
place_behind : (bs : List ℕ) → 0 < length bs → is_blank (get_or bs 0 0) ≡ false → 0 < position_or_len is_blank bs
place_behind [] h k = absurd (omega arith)
place_behind (b ∷ bs) h k = rw k (omega arith)

front_piece : (bs : List ℕ) (at : ℕ) → position_or_len is_blank bs ≡ at → position_or_len is_blank bs < length bs → 0 < length (take at bs) → pieces_of bs ≡ take at bs ∷ pieces_of (drop (at + 1) bs)
unfolding pieces_of
front_piece bs at e lt some =
    let pieces : slice_split is_blank bs ≡ take at bs ∷ slice_split is_blank (drop (at + 1) bs) = rw (← e) (slice_split_first is_blank bs 0 lt) in
    ap (filter is_some_word) pieces ∙ kept (take at bs) (slice_split is_blank (drop (at + 1) bs)) some

pub first_piece : (bs : List ℕ) (at : ℕ) → position is_blank bs ≡ Some at → 0 < length bs → is_blank (get_or bs 0 0) ≡ false
    → pieces_of bs ≡ take at bs ∷ pieces_of (take (length bs - at) (drop at bs))
first_piece bs at e some word =
    let f = place_found is_blank bs at e in
    let behind = place_behind bs some word in
    let nonempty : 0 < length (take at bs) = omega (arith, f.0, f.1, behind, length-take at bs) in
    let inside : position_or_len is_blank bs < length bs = omega (arith, f.0, f.1) in
    let blank : is_blank (get_or bs at 0) ≡ true = subst (λ (i : ℕ). is_blank (get_or bs i 0) ≡ true) f.0 (passes_at_first is_blank bs 0 inside) in
    let rest : pieces_of (take (length bs - at) (drop at bs)) ≡ pieces_of (drop (at + 1) bs) = ap pieces_of (take_rest bs at) ∙ passes_blank bs at f.1 blank in
    front_piece bs at f.0 inside nonempty ∙ ap (λ (t : List (List ℕ)). take at bs ∷ t) (sym rest)

pub only_piece : (bs : List ℕ) → position is_blank bs ≡ None → 0 < length bs → pieces_of bs ≡ bs ∷ pieces_of []
unfolding pieces_of
only_piece bs e some = ap (filter is_some_word) (one_piece is_blank bs e) ∙ kept bs [] some
