-- A line feed after the last line of a script changes none of its lines.
use Rattle.std.proofs.Common.{◌≡◌, ◌≢◌, refl, ap, ◌∙◌, inl, inr, List, [], ◌∷◌, ◌++◌, ℕ, Bool, true, false, cond, length, arith, codes}
use Rattle.std.specs.List.{onto_first, slice_split}
use Rattle.kin_script.specs.Grammar.{script_of, script_of_lines}
use Rattle.kin_script.specs.Inputs.{IsTextOf}
use Rattle.kin_script.specs.Left.{Left, after, with_words}
use Rattle.kin_script.specs.Lines.{is_line_feed, lines_of, without_empty_end}
use Rattle.kin_script.specs.Text.{Ending}
use Rattle.kin_check.specs.Splits.{IsBeforePiece}

-- ---- there are pieces, and the last one isn't empty
abbrev AreSome : List (List ℕ) → Type 0
AreSome [] = ⊥
AreSome (p ∷ ps) = Unit {0}

abbrev EndsFull : List (List ℕ) → Type 0
EndsFull [] = ⊥
EndsFull (p ∷ []) = p ≢ []
EndsFull (p ∷ q ∷ ps) = EndsFull (q ∷ ps)

onto_some : (b : ℕ) (ps : List (List ℕ)) → AreSome (onto_first b ps)
onto_some b [] = tt
onto_some b (p ∷ ps) = tt

some_more : (feed : Bool) (b : ℕ) (ps : List (List ℕ)) → AreSome (cond feed ([] ∷ ps) (onto_first b ps))
some_more true b ps = tt
some_more false b ps = onto_some b ps

are_some : (bytes : List ℕ) → AreSome (slice_split is_line_feed bytes)
are_some [] = tt
are_some (b ∷ bs) = some_more (is_line_feed b) b (slice_split is_line_feed bs)

-- ---- a further line feed gives an empty piece
onto_longer : (b : ℕ) (ps qs : List (List ℕ)) → AreSome ps → onto_first b (ps ++ qs) ≡ onto_first b ps ++ qs
onto_longer b [] qs some = absurd some
onto_longer b (p ∷ ps) qs some = refl

one_longer : (feed : Bool) (b : ℕ) (ps qs : List (List ℕ)) → AreSome ps → cond feed ([] ∷ (ps ++ qs)) (onto_first b (ps ++ qs)) ≡ cond feed ([] ∷ ps) (onto_first b ps) ++ qs
one_longer true b ps qs some = refl
one_longer false b ps qs some = onto_longer b ps qs some

one_piece_more : (bytes : List ℕ) → slice_split is_line_feed (bytes ++ codes "\n") ≡ slice_split is_line_feed bytes ++ ([] ∷ [])
one_piece_more [] = refl
one_piece_more (b ∷ bs) =
    ap (λ (ps : List (List ℕ)). cond (is_line_feed b) ([] ∷ ps) (onto_first b ps)) (one_piece_more bs)
    ∙ one_longer (is_line_feed b) b (slice_split is_line_feed bs) ([] ∷ []) (are_some bs)

-- ---- which is no line
empty_end : (ps : List (List ℕ)) → EndsFull ps → without_empty_end (ps ++ ([] ∷ [])) ≡ without_empty_end ps
empty_end [] full = absurd full
empty_end ([] ∷ []) full = absurd (full refl)
empty_end ((b ∷ bs) ∷ []) full = refl
empty_end (p ∷ q ∷ ps) full = ap (λ (ls : List (List ℕ)). p ∷ ls) (empty_end (q ∷ ps) full)

-- ---- a last line without its line feed isn't empty
no_list : (b : ℕ) (bs : List ℕ) → (b ∷ bs) ≢ []
no_list b bs e = let count = ap (λ (l : List ℕ). length l) e in absurd (omega (arith, count))

full_later : (p : List ℕ) (ps : List (List ℕ)) → EndsFull ps → EndsFull (p ∷ ps)
full_later p [] full = absurd full
full_later p (q ∷ ps) full = full

full_onto : (b : ℕ) (ps : List (List ℕ)) → EndsFull ps → EndsFull (onto_first b ps)
full_onto b [] full = absurd full
full_onto b (p ∷ []) full = no_list b p
full_onto b (p ∷ q ∷ ps) full = full

full_more : (feed : Bool) (b : ℕ) (ps : List (List ℕ)) → EndsFull ps → EndsFull (cond feed ([] ∷ ps) (onto_first b ps))
full_more true b ps full = full_later [] ps full
full_more false b ps full = full_onto b ps full

full_one : (feed : Bool) (b : ℕ) → is_line_feed b ≡ feed → ¬ (IsBeforePiece (b ∷ [])) → EndsFull (cond feed ([] ∷ ([] ∷ [])) (onto_first b ([] ∷ [])))
full_one true b is loose = absurd (loose (inr ([], ap (λ (c : ℕ). c ∷ []) (feed b is))))
  where
    feed : (c : ℕ) → is_line_feed c ≡ true → c ≡ 10
    feed c e = grind (arith, e)
full_one false b is loose = no_list b []

open_rest : (b c : ℕ) (bs : List ℕ) → ¬ (IsBeforePiece (b ∷ c ∷ bs)) → ¬ (IsBeforePiece (c ∷ bs))
open_rest b c bs loose (inl e) = no_list c bs e
open_rest b c bs loose (inr (more, e)) = loose (inr (b ∷ more, ap (λ (l : List ℕ). b ∷ l) e))

ends_full : (bytes : List ℕ) → ¬ (IsBeforePiece bytes) → EndsFull (slice_split is_line_feed bytes)
ends_full [] loose = absurd (loose (inl refl))
ends_full (b ∷ []) loose = full_one (is_line_feed b) b refl loose
ends_full (b ∷ c ∷ bs) loose = full_more (is_line_feed b) b (slice_split is_line_feed (c ∷ bs)) (ends_full (c ∷ bs) (open_rest b c bs loose))

-- ---- so the script is the same
same_lines : (bytes : List ℕ) → ¬ (IsBeforePiece bytes) → lines_of (bytes ++ codes "\n") ≡ lines_of bytes
unfolding lines_of
same_lines bytes loose = ap without_empty_end (one_piece_more bytes) ∙ empty_end (slice_split is_line_feed bytes) (ends_full bytes loose)

same_script : (bytes : List ℕ) → ¬ (IsBeforePiece bytes) → script_of (bytes ++ codes "\n") ≡ script_of bytes
unfolding script_of
same_script bytes loose = ap (λ (ls : List (List ℕ)). let all : Left = record { number = 1; lines = ls } in script_of_lines (after all) (with_words all)) (same_lines bytes loose)

pub text_of_closed : (input text : List ℕ) (ending : Ending) → ¬ (IsBeforePiece input) → IsTextOf input text ending → IsTextOf (input ++ codes "\n") text ending
text_of_closed input text ending loose is = record { script = is.script; reads = same_script input loose ∙ is.reads; replays = is.replays }
