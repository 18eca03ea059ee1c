-- The live numbers, one after another.
use Rattle.std.proofs.Common.{◌≡◌, ◌<◌, ◌≤◌, refl, sym, ap, ◌∙◌, List, [], ◌∷◌, ◌++◌, ℕ, ◌+◌, length, drop, add-one, append_assoc}
use Rattle.std.specs.Prelude.{Option, Some, None}
use Rattle.std.proofs.lemmas.List.{append-nil, drop_all}
use Rattle.std.proofs.Math.Seq.{drop-cons}
use Rattle.kin_motion.specs.Course.{Course, motion_of}
use Rattle.kin_motion.specs.Numbers.{filled_from}

one_by_one : (i : ℕ) (c : Option Course) (cs : List (Option Course)) → filled_from i (c ∷ cs) ≡ filled_from i (c ∷ []) ++ filled_from (i + 1) cs
one_by_one i (Some c) cs = refl
one_by_one i None cs = refl

-- one more number is put, if it is live
pub filled_more : (ms : List (Option Course)) (i : ℕ) (xs ys all : List ℕ) → i < length ms → ys ≡ xs ++ filled_from i (motion_of ms i ∷ []) → xs ++ filled_from i (drop i ms) ≡ all
    → ys ++ filled_from (i + 1) (drop (i + 1) ms) ≡ all
filled_more ms i xs ys all low put whole =
    let here : drop i ms ≡ motion_of ms i ∷ drop (i + 1) ms = rw (add-one, drop-cons ms i None) in
    let rest = filled_from (i + 1) (drop (i + 1) ms) in
    ap (λ (l : List ℕ). l ++ rest) put ∙ append_assoc xs (filled_from i (motion_of ms i ∷ [])) rest ∙ ap (λ (l : List ℕ). xs ++ l) (sym (one_by_one i (motion_of ms i) (drop (i + 1) ms)))
    ∙ ap (λ (l : List (Option Course)). xs ++ filled_from i l) (sym here) ∙ whole

-- all are put
pub filled_all : (ms : List (Option Course)) (i : ℕ) (xs all : List ℕ) → length ms ≤ i → xs ++ filled_from i (drop i ms) ≡ all → xs ≡ all
filled_all ms i xs all high whole = sym (append-nil xs) ∙ ap (λ (l : List (Option Course)). xs ++ filled_from i l) (sym (drop_all i ms high)) ∙ whole
