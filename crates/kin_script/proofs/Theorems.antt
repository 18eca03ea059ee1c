-- The laws of the grammar, for the functions of src/laws.rt.
use Rattle.std.proofs.Common.{◌≡◌, inl, inr, ℕ, ◌+◌, List, [], ◌∷◌, ◌++◌, Result, Ok, Err, refl, sym, ap, subst, ◌∙◌, length}
use Rattle.std.specs.Prelude.{◌⊎◌}
use Rattle.kin_script.specs.declared.script.Script.{Script}
use Rattle.kin_script.specs.Lines.{lines_of}
use Rattle.kin_script.specs.Left.{Numbered}
use Rattle.kin_script.specs.Grammar.{script_of, script_of_lines}
use Rattle.kin_script.specs.Written.{worded_lines, IsWritten, IsFirstBad, ScriptsAreWritten, FirstOutsideIsFirst}
use Rattle.kin_script.proofs.WrittenLaws.{is_written, written_is}
use Rattle.kin_script.proofs.FirstBadLaws.{first_outside}

pub scripts_are_written : ScriptsAreWritten
unfolding script_of
scripts_are_written bytes s = (is_written (1 + length (lines_of bytes)) (worded_lines bytes) s, written_is (1 + length (lines_of bytes)) (worded_lines bytes) s)

-- of two places in a list one is the other, or is before it
abbrev Places : List Numbered → Numbered → List Numbered → Numbered → Type 0
Places xs x ys y = (x ≡ y) ⊎ (((more : List Numbered) × (ys ≡ xs ++ x ∷ more)) ⊎ ((more : List Numbered) × (xs ≡ ys ++ y ∷ more)))

behind_one : (z x y : Numbered) (xs ys : List Numbered) → Places xs x ys y → Places (z ∷ xs) x (z ∷ ys) y
behind_one z x y xs ys (inl e) = inl e
behind_one z x y xs ys (inr (inl p)) = inr (inl (p.0, ap (λ (k : List Numbered). z ∷ k) p.1))
behind_one z x y xs ys (inr (inr p)) = inr (inr (p.0, ap (λ (k : List Numbered). z ∷ k) p.1))

places : (xs ys us vs : List Numbered) (x y : Numbered) → xs ++ x ∷ us ≡ ys ++ y ∷ vs → Places xs x ys y
places [] [] us vs x y e = inl (cc)
places [] (w ∷ ys) us vs x y e = inr (inl (ys, (let first : x ≡ w = cc in ap (λ (k : Numbered). k ∷ ys) (sym first))))
places (w ∷ xs) [] us vs x y e = inr (inr (xs, (let first : w ≡ y = cc in ap (λ (k : Numbered). k ∷ xs) first)))
places (w ∷ xs) (v ∷ ys) us vs x y e =
    let first : w ≡ v = cc in
    let rest : xs ++ x ∷ us ≡ ys ++ y ∷ vs = cc in
    subst (λ (k : Numbered). Places (w ∷ xs) x (k ∷ ys) y) first (behind_one w x y xs ys (places xs ys us vs x y rest))

-- lines that write a script begin with no place at which they can't
not_longer : (xs ys more : List Numbered) (x : Numbered) → ((m : List Numbered) (s : Script) → ¬ (IsWritten (xs ++ x ∷ m) s)) → ys ≡ xs ++ x ∷ more
    → (ys ≡ []) ⊎ ((s : Script) × IsWritten ys s) → ⊥
not_longer xs ys more x outside e (inr w) = outside more w.0 (subst (λ (k : List Numbered). IsWritten k w.0) e w.1)
not_longer [] ys more x outside e (inl none) = absurd cc
not_longer (z ∷ xs) ys more x outside e (inl none) = absurd cc

one_first : (ls : List Numbered) (m n : ℕ) → IsFirstBad ls m → IsFirstBad ls n → m ≡ n
one_first ls m n p q = at (places p.before q.before p.behind q.behind p.bad q.bad (sym p.parts ∙ q.parts))
  where
    at : Places p.before p.bad q.before q.bad → m ≡ n
    at (inl same) = sym p.number ∙ ap (λ (l : Numbered). l.0) same ∙ q.number
    at (inr (inl w)) = absurd (not_longer p.before q.before w.0 p.bad p.outside w.1 q.good)
    at (inr (inr w)) = absurd (not_longer q.before p.before w.0 q.bad q.outside w.1 p.good)

-- ---- and back

abbrev outside_at : ℕ → Result Script ℕ
outside_at n = Err n

not_empty : (xs ys : List Numbered) (x : Numbered) → [] ≡ xs ++ x ∷ ys → ⊥
not_empty [] ys x e = absurd cc
not_empty (z ∷ xs) ys x e = absurd cc

first_bad_is : (after n : ℕ) (ls : List Numbered) → IsFirstBad ls n → script_of_lines after ls ≡ Err n
first_bad_is after n ls p = at (script_of_lines after ls) refl
  where
    other : (m : ℕ) → script_of_lines after ls ≡ Err m → ((ls ≡ []) × (m ≡ after)) ⊎ IsFirstBad ls m → script_of_lines after ls ≡ Err n
    other m e (inl none) = absurd (not_empty p.before p.behind p.bad (sym none.0 ∙ p.parts))
    other m e (inr q) = e ∙ ap outside_at (one_first ls m n q p)

    at : (read : Result Script ℕ) → script_of_lines after ls ≡ read → script_of_lines after ls ≡ Err n
    at (Ok s) e = absurd (p.outside p.behind s (subst (λ (k : List Numbered). IsWritten k s) p.parts (is_written after ls s e)))
    at (Err m) e = other m e (first_outside after m ls e)

nothing_written : (after n : ℕ) (ls : List Numbered) → ls ≡ [] → n ≡ after → script_of_lines after ls ≡ Err n
unfolding script_of_lines
nothing_written after n ls none same = rw (none, same) refl

pub first_outside_is_first : FirstOutsideIsFirst
unfolding script_of
first_outside_is_first bytes n = (first_outside (1 + length (lines_of bytes)) n (worded_lines bytes), back)
  where
    back : ((worded_lines bytes ≡ []) × (n ≡ 1 + length (lines_of bytes))) ⊎ IsFirstBad (worded_lines bytes) n → script_of_lines (1 + length (lines_of bytes)) (worded_lines bytes) ≡ Err n
    back (inl w) = nothing_written (1 + length (lines_of bytes)) n (worded_lines bytes) w.0 w.1
    back (inr p) = first_bad_is (1 + length (lines_of bytes)) n (worded_lines bytes) p
