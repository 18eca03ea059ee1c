-- Edits that are carried out in turn.
use Rattle.std.proofs.Common.{◌≡◌, sym, ap, ap₂, ◌∙◌, subst, arith, List, [], ◌∷◌, ◌++◌, ℕ, suc, ◌+◌, ◌<◌, length, get_or, take, drop, append_assoc}
use Rattle.std.proofs.lemmas.List.{drop_more, append-nil}
use Rattle.kin_motion.specs.Edits.{Edit, edited, dropped_by_one, all_edited, dropped_by, AreFitting}

-- the edit whose turn it is, and those that are left
module _ (es : List Edit) (k : ℕ) (e : Edit) (at : e ≡ get_or es k e) (more : k < length es) (xs : List ℕ) where
  next : drop k es ≡ e ∷ drop (k + 1) es
  next = drop_more es k e more ∙ ap (λ (x : Edit). x ∷ drop (k + 1) es) (sym at)

  pub fits_next : AreFitting (drop k es) xs → AreFitting (e ∷ drop (k + 1) es) xs
  fits_next h = subst (λ (l : List Edit). AreFitting l xs) next h

  pub led_next : all_edited (drop (k + 1) es) (edited e xs) ≡ all_edited (drop k es) xs
  led_next = ap (λ (l : List Edit). all_edited l xs) (sym next)

  pub noted_next : (gone : List ℕ) → (gone ++ dropped_by_one e xs) ++ dropped_by (drop (k + 1) es) (edited e xs) ≡ gone ++ dropped_by (drop k es) xs
  noted_next gone = append_assoc gone (dropped_by_one e xs) (dropped_by (drop (k + 1) es) (edited e xs)) ∙ ap (λ (l : List Edit). gone ++ dropped_by l xs) (sym next)

-- one number is taken out
pub taken-out : (e : Edit) (xs : List ℕ) → e.put ≡ [] → e.drop ≡ 1 → take e.place xs ++ drop (suc e.place) xs ≡ edited e xs
taken-out e xs none one =
    let behind : suc e.place ≡ e.place + e.drop = omega (arith, one) in
    let nothing : [] ≡ e.put = sym none in
    let front = take e.place xs in
    ap (λ (l : List ℕ). l ++ drop (suc e.place) xs) (sym (append-nil front)) ∙ ap₂ (λ (ps : List ℕ) (n : ℕ). (front ++ ps) ++ drop n xs) nothing behind
