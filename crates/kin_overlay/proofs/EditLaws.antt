-- Edits that are carried out from left to right.
use Rattle.std.proofs.Common.{◌≡◌, refl, sym, ap, ap₂, ◌∙◌, arith, List, [], ◌∷◌, ◌++◌, ℕ, zero, suc, ◌+◌, ◌<◌, ◌≤◌, ◌≢◌, true, false, Some, length, take, drop}
use Rattle.std.specs.Prelude.{slice_get}
use Rattle.kin_motion.specs.Numbers.{is_in}
use Rattle.std.proofs.lemmas.List.{append_assoc, length-append, take-append-drop}
use Rattle.std.proofs.lemmas.Option.{same_Some}
use Rattle.std.proofs.Math.Seq.{take-append_seam, drop-append-add}
use Rattle.kin_motion.specs.Edits.{Edit, edited, all_edited, AreFitting}

all_edited-push : (es : List Edit) (e : Edit) (xs : List ℕ) → all_edited (es ++ e ∷ []) xs ≡ edited e (all_edited es xs)
all_edited-push [] e xs = refl
all_edited-push (d ∷ es) e xs = all_edited-push es e (edited d xs)

fitting-push : (es : List Edit) (e : Edit) (xs : List ℕ) → AreFitting es xs → e.place + e.drop ≤ length (all_edited es xs) → AreFitting (es ++ e ∷ []) xs
fitting-push [] e xs fit here = (here, tt)
fitting-push (d ∷ es) e xs fit here = (fit.0, fitting-push es e (edited d xs) fit.1 here)

-- what stands at the front of both lists is the same
pub same-front : (xs ys : List ℕ) (n : ℕ) → n ≤ length xs → n ≤ length ys → ((k : ℕ) → k < n → slice_get xs k ≡ slice_get ys k) → take n xs ≡ take n ys
same-front xs ys zero p q same = refl
same-front [] ys (suc n) p q same = absurd (omega arith)
same-front (x ∷ xs) [] (suc n) p q same = absurd (omega arith)
same-front (x ∷ xs) (y ∷ ys) (suc n) p q same = ap₂ (λ (z : ℕ) (l : List ℕ). z ∷ l) (same_Some x y (same zero (omega arith))) (same-front xs ys n (omega arith) (omega arith) (λ k l. same (suc k) (omega arith)))

-- numbers go to the front
pub more-front : (front old rest : List ℕ) (n : ℕ) → rest ≡ drop n old → front ++ old ≡ (front ++ take n old) ++ rest
more-front front old rest n q = ap (λ (l : List ℕ). front ++ l) (sym (take-append-drop n old) ∙ ap (λ (l : List ℕ). take n old ++ l) (sym q)) ∙ sym (append_assoc front (take n old) rest)

module _ (es : List Edit) (old front rest put : List ℕ) (place gone : ℕ) (counted : length front ≡ place) (led : all_edited es old ≡ front ++ rest) where
  abbrev stretch : Edit
  stretch = record { place = place; drop = gone; put = put }

  -- one more stretch
  pub led-more : (tail : List ℕ) → tail ≡ drop gone rest → all_edited (es ++ stretch ∷ []) old ≡ (front ++ put) ++ tail
  led-more tail q =
      let kept : take place (front ++ rest) ≡ front = ap (λ n. take n (front ++ rest)) (sym counted) ∙ take-append_seam front rest in
      let left : drop (place + gone) (front ++ rest) ≡ drop gone rest = ap (λ n. drop (n + gone) (front ++ rest)) (sym counted) ∙ drop-append-add front rest gone in
      all_edited-push es stretch old ∙ ap (edited stretch) led ∙ ap₂ (λ (f t : List ℕ). (f ++ put) ++ t) kept (left ∙ sym q)

  pub fitting-more : AreFitting es old → gone ≤ length rest → AreFitting (es ++ stretch ∷ []) old
  fitting-more fit few = fitting-push es stretch old fit (let e : length (all_edited es old) ≡ length front + length rest = ap length led ∙ length-append front rest in omega (arith, e, counted, few))

-- where the lists don't begin alike, something is dropped or put
pub something-goes : (old new rest : List ℕ) (gone put : ℕ) → 0 < length old + length new
    → ((x y : ℕ) (xs ys : List ℕ) → old ≡ x ∷ xs → new ≡ y ∷ ys → x ≢ y)
    → ((x : ℕ) → slice_get old gone ≡ Some x → is_in x new ≡ true)
    → rest ≡ drop gone old
    → (rest ≡ [] → put ≡ length new)
    → ((x y : ℕ) (xs : List ℕ) → rest ≡ x ∷ xs → slice_get new put ≡ Some y → x ≡ y)
    → 0 < gone + put
something-goes old new rest (suc g) put some differ next q all at = omega arith
something-goes old new rest zero (suc p) some differ next q all at = omega arith
something-goes [] new rest zero zero some differ next q all at = let e = all q in omega (arith, e, some)
something-goes (x ∷ xs) [] rest zero zero some differ next q all at = absurd (let e : false ≡ true = next x refl in cc)
something-goes (x ∷ xs) (y ∷ ys) rest zero zero some differ next q all at = absurd (differ x y xs ys refl refl (at x y xs q refl))
