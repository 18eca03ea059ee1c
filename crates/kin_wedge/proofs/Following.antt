-- A row follows the exchanges of its list.
use Rattle.std.proofs.Common.{◌≡◌, ◌≢◌, refl, sym, ap, ◌∙◌, subst, arith, List, [], ◌∷◌, ℕ, zero, suc, ◌+◌, ◌<◌, ◌≤◌, true, length, drop, get_or, Some, Option, inl, inr, ◌⊎◌}
use Rattle.std.specs.Prelude.{slice_get}
use Rattle.std.proofs.lemmas.List.{drop_more, drop_all}
use Rattle.std.proofs.lemmas.Bool.{both_ways}
use Rattle.std.proofs.lemmas.Option.{same_Some, slice_get_within, slice_get_read}
use Rattle.kin_motion.specs.Numbers.{is_in, IsOnce}
use Rattle.kin_list.specs.Rows.{exchange, exchanged}
use Rattle.kin_list.proofs.ListLaws.{once-exchange}
use Rattle.kin_list.proofs.RowLaws.{is_in-exchange, is_in_from_get}
use Rattle.kin_wedge.specs.declared.touch.Touch.{Touch}
use Rattle.kin_wedge.specs.Rows.{WereExchanged}
use Rattle.kin_wedge.specs.Touched.{HasTouched, HasOfferedBoth}
use Rattle.kin_wedge.proofs.Touching.{touched_none, touched_through, offered_stays}

-- an exchange past the end changes nothing
pub past_end : (p : ℕ) (xs : List ℕ) → length xs ≤ p + 1 → xs ≡ exchange p xs
past_end p [] h = refl
past_end p (x ∷ []) h = refl
past_end zero (x ∷ y ∷ ys) h = absurd (omega (arith, h))
past_end (suc p) (x ∷ y ∷ ys) h = ap (λ (l : List ℕ). x ∷ l) (past_end p (y ∷ ys) (omega (arith, h)))

pub none_past : (p b : ℕ) (xs : List ℕ) {A : Type 0} → length xs ≤ p + 1 → slice_get xs (suc p) ≡ Some b → A
none_past p b xs h e = absurd (let w = slice_get_within xs (suc p) b e in omega (arith, h, w))

-- what is read at a place is a member
pub read_member : (xs : List ℕ) (p x : ℕ) → p < length xs → x ≡ get_or xs p x → is_in x xs ≡ true
read_member xs p x l e = is_in_from_get xs p x (slice_get_read xs (length xs) p x refl l e)

pub read_there : (xs : List ℕ) (p x : ℕ) → p < length xs → x ≡ get_or xs p x → slice_get xs p ≡ Some x
read_there xs p x l e = slice_get_read xs (length xs) p x refl l e

-- neighbours in a list without repetition are different
pub neighbours_apart : (xs : List ℕ) (p a b : ℕ) → IsOnce xs → slice_get xs p ≡ Some a → slice_get xs (suc p) ≡ Some b → a ≢ b
neighbours_apart [] p a b o e f g = absurd cc
neighbours_apart (x ∷ xs) zero a b o e f g =
    let there = is_in_from_get xs 0 b f in
    let here = same_Some x a e in
    both_ways (is_in x xs) o.0 (ap (λ (y : ℕ). is_in y xs) (here ∙ g) ∙ there)
neighbours_apart (x ∷ xs) (suc p) a b o e f g = neighbours_apart xs p a b o.1 e f g

-- so many exchanges are made
pub record IsFollowed (rows : List (List ℕ)) (candidates : List (Option ℕ)) (part : ℕ) (swaps start now : List ℕ) (first ts : List Touch) (i : ℕ) : Type 0 where
  pub row : exchanged (drop i swaps) now ≡ exchanged swaps start
  pub members : (x : ℕ) → is_in x now ≡ is_in x start
  pub once : IsOnce start → IsOnce now
  pub offered : (a b : ℕ) → WereExchanged swaps start a b → WereExchanged (drop i swaps) now a b ⊎ HasOfferedBoth rows candidates part a b ts
  pub touched : HasTouched candidates first ts

module _ (rows : List (List ℕ)) (candidates : List (Option ℕ)) (part : ℕ) (swaps start : List ℕ) (first : List Touch) where
  pub follow_first : IsFollowed rows candidates part swaps start start first first 0
  follow_first = record { row = refl; members = λ x. refl; once = λ o. o; offered = λ a b h. inl h; touched = touched_none candidates first }

  pub follow_more : (now next : List ℕ) (ts us : List Touch) (i : ℕ) → i < length swaps → IsFollowed rows candidates part swaps start now first ts i → next ≡ exchange (get_or swaps i 0) now
      → ((a b : ℕ) → slice_get now (get_or swaps i 0) ≡ Some a → slice_get now (suc (get_or swaps i 0)) ≡ Some b → HasOfferedBoth rows candidates part a b us) → HasTouched candidates ts us → IsFollowed rows candidates part swaps start next first us (i + 1)
  follow_more now next ts us i l f e o t = record {
    row = ap (exchanged (drop (i + 1) swaps)) e ∙ sym (ap (λ (ps : List ℕ). exchanged ps now) rest) ∙ f.row;
    members = λ x. ap (is_in x) e ∙ is_in-exchange (get_or swaps i 0) x now ∙ f.members x;
    once = λ o'. subst IsOnce (sym e) (once-exchange (get_or swaps i 0) now (f.once o'));
    offered = λ a b h. at a b (f.offered a b h);
    touched = touched_through candidates first ts us f.touched t;
  }
    where
      rest : drop i swaps ≡ get_or swaps i 0 ∷ drop (i + 1) swaps
      rest = drop_more swaps i 0 l

      here : (a b : ℕ) → WereExchanged (get_or swaps i 0 ∷ drop (i + 1) swaps) now a b → WereExchanged (drop (i + 1) swaps) next a b ⊎ HasOfferedBoth rows candidates part a b us
      here a b (inl h) = inr (o a b h.0 h.1)
      here a b (inr h) = inl (subst (λ (xs : List ℕ). WereExchanged (drop (i + 1) swaps) xs a b) (sym e) h)

      at : (a b : ℕ) → WereExchanged (drop i swaps) now a b ⊎ HasOfferedBoth rows candidates part a b ts → WereExchanged (drop (i + 1) swaps) next a b ⊎ HasOfferedBoth rows candidates part a b us
      at a b (inl h) = here a b (subst (λ (ps : List ℕ). WereExchanged ps now a b) rest h)
      at a b (inr h) = inr (offered_stays rows candidates ts us part a b t h)

  pub follow_row_done : (now : List ℕ) (ts : List Touch) (i : ℕ) → length swaps ≤ i → IsFollowed rows candidates part swaps start now first ts i → now ≡ exchanged swaps start
  follow_row_done now ts i l f = sym (ap (λ (ps : List ℕ). exchanged ps now) (drop_all i swaps l)) ∙ f.row

  pub follow_offered : (now : List ℕ) (ts : List Touch) (i : ℕ) → length swaps ≤ i → IsFollowed rows candidates part swaps start now first ts i → (a b : ℕ) → WereExchanged swaps start a b → HasOfferedBoth rows candidates part a b ts
  follow_offered now ts i l f a b h = at (f.offered a b h)
    where
      at : WereExchanged (drop i swaps) now a b ⊎ HasOfferedBoth rows candidates part a b ts → HasOfferedBoth rows candidates part a b ts
      at (inl k) = absurd (subst (λ (ps : List ℕ). WereExchanged ps now a b) (drop_all i swaps l) k)
      at (inr k) = k
