-- The eight lists are ready where the first one is.
use Rattle.std.proofs.Common.{◌≡◌, ◌≢◌, ◌⊎◌, inl, inr, sym, ap, ◌∙◌, subst, arith, List, ℕ, ◌^◌, ◌<◌, Bool, true, ◌||◌, nat_eq, Some, Option}
use Rattle.std.specs.Prelude.{slice_get}
use Rattle.std.proofs.lemmas.Bool.{cases_eq, or_cases, eqb-true}
use Rattle.std.proofs.lemmas.Option.{slice_get_within}
use Rattle.kin_motion.specs.Numbers.{is_in, IsOnce}
use Rattle.kin_list.specs.declared.mark.Mark.{Mark}
use Rattle.kin_list.specs.declared.mark.Mark.TheVariants.{Rest, Enters, Leaves, Broken}
use Rattle.kin_list.specs.Listing.{Listing, HasMarked, without}
use Rattle.kin_list.proofs.LeavingLaws.{without_once}
use Rattle.kin_list.proofs.ListLaws.{is_in-without, not_in-without}
use Rattle.kin_wedge.specs.Rows.{row_of}
use Rattle.kin_wedge.specs.Seen.{rows_of}
use Rattle.kin_wedge.specs.Wedging.{AreKept, IsMarkable}
use Rattle.kin_wedge.proofs.AllRows.{items_there}
use Rattle.kin_wedge.proofs.Departing.{in_without}
use Rattle.kin_wedge.proofs.Keeping.{member_as}

same_without : (i who : ℕ) (xs ys : List ℕ) → ((j : ℕ) → is_in j ys ≡ is_in j xs) → is_in i (without who ys) ≡ is_in i (without who xs)
same_without i who xs ys h = at (cases_eq i who)
  where
    at : (i ≡ who) ⊎ (i ≢ who) → is_in i (without who ys) ≡ is_in i (without who xs)
    at (inl e) = ap (λ (x : ℕ). is_in x (without who ys)) e ∙ not_in-without who ys ∙ sym (not_in-without who xs) ∙ ap (λ (x : ℕ). is_in x (without who xs)) (sym e)
    at (inr n) = is_in-without i who ys n ∙ h i ∙ sym (is_in-without i who xs n)

-- a list with the same members has the same members once its mark is carried out
pub marked_alike : (mark : Mark) (xs ys set : List ℕ) → IsOnce ys → ((j : ℕ) → is_in j ys ≡ is_in j xs) → HasMarked mark xs set → HasMarked mark ys set
marked_alike Rest xs ys set once h m = record { once = once; same = λ i. h i ∙ m.same i }
marked_alike (Enters who) xs ys set once h m = record { once = (h who ∙ m.once.0, once); same = λ i. ap (λ (b : Bool). nat_eq i who || b) (h i) ∙ m.same i }
marked_alike (Leaves who) xs ys set once h m = record { once = without_once who ys once; same = λ i. same_without i who xs ys h ∙ m.same i }
marked_alike Broken xs ys set once h m = absurd m

module _ (size : ℕ) (mark : Mark) (lists : List Listing) (rows : List (List ℕ)) (candidates : List (Option ℕ)) (k : AreKept size mark lists rows candidates) (set : List ℕ) (m : HasMarked mark (row_of (rows_of lists) 0) set) where
  pub list_ready : (part : ℕ) (l : Listing) → slice_get lists part ≡ Some l → HasMarked l.mark l.items set
  list_ready part l e =
      let w = slice_get_within lists part l e in
      let c = k.count in
      subst (λ (n : Mark). HasMarked n l.items set) (sym (k.each part l e).marked)
      (marked_alike mark (row_of (rows_of lists) 0) l.items set (subst IsOnce (items_there lists part l e) (k.once part (omega (arith, w, c)))) (λ j. member_as size mark lists rows candidates k part l j e) m)

  -- all live numbers have slots
  by_mark : (n : Mark) → HasMarked n (row_of (rows_of lists) 0) set → IsMarkable size n (row_of (rows_of lists) 0) → (i : ℕ) → is_in i set ≡ true → i < 2 ^ size
  by_mark Rest h t i l = k.below i (h.same i ∙ l)
  by_mark (Enters who) h t i l = at (or_cases (nat_eq i who) (is_in i (row_of (rows_of lists) 0)) (h.same i ∙ l))
    where
      at : (nat_eq i who ≡ true) ⊎ (is_in i (row_of (rows_of lists) 0) ≡ true) → i < 2 ^ size
      at (inl e) = subst (λ (x : ℕ). x < 2 ^ size) (sym (eqb-true i who e)) t.0
      at (inr e) = k.below i e
  by_mark (Leaves who) h t i l = k.below i (in_without i who (row_of (rows_of lists) 0) (h.same i ∙ l)).1
  by_mark Broken h t i l = absurd h

  pub live_below : (i : ℕ) → is_in i set ≡ true → i < 2 ^ size
  live_below = by_mark mark m k.markable
