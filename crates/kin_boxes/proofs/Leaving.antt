-- A box that is to leave, before its ends are marked.
use Rattle.std.proofs.Common.{◌≡◌, refl, sym, ap, ◌∙◌, subst, List, [], ◌∷◌, ℕ, ◌<◌, Bool, true}
use Rattle.std.specs.Prelude.{Option, Some, None}
use Rattle.std.proofs.lemmas.Option.{same_Some}
use Rattle.kin_motion.specs.BoxFacts.{low_end, high_end}
use Rattle.kin_motion.specs.Numbers.{is_in}
use Rattle.kin_sorted.specs.declared.ends.Ends.{Ends}
use Rattle.kin_sorted.specs.Marks.{Marks}
use Rattle.kin_sorted.specs.Sorting.{Sorting, unmarked}
use Rattle.kin_boxes.specs.Boxing.{entering_box, leaving_box, with_leaving, with_marks, AreJoined, AreJoinedBut, AreOverlapsOf}
use Rattle.kin_boxes.proofs.Marking.{high_with_low, joined_marked, entering_within, leaving_within}

-- where no mark waits, none is to leave
pub none_leaves : (leaving : Option ℕ) (x : Sorting Ends) → (with_leaving leaving x).marks ≡ unmarked → leaving ≡ None
none_leaves None x h = refl
none_leaves (Some who) x h = absurd (let clash : low_end who ∷ high_end who ∷ [] ≡ [] = ap (λ (m : Marks). m.leaving) h in cc)

pub same_items : (leaving : Option ℕ) (x : Sorting Ends) → (with_leaving leaving x).items ≡ x.items
same_items None x = refl
same_items (Some who) x = refl

pub same_rank : (leaving : Option ℕ) (x : Sorting Ends) → (with_leaving leaving x).rank ≡ x.rank
same_rank None x = refl
same_rank (Some who) x = refl

-- lists of which none is to leave are joined as they are
pub joined_only : (x y : Sorting Ends) → AreJoined x y → AreJoinedBut None x y
joined_only x y known = record { joined = known; x_unmarked = λ who h. absurd cc; y_unmarked = λ who h. absurd cc; member = λ who h. absurd cc; within = λ who h. absurd cc }

module _ (leaving : Option ℕ) (x y : Sorting Ends) (known : AreJoinedBut leaving x y) (rest : (with_leaving leaving x).marks ≡ unmarked) where
  none : leaving ≡ None
  none = none_leaves leaving x rest

  pub joined_at_rest : AreJoined x y
  joined_at_rest = subst (λ o. AreJoined (with_leaving o x) (with_leaving o y)) none known.joined

  pub unmarked_at_rest : x.marks ≡ unmarked
  unmarked_at_rest = subst (λ o. (with_leaving o x).marks ≡ unmarked) none rest

  -- what the lists say at rest is what the boxes say
  pub overlaps_at_rest : (whole : Bool) (pairs : List (ℕ × ℕ)) → AreOverlapsOf (record { by_x = x; by_y = y; whole = whole }) pairs
      → AreOverlapsOf (record { by_x = with_leaving leaving x; by_y = with_leaving leaving y; whole = whole }) pairs
  overlaps_at_rest whole pairs read =
      subst (λ o. AreOverlapsOf (record { by_x = with_leaving o x; by_y = with_leaving o y; whole = whole }) pairs) (sym none) read

  -- both lists have got these marks
  pub marked_view : (m : Marks) (x' y' : Sorting Ends) (whole : Bool) → whole ≡ true → x' ≡ record x { marks = m } → y' ≡ record y { marks = m }
      → record { by_x = with_leaving leaving x'; by_y = with_leaving leaving y'; whole = true }
      ≡ with_marks m (record { by_x = with_leaving leaving x; by_y = with_leaving leaving y; whole = whole })
  marked_view m x' y' whole h e f =
      subst (λ (o : Option ℕ). record { by_x = with_leaving o x'; by_y = with_leaving o y'; whole = true }
      ≡ with_marks m (record { by_x = with_leaving o x; by_y = with_leaving o y; whole = whole })) (sym none)
      (λ t. record { by_x = e t; by_y = f t; whole = sym h t })

  at_rest_rank : (with_leaving leaving x).rank ≡ x.rank
  at_rest_rank = same_rank leaving x

  pub joined_marked_at_rest : (who : ℕ) → who < (with_leaving leaving x).rank.count → (x' y' : Sorting Ends) → x' ≡ record x { marks = entering_box who }
      → y' ≡ record y { marks = entering_box who } → AreJoinedBut leaving x' y'
  joined_marked_at_rest who l x' y' e f =
      subst (λ o. AreJoinedBut o x' y') (sym none)
      (joined_only x' y' (joined_marked (entering_box who) x y x' y' joined_at_rest
      (entering_within who x y joined_at_rest unmarked_at_rest (subst (λ (r : Ends). who < r.count) at_rest_rank l)) e f))

  -- one box is to leave
  pub leaves : (who : ℕ) → who < x.rank.count → is_in (low_end who) x.items ≡ true → AreJoinedBut (Some who) x y
  leaves who l h = record {
    joined = joined_marked (leaving_box who) x y (record x { marks = leaving_box who }) (record y { marks = leaving_box who }) joined_at_rest
        (leaving_within who x y joined_at_rest unmarked_at_rest) refl refl;
    x_unmarked = λ other e. unmarked_at_rest;
    y_unmarked = λ other e. joined_at_rest.marks ∙ unmarked_at_rest;
    member = λ other e. ap (λ i. is_in (low_end i) x.items) (sym (same_Some who other e)) ∙ h;
    within = λ other e. subst (λ i. i < x.rank.count) (same_Some who other e) l;
  }

  pub leaves_at_rest : (who : ℕ) → who < (with_leaving leaving x).rank.count → is_in (low_end who) (with_leaving leaving x).items ≡ true
      → AreJoinedBut (Some who) x y
  leaves_at_rest who l h = leaves who (subst (λ (r : Ends). who < r.count) at_rest_rank l) (ap (is_in (low_end who)) (sym (same_items leaving x)) ∙ h)

  pub leaving_view : (who : ℕ) (whole : Bool) → record { by_x = with_leaving (Some who) x; by_y = with_leaving (Some who) y; whole = whole }
      ≡ with_marks (leaving_box who) (record { by_x = with_leaving leaving x; by_y = with_leaving leaving y; whole = whole })
  leaving_view who whole = subst (λ (o : Option ℕ). record { by_x = with_leaving (Some who) x; by_y = with_leaving (Some who) y; whole = whole }
      ≡ with_marks (leaving_box who) (record { by_x = with_leaving o x; by_y = with_leaving o y; whole = whole })) (sym none) refl

-- what marking both ends of the one that is to leave asks of the lists
module _ (leaving : Option ℕ) (x y : Sorting Ends) (known : AreJoinedBut leaving x y) (who : ℕ) (there : leaving ≡ Some who) where
  joined : AreJoined (record x { marks = leaving_box who }) (record y { marks = leaving_box who })
  joined = subst (λ o. AreJoined (with_leaving o x) (with_leaving o y)) there known.joined

  pub x_whole : x.whole ≡ true
  x_whole = joined.x_whole

  pub y_whole : y.whole ≡ true
  y_whole = joined.y_whole

  pub x_high : is_in (high_end who) x.items ≡ true
  x_high = high_with_low (record x { marks = leaving_box who }) (record y { marks = leaving_box who }) who true joined (known.member who there)

  pub y_low : is_in (low_end who) y.items ≡ true
  y_low = joined.same (low_end who) ∙ known.member who there

  pub y_high : is_in (high_end who) y.items ≡ true
  y_high = joined.same (high_end who) ∙ x_high

  pub y_unmarked : y.marks ≡ unmarked
  y_unmarked = known.y_unmarked who there

  pub same_count : y.rank.count ≡ x.rank.count
  same_count = joined.count
