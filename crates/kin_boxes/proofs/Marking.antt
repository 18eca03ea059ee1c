-- The marks of one box, and what both lists have in common.
use Rattle.std.proofs.Common.{◌≡◌, ◌⊎◌, inl, inr, refl, sym, ap, ap₂, ◌∙◌, subst, arith, List, [], ◌∷◌, ℕ, ◌*◌, ◌%◌, ◌<◌, ◌≤◌, ◌^◌, ℤ, pos, negsuc, Bool, true, false, ◌||◌, ◌&&◌, not, nat_eq}
use Rattle.std.specs.Prelude.{Contains, ◌≤ℤ◌}
use Rattle.std.proofs.lemmas.Bool.Decides.{nat_tests}
use Rattle.std.proofs.lemmas.Int.{ints}
use Rattle.std.proofs.Math.Pow.{pow_mono}
use Rattle.kin_algebra.proofs.Members.{contains_none}
use Rattle.kin_motion.specs.Numbers.{is_in, IsOnce}
use Rattle.kin_motion.proofs.Members.{in_cases}
use Rattle.kin_sorted.specs.declared.ends.End.{End}
use Rattle.kin_sorted.specs.declared.ends.Ends.{Ends}
use Rattle.kin_sorted.specs.declared.ends.Side.TheVariants.{Low, High}
use Rattle.kin_sorted.specs.EndSlots.{end_slot}
use Rattle.kin_sorted.specs.Marks.{Marks, marked, with_entering, with_leaving, without_all}
use Rattle.kin_sorted.specs.Sorting.{Sorting, unmarked}
use Rattle.kin_sorted.proofs.ListLaws.{without_none, is_in-without_all}
use Rattle.kin_motion.specs.BoxFacts.{low_end, high_end, point}
use Rattle.kin_boxes.specs.Boxing.{entering_box, leaving_box, AreJoined, IsVacantAlong}

pub low_slot : (e : End) (who : ℕ) → e ≡ record { point = who; side = Low } → end_slot e ≡ low_end who
low_slot e who h = ap end_slot h ∙ omega arith

pub high_slot : (e : End) (who : ℕ) → e ≡ record { point = who; side = High } → end_slot e ≡ high_end who
high_slot e who h = ap end_slot h

apart_slots : (who : ℕ) → nat_eq (high_end who) (low_end who) ≡ false
apart_slots who = grind (arith, nat_tests)

-- without a mark the members are those that are there
pub none_marked : (m : Marks) (items : List ℕ) (e : ℕ) → m ≡ unmarked → is_in e (marked m items) ≡ is_in e items
none_marked m items e h = ap (λ (n : Marks). is_in e (marked n items)) h ∙ ap (is_in e) (without_none items)

module _ (who slot : ℕ) (k k' : Sorting Ends) (at : slot ≡ low_end who) (rest : k.marks ≡ unmarked) where
  low_entered : k' ≡ record k { marks = with_entering slot k.marks } → k' ≡ record k { marks = record { entering = low_end who ∷ []; leaving = [] } }
  low_entered e = e ∙ ap (λ (m : Marks). record k { marks = m }) (ap₂ with_entering at rest)

  low_left : k' ≡ record k { marks = with_leaving slot k.marks } → k' ≡ record k { marks = record { entering = []; leaving = low_end who ∷ [] } }
  low_left e = e ∙ ap (λ (m : Marks). record k { marks = m }) (ap₂ with_leaving at rest)

  module _ (slot' : ℕ) (at' : slot' ≡ high_end who) where
    pub high_enters : k' ≡ record k { marks = with_entering slot k.marks } → is_in (high_end who) k.items ≡ false → is_in slot' (marked k'.marks k'.items) ≡ false
    high_enters e out =
        ap₂ (λ (n : ℕ) (s : Sorting Ends). is_in n (marked s.marks s.items)) at' (low_entered e)
        ∙ ap₂ (λ a b. a || b) (apart_slots who) (ap (is_in (high_end who)) (without_none k.items) ∙ out)

    pub high_leaves : k' ≡ record k { marks = with_leaving slot k.marks } → is_in (high_end who) k.items ≡ true → is_in slot' (marked k'.marks k'.items) ≡ true
    high_leaves e there =
        ap₂ (λ (n : ℕ) (s : Sorting Ends). is_in n (marked s.marks s.items)) at' (low_left e)
        ∙ is_in-without_all (high_end who) (low_end who ∷ []) k.items
        ∙ ap₂ (λ a b. a && not (b || false)) there (apart_slots who)

    pub both_entered : (k'' : Sorting Ends) → k' ≡ record k { marks = with_entering slot k.marks } → k'' ≡ record k' { marks = with_entering slot' k'.marks }
        → k'' ≡ record k { marks = entering_box who }
    both_entered k'' e f = f ∙ ap₂ (λ (n : ℕ) (s : Sorting Ends). record s { marks = with_entering n s.marks }) at' (low_entered e)

    pub both_left : (k'' : Sorting Ends) → k' ≡ record k { marks = with_leaving slot k.marks } → k'' ≡ record k' { marks = with_leaving slot' k'.marks } → k'' ≡ record k { marks = leaving_box who }
    both_left k'' e f = f ∙ ap₂ (λ (n : ℕ) (s : Sorting Ends). record s { marks = with_leaving n s.marks }) at' (low_left e)

-- what is marked so has a number below the count
module _ (who : ℕ) (x y : Sorting Ends) (known : AreJoined x y) (rest : x.marks ≡ unmarked) where
  member_within : (e : ℕ) → is_in e x.items ≡ true → e < 2 * x.rank.count
  member_within e h = known.within e (none_marked x.marks x.items e rest ∙ h)

  pub entering_within : who < x.rank.count → (e : ℕ) → is_in e (marked (entering_box who) x.items) ≡ true → e < 2 * x.rank.count
  entering_within l e h = first (in_cases e (low_end who) (high_end who ∷ without_all [] x.items) h)
    where
      second : (e ≡ high_end who) ⊎ (is_in e (without_all [] x.items) ≡ true) → e < 2 * x.rank.count
      second (inl f) = omega (arith, f, l)
      second (inr k) = member_within e (sym (ap (is_in e) (without_none x.items)) ∙ k)

      first : (e ≡ low_end who) ⊎ (is_in e (high_end who ∷ without_all [] x.items) ≡ true) → e < 2 * x.rank.count
      first (inl f) = omega (arith, f, l)
      first (inr k) = second (in_cases e (high_end who) (without_all [] x.items) k)

  pub leaving_within : (e : ℕ) → is_in e (marked (leaving_box who) x.items) ≡ true → e < 2 * x.rank.count
  leaving_within e h = member_within e (at (is_in e x.items) refl)
    where
      at : (b : Bool) → is_in e x.items ≡ b → b ≡ true
      at true f = refl
      at false f = ap (λ b. b && not (is_in e (low_end who ∷ high_end who ∷ []))) (sym f) ∙ sym (is_in-without_all e (low_end who ∷ high_end who ∷ []) x.items) ∙ h

-- both lists have got these marks
pub joined_marked : (m : Marks) (x y x' y' : Sorting Ends) → AreJoined x y → ((e : ℕ) → is_in e (marked m x.items) ≡ true → e < 2 * x.rank.count) → x' ≡ record x { marks = m }
    → y' ≡ record y { marks = m } → AreJoined x' y'
joined_marked m x y x' y' known within e f =
    subst (λ (k : Sorting Ends). AreJoined k y') (sym e)
    (subst (λ (k : Sorting Ends). AreJoined (record x { marks = m }) k) (sym f)
    (record {
      x_way = known.x_way;
      y_way = known.y_way;
      width = known.width;
      height = known.height;
      count = known.count;
      x_whole = known.x_whole;
      y_whole = known.y_whole;
      marks = refl;
      same = known.same;
      boxes = known.boxes;
      within = within;
      x_once = known.x_once;
      y_once = known.y_once;
      x_parts = known.x_parts;
      y_parts = known.y_parts;
    }))

-- a box has both its ends
pub high_with_low : (x y : Sorting Ends) (who : ℕ) (b : Bool) → AreJoined x y → is_in (low_end who) x.items ≡ b → is_in (high_end who) x.items ≡ b
high_with_low x y who b known h = let e : point (high_end who) ≡ point (low_end who) = omega arith in known.boxes (high_end who) (low_end who) e ∙ h

-- ---- without members
not_negative : (w : ℤ) → pos 0 ≤ℤ w → (n : ℕ) × (w ≡ pos n)
not_negative (pos n) h = (n, refl)
not_negative (negsuc n) h = absurd (omega (arith, ints, h))

pub vacant_joined : (width height : ℤ) (size : ℕ) (x y : Sorting Ends) → pos 0 ≤ℤ width → pos 0 ≤ℤ height → IsVacantAlong (pos 1) (pos 0) width size x → IsVacantAlong (pos 0) (pos 1) height size y
    → AreJoined x y
vacant_joined width height size x y low low' v w =
    let m = not_negative width low in
    let n = not_negative height low' in
    record {
      x_way = (v.dx_is, v.dy_is);
      y_way = (w.dx_is, w.dy_is);
      width = (m.0, v.width_is ∙ m.1);
      height = (n.0, w.width_is ∙ n.1);
      count = w.count ∙ sym v.count;
      x_whole = v.whole;
      y_whole = w.whole;
      marks = w.marks ∙ sym v.marks;
      same = λ e. ap (is_in e) (w.items ∙ sym v.items);
      boxes = λ e f h. ap (is_in e) v.items ∙ sym (ap (is_in f) v.items);
      within = λ e h. absurd (let none : false ≡ true = sym (none_marked x.marks x.items e v.marks ∙ ap (is_in e) v.items) ∙ h in cc);
      x_once = subst IsOnce (sym v.items) tt;
      y_once = subst IsOnce (sym w.items) tt;
      x_parts = λ p h. absurd (contains_none p (subst (λ fs. Contains fs p) v.facts h));
      y_parts = λ p h. absurd (contains_none p (subst (λ fs. Contains fs p) w.facts h));
    }

-- so many numbers are not cut off
whole_power : (size : ℕ) → size ≤ 12 → 1 * 2 ^ size % 65536 ≡ 2 ^ size
whole_power size h = let l : 2 ^ size ≤ 2 ^ 12 = pow_mono h in omega (arith, l)

pub few_numbers : (size : ℕ) → size ≤ 12 → 1 * 2 ^ size % 65536 ≤ 16384
few_numbers size h = let l : 2 ^ size ≤ 2 ^ 12 = pow_mono h in let e = whole_power size h in omega (arith, l, e)

pub vacant_along : (rank : Ends) (dx dy width : ℤ) (size : ℕ) (k : Sorting Ends) → size ≤ 12 → rank.dx ≡ dx → rank.dy ≡ dy → rank.width ≡ width → rank.count ≡ 1 * 2 ^ size % 65536
    → k ≡ record { rank = rank; items = []; facts = []; swaps = []; marks = unmarked; whole = true } → IsVacantAlong dx dy width size k
vacant_along rank dx dy width size k h a b c d e = subst (IsVacantAlong dx dy width size) (sym e) (record {
  dx_is = a;
  dy_is = b;
  width_is = c;
  count = d
      ∙ whole_power size h;
  items = refl;
  facts = refl;
  marks = refl;
  whole = refl;
})
