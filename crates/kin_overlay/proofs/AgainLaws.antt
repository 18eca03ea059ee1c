-- A chain that is read again between what its list shares with the one before.
use Rattle.std.proofs.Common.{◌≡◌, ◌≢◌, ◌⊎◌, inl, inr, refl, sym, ap, ap₂, ◌∙◌, subst, arith, List, [], ◌∷◌, ◌++◌, ℕ, zero, suc, ◌+◌, ◌-◌, ◌<◌, ◌≤◌, Bool, true, false, ◌||◌, nat_eq, length, take, drop, Option, Some, None, append_assoc}
use Rattle.std.specs.Prelude.{slice_get}
use Rattle.std.proofs.lemmas.Bool.{both_ways, false_from_ne_true}
use Rattle.std.proofs.lemmas.List.{append-nil, length-append, length-drop, take-append-drop, take_more}
use Rattle.std.proofs.lemmas.Option.{slice_get_within, get_or_from_slice_get}
use Rattle.std.proofs.Math.Seq.{take-append_seam, drop-append_seam}
use Rattle.std.proofs.Math.ListN.{drop_of_length-le}
use Rattle.kin_algebra.specs.declared.sign.Sign.{Sign}
use Rattle.kin_motion.specs.Cells.{above_of, changes_of}
use Rattle.kin_motion.specs.Numbers.{is_in, IsOnce}
use Rattle.kin_motion.proofs.Members.{in_head, in_tail, in_cases, in_right}
use Rattle.kin_overlay.specs.declared.record.Record.{Record}
use Rattle.kin_overlay.specs.declared.end.End.{End}
use Rattle.kin_overlay.specs.declared.walk.Cell.{Cell as Step}
use Rattle.kin_overlay.specs.Reading.{AreAlike, IsOpened, AreOpened, IsReadWhole, IsReadUntil, IsReadAgain, AreSameEnds, right_of}
use Rattle.kin_overlay.specs.declared.shared.Shared.{Shared}
use Rattle.kin_overlay.specs.Remembered.{Remembered}
use Rattle.kin_overlay.specs.Reports.{AreShared}
use Rattle.kin_overlay.specs.Walks.{above_by, right_above, last_item, first_cell, gifts_before, cell_after, gifts, chain_from, chain_read, upper_before, cell_by, IsThreaded}
use Rattle.kin_overlay.proofs.SharedLaws.{same-takes, same-drops}
use Rattle.kin_overlay.proofs.SplitLaws.{before-append, gifts-append, given-first, front-threaded, head-ends, front-read, until-ends, end-read}
use Rattle.kin_overlay.proofs.WalkLaws.{given-more}

-- ---- places of numbers
-- the first place of a number
placed-at : (front back : List ℕ) (x n : ℕ) → ((k y : ℕ) → k < n → slice_get (front ++ (x ∷ back)) k ≡ Some y → x ≢ y) → ((y : ℕ) → slice_get (front ++ (x ∷ back)) n ≡ Some y → x ≡ y) → is_in x front ≡ false → n ≡ length front
placed-at [] back x zero o a f = refl
placed-at [] back x (suc n) o a f = absurd (o zero x (omega arith) refl refl)
placed-at (z ∷ zs) back x zero o a f = absurd (both_ways (is_in x (z ∷ zs)) f (ap (λ (y : ℕ). is_in y (z ∷ zs)) (a z refl) ∙ in_head z zs))
placed-at (z ∷ zs) back x (suc n) o a f =
    ap suc (placed-at zs back x n (λ k y l e. o (suc k) y (omega arith) e) a (false_from_ne_true (is_in x zs) (λ h. absurd (both_ways (is_in x (z ∷ zs)) f (in_tail x z zs h)))))

pub first-place : (xs front back : List ℕ) (x n : ℕ) → xs ≡ front ++ (x ∷ back) → ((k y : ℕ) → k < n → slice_get xs k ≡ Some y → x ≢ y) → ((y : ℕ) → slice_get xs n ≡ Some y → x ≡ y) → is_in x front ≡ false → n ≡ length front
first-place xs front back x n is o a f =
    placed-at front back x n (subst (λ (l : List ℕ). (k y : ℕ) → k < n → slice_get l k ≡ Some y → x ≢ y) is o) (subst (λ (l : List ℕ). (y : ℕ) → slice_get l n ≡ Some y → x ≡ y) is a) f

-- a number of a list that has each once isn't in front of itself
pub once-before : (front back : List ℕ) (x : ℕ) → IsOnce (front ++ (x ∷ back)) → is_in x front ≡ false
once-before [] back x o = refl
once-before (z ∷ zs) back x o = false_from_ne_true (is_in x (z ∷ zs)) (λ h. at (once-before zs back x o.1) (in_cases x z zs h))
  where
    at : is_in x zs ≡ false → (x ≡ z) ⊎ (is_in x zs ≡ true) → ⊥
    at out (inl e) = absurd (both_ways (is_in z (zs ++ (x ∷ back))) o.0 (in_right z zs (x ∷ back) (ap (λ (y : ℕ). is_in z (y ∷ back)) e ∙ in_head z back)))
    at out (inr k) = absurd (both_ways (is_in x zs) out k)

-- ---- lists of records
drop-split : (xs : List Record) (i j : ℕ) → i ≤ j → drop i xs ≡ drop i (take j xs) ++ drop j xs
drop-split xs zero j l = sym (take-append-drop j xs)
drop-split [] (suc i) zero l = absurd (omega arith)
drop-split [] (suc i) (suc j) l = refl
drop-split (x ∷ xs) (suc i) zero l = absurd (omega arith)
drop-split (x ∷ xs) (suc i) (suc j) l = drop-split xs i j (omega arith)

-- the last of the first records
up-to : (xs : List Record) (n : ℕ) (r : Record) → 0 < n → slice_get xs (n - 1) ≡ Some r → take n xs ≡ take (n - 1) xs ++ r ∷ []
up-to xs zero r l e = absurd (omega arith)
up-to xs (suc n) r l e =
    let less : suc n - 1 ≡ n = omega arith in
    let more : suc n ≡ n + 1 = omega arith in
    let there : slice_get xs n ≡ Some r = ap (slice_get xs) (sym less) ∙ e in
    ap (λ (k : ℕ). take k xs) more ∙ take_more xs n r (slice_get_within xs n r there) ∙ ap (λ (y : Record). take n xs ++ y ∷ []) (get_or_from_slice_get xs n r r there)
    ∙ ap (λ (k : ℕ). take k xs ++ r ∷ []) (sym less)

-- ---- the front
-- there is one left end
pub same-end : (m n : Remembered) (front back : ℕ) (k : AreAlike m n front back) (e : End) → n.left ≡ Some e → k.new_end ≡ e
same-end m n front back k e q = let both : Some k.new_end ≡ Some e = sym k.new_left ∙ q in cc

module _ (m n : Remembered) (front back : ℕ) (k : AreAlike m n front back) where
  whole : (l : Remembered) (e : End) → l.left ≡ Some e → IsThreaded (first_cell e) l.records → IsOpened l (right_of l e) [] 0 (first_cell e) []
  whole l e left t = record { read = ap (λ (o : Option End). chain_from o l) left; threaded = t }

  -- reading begins at the left outer end
  pub opened-whole : AreOpened m n (right_of m k.old_end) (right_of n k.new_end) 0 0 (first_cell k.new_end) []
  opened-whole = record { head = []; counted = refl; cell = first_cell k.old_end; of_old = whole m k.old_end k.old_left k.old_threaded; of_new = whole n k.new_end k.new_left k.new_threaded }

  module _ (r : Record) (p start : ℕ) (old : List ℕ) (some : 0 < front) (there : slice_get n.records (front - 1) ≡ Some r) (upper : upper_before r ≡ p ∷ []) (is : old ≡ chain_read m) (once : IsOnce old)
      (others : (j y : ℕ) → j < start → slice_get old j ≡ Some y → p ≢ y) (at : (y : ℕ) → slice_get old start ≡ Some y → p ≡ y) where
    abbrev e : End
    e = k.new_end

    abbrev xs : List Record
    xs = take (front - 1) n.records

    split : (l : Remembered) → take front l.records ≡ take front n.records → l.records ≡ xs ++ (r ∷ drop front l.records)
    split l q = sym (take-append-drop front l.records) ∙ ap (λ (ys : List Record). ys ++ drop front l.records) (q ∙ up-to n.records front r some there) ∙ append_assoc xs (r ∷ []) (drop front l.records)

    head : (front' : List ℕ) × (changes_of None (gifts_before (first_cell e) (xs ++ r ∷ [])) ≡ front' ++ p ∷ [])
    head = head-ends e n xs r (drop front n.records) p k.new_left (split n refl) k.new_threaded upper

    opened : (l : Remembered) → l.left ≡ Some e → IsThreaded (first_cell e) l.records → take front l.records ≡ take front n.records → IsOpened l (right_of l e) head.0 front (cell_by r) (p ∷ [])
    opened l left t q = record {
      read = front-read e l xs r (drop front l.records) p left (split l q) t upper head.0 head.1;
      threaded = front-threaded e l xs r (drop front l.records) p left (split l q) t upper;
    }

    -- reading begins after a record at which a half is above
    pub opened-at : AreOpened m n (right_of m k.old_end) (right_of n k.new_end) start front (cell_by r) (p ∷ [])
    opened-at =
        let one = k.left some in
        let of_old = subst (λ (x : End). IsOpened m (right_of m x) head.0 front (cell_by r) (p ∷ [])) (sym one)
        (opened m (k.old_left ∙ ap (λ (x : End). Some x) one) (subst (λ (x : End). IsThreaded (first_cell x) m.records) one k.old_threaded) k.in_front) in
        let rest = changes_of (Some p) (gifts (cell_by r) (drop front m.records) (right_of m k.old_end)) in
        let read : old ≡ head.0 ++ (p ∷ rest) = is ∙ of_old.read in
        record {
          head = head.0;
          counted = sym (first-place old head.0 rest p start read others at (once-before head.0 rest p (subst IsOnce read once)));
          cell = cell_by r;
          of_old = of_old;
          of_new = opened n k.new_left k.new_threaded refl;
        }

-- ---- the end
module _ (m n : Remembered) (front back : ℕ) (old : List ℕ) (k : AreAlike m n front back) (is : old ≡ chain_read m) (once : IsOnce old) (old_right right : Sign) (start from : ℕ) (within : from ≤ front) (c d : Step) (g0 g1 g2 : List ℕ) (end : ℕ) (o : AreOpened m n old_right right start from c g0)
    (part behind : List Record) (part_is : part ≡ drop from (take (length n.records - back) n.records)) (behind_is : behind ≡ drop (length n.records - back) n.records)
    (walked : g1 ≡ g0 ++ changes_of (last_item g0) (gifts_before c part)) (after : d ≡ cell_after c part) where
  abbrev of_old : IsOpened m old_right o.head from o.cell g0
  of_old = o.of_old

  abbrev of_new : IsOpened n right o.head from c g0
  of_new = o.of_new

  new-split : drop from n.records ≡ part ++ behind
  new-split = drop-split n.records from (length n.records - back) (let r = k.new_room in omega (arith, r, within)) ∙ ap₂ (λ (xs ys : List Record). xs ++ ys) (sym part_is) (sym behind_is)

  abbrev old-part : List Record
  old-part = drop from (take (length m.records - back) m.records)

  old-split : drop from m.records ≡ old-part ++ behind
  old-split = drop-split m.records from (length m.records - back) (let r = k.old_room in omega (arith, r, within)) ∙ ap (λ (ys : List Record). old-part ++ ys) (k.at_end ∙ sym behind_is)

  -- what comes before the middle stays
  stays : (rest : List ℕ) → old ≡ o.head ++ rest → take start old ≡ o.head
  stays rest q = ap₂ (λ (i : ℕ) (l : List ℕ). take i l) (sym o.counted) q ∙ take-append_seam o.head rest

  pub again-whole : (rt : End) → right_above rt ≡ right → IsReadWhole old behind d rt g1 g2 end → IsReadAgain old (chain_read n) g2 start end
  again-whole rt same w =
      let rest = g0 ++ changes_of (last_item g0) (gifts o.cell (drop from m.records) old_right) in
      let read : old ≡ o.head ++ rest = is ∙ of_old.read in
      let long : length old ≡ start + length rest = ap length read ∙ length-append o.head rest ∙ ap (λ (i : ℕ). i + length rest) o.counted in
      let given : g0 ++ changes_of (last_item g0) (gifts c (drop from n.records) right) ≡ g2 =
      ap (λ (l : List Record). g0 ++ changes_of (last_item g0) (gifts c l right)) new-split ∙ ap (λ (l : List ℕ). g0 ++ changes_of (last_item g0) l) (gifts-append c part behind right)
      ∙ given-more g0 g1 (gifts_before c part) (gifts (cell_after c part) behind right) walked ∙ ap₂ (λ (s : Step) (t : Sign). g1 ++ changes_of (last_item g1) (gifts s behind t)) (sym after) (sym same) ∙ sym w.given in
      record {
        ordered = let all = w.all in omega (arith, all, long);
        within = let all = w.all in omega (arith, all);
        new_is =
            of_new.read ∙ ap (λ (l : List ℕ). o.head ++ l) (given ∙ sym (append-nil g2))
            ∙ ap₂ (λ (x y : List ℕ). x ++ (g2 ++ y)) (sym (stays rest read)) (sym (ap (λ (i : ℕ). drop i old) w.all ∙ drop_of_length-le old (omega arith)));
      }

  -- where something is shared at the end
  shared-end : (r : Record) (bs : List Record) → behind ≡ r ∷ bs → 0 < back
  shared-end r bs e =
      let long = ap length behind_is in
      let some = ap length e in
      let count = length-drop (length n.records - back) n.records in
      omega (arith, long, some, count)

  pub again-until : (0 < back → old_right ≡ right) → IsReadUntil old behind d g1 g2 end → IsReadAgain old (chain_read n) g2 start end
  again-until same_end w =
      let r = w.first in
      let bs = w.others in
      let q = w.point in
      let same = same_end (shared-end r bs w.is) in
      let threaded : (x : Step) (l : Remembered) (xs : List Record) → IsThreaded x (drop from l.records) → drop from l.records ≡ xs ++ behind → IsThreaded x (xs ++ (r ∷ bs)) = λ x l xs t e. subst (λ (ys : List Record). IsThreaded x (xs ++ ys)) w.is (subst (IsThreaded x) e t) in
      let old-t = threaded o.cell m old-part of_old.threaded old-split in
      let new-t = threaded c n part of_new.threaded new-split in
      let tail = given-first (cell_by r) bs right q w.upper in
      let v = changes_of (Some q) tail.0 in
      let old-until = g0 ++ changes_of (last_item g0) (gifts_before o.cell (old-part ++ r ∷ []) ++ q ∷ []) in
      let ends = until-ends o.cell g0 old-part r bs right q old-t w.upper in
      let old-read : old ≡ o.head ++ (old-until ++ v) =
      is ∙ of_old.read ∙ ap (λ (s : Sign). o.head ++ (g0 ++ changes_of (last_item g0) (gifts o.cell (drop from m.records) s))) same
      ∙ ap (λ (l : List Record). o.head ++ (g0 ++ changes_of (last_item g0) (gifts o.cell l right))) (old-split ∙ ap (λ (ys : List Record). old-part ++ ys) w.is)
      ∙ ap (λ (l : List ℕ). o.head ++ l) (end-read o.cell g0 old-part r bs right q old-t w.upper tail.0 tail.1) in
      let until : g0 ++ changes_of (last_item g0) (gifts_before c (part ++ r ∷ []) ++ q ∷ []) ≡ g2 =
      ap (λ (l : List ℕ). g0 ++ changes_of (last_item g0) (l ++ q ∷ [])) (before-append c part (r ∷ []))
      ∙ ap (λ (l : List ℕ). g0 ++ changes_of (last_item g0) l) (append_assoc (gifts_before c part) (gifts_before (cell_after c part) (r ∷ [])) (q ∷ []))
      ∙ given-more g0 g1 (gifts_before c part) (gifts_before (cell_after c part) (r ∷ []) ++ q ∷ []) walked ∙ ap (λ (s : Step). g1 ++ changes_of (last_item g1) (gifts_before s (r ∷ []) ++ q ∷ [])) (sym after) ∙ sym w.given in
      let new-read : chain_read n ≡ o.head ++ (g2 ++ v) =
      of_new.read ∙ ap (λ (l : List Record). o.head ++ (g0 ++ changes_of (last_item g0) (gifts c l right))) (new-split ∙ ap (λ (ys : List Record). part ++ ys) w.is)
      ∙ ap (λ (l : List ℕ). o.head ++ l) (end-read c g0 part r bs right q new-t w.upper tail.0 tail.1 ∙ ap (λ (l : List ℕ). l ++ v) until) in
      let first = o.head ++ ends.0 in
      let placed : old ≡ first ++ (q ∷ v) =
      old-read ∙ ap (λ (l : List ℕ). o.head ++ (l ++ v)) ends.1 ∙ ap (λ (l : List ℕ). o.head ++ l) (append_assoc ends.0 (q ∷ []) v) ∙ sym (append_assoc o.head ends.0 (q ∷ v)) in
      let end-is : end ≡ length first + 1 = w.here first v placed (once-before first v q (subst IsOnce placed once)) in
      let cut : old ≡ (first ++ q ∷ []) ++ v = placed ∙ sym (append_assoc first (q ∷ []) v) in
      let long : length (first ++ q ∷ []) ≡ end = length-append first (q ∷ []) ∙ sym end-is in
      let counted = o.counted in
      let heads : length first ≡ length o.head + length ends.0 = length-append o.head ends.0 in
      let all : length old ≡ length (first ++ q ∷ []) + length v = ap length cut ∙ length-append (first ++ q ∷ []) v in
      record {
        ordered = omega (arith, end-is, heads, counted);
        within = omega (arith, all, long);
        new_is = new-read ∙ ap₂ (λ (x y : List ℕ). x ++ (g2 ++ y)) (sym (stays (old-until ++ v) old-read)) (sym (ap₂ (λ (i : ℕ) (l : List ℕ). drop i l) (sym long) cut ∙ drop-append_seam (first ++ q ∷ []) v));
      }

-- ---- what two lists share
-- two lists are alike where they share records, with the end beside them
pub alike_where : (old new : Remembered) (v w : Shared) {e f : End} → old.left ≡ Some e → IsThreaded (first_cell e) old.records → new.left ≡ Some f → IsThreaded (first_cell f) new.records → AreShared w old.records new.records
    → v.front ≤ w.front → v.back ≤ w.back → (0 < v.front → old.left ≡ new.left) → (0 < v.back → AreSameEnds old.right new.right) → AreAlike old new v.front v.back
alike_where old new v w {e} {f} left t left' t' k front back same-left same-right = record {
  old_end = e;
  new_end = f;
  old_left = left;
  new_left = left';
  left = λ some. let both : Some e ≡ Some f = sym left ∙ same-left some ∙ left' in cc;
  right = same-right;
  old_threaded = t;
  new_threaded = t';
  old_room = let r = k.room in omega (arith, r, front, back);
  new_room = let r = k.other_room in omega (arith, r, front, back);
  in_front = same-takes old.records new.records v.front (let r = k.room in omega (arith, r, front)) (let r = k.other_room in omega (arith, r, front)) (λ j l. k.front_is j (omega (arith, l, front)));
  at_end = same-drops old.records new.records v.back (let r = k.room in omega (arith, r, back)) (let r = k.other_room in omega (arith, r, back)) (λ j l. k.back_is j (omega (arith, l, back)));
}
