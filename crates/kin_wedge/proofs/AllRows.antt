-- The eight rows follow their lists one after another.
use Rattle.std.proofs.Common.{◌≡◌, ◌≢◌, refl, sym, ap, ap₂, ◌∙◌, subst, arith, List, [], ◌∷◌, ℕ, zero, suc, ◌+◌, ◌<◌, ◌≤◌, Bool, true, false, cond, not, nat_eq, filter, map, set, length, Some, None, Option, inl, inr, ◌⊎◌}
use Rattle.std.specs.Prelude.{slice_get}
use Rattle.std.proofs.lemmas.Bool.{cases_eq}
use Rattle.std.proofs.lemmas.Bool.Decides.{nat_tests}
use Rattle.std.proofs.lemmas.List.{length-set, length-map, set-get_or, get_or-set_same, get_or-set_other}
use Rattle.std.proofs.lemmas.Option.{same_Some}
use Rattle.kin_algebra.proofs.Places.{get_within}
use Rattle.kin_list.specs.declared.mark.Mark.{Mark}
use Rattle.kin_list.specs.declared.mark.Mark.TheVariants.{Rest}
use Rattle.kin_list.specs.Listing.{Listing, staying, lasting, without}
use Rattle.kin_list.specs.Rows.{exchanged}
use Rattle.kin_wedge.specs.declared.touch.Touch.{Touch}
use Rattle.kin_wedge.specs.Parts.{swaps_of}
use Rattle.kin_wedge.specs.Passages.{AreExchangesOffered}
use Rattle.kin_wedge.specs.Rows.{row_of, WereExchanged}
use Rattle.kin_wedge.specs.Seen.{rows_of}
use Rattle.kin_wedge.specs.Touched.{HasTouched, HasOfferedBoth}
use Rattle.kin_wedge.proofs.Touching.{touched_none, touched_through, offered_stays}

-- the numbers other than one
kept_or_not : (who x : ℕ) (xs ys : List ℕ) → ys ≡ without who xs → (b : Bool) → nat_eq x who ≡ b → nat_eq who x ≡ b → cond (not (nat_eq x who)) (x ∷ ys) ys ≡ cond (nat_eq who x) (without who xs) (x ∷ without who xs)
kept_or_not who x xs ys e true f g = ap (λ (b : Bool). cond (not b) (x ∷ ys) ys) f ∙ e ∙ sym (ap (λ (b : Bool). cond b (without who xs) (x ∷ without who xs)) g)
kept_or_not who x xs ys e false f g = ap (λ (b : Bool). cond (not b) (x ∷ ys) ys) f ∙ ap (λ (zs : List ℕ). x ∷ zs) e ∙ sym (ap (λ (b : Bool). cond b (without who xs) (x ∷ without who xs)) g)

pub filter-others : (who : ℕ) (xs : List ℕ) → filter (λ x. not (nat_eq x who)) xs ≡ without who xs
filter-others who [] = refl
filter-others who (x ∷ xs) = kept_or_not who x xs (filter (λ x. not (nat_eq x who)) xs) (filter-others who xs) (nat_eq x who) refl (let e : nat_eq who x ≡ nat_eq x who = grind (arith, nat_tests) in e)

-- a row by what stands in its place
row_from : Option (List ℕ) → List ℕ
row_from None = []
row_from (Some xs) = xs

row_read : (rows : List (List ℕ)) (k : ℕ) → row_of rows k ≡ row_from (slice_get rows k)
unfolding row_from
row_read [] k = refl
row_read (r ∷ rs) zero = refl
row_read (r ∷ rs) (suc k) = row_read rs k

pub row_same : (old new : List (List ℕ)) (k : ℕ) → slice_get new k ≡ slice_get old k → row_of new k ≡ row_of old k
row_same old new k e = row_read new k ∙ ap row_from e ∙ sym (row_read old k)

pub row_there : (rows : List (List ℕ)) (k : ℕ) (r : List ℕ) → slice_get rows k ≡ Some r → row_of rows k ≡ r
unfolding row_from
row_there rows k r e = row_read rows k ∙ ap row_from e

pub row_past : (rows : List (List ℕ)) (k : ℕ) → length rows ≤ k → row_of rows k ≡ []
row_past [] k h = refl
row_past (r ∷ rs) zero h = absurd (omega (arith, h))
row_past (r ∷ rs) (suc k) h = row_past rs k (omega (arith, h))

get-mapped : (f : Listing → List ℕ) (ls : List Listing) (k : ℕ) (l : Listing) → slice_get ls k ≡ Some l → slice_get (map f ls) k ≡ Some (f l)
get-mapped f [] k l e = absurd cc
get-mapped f (m ∷ ms) zero l e = ap (λ (x : Listing). Some (f x)) (same_Some m l e)
get-mapped f (m ∷ ms) (suc k) l e = get-mapped f ms k l e

pub items_there : (ls : List Listing) (k : ℕ) (l : Listing) → slice_get ls k ≡ Some l → row_of (rows_of ls) k ≡ l.items
items_there ls k l e = row_there (rows_of ls) k l.items (get-mapped (λ (x : Listing). x.items) ls k l e)

items_from : Option Listing → List ℕ
items_from None = []
items_from (Some l) = l.items

items_read : (ls : List Listing) (k : ℕ) → row_of (rows_of ls) k ≡ items_from (slice_get ls k)
unfolding items_from
items_read [] k = refl
items_read (l ∷ ls) zero = refl
items_read (l ∷ ls) (suc k) = items_read ls k

pub items_same : (old new : List Listing) (k : ℕ) → slice_get new k ≡ slice_get old k → row_of (rows_of new) k ≡ row_of (rows_of old) k
items_same old new k e = items_read new k ∙ ap items_from e ∙ sym (items_read old k)

pub swaps_there : (ls : List Listing) (k : ℕ) (l : Listing) → slice_get ls k ≡ Some l → row_of (swaps_of ls) k ≡ l.swaps
swaps_there ls k l e = row_there (swaps_of ls) k l.swaps (get-mapped (λ (x : Listing). x.swaps) ls k l e)

-- rows with the same numbers
pub same_rows : (xs ys : List (List ℕ)) → length xs ≡ length ys → ((k : ℕ) → k < length xs → row_of xs k ≡ row_of ys k) → xs ≡ ys
same_rows [] [] l h = refl
same_rows [] (y ∷ ys) l h = absurd (omega (arith, l))
same_rows (x ∷ xs) [] l h = absurd (omega (arith, l))
same_rows (x ∷ xs) (y ∷ ys) l h = ap₂ (λ (r : List ℕ) (rs : List (List ℕ)). r ∷ rs) (h 0 (omega arith)) (same_rows xs ys (omega (arith, l)) (λ k w. h (suc k) (omega (arith, w))))

-- the first i rows are those of their lists
pub record AreFollowed (mark : Mark) (lists : List Listing) (candidates : List (Option ℕ)) (old now : List (List ℕ)) (first ts : List Touch) (i : ℕ) : Type 0 where
  pub count : length now ≡ length old
  pub done : (part : ℕ) → part < i → row_of now part ≡ row_of (rows_of lists) part
  pub left : (part : ℕ) → i ≤ part → row_of now part ≡ row_of old part
  pub offered : (part a b : ℕ) → part < i → WereExchanged (row_of (swaps_of lists) part) (staying mark (row_of old part)) a b → HasOfferedBoth (rows_of lists) candidates part a b ts
  pub touched : HasTouched candidates first ts

module _ (mark : Mark) (lists : List Listing) (candidates : List (Option ℕ)) (old : List (List ℕ)) (first : List Touch) where
  pub followed_none : (ts : List Touch) → HasTouched candidates first ts → AreFollowed mark lists candidates old old first ts 0
  followed_none ts t = record { count = refl; done = λ part h. absurd (omega (arith, h)); left = λ part h. refl; offered = λ part a b h. absurd (omega (arith, h)); touched = t }

  pub followed_more : (now : List (List ℕ)) (row : List ℕ) (ts us : List Touch) (i : ℕ) (l : Listing) → slice_get lists i ≡ Some l → i < length now → AreFollowed mark lists candidates old now first ts i → row ≡ l.items
      → ((a b : ℕ) → WereExchanged l.swaps (staying mark (row_of now i)) a b → HasOfferedBoth (rows_of lists) candidates i a b us) → HasTouched candidates ts us → AreFollowed mark lists candidates old (set now i row) first us (i + 1)
  followed_more now row ts us i l here w a e o t = record {
    count = length-set now i row ∙ a.count;
    done = λ part h. done part h (cases_eq part i);
    left = λ part h. get_or-set_other now i part row [] (λ s. omega (arith, s, h)) ∙ a.left part (omega (arith, h));
    offered = λ part x y h k. offered part x y h k (cases_eq part i);
    touched = touched_through candidates first ts us a.touched t;
  }
    where
      done : (part : ℕ) → part < i + 1 → (part ≡ i) ⊎ (part ≢ i) → row_of (set now i row) part ≡ row_of (rows_of lists) part
      done part h (inl s) = ap (row_of (set now i row)) s ∙ get_or-set_same now i row [] w ∙ e ∙ sym (items_there lists i l here) ∙ ap (row_of (rows_of lists)) (sym s)
      done part h (inr n) = get_or-set_other now i part row [] n ∙ a.done part (omega (arith, h, n))

      own : (x y : ℕ) → WereExchanged (row_of (swaps_of lists) i) (staying mark (row_of old i)) x y → HasOfferedBoth (rows_of lists) candidates i x y us
      own x y k = o x y (subst (λ (sw : List ℕ). WereExchanged sw (staying mark (row_of now i)) x y) (swaps_there lists i l here) (subst (λ (r : List ℕ). WereExchanged (row_of (swaps_of lists) i) (staying mark r) x y) (sym (a.left i (omega arith))) k))

      offered : (part x y : ℕ) → part < i + 1 → WereExchanged (row_of (swaps_of lists) part) (staying mark (row_of old part)) x y → (part ≡ i) ⊎ (part ≢ i) → HasOfferedBoth (rows_of lists) candidates part x y us
      offered part x y h k (inl s) = subst (λ (n : ℕ). HasOfferedBoth (rows_of lists) candidates n x y us) (sym s) (own x y (subst (λ (n : ℕ). WereExchanged (row_of (swaps_of lists) n) (staying mark (row_of old n)) x y) s k))
      offered part x y h k (inr n) = offered_stays (rows_of lists) candidates ts us part x y t (a.offered part x y (omega (arith, h, n)) k)

  -- a list that stands still is as its row was
  pub followed_still : (now : List (List ℕ)) (ts : List Touch) (i : ℕ) (l : Listing) → slice_get lists i ≡ Some l → i < length now → AreFollowed mark lists candidates old now first ts i
      → exchanged (row_of (swaps_of lists) i) (staying mark (row_of old i)) ≡ lasting mark (row_of (rows_of lists) i) → mark ≡ Rest → l.swaps ≡ [] → AreFollowed mark lists candidates old now first ts (i + 1)
  followed_still now ts i l here w a e rest still =
      subst (λ (rs : List (List ℕ)). AreFollowed mark lists candidates old rs first ts (i + 1)) (set-get_or now i [])
      (followed_more now (row_of now i) ts ts i l here w a same (λ x y k. absurd (subst (λ (sw : List ℕ). WereExchanged sw (staying mark (row_of now i)) x y) still k)) (touched_none candidates ts))
    where
      -- without a mark and an exchange both orders are one
      unmoved : (m : Mark) (xs ys : List ℕ) → m ≡ Rest → staying m xs ≡ lasting m ys → xs ≡ ys
      unmoved m xs ys r f = sym (ap (λ (n : Mark). staying n xs) r) ∙ f ∙ ap (λ (n : Mark). lasting n ys) r

      same : row_of now i ≡ l.items
      same =
          a.left i (omega arith)
          ∙ unmoved mark (row_of old i) (row_of (rows_of lists) i) rest (sym (ap (λ (sw : List ℕ). exchanged sw (staying mark (row_of old i))) (swaps_there lists i l here ∙ still)) ∙ e)
          ∙ items_there lists i l here

  -- the same of all lists from one to before another
  pub followed_past : (now : List (List ℕ)) (ts : List Touch) (n i j : ℕ) → n + i ≡ j → j ≤ length lists → length now ≡ length lists → ((part : ℕ) (l : Listing) → i ≤ part → part < j → slice_get lists part ≡ Some l → (mark ≡ Rest) × (l.swaps ≡ []))
      → ((part : ℕ) → exchanged (row_of (swaps_of lists) part) (staying mark (row_of old part)) ≡ lasting mark (row_of (rows_of lists) part)) → AreFollowed mark lists candidates old now first ts i → AreFollowed mark lists candidates old now first ts j
  followed_past now ts zero i j s w m still e a = subst (AreFollowed mark lists candidates old now first ts) (omega (arith, s)) a
  followed_past now ts (suc n) i j s w m still e a =
      let l = get_within lists i (omega (arith, s, w)) in
      let k = still i l.0 (omega arith) (omega (arith, s)) l.1 in
      followed_past now ts n (i + 1) j (omega (arith, s)) w m (λ part x h. still part x (omega (arith, h))) e
      (followed_still now ts i l.0 l.1 (omega (arith, s, w, m)) a (e i) k.0 k.1)

  pub followed_rows : (now : List (List ℕ)) (ts : List Touch) (i : ℕ) → length old ≡ 8 → length lists ≡ 8 → 8 ≤ i → AreFollowed mark lists candidates old now first ts i → now ≡ rows_of lists
  followed_rows now ts i m n h a =
      let c = a.count in
      let r = length-map lists (λ (x : Listing). x.items) in
      same_rows now (rows_of lists) (c ∙ m ∙ sym (r ∙ n)) (λ k w. a.done k (omega (arith, w, c, m, h)))

  pub followed_offers : (now : List (List ℕ)) (ts : List Touch) (i : ℕ) → length lists ≡ 8 → 8 ≤ i → AreFollowed mark lists candidates old now first ts i → AreExchangesOffered mark (swaps_of lists) old (rows_of lists) candidates ts
  followed_offers now ts i n h a = λ part x y k. at part x y k (cases_le part)
    where
      cases_le : (part : ℕ) → (part < i) ⊎ (8 ≤ part)
      cases_le part = grind (arith, h)

      at : (part x y : ℕ) → WereExchanged (row_of (swaps_of lists) part) (staying mark (row_of old part)) x y → (part < i) ⊎ (8 ≤ part) → HasOfferedBoth (rows_of lists) candidates part x y ts
      at part x y k (inl w) = a.offered part x y w k
      at part x y k (inr w) =
          let r = length-map lists (λ (l : Listing). l.swaps) in
          absurd (subst (λ (sw : List ℕ). WereExchanged sw (staying mark (row_of old part)) x y) (row_past (swaps_of lists) part (omega (arith, r, n, w))) k)
