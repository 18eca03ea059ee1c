-- Two members in an order that bounds octants, of which one stands behind the other.
use Rattle.std.proofs.Common.{◌≡◌, ◌≢◌, refl, sym, ap, ◌∙◌, subst, arith, List, ℕ, ◌+◌, ◌%◌, ◌<◌, Bool, true, false, cond, Some, None, inl, inr, ◌⊎◌}
use Rattle.std.specs.Prelude.{slice_get}
use Rattle.std.proofs.lemmas.Bool.{and_parts, both_ways}
use Rattle.std.proofs.lemmas.Option.{same_Some}
use Rattle.kin_algebra.proofs.Places.{get_within}
use Rattle.kin_motion.specs.Records.{stands_before}
use Rattle.kin_motion.specs.Numbers.{is_in}
use Rattle.kin_motion.specs.Octants.{Octant, Reading, forward, octants}
use Rattle.kin_motion.specs.Sets.{AreDistinct}
use Rattle.kin_wedge.specs.declared.sides.Sides.{Sides}
use Rattle.kin_wedge.specs.Rows.{row_of, is_in_wedge, stands_after, AreAlike, AreRows}
use Rattle.kin_wedge.specs.Sides.{bounded_first, bounded_second, AreParted, AreSides}
use Rattle.kin_wedge.specs.Touched.{IsBoundedBy}
use Rattle.kin_wedge.proofs.Facing.{facing, bounded_across}
use Rattle.kin_wedge.proofs.Halves.{first_of, second_of, first_read, second_read}
use Rattle.kin_wedge.proofs.Places.{before_through_list, never_before_self}

-- never both ways round
pub turned_false : (xs : List ℕ) → AreDistinct xs → (p q : ℕ) → stands_before xs p q ≡ true → stands_before xs q p ≡ false
turned_false xs apart p q h = at (stands_before xs q p) refl
  where
    at : (b : Bool) → stands_before xs q p ≡ b → b ≡ false
    at true e = absurd (never_before_self xs apart p (before_through_list xs apart p q p h e))
    at false e = refl

-- of two different members that do not stand one way round, they stand the other
pub otherwise : (xs : List ℕ) → AreDistinct xs → (p q : ℕ) → stands_before xs p q ≡ false → (p ≡ q) ⊎ ((stands_before xs p q ≡ true) ⊎ (stands_before xs q p ≡ true)) → p ≢ q → stands_before xs q p ≡ true
otherwise xs apart p q f (inl e) n = absurd (n e)
otherwise xs apart p q f (inr (inl t)) n = absurd (both_ways (stands_before xs p q) f t)
otherwise xs apart p q f (inr (inr t)) n = t

module _ (rows : List (List ℕ)) (parted : AreParted rows) (p q : ℕ) where
  sides : Sides
  sides = record { y = stands_before (row_of rows 0) p q; difference = stands_before (row_of rows 1) p q; x = stands_before (row_of rows 2) p q; sum = stands_before (row_of rows 3) p q }

  -- no number is in two octants
  pub one_octant : (w v : ℕ) (o r : Octant) → slice_get octants w ≡ Some o → slice_get octants v ≡ Some r → is_in_wedge rows o p q ≡ true → is_in_wedge rows r p q ≡ true → w ≡ v
  unfolding sides
  one_octant w v o r e f h k =
      let are : AreSides rows p q sides = record { y = refl; difference = refl; x = refl; sum = refl } in
      sym (parted w p q o sides e are h) ∙ parted v p q r sides f are k

module _ (rows : List (List ℕ)) (are : AreRows rows) (part p q : ℕ) (low : part < 4) (behind : stands_before (row_of rows part) p q ≡ true) where
  -- as an order is read in which q comes after p
  as_front : (r : Reading) → r.part ≡ part → stands_after rows r p q ≡ true → r ≡ forward part
  as_front r e = at r.part r.from_end e
    where
      at : (n : ℕ) (b : Bool) → n ≡ part → cond b (stands_before (row_of rows n) q p) (stands_before (row_of rows n) p q) ≡ true → record { part = n; from_end = b } ≡ forward part
      at n true e h = absurd (both_ways (stands_before (row_of rows part) q p) (turned_false (row_of rows part) (are.apart part) p q behind) (subst (λ (m : ℕ). stands_before (row_of rows m) q p ≡ true) e h))
      at n false e h = ap (λ (m : ℕ). forward m) e

  -- who is in an octant that the order bounds is in one of two
  pub record IsOneOfTwo (w : ℕ) (o : Octant) : Type 0 where
    pub which : ((w ≡ bounded_first (forward part)) × (stands_after rows o.second p q ≡ true)) ⊎ ((w ≡ bounded_second (forward part)) × (stands_after rows o.first p q ≡ true))

  pub one_of_two : (w : ℕ) (o : Octant) → slice_get octants w ≡ Some o → IsBoundedBy o part → is_in_wedge rows o p q ≡ true → IsOneOfTwo w o
  one_of_two w o e (inl k) h =
      let m = and_parts _ _ h in
      record { which = inl (sym (first_of w o e) ∙ ap bounded_first (as_front o.first k m.0), m.1) }
  one_of_two w o e (inr k) h =
      let m = and_parts _ _ h in
      record { which = inr (sym (second_of w o e) ∙ ap bounded_second (as_front o.second k m.1), m.0) }

  -- who is behind in both borders is in the octant
  pub in_first : (w : ℕ) (o : Octant) → w ≡ bounded_first (forward part) → slice_get octants w ≡ Some o → stands_after rows o.second p q ≡ true → is_in_wedge rows o p q ≡ true
  in_first w o s e h =
      let read = first_read part o low (ap (slice_get octants) (sym s) ∙ e) in
      let first : stands_after rows o.first p q ≡ true = subst (λ (r : Reading). stands_after rows r p q ≡ true) (sym read) behind in
      cc

  pub in_second : (w : ℕ) (o : Octant) → w ≡ bounded_second (forward part) → slice_get octants w ≡ Some o → stands_after rows o.first p q ≡ true → is_in_wedge rows o p q ≡ true
  in_second w o s e h =
      let read = second_read part o low (ap (slice_get octants) (sym s) ∙ e) in
      let second : stands_after rows o.second p q ≡ true = subst (λ (r : Reading). stands_after rows r p q ≡ true) (sym read) behind in
      cc

  -- so it is in the octant that is told
  module _ (parted : AreParted rows) (v : ℕ) (r : Octant) (first : v ≡ bounded_first (forward part)) (there : slice_get octants v ≡ Some r) where
    pub told_first : stands_after rows r.second p q ≡ true → (w : ℕ) (o : Octant) → slice_get octants w ≡ Some o → IsBoundedBy o part → is_in_wedge rows o p q ≡ true → Some v ≡ Some w
    told_first h w o e bound k = ap (λ (n : ℕ). Some n) (one_octant rows parted p q v w r o there e (in_first v r first there h) k)

    -- it isn't in the first of the two
    in_other : stands_after rows r.second p q ≡ false → (w : ℕ) (o : Octant) → slice_get octants w ≡ Some o → IsBoundedBy o part → is_in_wedge rows o p q ≡ true → (w ≡ bounded_second (forward part)) × (stands_after rows o.first p q ≡ true)
    in_other h w o e bound k = at (one_of_two w o e bound k).which
      where
        at : ((w ≡ bounded_first (forward part)) × (stands_after rows o.second p q ≡ true)) ⊎ ((w ≡ bounded_second (forward part)) × (stands_after rows o.first p q ≡ true)) → (w ≡ bounded_second (forward part)) × (stands_after rows o.first p q ≡ true)
        at (inl m) =
            let same : o ≡ r = same_Some o r (sym e ∙ ap (slice_get octants) (m.0 ∙ sym first) ∙ there) in
            absurd (both_ways (stands_after rows r.second p q) h (subst (λ (x : Octant). stands_after rows x.second p q ≡ true) same m.1))
        at (inr m) = m

    module _ (u : ℕ) (t : Octant) (second : u ≡ bounded_second (forward part)) (across : slice_get octants u ≡ Some t) where
      pub told_second : stands_after rows r.second p q ≡ false → (w : ℕ) (o : Octant) → slice_get octants w ≡ Some o → IsBoundedBy o part → is_in_wedge rows o p q ≡ true → Some u ≡ Some w
      told_second h w o e bound k = ap (λ (n : ℕ). Some n) (second ∙ sym (in_other h w o e bound k).0)

      pub told_none : stands_after rows r.second p q ≡ false → stands_after rows t.first p q ≡ false → (w : ℕ) (o : Octant) → slice_get octants w ≡ Some o → IsBoundedBy o part → is_in_wedge rows o p q ≡ true → None ≡ Some w
      told_none h g w o e bound k =
          let m = in_other h w o e bound k in
          let same : o ≡ t = same_Some o t (sym e ∙ ap (slice_get octants) (m.0 ∙ sym second) ∙ across) in
          absurd (both_ways (stands_after rows t.first p q) g (subst (λ (x : Octant). stands_after rows x.first p q ≡ true) same m.1))

module _ (rows : List (List ℕ)) (p q : ℕ) where
  -- the opposite octant
  across_from : (w : ℕ) (o : Octant) → slice_get octants w ≡ Some o → (r : Octant) × (slice_get octants ((w + 4) % 8) ≡ Some r)
  across_from w o e = get_within octants ((w + 4) % 8) (omega arith)

  -- where q is in no octant of p that an order bounds, p is in none of q
  pub none_across : {A : Type 0} (part : ℕ) → ((w : ℕ) (o : Octant) → slice_get octants w ≡ Some o → IsBoundedBy o part → is_in_wedge rows o p q ≡ true → None ≡ Some w)
      → (w : ℕ) (o : Octant) → slice_get octants w ≡ Some o → IsBoundedBy o part → is_in_wedge rows o q p ≡ true → A
  none_across part none w o e bound h =
      let r = across_from w o e in
      let f = facing w o r.0 e r.1 in
      let c : None ≡ Some ((w + 4) % 8) = none ((w + 4) % 8) r.0 r.1 (bounded_across o r.0 part f bound) (f.within rows q p ∙ h) in
      absurd cc

  -- where q is in an octant of p, q is in no other, and p is in the opposite one of q
  module _ (parted : AreParted rows) (v : ℕ) (small : v < 8) (found : (o : Octant) → slice_get octants v ≡ Some o → is_in_wedge rows o p q ≡ true) where
    pub only_here : (w : ℕ) (o : Octant) → slice_get octants w ≡ Some o → is_in_wedge rows o p q ≡ true → v ≡ w
    only_here w o e h = let r = get_within octants v small in one_octant rows parted p q v w r.0 o r.1 e (found r.0 r.1) h

    pub only_across : (w : ℕ) (o : Octant) → slice_get octants w ≡ Some o → is_in_wedge rows o q p ≡ true → (v + 4) % 8 ≡ w
    only_across w o e h =
        let r = get_within octants v small in
        let t = across_from v r.0 r.1 in
        let f = facing v r.0 t.0 r.1 t.1 in
        one_octant rows parted q p ((v + 4) % 8) w t.0 o t.1 e (f.within rows p q ∙ found r.0 r.1) h

-- who stands in one of eight rows has slots, and stands in the others
module _ (rows : List (List ℕ)) (alike : AreAlike rows) (part x : ℕ) (small : part < 8) (here : is_in x (row_of rows part) ≡ true) where
  pub in_each : (n : ℕ) → n < 8 → is_in x (row_of rows n) ≡ true
  in_each n l = alike n x l ∙ sym (alike part x small) ∙ here
