-- The first four orders bound the octants, and the last four rank their members.
use Rattle.std.proofs.Common.{◌≡◌, refl, sym, ap, ◌∙◌, subst, arith, ℕ, zero, suc, ◌+◌, ◌%◌, ◌<◌, ◌≤◌, Some, true, false, inl, inr, ◌⊎◌}
use Rattle.std.specs.Prelude.{slice_get}
use Rattle.kin_motion.specs.Octants.{Octant, Reading, forward, octants}
use Rattle.kin_wedge.specs.Sides.{bounded_first, bounded_second}
use Rattle.kin_wedge.specs.Touched.{IsBoundedAs}

-- the orders of an octant by their halves
record IsSplit (w : ℕ) (o : Octant) : Type 0 where
  pub bounds : (o.first.part < 4) × (o.second.part < 4)
  pub third : 4 ≤ o.third.part
  pub rank : o.third.part ≡ w % 4 + 4
  pub first : bounded_first o.first ≡ w
  pub second : bounded_second o.second ≡ w
  pub read : ((w + 4 ≡ o.third.part) × (o.third.from_end ≡ false)) ⊎ ((w ≡ o.third.part) × (o.third.from_end ≡ true))

same_split : (w : ℕ) (a o : Octant) → IsSplit w a → Some a ≡ Some o → IsSplit w o
same_split w a o h e = let same : a ≡ o = cc in subst (IsSplit w) same h

split : (w : ℕ) (o : Octant) → slice_get octants w ≡ Some o → IsSplit w o
split zero o e = same_split _ _ o (record { bounds = (omega arith, omega arith); third = omega arith; rank = refl; first = refl; second = refl; read = inl (refl, refl) }) e
split (suc zero) o e = same_split _ _ o (record { bounds = (omega arith, omega arith); third = omega arith; rank = refl; first = refl; second = refl; read = inl (refl, refl) }) e
split (suc (suc zero)) o e = same_split _ _ o (record { bounds = (omega arith, omega arith); third = omega arith; rank = refl; first = refl; second = refl; read = inl (refl, refl) }) e
split (suc (suc (suc zero))) o e = same_split _ _ o (record { bounds = (omega arith, omega arith); third = omega arith; rank = refl; first = refl; second = refl; read = inl (refl, refl) }) e
split (suc (suc (suc (suc zero)))) o e = same_split _ _ o (record { bounds = (omega arith, omega arith); third = omega arith; rank = refl; first = refl; second = refl; read = inr (refl, refl) }) e
split (suc (suc (suc (suc (suc zero))))) o e = same_split _ _ o (record { bounds = (omega arith, omega arith); third = omega arith; rank = refl; first = refl; second = refl; read = inr (refl, refl) }) e
split (suc (suc (suc (suc (suc (suc zero)))))) o e = same_split _ _ o (record { bounds = (omega arith, omega arith); third = omega arith; rank = refl; first = refl; second = refl; read = inr (refl, refl) }) e
split (suc (suc (suc (suc (suc (suc (suc zero))))))) o e = same_split _ _ o (record { bounds = (omega arith, omega arith); third = omega arith; rank = refl; first = refl; second = refl; read = inr (refl, refl) }) e
split (suc (suc (suc (suc (suc (suc (suc (suc w)))))))) o e = absurd cc

-- the octant of which an order from the front is the first bound, or the second
reads_first : (r : Reading) (a o : Octant) → a.first ≡ r → Some a ≡ Some o → o.first ≡ r
reads_first r a o h e = let same : a ≡ o = cc in subst (λ (x : Octant). x.first ≡ r) same h

reads_second : (r : Reading) (a o : Octant) → a.second ≡ r → Some a ≡ Some o → o.second ≡ r
reads_second r a o h e = let same : a ≡ o = cc in subst (λ (x : Octant). x.second ≡ r) same h

pub first_read : (part : ℕ) (o : Octant) → part < 4 → slice_get octants (bounded_first (forward part)) ≡ Some o → o.first ≡ forward part
first_read zero o l e = reads_first _ _ o refl e
first_read (suc zero) o l e = reads_first _ _ o refl e
first_read (suc (suc zero)) o l e = reads_first _ _ o refl e
first_read (suc (suc (suc zero))) o l e = reads_first _ _ o refl e
first_read (suc (suc (suc (suc part)))) o l e = absurd (omega (arith, l))

pub second_read : (part : ℕ) (o : Octant) → part < 4 → slice_get octants (bounded_second (forward part)) ≡ Some o → o.second ≡ forward part
second_read zero o l e = reads_second _ _ o refl e
second_read (suc zero) o l e = reads_second _ _ o refl e
second_read (suc (suc zero)) o l e = reads_second _ _ o refl e
second_read (suc (suc (suc zero))) o l e = reads_second _ _ o refl e
second_read (suc (suc (suc (suc part)))) o l e = absurd (omega (arith, l))

pub first_of : (w : ℕ) (o : Octant) → slice_get octants w ≡ Some o → bounded_first o.first ≡ w
first_of w o e = (split w o e).first

pub second_of : (w : ℕ) (o : Octant) → slice_get octants w ≡ Some o → bounded_second o.second ≡ w
second_of w o e = (split w o e).second

pub bounds_low : (w : ℕ) (o : Octant) → slice_get octants w ≡ Some o → (o.first.part < 4) × (o.second.part < 4)
bounds_low w o e = (split w o e).bounds

pub third_high : (w : ℕ) (o : Octant) → slice_get octants w ≡ Some o → 4 ≤ o.third.part
third_high w o e = (split w o e).third

pub ranked_by : (w : ℕ) (o : Octant) → slice_get octants w ≡ Some o → o.third.part ≡ w % 4 + 4
ranked_by w o e = (split w o e).rank

-- of the two octants that an order ranks, one reads it from the front and one from the end
pub read_by : (w : ℕ) (o : Octant) → slice_get octants w ≡ Some o → ((w + 4 ≡ o.third.part) × (o.third.from_end ≡ false)) ⊎ ((w ≡ o.third.part) × (o.third.from_end ≡ true))
read_by w o e = (split w o e).read

-- an octant is the one of which its first order is the first bound, and the one of which its second is the second
pub bounded_as : (w : ℕ) (o : Octant) (r : Reading) → slice_get octants w ≡ Some o → IsBoundedAs o r → (bounded_first r ≡ w) ⊎ (bounded_second r ≡ w)
bounded_as w o r e (inl k) = inl (ap bounded_first (sym k) ∙ (split w o e).first)
bounded_as w o r e (inr k) = inr (ap bounded_second (sym k) ∙ (split w o e).second)
