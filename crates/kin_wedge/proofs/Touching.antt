-- Touches that are added.
use Rattle.std.proofs.Common.{◌≡◌, ◌≢◌, ◌+◌, ◌*◌, ◌<◌, ◌≤◌, None, refl, sym, ap, ◌∙◌, ◌-◌, Bool, true, false, cond, subst, List, [], ◌∷◌, ◌++◌, ℕ, Some, Option, inl, inr, ◌⊎◌, arith}
use Rattle.std.specs.Prelude.{Contains, slice_get}
use Rattle.std.proofs.lemmas.Bool.{cases_eq, both_ways}
use Rattle.std.proofs.lemmas.List.Elements.{Contains-append_left}
use Rattle.kin_algebra.proofs.Members.{contains_tail, contains_cases}
use Rattle.kin_motion.specs.Octants.{Octant, Reading, forward, back, octants}
use Rattle.kin_motion.specs.Records.{stands_before}
use Rattle.kin_motion.specs.Sets.{AreDistinct}
use Rattle.kin_wedge.specs.declared.touch.Touch.{Touch}
use Rattle.kin_wedge.specs.Rows.{row_of, stands_after}
use Rattle.kin_wedge.specs.Sides.{bounded_first, bounded_second}
use Rattle.kin_wedge.specs.Touched.{IsOffered, MayGain, AreKnown, HasTouched, HasOfferedBoth, AreLeft, IsOfferedIn, IsOfferedWithin, IsBoundedAs, IsBoundedBy, IsLeftOut, HasPassedBy}
use Rattle.kin_wedge.proofs.Halves.{bounded_as, bounds_low, read_by, third_high}
use Rattle.kin_wedge.proofs.Passing.{turned_false}

at_end : (xs : List Touch) (y : Touch) → Contains (xs ++ y ∷ []) y
at_end [] y = (0, omega arith, refl)
at_end (z ∷ zs) y = contains_tail z y (zs ++ y ∷ []) (at_end zs y)

front_or_end : (xs : List Touch) (y x : Touch) → Contains (xs ++ y ∷ []) x → Contains xs x ⊎ (y ≡ x)
front_or_end [] y x h = at (contains_cases y x [] h)
  where
    at : (y ≡ x) ⊎ Contains [] x → Contains [] x ⊎ (y ≡ x)
    at (inl e) = inr e
    at (inr k) = inl k
front_or_end (z ∷ zs) y x h = at (contains_cases z x (zs ++ y ∷ []) h) (front_or_end zs y x)
  where
    at : (z ≡ x) ⊎ Contains (zs ++ y ∷ []) x → (Contains (zs ++ y ∷ []) x → Contains zs x ⊎ (y ≡ x)) → Contains (z ∷ zs) x ⊎ (y ≡ x)
    at (inl e) rest = inl (0, omega arith, e)
    at (inr k) rest = more (rest k)
      where
        more : Contains zs x ⊎ (y ≡ x) → Contains (z ∷ zs) x ⊎ (y ≡ x)
        more (inl m) = inl (contains_tail z x zs m)
        more (inr e) = inr e

pub touched_more : (candidates : List (Option ℕ)) (old : List Touch) (t : Touch) → slice_get candidates t.slot ≡ Some t.old → HasTouched candidates old (old ++ t ∷ [])
touched_more candidates old t e = record {
  keeps = λ slot x h. (h.0, Contains-append_left old (t ∷ []) h.0 h.1, h.2, h.3);
  known = λ k u h. at u (front_or_end old t u h) k;
}
  where
    at : (u : Touch) → Contains old u ⊎ (t ≡ u) → AreKnown candidates old → slice_get candidates u.slot ≡ Some u.old
    at u (inl h) k = k u h
    at u (inr s) k = subst (λ (v : Touch). slice_get candidates v.slot ≡ Some v.old) s e

pub offered_last : (old : List Touch) (t : Touch) → IsOffered (old ++ t ∷ []) t.slot t.offer
offered_last old t = (t, at_end old t, refl, refl)

pub touched_none : (candidates : List (Option ℕ)) (ts : List Touch) → HasTouched candidates ts ts
touched_none candidates ts = record { keeps = λ slot x h. h; known = λ k. k }

pub touched_through : (candidates : List (Option ℕ)) (a b c : List Touch) → HasTouched candidates a b → HasTouched candidates b c → HasTouched candidates a c
touched_through candidates a b c h k = record { keeps = λ slot x m. k.keeps slot x (h.keeps slot x m); known = λ m. k.known (h.known m) }

-- the slots of an apex below an octant are to be looked up
pub record AreLookedUp (candidates : List (Option ℕ)) (first now : List Touch) (apex w : ℕ) : Type 0 where
  pub offered : (v : ℕ) → v < w → IsOffered now (8 * apex + v) None
  pub touched : HasTouched candidates first now

pub looked_up_none : (candidates : List (Option ℕ)) (first : List Touch) (apex : ℕ) → AreLookedUp candidates first first apex 0
looked_up_none candidates first apex = record { offered = λ v h. absurd (omega (arith, h)); touched = touched_none candidates first }

pub looked_up_more : (candidates : List (Option ℕ)) (first now next : List Touch) (apex w : ℕ) → AreLookedUp candidates first now apex w → IsOffered next (8 * apex + w) None → HasTouched candidates now next → AreLookedUp candidates first next apex (w + 1)
looked_up_more candidates first now next apex w a o t = record {
  offered = λ v h. at v (cases_eq v w) h;
  touched = touched_through candidates first now next a.touched t;
}
  where
    at : (v : ℕ) → (v ≡ w) ⊎ (v ≢ w) → v < w + 1 → IsOffered next (8 * apex + v) None
    at v (inl e) h = subst (λ (n : ℕ). IsOffered next (8 * apex + n) None) (sym e) o
    at v (inr n) h = t.keeps (8 * apex + v) None (a.offered v (omega (arith, h, n)))

-- the two slots of an apex in the octants that an order as it is read bounds are looked up where a number was the candidate
pub left_in_both : (candidates : List (Option ℕ)) (first both : List Touch) (r : Reading) (apex hit v w : ℕ) → bounded_first r ≡ v → bounded_second r ≡ w → HasTouched candidates first both
    → (slice_get candidates (8 * apex + v) ≡ Some (Some hit) → IsOffered first (8 * apex + v) None) → (slice_get candidates (8 * apex + w) ≡ Some (Some hit) → IsOffered both (8 * apex + w) None) → AreLeft candidates both r apex hit
left_in_both candidates first both r apex hit v w e f t in_first in_second n o here bound held = at (bounded_as n o r here bound)
  where
    at : (bounded_first r ≡ n) ⊎ (bounded_second r ≡ n) → IsOffered both (8 * apex + n) None
    at (inl k) =
        let same : v ≡ n = sym e ∙ k in
        subst (λ (x : ℕ). IsOffered both (8 * apex + x) None) same (t.keeps (8 * apex + v) None (in_first (subst (λ (x : ℕ). slice_get candidates (8 * apex + x) ≡ Some (Some hit)) (sym same) held)))
    at (inr k) =
        let same : w ≡ n = sym f ∙ k in
        subst (λ (x : ℕ). IsOffered both (8 * apex + x) None) same (in_second (subst (λ (x : ℕ). slice_get candidates (8 * apex + x) ≡ Some (Some hit)) (sym same) held))

-- of two members of which the second stands behind the first, either can have gone from the octants that read the order the other way
module _ (rows : List (List ℕ)) (apart : (part : ℕ) → AreDistinct (row_of rows part)) (candidates : List (Option ℕ)) (ts : List Touch) (part p q : ℕ) (behind : stands_before (row_of rows part) p q ≡ true) where
  before : stands_before (row_of rows part) q p ≡ false
  before = turned_false (row_of rows part) (apart part) p q behind

  pub gone_behind : AreLeft candidates ts (back part) p q → (w : ℕ) (o : Octant) → slice_get octants w ≡ Some o → IsLeftOut rows o part p q → slice_get candidates (8 * p + w) ≡ Some (Some q) → IsOffered ts (8 * p + w) None
  gone_behind again w o here left held = at left.from_end left.bound left.out
    where
      at : (b : Bool) → IsBoundedAs o (record { part = part; from_end = b }) → stands_after rows (record { part = part; from_end = b }) p q ≡ false → IsOffered ts (8 * p + w) None
      at true bound out = again w o here bound held
      at false bound out = absurd (both_ways (stands_before (row_of rows part) p q) out behind)

  pub gone_before : AreLeft candidates ts (forward part) q p → (w : ℕ) (o : Octant) → slice_get octants w ≡ Some o → IsLeftOut rows o part q p → slice_get candidates (8 * q + w) ≡ Some (Some p) → IsOffered ts (8 * q + w) None
  gone_before again w o here left held = at left.from_end left.bound left.out
    where
      at : (b : Bool) → IsBoundedAs o (record { part = part; from_end = b }) → stands_after rows (record { part = part; from_end = b }) q p ≡ false → IsOffered ts (8 * q + w) None
      at true bound out = absurd (both_ways (stands_before (row_of rows part) p q) out behind)
      at false bound out = again w o here bound held

-- what is offered of an exchange stays offered
pub offered_stays : (rows : List (List ℕ)) (candidates : List (Option ℕ)) (now next : List Touch) (part a b : ℕ) → HasTouched candidates now next → HasOfferedBoth rows candidates part a b now → HasOfferedBoth rows candidates part a b next
offered_stays rows candidates now next part a b t h = (
  record { comes = λ w o e k m. gains _ _ (h.0.comes w o e k m); goes = λ w o e k m. t.keeps _ _ (h.0.goes w o e k m); ranked = λ apex w o e p k m. gains _ _ (h.0.ranked apex w o e p k m) },
  record { comes = λ w o e k m. gains _ _ (h.1.comes w o e k m); goes = λ w o e k m. t.keeps _ _ (h.1.goes w o e k m); ranked = λ apex w o e p k m. gains _ _ (h.1.ranked apex w o e p k m) },
)
  where
    gains : (slot q : ℕ) → MayGain now slot q → MayGain next slot q
    gains slot q (inl x) = inl (t.keeps slot (Some q) x)
    gains slot q (inr x) = inr (t.keeps slot None x)

-- what is offered to the slots whose candidate a number is in the octants that an order ranks
abbrev pub IsOfferedBeside : List (List ℕ) → List (Option ℕ) → List Touch → ℕ → ℕ → ℕ → Type 0
IsOfferedBeside rows candidates ts part a b = (apex w : ℕ) (o : Octant) → slice_get octants w ≡ Some o → o.third.part ≡ part → slice_get candidates (8 * apex + w) ≡ Some (Some a) → HasPassedBy rows o apex a b → IsOffered ts (8 * apex + w) (Some b)

module _ (rows : List (List ℕ)) (candidates : List (Option ℕ)) (s t : List Touch) (part a b : ℕ) (h : HasTouched candidates s t) where
  -- it is offered in each of the two octants that the order ranks, where the other doesn't stand before it as the octant reads the order
  pub both_read : (stands_before (row_of rows part) a b ≡ false → IsOfferedIn rows candidates s (part - 4) a b) → (stands_before (row_of rows part) b a ≡ false → IsOfferedIn rows candidates t part a b) → IsOfferedBeside rows candidates t part a b
  both_read front back apex w o e p k m = at (read_by w o e)
    where
      read : (from_end : Bool) → o.third.from_end ≡ from_end → cond from_end (stands_before (row_of rows part) b a) (stands_before (row_of rows part) a b) ≡ false
      read from_end f = subst (λ (n : ℕ). cond from_end (stands_before (row_of rows n) b a) (stands_before (row_of rows n) a b) ≡ false) p (subst (λ (x : Bool). cond x (stands_before (row_of rows o.third.part) b a) (stands_before (row_of rows o.third.part) a b) ≡ false) f m.1)

      at : ((w + 4 ≡ o.third.part) × (o.third.from_end ≡ false)) ⊎ ((w ≡ o.third.part) × (o.third.from_end ≡ true)) → IsOffered t (8 * apex + w) (Some b)
      at (inl r) =
          let here : part - 4 ≡ w = let z = r.0 in omega (arith, z, p) in
          h.keeps _ _ (subst (λ (n : ℕ). IsOfferedIn rows candidates s n a b) here (front (read false r.1)) apex o e k m.0)
      at (inr r) = subst (λ (n : ℕ). IsOfferedIn rows candidates t n a b) (sym (r.0 ∙ p)) (back (read true r.1)) apex o e k m.0

  -- the last four orders bound no octant
  pub both_beside : 4 ≤ part → IsOfferedBeside rows candidates s part a b → IsOfferedBeside rows candidates t part b a → HasOfferedBoth rows candidates part a b t
  both_beside large p q = (
    record { comes = λ w o e k. absurd (bounds_none w o e k); goes = λ w o e k. absurd (left_none w o k.from_end e k.bound); ranked = λ apex w o e r k m. inl (h.keeps _ _ (p apex w o e r k m)) },
    record { comes = λ w o e k. absurd (bounds_none w o e k); goes = λ w o e k. absurd (left_none w o k.from_end e k.bound); ranked = λ apex w o e r k m. inl (q apex w o e r k m) },
  )
    where
      bounds_none : (w : ℕ) (o : Octant) → slice_get octants w ≡ Some o → IsBoundedBy o part → ⊥
      bounds_none w o e (inl k) = let low = (bounds_low w o e).0 in omega (arith, large, low, k)
      bounds_none w o e (inr k) = let low = (bounds_low w o e).1 in omega (arith, large, low, k)

      left_none : (w : ℕ) (o : Octant) (from_end : Bool) → slice_get octants w ≡ Some o → IsBoundedAs o (record { part = part; from_end = from_end }) → ⊥
      left_none w o b e (inl k) = bounds_none w o e (inl (ap (λ (r : Reading). r.part) k))
      left_none w o b e (inr k) = bounds_none w o e (inr (ap (λ (r : Reading). r.part) k))

-- the first four orders rank no octant
pub both_within : (rows : List (List ℕ)) (candidates : List (Option ℕ)) (ts : List Touch) (part a b : ℕ) → part < 4 → IsOfferedWithin rows candidates ts part a b → IsOfferedWithin rows candidates ts part b a
    → ((w : ℕ) (o : Octant) → slice_get octants w ≡ Some o → IsLeftOut rows o part a b → slice_get candidates (8 * a + w) ≡ Some (Some b) → IsOffered ts (8 * a + w) None)
    → ((w : ℕ) (o : Octant) → slice_get octants w ≡ Some o → IsLeftOut rows o part b a → slice_get candidates (8 * b + w) ≡ Some (Some a) → IsOffered ts (8 * b + w) None) → HasOfferedBoth rows candidates part a b ts
both_within rows candidates ts part a b small p q f g = (
  record { comes = λ w o e k m. inl (p w o e k m); goes = f; ranked = λ apex w o e r. absurd (let high = third_high w o e in omega (arith, small, high, r)) },
  record { comes = λ w o e k m. inl (q w o e k m); goes = g; ranked = λ apex w o e r. absurd (let high = third_high w o e in omega (arith, small, high, r)) },
)

-- of two members of which the second stands behind the first, either is offered to the slots of the other in the octant where it has passed it by
pub both_past : (rows : List (List ℕ)) (apart : (part : ℕ) → AreDistinct (row_of rows part)) (candidates : List (Option ℕ)) (s t : List Touch) (part p q : ℕ) → stands_before (row_of rows part) p q ≡ true → HasTouched candidates s t → 4 ≤ part
    → IsOfferedIn rows candidates s (part - 4) q p → IsOfferedIn rows candidates t part p q → HasOfferedBoth rows candidates part p q t
both_past rows apart candidates s t part p q behind h large front back =
    both_beside rows candidates t t part p q (touched_none candidates t) large
    (both_read rows candidates t t part p q (touched_none candidates t) (λ f. absurd (both_ways (stands_before (row_of rows part) p q) f behind)) (λ f. back))
    (both_read rows candidates s t part q p h (λ f. front) (λ f. absurd (both_ways (stands_before (row_of rows part) p q) f behind)))

-- the two of an exchange either way round
pub either_way : (rows : List (List ℕ)) (candidates : List (Option ℕ)) (ts : List Touch) (part a b p q : ℕ) → ((p ≡ a) × (q ≡ b)) ⊎ ((p ≡ b) × (q ≡ a)) → HasOfferedBoth rows candidates part p q ts → HasOfferedBoth rows candidates part a b ts
either_way rows candidates ts part a b p q (inl e) h = subst (λ (x : ℕ). HasOfferedBoth rows candidates part a x ts) e.1 (subst (λ (x : ℕ). HasOfferedBoth rows candidates part x q ts) e.0 h)
either_way rows candidates ts part a b p q (inr e) h =
    let k : HasOfferedBoth rows candidates part b a ts = subst (λ (x : ℕ). HasOfferedBoth rows candidates part b x ts) e.1 (subst (λ (x : ℕ). HasOfferedBoth rows candidates part x q ts) e.0 h) in
    (k.1, k.0)
