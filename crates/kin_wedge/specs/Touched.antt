-- Slots whose candidate may change, and the numbers that are offered to them.
use Rattle.std.specs.Prelude.{◌≡◌, ℕ, ◌+◌, ◌*◌, ◌/◌, Bool, true, false, cond, nat_eq, List, [], ◌∷◌, Option, Some, None, Contains, slice_get, ◌⊎◌}
use Rattle.kin_motion.specs.Octants.{Octant, Reading, octants}
use Rattle.kin_wedge.specs.declared.touch.Touch.{Touch}
use Rattle.kin_wedge.specs.Rows.{is_in_wedge, stands_after, IsFirstAnswer}

-- what is offered to a slot, in order; `None` asks for a look-up
abbrev pub offers_for : ℕ → List Touch → List (Option ℕ)
offers_for slot [] = []
offers_for slot (t ∷ ts) = cond (nat_eq t.slot slot) (t.offer ∷ offers_for slot ts) (offers_for slot ts)

-- the offers bring the candidate of the slot of p to the first of the octant
pub record IsAwaited (rows : List (List ℕ)) (o : Octant) (p : ℕ) (now : Option ℕ) (offers : List (Option ℕ)) : Type 0 where
  pub good : (c q : ℕ) → now ≡ Some c → is_in_wedge rows o p c ≡ true → is_in_wedge rows o p q ≡ true → ((q ≡ c) ⊎ (stands_after rows o.third c q ≡ true)) ⊎ (Contains offers (Some q) ⊎ Contains offers None)
  pub lost : (c : ℕ) → now ≡ Some c → is_in_wedge rows o p c ≡ false → Contains offers None
  pub none : (q : ℕ) → now ≡ None → is_in_wedge rows o p q ≡ true → Contains offers (Some q) ⊎ Contains offers None

-- what the slot of p has after an offer
pub record IsRenewed (rows : List (List ℕ)) (o : Octant) (p : ℕ) (old offer new : Option ℕ) : Type 0 where
  pub looked_up : offer ≡ None → IsFirstAnswer rows o p new
  pub taken : (q : ℕ) → old ≡ None → offer ≡ Some q → is_in_wedge rows o p q ≡ true → new ≡ Some q
  pub still_none : (q : ℕ) → old ≡ None → offer ≡ Some q → is_in_wedge rows o p q ≡ false → new ≡ None
  pub better : (c q : ℕ) → old ≡ Some c → offer ≡ Some q → is_in_wedge rows o p q ≡ true → stands_after rows o.third q c ≡ true → new ≡ Some q
  pub kept : (c q : ℕ) → old ≡ Some c → offer ≡ Some q → (is_in_wedge rows o p q ≡ false) ⊎ (stands_after rows o.third q c ≡ false) → new ≡ Some c

-- a number or a look-up is offered to the slot
abbrev pub IsOffered : List Touch → ℕ → Option ℕ → Type 0
IsOffered ts slot x = (t : Touch) × Contains ts t × (t.slot ≡ slot) × (t.offer ≡ x)

-- the number is offered to the slot, or the slot is looked up
abbrev pub MayGain : List Touch → ℕ → ℕ → Type 0
MayGain ts slot q = IsOffered ts slot (Some q) ⊎ IsOffered ts slot None

-- each touch knows the candidate that its slot has
abbrev pub AreKnown : List (Option ℕ) → List Touch → Type 0
AreKnown candidates ts = (t : Touch) → Contains ts t → slice_get candidates t.slot ≡ Some t.old

-- touches were added, and none is lost
pub record HasTouched (candidates : List (Option ℕ)) (old new : List Touch) : Type 0 where
  pub keeps : (slot : ℕ) (x : Option ℕ) → IsOffered old slot x → IsOffered new slot x
  pub known : AreKnown candidates old → AreKnown candidates new

-- an order bounds an octant
abbrev pub IsBoundedBy : Octant → ℕ → Type 0
IsBoundedBy o part = (o.first.part ≡ part) ⊎ (o.second.part ≡ part)

-- by the new orders b is in the octant of p, and no candidate that the slot had comes before it there
abbrev pub ComesFirst : List (List ℕ) → List (Option ℕ) → Octant → ℕ → ℕ → ℕ → Type 0
ComesFirst rows candidates o p w b = (is_in_wedge rows o p b ≡ true) × ((c : ℕ) → slice_get candidates (8 * p + w) ≡ Some (Some c) → stands_after rows o.third c b ≡ false)

-- an order as it is read is one of the two that bound an octant
abbrev pub IsBoundedAs : Octant → Reading → Type 0
IsBoundedAs o r = (o.first ≡ r) ⊎ (o.second ≡ r)

-- by the new order of a part, which bounds the octant of p, b isn't in the octant
pub record IsLeftOut (rows : List (List ℕ)) (o : Octant) (part p b : ℕ) : Type 0 where
  pub from_end : Bool
  pub bound : IsBoundedAs o (record { part = part; from_end = from_end })
  pub out : stands_after rows (record { part = part; from_end = from_end }) p b ≡ false

-- by the new orders b is in the octant of p, and a doesn't come before it there
abbrev pub HasPassedBy : List (List ℕ) → Octant → ℕ → ℕ → ℕ → Type 0
HasPassedBy rows o p a b = (is_in_wedge rows o p b ≡ true) × (stands_after rows o.third a b ≡ false)

-- b is offered to the slots of an octant whose candidate a is and that b is in
abbrev pub IsOfferedIn : List (List ℕ) → List (Option ℕ) → List Touch → ℕ → ℕ → ℕ → Type 0
IsOfferedIn rows candidates ts w a b = (apex : ℕ) (o : Octant) → slice_get octants w ≡ Some o → slice_get candidates (8 * apex + w) ≡ Some (Some a) → is_in_wedge rows o apex b ≡ true → IsOffered ts (8 * apex + w) (Some b)

-- the slots of a whose candidate b was are looked up, in the octants that an order as it is read bounds
abbrev pub AreLeft : List (Option ℕ) → List Touch → Reading → ℕ → ℕ → Type 0
AreLeft candidates ts r a b = (w : ℕ) (o : Octant) → slice_get octants w ≡ Some o → IsBoundedAs o r → slice_get candidates (8 * a + w) ≡ Some (Some b) → IsOffered ts (8 * a + w) None

-- b is offered to the slots of a in the octants that an order bounds, where it comes first
abbrev pub IsOfferedWithin : List (List ℕ) → List (Option ℕ) → List Touch → ℕ → ℕ → ℕ → Type 0
IsOfferedWithin rows candidates ts part a b = (w : ℕ) (o : Octant) → slice_get octants w ≡ Some o → IsBoundedBy o part → ComesFirst rows candidates o a w b → IsOffered ts (8 * a + w) (Some b)

-- of the exchange of a and b in an order: in the octants that the order bounds, b may be gained by the slots of a where it comes first now, and those that
-- it has left are looked up; in the octants that the order ranks, b may be gained by the slots whose candidate is a, where it has passed by a
pub record HasOffered (rows : List (List ℕ)) (candidates : List (Option ℕ)) (part a b : ℕ) (ts : List Touch) : Type 0 where
  pub comes : (w : ℕ) (o : Octant) → slice_get octants w ≡ Some o → IsBoundedBy o part → ComesFirst rows candidates o a w b → MayGain ts (8 * a + w) b
  pub goes : (w : ℕ) (o : Octant) → slice_get octants w ≡ Some o → IsLeftOut rows o part a b → slice_get candidates (8 * a + w) ≡ Some (Some b) → IsOffered ts (8 * a + w) None
  pub ranked : (apex w : ℕ) (o : Octant) → slice_get octants w ≡ Some o → o.third.part ≡ part → slice_get candidates (8 * apex + w) ≡ Some (Some a) → HasPassedBy rows o apex a b → MayGain ts (8 * apex + w) b

abbrev pub HasOfferedBoth : List (List ℕ) → List (Option ℕ) → ℕ → ℕ → ℕ → List Touch → Type 0
HasOfferedBoth rows candidates part a b ts = HasOffered rows candidates part a b ts × HasOffered rows candidates part b a ts

-- the slot has a candidate that these offers bring to the first of its octant
pub record IsOnItsWay (rows : List (List ℕ)) (o : Octant) (slot : ℕ) (candidates : List (Option ℕ)) (offers : List (Option ℕ)) : Type 0 where
  pub candidate : Option ℕ
  pub held : slice_get candidates slot ≡ Some candidate
  pub awaited : IsAwaited rows o (slot / 8) candidate offers

-- the slot has the first of its octant
pub record IsAnswered (rows : List (List ℕ)) (o : Octant) (slot : ℕ) (candidates : List (Option ℕ)) : Type 0 where
  pub candidate : Option ℕ
  pub held : slice_get candidates slot ≡ Some candidate
  pub first : IsFirstAnswer rows o (slot / 8) candidate
