-- From exchanges that are offered to candidates.
use Rattle.std.proofs.Common.{◌≡◌, ◌≢◌, ◌⊎◌, inl, inr, refl, sym, ap, ◌∙◌, subst, arith, List, [], ◌∷◌, ℕ, ◌+◌, ◌*◌, ◌/◌, ◌%◌, Bool, true, false, cond, nat_eq, length, Some, None, Option}
use Rattle.std.specs.Prelude.{Contains, slice_get}
use Rattle.std.proofs.lemmas.Bool.{cases_eq, both_ways}
use Rattle.std.proofs.lemmas.Bool.Decides.{nat_tests}
use Rattle.std.proofs.lemmas.Option.{same_Some, slice_get_within}
use Rattle.kin_motion.specs.Records.{stands_before}
use Rattle.kin_motion.specs.Numbers.{is_in}
use Rattle.kin_motion.specs.Octants.{Octant, Reading, octants}
use Rattle.kin_list.specs.declared.mark.Mark.{Mark}
use Rattle.kin_list.specs.declared.mark.Mark.TheVariants.{Rest, Enters, Leaves, Broken}
use Rattle.kin_list.specs.Listing.{staying, lasting}
use Rattle.kin_list.specs.Rows.{exchanged}
use Rattle.kin_wedge.specs.declared.touch.Touch.{Touch}
use Rattle.kin_wedge.specs.Passages.{AreAnswered, AreBeside, AreChanged, AreExchangesOffered, HasNoted, IsMarkOffered, IsPassage}
use Rattle.kin_wedge.specs.Rows.{row_of, stands_after, IsFirstAnswer, WereExchanged}
use Rattle.kin_wedge.specs.Touched.{offers_for, AreKnown, ComesFirst, HasOffered, IsBoundedAs, IsLeftOut, IsAnswered, IsAwaited, IsOffered, IsOnItsWay, MayGain}
use Rattle.kin_wedge.proofs.Exchanges.{kept_or_exchanged, order-without}
use Rattle.kin_wedge.proofs.Places.{first_is_in, second_is_in}
use Rattle.kin_wedge.proofs.StillThere.{HasPassed, AreOffered, awaited_first}
use Rattle.kin_wedge.proofs.Slots.{below_eight}
use Rattle.kin_motion.specs.Numbers.{IsChain}
use Rattle.std.proofs.Common.{nat_lt}
use Rattle.kin_algebra.proofs.Members.{contains_tail, contains_cases}
use Rattle.kin_algebra.proofs.Places.{get_within}

-- a number by the mark
IsEntering : Mark → ℕ → Type 0
IsEntering Rest a = ⊥
IsEntering (Enters i) a = a ≡ i
IsEntering (Leaves i) a = ⊥
IsEntering Broken a = ⊥

IsLeaving : Mark → ℕ → Type 0
IsLeaving Rest a = ⊥
IsLeaving (Enters i) a = ⊥
IsLeaving (Leaves i) a = a ≡ i
IsLeaving Broken a = ⊥

IsStaying : Mark → ℕ → Type 0
IsStaying Rest a = Unit {0}
IsStaying (Enters i) a = a ≢ i
IsStaying (Leaves i) a = a ≢ i
IsStaying Broken a = Unit {0}

kind_of : (mark : Mark) (a : ℕ) → IsStaying mark a ⊎ (IsEntering mark a ⊎ IsLeaving mark a)
unfolding IsEntering IsLeaving IsStaying
kind_of Rest a = inl tt
kind_of (Enters i) a = at (cases_eq a i)
  where
    at : (a ≡ i) ⊎ (a ≢ i) → (a ≢ i) ⊎ ((a ≡ i) ⊎ ⊥)
    at (inl e) = inr (inl e)
    at (inr n) = inl n
kind_of (Leaves i) a = at (cases_eq a i)
  where
    at : (a ≡ i) ⊎ (a ≢ i) → (a ≢ i) ⊎ (⊥ ⊎ (a ≡ i))
    at (inl e) = inr (inr e)
    at (inr n) = inl n
kind_of Broken a = inl tt

staying_order : (mark : Mark) (a b : ℕ) (xs : List ℕ) → IsStaying mark a → IsStaying mark b → stands_before (staying mark xs) a b ≡ stands_before xs a b
unfolding IsStaying
staying_order Rest a b xs n m = refl
staying_order (Enters i) a b xs n m = refl
staying_order (Leaves i) a b xs n m = order-without i a b xs n m
staying_order Broken a b xs n m = refl

lasting_order : (mark : Mark) (a b : ℕ) (xs : List ℕ) → IsStaying mark a → IsStaying mark b → stands_before (lasting mark xs) a b ≡ stands_before xs a b
unfolding IsStaying
lasting_order Rest a b xs n m = refl
lasting_order (Enters i) a b xs n m = order-without i a b xs n m
lasting_order (Leaves i) a b xs n m = refl
lasting_order Broken a b xs n m = refl

absent_old : (mark : Mark) (old new : List (List ℕ)) (a part : ℕ) → AreBeside mark old new → IsEntering mark a → is_in a (row_of old part) ≡ false
unfolding IsEntering
absent_old Rest old new a part h e = absurd e
absent_old (Enters i) old new a part h e = ap (λ (x : ℕ). is_in x (row_of old part)) e ∙ h part
absent_old (Leaves i) old new a part h e = absurd e
absent_old Broken old new a part h e = absurd e

absent_new : (mark : Mark) (old new : List (List ℕ)) (a part : ℕ) → AreBeside mark old new → IsLeaving mark a → is_in a (row_of new part) ≡ false
unfolding IsLeaving
absent_new Rest old new a part h e = absurd e
absent_new (Enters i) old new a part h e = absurd e
absent_new (Leaves i) old new a part h e = ap (λ (x : ℕ). is_in x (row_of new part)) e ∙ h part
absent_new Broken old new a part h e = absurd e

-- who is absent stands neither before nor after another
never_first : (rows : List (List ℕ)) (r : Reading) (a b : ℕ) → is_in a (row_of rows r.part) ≡ false → stands_after rows r a b ≡ true → ⊥
never_first rows r a b n = at r.from_end
  where
    at : (e : Bool) → cond e (stands_before (row_of rows r.part) b a) (stands_before (row_of rows r.part) a b) ≡ true → ⊥
    at true h = absurd (both_ways (is_in a (row_of rows r.part)) n (second_is_in _ b a h))
    at false h = absurd (both_ways (is_in a (row_of rows r.part)) n (first_is_in _ a b h))

never_second : (rows : List (List ℕ)) (r : Reading) (a b : ℕ) → is_in b (row_of rows r.part) ≡ false → stands_after rows r a b ≡ true → ⊥
never_second rows r a b n = at r.from_end
  where
    at : (e : Bool) → cond e (stands_before (row_of rows r.part) b a) (stands_before (row_of rows r.part) a b) ≡ true → ⊥
    at true h = absurd (both_ways (is_in b (row_of rows r.part)) n (first_is_in _ b a h))
    at false h = absurd (both_ways (is_in b (row_of rows r.part)) n (second_is_in _ a b h))

-- an offer is among those of its slot
pub offer_among : (ts : List Touch) (slot : ℕ) (x : Option ℕ) → IsOffered ts slot x → Contains (offers_for slot ts) x
offer_among [] slot x (t, c, e, f) = absurd (omega (arith, c.1))
offer_among (u ∷ us) slot x (t, c, e, f) = at (nat_eq u.slot slot) refl (contains_cases u t us c) (λ k. offer_among us slot x (t, k, e, f))
  where
    at : (b : Bool) → nat_eq u.slot slot ≡ b → (u ≡ t) ⊎ Contains us t → (Contains us t → Contains (offers_for slot us) x) → Contains (cond b (u.offer ∷ offers_for slot us) (offers_for slot us)) x
    at true g (inl s) rest = (0, omega arith, ap (λ (v : Touch). v.offer) s ∙ f)
    at true g (inr k) rest = contains_tail u.offer x (offers_for slot us) (rest k)
    at false g (inl s) rest = absurd (let h : u.slot ≡ slot = ap (λ (v : Touch). v.slot) s ∙ e in let i : nat_eq u.slot slot ≡ true = grind (arith, nat_tests, h) in let j : true ≡ false = sym i ∙ g in cc)
    at false g (inr k) rest = rest k

-- something is offered to a slot, or nothing is
touch_or_none : (slot : ℕ) (ts : List Touch) → ((t : Touch) × Contains ts t × (t.slot ≡ slot)) ⊎ (offers_for slot ts ≡ [])
touch_or_none slot [] = inr refl
touch_or_none slot (u ∷ us) = at (nat_eq u.slot slot) refl (touch_or_none slot us)
  where
    at : (b : Bool) → nat_eq u.slot slot ≡ b → ((t : Touch) × Contains us t × (t.slot ≡ slot)) ⊎ (offers_for slot us ≡ []) → ((t : Touch) × Contains (u ∷ us) t × (t.slot ≡ slot)) ⊎ (cond b (u.offer ∷ offers_for slot us) (offers_for slot us) ≡ [])
    at true g rest = let e : u.slot ≡ slot = grind (arith, nat_tests, g) in inl (u, (0, omega arith, refl), e)
    at false g (inl h) = inl (h.0, contains_tail u h.0 us h.1, h.2)
    at false g (inr n) = inr n

module _ (mark : Mark) (swaps old new : List (List ℕ)) (h : IsPassage mark swaps old new) where
  WereBothExchanged : ℕ → ℕ → ℕ → Type 0
  WereBothExchanged part a b = WereExchanged (row_of swaps part) (staying mark (row_of old part)) a b ⊎ WereExchanged (row_of swaps part) (staying mark (row_of old part)) b a

  row_kept : (part a b : ℕ) → IsStaying mark a → IsStaying mark b → (stands_before (row_of new part) a b ≡ stands_before (row_of old part) a b) ⊎ WereBothExchanged part a b
  unfolding WereBothExchanged
  row_kept part a b n m = at (kept_or_exchanged (row_of swaps part) (staying mark (row_of old part)) a b)
    where
      at : (stands_before (exchanged (row_of swaps part) (staying mark (row_of old part))) a b ≡ stands_before (staying mark (row_of old part)) a b)
          ⊎ (WereExchanged (row_of swaps part) (staying mark (row_of old part)) a b ⊎ WereExchanged (row_of swaps part) (staying mark (row_of old part)) b a)
          → (stands_before (row_of new part) a b ≡ stands_before (row_of old part) a b) ⊎ (WereExchanged (row_of swaps part) (staying mark (row_of old part)) a b ⊎ WereExchanged (row_of swaps part) (staying mark (row_of old part)) b a)
      at (inl e) = inl (
          sym (lasting_order mark a b (row_of new part) n m)
          ∙ sym (ap (λ (xs : List ℕ). stands_before xs a b) (h.exchanges part))
          ∙ e
          ∙ staying_order mark a b (row_of old part) n m
          )
      at (inr x) = inr x

  turned : (part a b : ℕ) → WereBothExchanged part b a → WereBothExchanged part a b
  unfolding WereBothExchanged
  turned part a b (inl x) = inr x
  turned part a b (inr x) = inl x

  kept : (r : Reading) (a b : ℕ) → IsStaying mark a → IsStaying mark b → (stands_after new r a b ≡ stands_after old r a b) ⊎ WereBothExchanged r.part a b
  kept r a b n m = at r.from_end
    where
      at : (e : Bool) → (cond e (stands_before (row_of new r.part) b a) (stands_before (row_of new r.part) a b) ≡ cond e (stands_before (row_of old r.part) b a) (stands_before (row_of old r.part) a b)) ⊎ WereBothExchanged r.part a b
      at false = row_kept r.part a b n m
      at true = back (row_kept r.part b a m n)
        where
          back : (stands_before (row_of new r.part) b a ≡ stands_before (row_of old r.part) b a) ⊎ WereBothExchanged r.part b a → (stands_before (row_of new r.part) b a ≡ stands_before (row_of old r.part) b a) ⊎ WereBothExchanged r.part a b
          back (inl e) = inl e
          back (inr x) = inr (turned r.part a b x)

  pub passed : HasPassed old new
  passed = record {
    Stays = IsStaying mark;
    Enters = IsEntering mark;
    Leaves = IsLeaving mark;
    Exchanged = WereBothExchanged;
    kind = kind_of mark;
    kept = kept;
    new_first = λ r a b e. never_first old r a b (absent_old mark old new a r.part h.beside e);
    new_second = λ r a b e. never_second old r a b (absent_old mark old new b r.part h.beside e);
    gone_first = λ r a b e. never_first new r a b (absent_new mark old new a r.part h.beside e);
    gone_second = λ r a b e. never_second new r a b (absent_new mark old new b r.part h.beside e);
  }

  module _ (candidates : List (Option ℕ)) (ts : List Touch) (exchanges : AreExchangesOffered mark swaps old new candidates ts) (number : IsMarkOffered mark new candidates ts) where
    exchange_offered : (part a b : ℕ) → WereBothExchanged part a b → HasOffered new candidates part a b ts
    unfolding WereBothExchanged
    exchange_offered part a b (inl x) = (exchanges part a b x).0
    exchange_offered part a b (inr x) = (exchanges part b a x).1

    module _ (p w : ℕ) (o : Octant) (now : Option ℕ) (here : slice_get octants w ≡ Some o) (held : slice_get candidates (8 * p + w) ≡ Some now) where
      entered : (m : Mark) → IsMarkOffered m new candidates ts → (q : ℕ) → IsEntering m q → ComesFirst new candidates o p w q → IsOffered ts (8 * p + w) (Some q)
      unfolding IsEntering
      entered Rest g q e k = absurd e
      entered (Enters i) g q e k = subst (λ (x : ℕ). IsOffered ts (8 * p + w) (Some x)) (sym e) (g.1 p w o here (subst (λ (x : ℕ). ComesFirst new candidates o p w x) e k))
      entered (Leaves i) g q e k = absurd e
      entered Broken g q e k = absurd e

      apex : (m : Mark) → IsMarkOffered m new candidates ts → IsEntering m p ⊎ IsLeaving m p → IsOffered ts (8 * p + w) None
      unfolding IsEntering IsLeaving
      apex Rest g (inl e) = absurd e
      apex Rest g (inr e) = absurd e
      apex (Enters i) g (inl e) = subst (λ (x : ℕ). IsOffered ts (8 * x + w) None) (sym e) (g.0 w (below_eight w o here))
      apex (Enters i) g (inr e) = absurd e
      apex (Leaves i) g (inl e) = absurd e
      apex (Leaves i) g (inr e) = subst (λ (x : ℕ). IsOffered ts (8 * x + w) None) (sym e) (g.0 w (below_eight w o here))
      apex Broken g (inl e) = absurd e
      apex Broken g (inr e) = absurd e

      left : (m : Mark) → IsMarkOffered m new candidates ts → (c : ℕ) → now ≡ Some c → IsLeaving m c → IsOffered ts (8 * p + w) None
      unfolding IsLeaving
      left Rest g c e k = absurd k
      left (Enters i) g c e k = absurd k
      left (Leaves i) g c e k = g.1 (8 * p + w) (held ∙ ap (λ (x : Option ℕ). Some x) (e ∙ ap (λ (x : ℕ). Some x) k))
      left Broken g c e k = absurd k

      gained : (q : ℕ) → MayGain ts (8 * p + w) q → Contains (offers_for (8 * p + w) ts) (Some q) ⊎ Contains (offers_for (8 * p + w) ts) None
      gained q (inl x) = inl (offer_among ts (8 * p + w) (Some q) x)
      gained q (inr x) = inr (offer_among ts (8 * p + w) None x)

      by_bounds : (q : ℕ) → WereBothExchanged o.first.part p q ⊎ WereBothExchanged o.second.part p q → ComesFirst new candidates o p w q → MayGain ts (8 * p + w) q
      by_bounds q (inl x) k = (exchange_offered o.first.part p q x).comes w o here (inl refl) k
      by_bounds q (inr x) k = (exchange_offered o.second.part p q x).comes w o here (inr refl) k

      left_out : (q : ℕ) (r : Reading) → IsBoundedAs o r → stands_after new r p q ≡ false → IsLeftOut new o r.part p q
      left_out q r bound out = record { from_end = r.from_end; bound = bound; out = out }

      pub are_offered : AreOffered old new passed o p now (offers_for (8 * p + w) ts)
      unfolding passed
      are_offered = record {
        comes = λ q x k first. gained q (by_bounds q x (k, λ c f. first c (same_Some now (Some c) (sym held ∙ f))));
        goes = λ q r bound x out e. offer_among ts (8 * p + w) None ((exchange_offered r.part p q x).goes w o here (left_out q r bound out) (held ∙ ap (λ (v : Option ℕ). Some v) e));
        ranked = λ c q e x k. gained q ((exchange_offered o.third.part c q x).ranked p w o here refl (held ∙ ap (λ (v : Option ℕ). Some v) e) k);
        entered = λ q e k first. offer_among ts (8 * p + w) (Some q) (entered mark number q e (k, λ c f. first c (same_Some now (Some c) (sym held ∙ f))));
        apex = λ e. offer_among ts (8 * p + w) None (apex mark number e);
        left = λ c e k. offer_among ts (8 * p + w) None (left mark number c e k);
      }

      slot_apex : (8 * p + w) / 8 ≡ p
      slot_apex = let b = below_eight w o here in omega (arith, b)

      pub on_its_way : IsFirstAnswer old o p now → IsOnItsWay new o (8 * p + w) candidates (offers_for (8 * p + w) ts)
      on_its_way first = record {
        candidate = now;
        held = held;
        awaited = subst (λ (n : ℕ). IsAwaited new o n now (offers_for (8 * p + w) ts)) (sym slot_apex) (awaited_first old new passed o p now (offers_for (8 * p + w) ts) first are_offered);
      }

    -- all slots have their candidates
    pub answered : (after : List (Option ℕ)) → length after ≡ length candidates → AreAnswered old candidates
        → ((slot : ℕ) (o : Octant) → slice_get octants (slot % 8) ≡ Some o → IsOnItsWay new o slot candidates (offers_for slot ts) → IsAnswered new o slot after) → AreAnswered new after
    answered after same before renewed = λ p w o answer here held.
        let b = below_eight w o here in
        let l = slice_get_within after (8 * p + w) answer held in
        let old_held = get_within candidates (8 * p + w) (omega (arith, l, same)) in
        let octant : (8 * p + w) % 8 ≡ w = omega (arith, b) in
        let apex : (8 * p + w) / 8 ≡ p = omega (arith, b) in
        let r = renewed (8 * p + w) o (ap (slice_get octants) octant ∙ here) (on_its_way p w o old_held.0 here old_held.1 (before p w o old_held.0 here old_held.1)) in
        subst (IsFirstAnswer new o p) (same_Some r.candidate answer (sym r.held ∙ held)) (subst (λ (n : ℕ). IsFirstAnswer new o n r.candidate) apex r.first)

-- exactly the slots that have another candidate are listed
pub changed_listed : (before after : List (Option ℕ)) (ts : List Touch) (slots : List ℕ) → length after ≡ length before → AreKnown before ts → ((slot : ℕ) → offers_for slot ts ≡ [] → slice_get after slot ≡ slice_get before slot)
    → HasNoted after ts slots → IsChain nat_lt slots → AreChanged before after slots
changed_listed before after ts slots same known kept noted rising = record {
  rising = rising;
  all = λ slot n. at slot n (touch_or_none slot ts);
  only = λ slot k.
      let t = noted.only slot k in
      let e = known t.0 t.1 in
      let l = slice_get_within before t.0.slot t.0.old e in
      let s = t.2 in
      (omega (arith, l, same, s), λ f. t.3 (ap (slice_get after) s ∙ sym f ∙ sym (ap (slice_get before) s) ∙ e));
}
  where
    at : (slot : ℕ) → slice_get before slot ≢ slice_get after slot → ((t : Touch) × Contains ts t × (t.slot ≡ slot)) ⊎ (offers_for slot ts ≡ []) → is_in slot slots ≡ true
    at slot n (inl t) =
        subst (λ (x : ℕ). is_in x slots ≡ true) t.2
        (noted.all t.0 t.1 (λ e. n (ap (slice_get before) (sym t.2) ∙ known t.0 t.1 ∙ sym e ∙ ap (slice_get after) t.2)))
    at slot n (inr e) = absurd (n (sym (kept slot e)))
