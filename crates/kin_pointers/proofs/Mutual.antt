-- Slots and their lists agree, also after a slot begins to point or ends.
use Rattle.std.proofs.Common.{◌≡◌, ◌≢◌, refl, sym, ap, ◌∙◌, subst, arith, List, [], ◌∷◌, ◌++◌, ℕ, ◌<◌, ◌⊎◌, length, set, length-set, map, option_map, Some, None, Option, inl, inr, zero, suc}
use Rattle.std.specs.Prelude.{slice_get, Contains}
use Rattle.std.proofs.lemmas.Bool.{cases_eq}
use Rattle.std.proofs.lemmas.Option.{slice_get_within, same_Some, slice_get-map}
use Rattle.kin_algebra.proofs.Places.{get-set_same, get-set_other, get-push_cases, get_front, get_last}
use Rattle.kin_algebra.proofs.Members.{contains_from_get, get_from_contains}
use Rattle.kin_motion.specs.Sets.{ListsExactly}
use Rattle.kin_pointers.specs.declared.pointers.Pointer.{Pointer}
use Rattle.kin_pointers.specs.Pointing.{target_in, IsListed, AreMutual, IsStruck}

-- what a slot holds that points
abbrev to : ℕ → ℕ → Pointer
to target place = record { target = target; place = place }

-- two places of one list that hold one slot are one
module _ (held : List (Option Pointer)) (lists : List (List ℕ)) (agree : AreMutual held lists) where
  pub one_place : (t u p q slot : ℕ) (xs ys : List ℕ) → slice_get lists t ≡ Some xs → slice_get lists u ≡ Some ys → slice_get xs p ≡ Some slot → slice_get ys q ≡ Some slot → (t ≡ u) × (p ≡ q)
  one_place t u p q slot xs ys a b e f =
      let same : to t p ≡ to u q = same_Some _ _ (same_Some _ _ (sym (agree.back t p slot xs a e) ∙ agree.back u q slot ys b f)) in
      (ap (λ (r : Pointer). r.target) same, ap (λ (r : Pointer). r.place) same)

  -- a slot's place is in its list
  pub at_within : (slot : ℕ) (p : Pointer) (slots : List ℕ) → slice_get held slot ≡ Some (Some p) → slice_get lists p.target ≡ Some slots → p.place < length slots
  at_within slot p slots here listed =
      let l = agree.forth slot p here in
      slice_get_within slots p.place slot (ap (λ (xs : List ℕ). slice_get xs p.place) (same_Some _ _ (sym listed ∙ l.listed)) ∙ l.at)

  module _ (slot target place last : ℕ) (slots new : List ℕ) (here : slice_get held slot ≡ Some (Some (to target place))) (listed : slice_get lists target ≡ Some slots) (struck : IsStruck slots new place last) where
    at_place : slice_get slots place ≡ Some slot
    at_place = let l = agree.forth slot (to target place) here in ap (λ (xs : List ℕ). slice_get xs place) (same_Some _ _ (sym listed ∙ l.listed)) ∙ l.at

    within : place < length slots
    within = slice_get_within slots place slot at_place

    pub last_held : slice_get held last ≡ Some (Some (to target (length new)))
    last_held = agree.back target (length new) last slots listed struck.last_is

    -- where the place isn't the last one, the last slot is another
    another : place < length new → last ≢ slot
    another low e =
        let same : to target (length new) ≡ to target place = same_Some _ _ (same_Some _ _ (sym last_held ∙ ap (slice_get held) e ∙ here)) in
        let places = ap (λ (r : Pointer). r.place) same in
        omega (arith, low, places)

    -- and where it is, the last one is the slot itself
    itself : last ≢ slot → place < length new
    itself n = at (cases_eq place (length new))
      where
        at : (place ≡ length new) ⊎ (place ≢ length new) → place < length new
        at (inl e) = absurd (n (same_Some _ _ (sym struck.last_is ∙ ap (slice_get slots) (sym e) ∙ at_place)))
        at (inr e) = let w = within in let k = struck.count in omega (arith, w, k, e)

    abbrev after : List (Option Pointer)
    after = set (set held last (Some (to target place))) slot None

    pub last_room : last < length held
    last_room = slice_get_within held last _ last_held

    slot_room : slot < length (set held last (Some (to target place)))
    slot_room = let r = slice_get_within held slot _ here in let l = length-set held last (Some (to target place)) in omega (arith, r, l)

    -- what a slot holds afterwards
    gone : slice_get after slot ≡ Some None
    gone = get-set_same (set held last (Some (to target place))) slot None slot_room

    moved : last ≢ slot → slice_get after last ≡ Some (Some (to target place))
    moved n = get-set_other (set held last (Some (to target place))) slot last None n ∙ get-set_same held last (Some (to target place)) last_room

    stays : (q : ℕ) → q ≢ slot → q ≢ last → slice_get after q ≡ slice_get held q
    stays q n m = get-set_other (set held last (Some (to target place))) slot q None n ∙ get-set_other held last q (Some (to target place)) m

    abbrev left : List (List ℕ)
    left = set lists target new

    left_here : slice_get left target ≡ Some new
    left_here = get-set_same lists target new (slice_get_within lists target slots listed)

    pub released : AreMutual after left
    released = record { forth = forth; back = back }
      where
        forth : (q : ℕ) (p : Pointer) → slice_get after q ≡ Some (Some p) → IsListed left q p
        forth q p e = at (cases_eq q slot) (cases_eq q last)
          where
            at : (q ≡ slot) ⊎ (q ≢ slot) → (q ≡ last) ⊎ (q ≢ last) → IsListed left q p
            at (inl s) o = absurd (let nothing : Option Pointer = None in let f : Some nothing ≡ Some (Some p) = sym gone ∙ ap (slice_get after) (sym s) ∙ e in let g : None ≡ Some p = same_Some _ _ f in cc)
            at (inr n) (inl l) =
                let m : last ≢ slot = λ f. n (l ∙ f) in
                let is : to target place ≡ p = same_Some _ _ (same_Some _ _ (sym (moved m) ∙ ap (slice_get after) (sym l) ∙ e)) in
                subst (IsListed left q) is (record { slots = new; listed = left_here; at = struck.there (itself m) ∙ ap (λ (i : ℕ). Some i) (sym l) })
            at (inr n) (inr m) = from (agree.forth q p (sym (stays q n m) ∙ e)) (cases_eq p.target target)
              where
                from : IsListed lists q p → (p.target ≡ target) ⊎ (p.target ≢ target) → IsListed left q p
                from l (inl t) =
                    let same : l.slots ≡ slots = same_Some _ _ (sym l.listed ∙ ap (slice_get lists) t ∙ listed) in
                    let f : slice_get slots p.place ≡ Some q = ap (λ (xs : List ℕ). slice_get xs p.place) (sym same) ∙ l.at in
                    let w = slice_get_within slots p.place q f in
                    let not_last : p.place ≢ length new = λ k. m (same_Some _ _ (sym f ∙ ap (slice_get slots) k ∙ struck.last_is)) in
                    let not_there : p.place ≢ place = λ k. n (same_Some _ _ (sym f ∙ ap (slice_get slots) k ∙ at_place)) in
                    let c = struck.count in
                    record { slots = new; listed = ap (slice_get left) t ∙ left_here; at = struck.others p.place (omega (arith, w, c, not_last)) not_there ∙ f }
                from l (inr t) = record { slots = l.slots; listed = get-set_other lists target p.target new t ∙ l.listed; at = l.at }

        back : (t p q : ℕ) (xs : List ℕ) → slice_get left t ≡ Some xs → slice_get xs p ≡ Some q → slice_get after q ≡ Some (Some (to t p))
        back t p q xs a e = at (cases_eq t target)
          where
            elsewhere : slice_get lists t ≡ Some xs → t ≢ target → slice_get after q ≡ Some (Some (to t p))
            elsewhere b n = stays q
                (λ s. n (one_place t target p place q xs slots b listed e (at_place ∙ ap (λ (i : ℕ). Some i) (sym s))).0)
                (λ s. n (one_place t target p (length new) q xs slots b listed e (struck.last_is ∙ ap (λ (i : ℕ). Some i) (sym s))).0)
                ∙ agree.back t p q xs b e

            at : (t ≡ target) ⊎ (t ≢ target) → slice_get after q ≡ Some (Some (to t p))
            at (inr n) = elsewhere (sym (get-set_other lists target t new n) ∙ a) n
            at (inl s) = here_too (cases_eq p place)
              where
                same : xs ≡ new
                same = same_Some _ _ (sym a ∙ ap (slice_get left) s ∙ left_here)

                f : slice_get new p ≡ Some q
                f = ap (λ (ys : List ℕ). slice_get ys p) (sym same) ∙ e

                low : p < length new
                low = slice_get_within new p q f

                here_too : (p ≡ place) ⊎ (p ≢ place) → slice_get after q ≡ Some (Some (to t p))
                here_too (inl i) =
                    let room : place < length new = subst (λ (k : ℕ). k < length new) i low in
                    let is : q ≡ last = same_Some _ _ (sym f ∙ ap (slice_get new) i ∙ struck.there room) in
                    ap (slice_get after) is ∙ moved (another room) ∙ ap (λ (r : Pointer). Some (Some r)) (λ k. to (sym s k) (sym i k))
                here_too (inr n) =
                    let g : slice_get slots p ≡ Some q = sym (struck.others p low n) ∙ f in
                    stays q
                    (λ k. n (one_place target target p place q slots slots listed listed g (at_place ∙ ap (λ (i : ℕ). Some i) (sym k))).1)
                    (λ k. let far = (one_place target target p (length new) q slots slots listed listed g (struck.last_is ∙ ap (λ (i : ℕ). Some i) (sym k))).1 in omega (arith, low, far))
                    ∙ agree.back target p q slots listed g ∙ ap (λ (r : Pointer). Some (Some r)) (λ k. to (sym s k) p)

-- one more slot, which points at none
pub added : (held : List (Option Pointer)) (lists : List (List ℕ)) → AreMutual held lists → AreMutual (held ++ None ∷ []) lists
added held lists agree = record {
  forth = λ slot p e. elim (get-push_cases held None slot (Some p) e) [ inl f ↦ agree.forth slot p f | inr f ↦ absurd (let g : Some p ≡ None = f.1 in cc) ];
  back = λ t p q xs a e. get_front held (None ∷ []) q _ (agree.back t p q xs a e);
}

-- one more number, at which none points
pub numbered : (held : List (Option Pointer)) (lists : List (List ℕ)) → AreMutual held lists → AreMutual held (lists ++ [] ∷ [])
numbered held lists agree = record {
  forth = λ slot p e. let l = agree.forth slot p e in record { slots = l.slots; listed = get_front lists ([] ∷ []) p.target l.slots l.listed; at = l.at };
  back = λ t p q xs a e. elim (get-push_cases lists [] t xs a) [ inl f ↦ agree.back t p q xs f e | inr f ↦ absurd (let g = sym (ap (λ (ys : List ℕ). slice_get ys p) f.1) ∙ e in cc) ];
}

-- a slot that points at none points at a number
module _ (held : List (Option Pointer)) (lists : List (List ℕ)) (agree : AreMutual held lists) (slot target : ℕ) (slots : List ℕ) (vacant : slice_get held slot ≡ Some None) (listed : slice_get lists target ≡ Some slots) where
  abbrev longer : List ℕ
  longer = slots ++ slot ∷ []

  longer_here : slice_get (set lists target longer) target ≡ Some longer
  longer_here = get-set_same lists target longer (slice_get_within lists target slots listed)

  here_now : slice_get (set held slot (Some (to target (length slots)))) slot ≡ Some (Some (to target (length slots)))
  here_now = get-set_same held slot (Some (to target (length slots))) (slice_get_within held slot None vacant)

  -- it stood in no list
  fresh : (t p q : ℕ) (xs : List ℕ) → slice_get lists t ≡ Some xs → slice_get xs p ≡ Some q → q ≢ slot
  fresh t p q xs a e s =
      let nothing : Option Pointer = None in
      let f : Some nothing ≡ Some (Some (to t p)) = sym vacant ∙ ap (slice_get held) (sym s) ∙ agree.back t p q xs a e in
      let g : nothing ≡ Some (to t p) = same_Some _ _ f in
      cc

  pub pointed : AreMutual (set held slot (Some (to target (length slots)))) (set lists target longer)
  pointed = record { forth = forth; back = back }
    where
      forth : (q : ℕ) (p : Pointer) → slice_get (set held slot (Some (to target (length slots)))) q ≡ Some (Some p) → IsListed (set lists target longer) q p
      forth q p e = at (cases_eq q slot)
        where
          from : IsListed lists q p → (p.target ≡ target) ⊎ (p.target ≢ target) → IsListed (set lists target longer) q p
          from l (inl t) =
              let same : l.slots ≡ slots = same_Some _ _ (sym l.listed ∙ ap (slice_get lists) t ∙ listed) in
              record { slots = longer; listed = ap (slice_get (set lists target longer)) t ∙ longer_here; at = get_front slots (slot ∷ []) p.place q (ap (λ (xs : List ℕ). slice_get xs p.place) (sym same) ∙ l.at) }
          from l (inr t) = record { slots = l.slots; listed = get-set_other lists target p.target longer t ∙ l.listed; at = l.at }

          at : (q ≡ slot) ⊎ (q ≢ slot) → IsListed (set lists target longer) q p
          at (inl s) =
              let is : to target (length slots) ≡ p = same_Some _ _ (same_Some _ _ (sym here_now ∙ ap (slice_get (set held slot (Some (to target (length slots))))) (sym s) ∙ e)) in
              subst (IsListed (set lists target longer) q) is (record { slots = longer; listed = longer_here; at = get_last slots slot ∙ ap (λ (i : ℕ). Some i) (sym s) })
          at (inr n) = from (agree.forth q p (sym (get-set_other held slot q _ n) ∙ e)) (cases_eq p.target target)

      back : (t p q : ℕ) (xs : List ℕ) → slice_get (set lists target longer) t ≡ Some xs → slice_get xs p ≡ Some q → slice_get (set held slot (Some (to target (length slots)))) q ≡ Some (Some (to t p))
      back t p q xs a e = at (cases_eq t target)
        where
          before : (u : ℕ) (ys : List ℕ) → slice_get lists u ≡ Some ys → slice_get ys p ≡ Some q → slice_get (set held slot (Some (to target (length slots)))) q ≡ Some (Some (to u p))
          before u ys b f = get-set_other held slot q _ (fresh u p q ys b f) ∙ agree.back u p q ys b f

          at : (t ≡ target) ⊎ (t ≢ target) → slice_get (set held slot (Some (to target (length slots)))) q ≡ Some (Some (to t p))
          at (inr n) = before t xs (sym (get-set_other lists target t longer n) ∙ a) e
          at (inl s) =
              let same : xs ≡ longer = same_Some _ _ (sym a ∙ ap (slice_get (set lists target longer)) s ∙ longer_here) in
              which (get-push_cases slots slot p q (ap (λ (ys : List ℕ). slice_get ys p) (sym same) ∙ e))
            where
              which : (slice_get slots p ≡ Some q) ⊎ ((p ≡ length slots) × (q ≡ slot)) → slice_get (set held slot (Some (to target (length slots)))) q ≡ Some (Some (to t p))
              which (inl f) = before target slots listed f ∙ ap (λ (r : Pointer). Some (Some r)) (λ k. to (sym s k) p)
              which (inr f) = ap (slice_get (set held slot (Some (to target (length slots))))) f.1 ∙ here_now ∙ ap (λ (r : Pointer). Some (Some r)) (λ k. to (sym s k) (sym f.0 k))

-- the list of a number is exact
pub exact_list : (held : List (Option Pointer)) (lists : List (List ℕ)) → AreMutual held lists → (t : ℕ) (slots : List ℕ) → slice_get lists t ≡ Some slots
    → ListsExactly slots (λ slot. slice_get (map target_in held) slot ≡ Some (Some t))
exact_list held lists agree t slots listed = record { once = once; each = λ slot. (only slot, all slot) }
  where
    seen : (slot : ℕ) (o : Option Pointer) → slice_get held slot ≡ Some o → slice_get (map target_in held) slot ≡ Some (target_in o)
    seen slot o e = slice_get-map target_in held slot ∙ ap (option_map target_in) e

    once : (i j : ℕ) (slot : ℕ) → slice_get slots i ≡ Some slot → slice_get slots j ≡ Some slot → i ≡ j
    once i j slot a b = (one_place held lists agree t t i j slot slots slots listed listed a b).1

    only : (slot : ℕ) → Contains slots slot → slice_get (map target_in held) slot ≡ Some (Some t)
    only slot h = let f = get_from_contains slots slot h in seen slot _ (agree.back t f.0 slot slots listed f.1)

    held_from : (held : List (Option Pointer)) (slot : ℕ) → slice_get (map target_in held) slot ≡ Some (Some t) → (p : Pointer) × (slice_get held slot ≡ Some (Some p)) × (p.target ≡ t)
    held_from [] slot e = absurd cc
    held_from (None ∷ held) zero e = absurd (let f : None ≡ Some t = same_Some _ _ e in cc)
    held_from (Some p ∷ held) zero e = (p, refl, same_Some _ _ (same_Some _ _ e))
    held_from (o ∷ held) (suc slot) e = held_from held slot e

    all : (slot : ℕ) → slice_get (map target_in held) slot ≡ Some (Some t) → Contains slots slot
    all slot e =
        let p = held_from held slot e in
        let l = agree.forth slot p.0 p.1 in
        contains_from_get slots p.0.place slot (ap (λ (xs : List ℕ). slice_get xs p.0.place) (sym (same_Some _ _ (sym l.listed ∙ ap (slice_get lists) p.2 ∙ listed))) ∙ l.at)
