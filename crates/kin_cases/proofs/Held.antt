-- What the slots of a contest hold.
use Rattle.std.proofs.Common.{◌≡◌, ◌≢◌, ◌⊎◌, inl, inr, refl, sym, ap, ap₂, ◌∙◌, subst, arith, List, [], ◌∷◌, ℕ, zero, suc, ◌^◌, ◌<◌, ◌≤◌, length, Bool, true, false, replicate}
use Rattle.std.specs.Prelude.{Option, Some, None, slice_set}
use Rattle.std.proofs.lemmas.List.Elements.{All-nil, All-cons}
use Rattle.std.proofs.lemmas.List.{length-set, length-replicate, get_or-set_same, get_or-set_other}
use Rattle.std.proofs.lemmas.Bool.{cases_eq}
use Rattle.kin_num.specs.declared.instant.Moment.{Moment}
use Rattle.kin_motion.specs.Course.{Course, live_of}
use Rattle.kin_motion.specs.Numbers.{IsIn}
use Rattle.kin_motion.specs.Scene.{scene_at}
use Rattle.kin_motion.specs.Tournaments.{item_in}
use Rattle.kin_tourney.specs.declared.along.Along.{Along}
use Rattle.kin_tourney.specs.Points.{point_names}
use Rattle.kin_tourney.specs.Tournament.{Tournament, IsAtRest, IsReady, mark_in}
use Rattle.kin_cases.specs.Contests.{IsHeld}

-- a list of marks without a mark
pub all_clear : (marked : List Bool) (n : ℕ) → length marked ≡ n → ((i : ℕ) → mark_in marked i ≡ false) → marked ≡ replicate n false
all_clear [] zero e none = refl
all_clear [] (suc n) e none = absurd (omega (arith, e))
all_clear (m ∷ ms) zero e none = absurd (omega (arith, e))
all_clear (m ∷ ms) (suc n) e none = ap₂ (λ (b : Bool) (bs : List Bool). b ∷ bs) (none 0) (all_clear ms n (omega (arith, e)) (λ i. none (suc i)))

-- an empty slot holds nothing
pub none_in : (n i a : ℕ) → item_in (replicate n None) i ≡ Some a → ⊥
none_in zero i a e = cc
none_in (suc n) zero a e = cc
none_in (suc n) (suc i) a e = none_in n i a e

-- a new contest
pub held_at_first : (size : ℕ) (motions : List (Option Course)) (slots : List (Option ℕ)) (marks : List Bool) (t : Tournament Along ℕ) → size ≤ 15 → t.size ≡ size
    → t.slots ≡ replicate (2 ^ size) None → t.marked ≡ replicate (2 ^ size) false → IsAtRest t → slots ≡ replicate (2 ^ size) None → marks ≡ replicate (2 ^ size) false
    → IsHeld size motions slots marks true t
held_at_first size motions slots marks t small same none unmarked rest empty clear = record {
  small = small;
  size_is = same;
  whole = rest.whole;
  slots_are = none ∙ sym empty;
  marks_are = unmarked ∙ sym clear;
  slots_room = ap length empty ∙ length-replicate (2 ^ size) None;
  marks_room = ap length clear ∙ length-replicate (2 ^ size) false;
  apart = λ i j a e f. absurd (none_in (2 ^ size) i a (ap (λ (s : List (Option ℕ)). item_in s i) (sym empty) ∙ e));
  live = λ i a e. absurd (none_in (2 ^ size) i a (ap (λ (s : List (Option ℕ)). item_in s i) (sym empty) ∙ e));
  rest = λ h. rest;
}

-- a contest may settle at each moment
pub held_ready : (size : ℕ) (motions : List (Option Course)) (slots : List (Option ℕ)) (marks : List Bool) (is_settled : Bool) (t : Tournament Along ℕ) (m : Moment)
    → IsHeld size motions slots marks is_settled t → IsReady point_names t (scene_at motions m)
held_ready size motions slots marks is_settled t m held = record {
  whole = held.whole;
  apart = λ i j a e f. held.apart i j a (there i a e) (there j a f);
  live = λ i a e. All-cons (λ k. IsIn k (live_of motions)) a [] (held.live i a (there i a e)) (All-nil (λ k. IsIn k (live_of motions)));
}
  where
    there : (i a : ℕ) → item_in t.slots i ≡ Some a → item_in slots i ≡ Some a
    there i a e = ap (λ (s : List (Option ℕ)). item_in s i) (sym held.slots_are) ∙ e

-- the contest after a settle
pub held_after : (size : ℕ) (motions : List (Option Course)) (slots : List (Option ℕ)) (marks marks' : List Bool) (is_settled : Bool) (t u : Tournament Along ℕ)
    → IsHeld size motions slots marks is_settled t → u.size ≡ t.size → u.slots ≡ t.slots → length u.marked ≡ length t.marked → IsAtRest u → marks' ≡ replicate (2 ^ size) false
    → IsHeld size motions slots marks' true u
held_after size motions slots marks marks' is_settled t u held same_size same_slots same_room rest clear = record {
  small = held.small;
  size_is = same_size ∙ held.size_is;
  whole = rest.whole;
  slots_are = same_slots ∙ held.slots_are;
  marks_are = all_clear u.marked (2 ^ size) (same_room ∙ ap length held.marks_are ∙ held.marks_room) rest.unmarked ∙ sym clear;
  slots_room = held.slots_room;
  marks_room = ap length clear ∙ length-replicate (2 ^ size) false;
  apart = held.apart;
  live = held.live;
  rest = λ h. rest;
}

-- an item is put into a slot, and no other slot holds it
module _ (slots : List (Option ℕ)) (slot item : ℕ) (within : slot < length slots) where
  abbrev pub new : List (Option ℕ)
  new = slice_set slots slot (Some item)

  -- a slot holds the new item, or what it held
  now_in : (i a : ℕ) → item_in new i ≡ Some a → (i ≡ slot) × (a ≡ item) ⊎ (i ≢ slot) × (item_in slots i ≡ Some a)
  now_in i a e = at (cases_eq i slot)
    where
      at : (i ≡ slot) ⊎ (i ≢ slot) → (i ≡ slot) × (a ≡ item) ⊎ (i ≢ slot) × (item_in slots i ≡ Some a)
      at (inl same) =
          let own : Some item ≡ Some a = sym (get_or-set_same slots slot (Some item) None within) ∙ ap (item_in new) (sym same) ∙ e in
          inl (same, cc)
      at (inr other) = inr (other, sym (get_or-set_other slots slot i (Some item) None other) ∙ e)

  pub apart_set : ((i : ℕ) → i ≢ slot → item_in slots i ≢ Some item) → ((i j a : ℕ) → item_in slots i ≡ Some a → item_in slots j ≡ Some a → i ≡ j)
      → (i j a : ℕ) → item_in new i ≡ Some a → item_in new j ≡ Some a → i ≡ j
  apart_set free apart i j a e f = at (now_in i a e) (now_in j a f)
    where
      at : (i ≡ slot) × (a ≡ item) ⊎ (i ≢ slot) × (item_in slots i ≡ Some a) → (j ≡ slot) × (a ≡ item) ⊎ (j ≢ slot) × (item_in slots j ≡ Some a) → i ≡ j
      at (inl h) (inl k) = h.0 ∙ sym k.0
      at (inl h) (inr k) = absurd (free j k.0 (k.1 ∙ ap Some h.1))
      at (inr h) (inl k) = absurd (free i h.0 (h.1 ∙ ap Some k.1))
      at (inr h) (inr k) = apart i j a h.1 k.1

  pub live_set : (live : List ℕ) → IsIn item live → ((i a : ℕ) → item_in slots i ≡ Some a → IsIn a live) → (i a : ℕ) → item_in new i ≡ Some a → IsIn a live
  live_set live own all i a e = at (now_in i a e)
    where
      at : (i ≡ slot) × (a ≡ item) ⊎ (i ≢ slot) × (item_in slots i ≡ Some a) → IsIn a live
      at (inl h) = subst (λ (x : ℕ). IsIn x live) (sym h.1) own
      at (inr h) = all i a h.1

-- what a slot holds after another was emptied, it held before
pub still_in : (slots : List (Option ℕ)) (slot : ℕ) → slot < length slots → (i a : ℕ) → item_in (slice_set slots slot None) i ≡ Some a → item_in slots i ≡ Some a
still_in slots slot within i a e = at (cases_eq i slot)
  where
    at : (i ≡ slot) ⊎ (i ≢ slot) → item_in slots i ≡ Some a
    at (inl same) = let k : None ≡ Some a = sym (get_or-set_same slots slot None None within) ∙ ap (item_in (slice_set slots slot None)) (sym same) ∙ e in absurd cc
    at (inr other) = sym (get_or-set_other slots slot i None None other) ∙ e

-- a contest with a slot marked
abbrev pub marked_at : ℕ → Option ℕ → Tournament Along ℕ → List (Option ℕ) → Tournament Along ℕ
marked_at slot item t winners = record t { slots = slice_set t.slots slot item; marked = slice_set t.marked slot true; winners = winners }

pub held_marked : (size slot : ℕ) (item : Option ℕ) (motions : List (Option Course)) (slots : List (Option ℕ)) (marks : List Bool) (is_settled : Bool) (t : Tournament Along ℕ) (winners : List (Option ℕ))
    → IsHeld size motions slots marks is_settled t
    → ((i j a : ℕ) → item_in (slice_set slots slot item) i ≡ Some a → item_in (slice_set slots slot item) j ≡ Some a → i ≡ j)
    → ((i a : ℕ) → item_in (slice_set slots slot item) i ≡ Some a → IsIn a (live_of motions))
    → IsHeld size motions (slice_set slots slot item) (slice_set marks slot true) false (marked_at slot item t winners)
held_marked size slot item motions slots marks is_settled t winners held apart live = record {
  small = held.small;
  size_is = held.size_is;
  whole = held.whole;
  slots_are = ap (λ (s : List (Option ℕ)). slice_set s slot item) held.slots_are;
  marks_are = ap (λ (s : List Bool). slice_set s slot true) held.marks_are;
  slots_room = length-set slots slot item ∙ held.slots_room;
  marks_room = length-set marks slot true ∙ held.marks_room;
  apart = apart;
  live = live;
  rest = λ e. absurd cc;
}
