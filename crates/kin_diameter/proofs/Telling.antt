-- Slots get what is wanted one after another.
use Rattle.std.proofs.Common.{◌≡◌, ◌≢◌, ◌⊎◌, inl, inr, refl, sym, ap, ◌∙◌, subst, arith, List, ℕ, ◌+◌, ◌<◌, ◌≤◌, length, set, get_or, true, false}
use Rattle.std.specs.Prelude.{Contains, Option, Some, None, slice_get}
use Rattle.std.proofs.lemmas.Bool.{cases_eq}
use Rattle.std.proofs.lemmas.List.{length-set, get_or-set_same, get_or-set_other}
use Rattle.std.proofs.lemmas.Option.{same_Some, slice_get_within, slice_get-get_or}
use Rattle.kin_algebra.proofs.Members.{get_from_contains}
use Rattle.kin_motion.specs.ClosestPairs.{Near}
use Rattle.kin_motion.specs.Tournaments.{item_in}
use Rattle.kin_tourney.specs.Tournament.{Tournament, mark_in}
use Rattle.kin_diameter.specs.Seats.{AreWithin, IsKept, IsChanged, IsTold, AreTold}
use Rattle.kin_diameter.proofs.Placing.{last_or_before, cell_here, cell_within}

-- the slots of the first k cells have got what is wanted, and no other one has changed
pub record AreToldTo {K : Type 0} (want : ℕ → Option Near) (cells : List Near) (old new : Tournament K Near) (k : ℕ) : Type 0 where
  pub told : AreTold want old new
  pub held : (j : ℕ) (n : Near) → j < k → slice_get cells j ≡ Some n → item_in new.slots n.slot ≡ want n.slot

-- what is in a place
pub place_here : (places : List (Option Near)) (slot : ℕ) (x : Option Near) → slot < length places → x ≡ get_or places slot x → x ≡ item_in places slot
place_here places slot x inside is = is ∙ same_Some _ _ (sym (slice_get-get_or places slot x inside) ∙ slice_get-get_or places slot None inside)

module _ {K : Type 0} (want : ℕ → Option Near) where
  pub kept_all : (t : Tournament K Near) → AreTold want t t
  kept_all t = record { same = refl; slots_room = refl; marks_room = refl; each = λ i. inl (refl, refl) }

  module _ (t u v : Tournament K Near) (slot : ℕ) (pair : Option Near) (wanted : want slot ≡ pair) (room : slot < length u.slots) (marks : slot < length u.marked) (before : AreTold want t u) where
    module _ (other : item_in u.slots slot ≢ pair) (e : v ≡ record u { slots = set u.slots slot pair; marked = set u.marked slot true; winners = v.winners }) where
      slots : v.slots ≡ set u.slots slot pair
      slots = ap (λ (w : Tournament K Near). w.slots) e

      marked : v.marked ≡ set u.marked slot true
      marked = ap (λ (w : Tournament K Near). w.marked) e

      here : item_in v.slots slot ≡ want slot
      here = ap (λ xs. item_in xs slot) slots ∙ get_or-set_same u.slots slot pair None room ∙ sym wanted

      mark_here : mark_in v.marked slot ≡ true
      mark_here = ap (λ xs. mark_in xs slot) marked ∙ get_or-set_same u.marked slot true false marks

      away : (i : ℕ) → i ≢ slot → item_in v.slots i ≡ item_in u.slots i
      away i n = ap (λ xs. item_in xs i) slots ∙ get_or-set_other u.slots slot i pair None n

      mark_away : (i : ℕ) → i ≢ slot → mark_in v.marked i ≡ mark_in u.marked i
      mark_away i n = ap (λ xs. mark_in xs i) marked ∙ get_or-set_other u.marked slot i true false n

      at_slot : IsKept t u slot ⊎ IsChanged want t u slot → IsChanged want t v slot
      at_slot (inl kept) = (here, mark_here, λ f. other (kept.0 ∙ f ∙ wanted))
      at_slot (inr changed) = absurd (other (changed.0 ∙ wanted))

      elsewhere : (i : ℕ) → i ≢ slot → IsKept t u i ⊎ IsChanged want t u i → IsKept t v i ⊎ IsChanged want t v i
      elsewhere i n (inl kept) = inl (away i n ∙ kept.0, mark_away i n ∙ kept.1)
      elsewhere i n (inr changed) = inr (away i n ∙ changed.0, mark_away i n ∙ changed.1, changed.2)

      set_more : AreTold want t v
      set_more = record {
        same = λ x. record {
          key = (ap (λ (w : Tournament K Near). w.key) e ∙ ap (λ (w : Tournament K Near). w.key) before.same) x;
          size = (ap (λ (w : Tournament K Near). w.size) e ∙ ap (λ (w : Tournament K Near). w.size) before.same) x;
          slots = v.slots;
          marked = v.marked;
          winners = v.winners;
          facts = (ap (λ (w : Tournament K Near). w.facts) e ∙ ap (λ (w : Tournament K Near). w.facts) before.same) x;
          whole = (ap (λ (w : Tournament K Near). w.whole) e ∙ ap (λ (w : Tournament K Near). w.whole) before.same) x;
        };
        slots_room = ap length slots ∙ length-set u.slots slot pair ∙ before.slots_room;
        marks_room = ap length marked ∙ length-set u.marked slot true ∙ before.marks_room;
        each = λ i. at i (cases_eq i slot);
      }
        where
          at : (i : ℕ) → (i ≡ slot) ⊎ (i ≢ slot) → IsKept t v i ⊎ IsChanged want t v i
          at i (inl f) = inr (subst (IsChanged want t v) (sym f) (at_slot (before.each slot)))
          at i (inr n) = elsewhere i n (before.each i)

    -- one slot more gets it
    pub told_one : IsTold slot pair u v → AreTold want t v
    told_one (inl (held, same)) = subst (AreTold want t) (sym same) before
    told_one (inr (other, e)) = set_more other e

    -- it holds what is wanted
    pub held_one : IsTold slot pair u v → item_in v.slots slot ≡ want slot
    held_one (inl (held, same)) = ap (λ (w : Tournament K Near). item_in w.slots slot) same ∙ held ∙ sym wanted
    held_one (inr (other, e)) = here other e

    -- and so do those that did before
    pub held_still : (i : ℕ) → item_in u.slots i ≡ want i → IsTold slot pair u v → item_in v.slots i ≡ want i
    held_still i there (inl (held, same)) = ap (λ (w : Tournament K Near). item_in w.slots i) same ∙ there
    held_still i there (inr (other, e)) = at (cases_eq i slot)
      where
        at : (i ≡ slot) ⊎ (i ≢ slot) → item_in v.slots i ≡ want i
        at (inl f) = subst (λ j. item_in v.slots j ≡ want j) (sym f) (here other e)
        at (inr n) = away other e i n ∙ there

  module _ (cells : List Near) (t : Tournament K Near) where
    pub told_none : AreToldTo want cells t t 0
    told_none = record { told = kept_all t; held = λ j n low. absurd (omega (arith, low)) }

    pub told_more : (u v : Tournament K Near) (k : ℕ) (n : Near) → slice_get cells k ≡ Some n → n.slot < length u.slots → n.slot < length u.marked → AreToldTo want cells t u k → IsTold n.slot (want n.slot) u v → AreToldTo want cells t v (k + 1)
    told_more u v k n here room marks h is = record {
      told = told_one t u v n.slot (want n.slot) refl room marks h.told is;
      held = λ j m low e. at j m (last_or_before j k low) e;
    }
      where
        at : (j : ℕ) (m : Near) → (j ≡ k) ⊎ (j < k) → slice_get cells j ≡ Some m → item_in v.slots m.slot ≡ want m.slot
        at j m (inr less) e = held_still t u v n.slot (want n.slot) refl room marks h.told m.slot (h.held j m less e) is
        at j m (inl last) e =
            subst (λ (x : Near). item_in v.slots x.slot ≡ want x.slot) (same_Some n m (sym here ∙ ap (slice_get cells) (sym last) ∙ e))
            (held_one t u v n.slot (want n.slot) refl room marks h.told is)

    pub told_next : (room : ℕ) (u v : Tournament K Near) (k slot : ℕ) (n : Near) (pair : Option Near) → AreWithin room cells → length t.slots ≡ room → length t.marked ≡ room → k < length cells → n ≡ get_or cells k n → slot ≡ n.slot → pair ≡ want slot
        → AreToldTo want cells t u k → IsTold slot pair u v → AreToldTo want cells t v (k + 1)
    told_next room u v k slot n pair within slots_room marks_room inside is e wanted h told =
        told_more u v k n (cell_here cells k n inside is)
        (subst (λ m. n.slot < m) (sym (h.told.slots_room ∙ slots_room)) (cell_within room cells k n.slot n within inside is refl))
        (subst (λ m. n.slot < m) (sym (h.told.marks_room ∙ marks_room)) (cell_within room cells k n.slot n within inside is refl))
        h (subst (λ i. IsTold i (want i) u v) e (subst (λ (x : Option Near). IsTold slot x u v) wanted told))

    pub told_all : (u : Tournament K Near) (k : ℕ) → length cells ≤ k → AreToldTo want cells t u k → (n : Near) → Contains cells n → item_in u.slots n.slot ≡ want n.slot
    told_all u k ended h n c = let place = get_from_contains cells n c in h.held place.0 n (let low = slice_get_within cells place.0 n place.1 in omega (arith, low, ended)) place.1
