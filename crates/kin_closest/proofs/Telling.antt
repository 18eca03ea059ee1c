-- Slots are told one after another, and in the end all hold their candidates.
use Rattle.std.proofs.Common.{◌≡◌, ◌≢◌, ◌⊎◌, inl, inr, refl, sym, ap, ◌∙◌, arith, List, ℕ, ◌+◌, ◌*◌, ◌/◌, ◌%◌, ◌^◌, ◌<◌, ◌≤◌, length, set, Bool, true, false}
use Rattle.std.specs.Prelude.{Option, Some, None, IfSome, slice_get}
use Rattle.std.proofs.lemmas.Bool.{cases_eq}
use Rattle.std.proofs.lemmas.List.{length-set, get_or-set_same, get_or-set_other}
use Rattle.std.proofs.lemmas.Option.{same_Some, slice_get_within}
use Rattle.kin_algebra.proofs.Members.{get_from_contains, contains_from_get}
use Rattle.kin_algebra.proofs.Places.{get-set_same, get-set_other}
use Rattle.kin_motion.specs.Numbers.{is_in}
use Rattle.kin_motion.specs.Octants.{ListsChanged}
use Rattle.kin_motion.specs.ClosestPairs.{Near}
use Rattle.kin_motion.specs.ClosestFacts.{near_of}
use Rattle.kin_motion.proofs.Members.{in_from_contains, contains_from_in}
use Rattle.kin_tourney.specs.Tournament.{Tournament, mark_in, mark_count}
use Rattle.kin_tourney.proofs.Marks.{mark_more, mark_again}
use Rattle.kin_near.specs.BestPairs.{HoldCandidates}
use Rattle.kin_closest.specs.Told.{AreTold}

-- what is below n where there is something
pub some_low : (n : ℕ) (o : Option ℕ) → ((q : ℕ) → o ≡ Some q → q < n) → IfSome o (λ q. q < n)
some_low n None below = tt
some_low n (Some q) below = below q refl

-- the pair of a slot
abbrev pub pair_of : (ℕ → ℕ → Option ℕ) → ℕ → Option Near
pair_of candidate i = near_of i (i / 8) (candidate (i / 8) (i % 8))

module _ {K : Type 0} (candidate : ℕ → ℕ → Option ℕ) (changed : List ℕ) where
  pub told_none : (t : Tournament K Near) → AreTold candidate changed 0 t t
  told_none t = record {
    same = refl;
    slots_room = refl;
    marks_room = refl;
    told = λ k i low e. absurd (omega (arith, low));
    kept = λ i none. refl;
    marked = λ k i low e. absurd (omega (arith, low));
    few = omega arith;
  }

  pub told_more : (t u v : Tournament K Near) (n slot : ℕ) → slice_get changed n ≡ Some slot → slot < length u.slots → slot < length u.marked → AreTold candidate changed n t u
      → v ≡ record u { slots = set u.slots slot (pair_of candidate slot); marked = set u.marked slot true; winners = v.winners } → AreTold candidate changed (n + 1) t v
  told_more t u v n slot here room marks h e = record {
    same = λ x. record { key = (ap (λ (w : Tournament K Near). w.key) e ∙ ap (λ (w : Tournament K Near). w.key) h.same) x; size = (ap (λ (w : Tournament K Near). w.size) e ∙ ap (λ (w : Tournament K Near). w.size) h.same) x; slots = v.slots; marked = v.marked; winners = v.winners; facts = (ap (λ (w : Tournament K Near). w.facts) e ∙ ap (λ (w : Tournament K Near). w.facts) h.same) x; whole = (ap (λ (w : Tournament K Near). w.whole) e ∙ ap (λ (w : Tournament K Near). w.whole) h.same) x };
    slots_room = ap length slots ∙ length-set u.slots slot (pair_of candidate slot) ∙ h.slots_room;
    marks_room = ap length marked ∙ length-set u.marked slot true ∙ h.marks_room;
    told = λ k i low f. ap (λ xs. slice_get xs i) slots ∙ told_now k i (last_or_before k low) f (cases_eq i slot);
    kept = λ i none. ap (λ xs. slice_get xs i) slots ∙ get-set_other u.slots slot i (pair_of candidate slot) (λ f. none n (omega arith) (here ∙ ap Some (sym f))) ∙ h.kept i (λ k low. none k (omega (arith, low)));
    marked = λ k i low f. ap (λ xs. mark_in xs i) marked ∙ marked_now k i (last_or_before k low) f (cases_eq i slot);
    few = fewer (mark_in u.marked slot) refl;
  }
    where
      slots : v.slots ≡ set u.slots slot (pair_of candidate slot)
      slots = ap (λ (w : Tournament K Near). w.slots) e

      marked : v.marked ≡ set u.marked slot true
      marked = ap (λ (w : Tournament K Near). w.marked) e

      last_or_before : (k : ℕ) → k < n + 1 → (k ≡ n) ⊎ (k < n)
      last_or_before k low = at (cases_eq k n)
        where
          at : (k ≡ n) ⊎ (k ≢ n) → (k ≡ n) ⊎ (k < n)
          at (inl f) = inl f
          at (inr f) = inr (omega (arith, low, f))

      told_now : (k i : ℕ) → (k ≡ n) ⊎ (k < n) → slice_get changed k ≡ Some i → (i ≡ slot) ⊎ (i ≢ slot) → slice_get (set u.slots slot (pair_of candidate slot)) i ≡ Some (pair_of candidate i)
      told_now k i w f (inl same) = ap (slice_get (set u.slots slot (pair_of candidate slot))) same ∙ get-set_same u.slots slot (pair_of candidate slot) room ∙ ap (λ j. Some (pair_of candidate j)) (sym same)
      told_now k i (inl last) f (inr other) = absurd (other (same_Some _ _ (sym f ∙ ap (slice_get changed) last ∙ here)))
      told_now k i (inr before) f (inr other) = get-set_other u.slots slot i (pair_of candidate slot) other ∙ h.told k i before f

      marked_now : (k i : ℕ) → (k ≡ n) ⊎ (k < n) → slice_get changed k ≡ Some i → (i ≡ slot) ⊎ (i ≢ slot) → mark_in (set u.marked slot true) i ≡ true
      marked_now k i w f (inl same) = ap (mark_in (set u.marked slot true)) same ∙ get_or-set_same u.marked slot true false marks
      marked_now k i (inl last) f (inr other) = absurd (other (same_Some _ _ (sym f ∙ ap (slice_get changed) last ∙ here)))
      marked_now k i (inr before) f (inr other) = get_or-set_other u.marked slot i true false other ∙ h.marked k i before f

      fewer : (b : Bool) → mark_in u.marked slot ≡ b → mark_count v.marked ≤ mark_count t.marked + (n + 1)
      fewer true f = let k = mark_again u.marked slot marks f in let c : mark_count v.marked ≡ mark_count (set u.marked slot true) = ap mark_count marked in let g = h.few in omega (arith, k, c, g)
      fewer false f = let k = mark_more u.marked slot marks f in let c : mark_count v.marked ≡ mark_count (set u.marked slot true) = ap mark_count marked in let g = h.few in omega (arith, k, c, g)

module _ {K : Type 0} (size : ℕ) (old new : ℕ → ℕ → Option ℕ) (changed : List ℕ) (t u : Tournament K Near) (told : AreTold new changed (length changed) t u) where
  same_option : (a b : Option ℕ) → (a ≡ b) ⊎ (a ≢ b)
  same_option None None = inl refl
  same_option None (Some y) = inr (λ e. absurd cc)
  same_option (Some x) None = inr (λ e. absurd cc)
  same_option (Some x) (Some y) = at (cases_eq x y)
    where
      at : (x ≡ y) ⊎ (x ≢ y) → (Some x ≡ Some y) ⊎ (Some x ≢ Some y)
      at (inl e) = inl (ap Some e)
      at (inr n) = inr (λ e. n (same_Some x y e))

  -- and all hold their candidates
  pub held_after : HoldCandidates size old t.slots → ListsChanged size old new changed → HoldCandidates size new u.slots
  held_after h c = record { count = told.slots_room ∙ h.count; each = λ p w low eight. at p w low eight (is_in (8 * p + w) changed) refl }
    where
      at : (p w : ℕ) → p < 2 ^ size → w < 8 → (b : Bool) → is_in (8 * p + w) changed ≡ b → slice_get u.slots (8 * p + w) ≡ Some (near_of (8 * p + w) p (new p w))
      at p w low eight true e =
          let place = get_from_contains changed (8 * p + w) (contains_from_in changed (8 * p + w) e) in
          let apex : (8 * p + w) / 8 ≡ p = omega (arith, eight) in
          let octant : (8 * p + w) % 8 ≡ w = omega (arith, eight) in
          told.told place.0 (8 * p + w) (slice_get_within changed place.0 (8 * p + w) place.1) place.1
          ∙ (λ t. Some (near_of (8 * p + w) (apex t) (new (apex t) (octant t))))
      at p w low eight false e =
          told.kept (8 * p + w) (λ k less f. absurd (let clash : true ≡ false = sym (in_from_contains changed (8 * p + w) (contains_from_get changed k (8 * p + w) f)) ∙ e in cc))
          ∙ h.each p w low eight
          ∙ ap (λ a. Some (near_of (8 * p + w) p a)) (same (same_option (old p w) (new p w)))
        where
          same : (old p w ≡ new p w) ⊎ (old p w ≢ new p w) → old p w ≡ new p w
          same (inl f) = f
          same (inr f) = absurd (let g : true ≡ false = sym ((c.each p w low eight).1 f) ∙ e in cc)
