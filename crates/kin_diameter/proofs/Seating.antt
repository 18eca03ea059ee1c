-- From the cells of one sweep to those of the next.
use Rattle.std.proofs.Common.{◌≡◌, ◌≢◌, ◌⊎◌, inl, inr, refl, sym, ap, ◌∙◌, subst, arith, List, [], ℕ, ◌+◌, ◌*◌, ◌^◌, ◌<◌, ◌≤◌, ◌++◌, length, reverse, take, drop}
use Rattle.std.specs.Prelude.{Contains, Option, Some, None, replicate}
use Rattle.std.proofs.lemmas.List.{append-nil, drop_all, length-replicate, take_all}
use Rattle.std.proofs.lemmas.Option.{none-some}
use Rattle.std.proofs.Math.Pow.{pow_mono}
use Rattle.kin_algebra.proofs.Places.{get_or-replicate_any}
use Rattle.kin_algebra.proofs.Members.{contains_none}
use Rattle.kin_motion.specs.ClosestPairs.{Near}
use Rattle.kin_motion.specs.Merges.{Half.{A, B}, Breakpoint, own_of, breakpoints_of}
use Rattle.kin_motion.specs.Sweeps.{breakpoints_back, cell_pairs, HoldsCell}
use Rattle.kin_motion.specs.Tournaments.{item_in}
use Rattle.kin_motion.proofs.Members.{in_reverse}
use Rattle.kin_motion.proofs.SweepCells.{IsCellOf, cell_of}
use Rattle.kin_tourney.specs.Tournament.{Tournament}
use Rattle.kin_diameter.specs.Merging.{AreLow}
use Rattle.kin_diameter.specs.Changes.{DifferBetween}
use Rattle.kin_diameter.specs.Seats.{HaveSlots, AreWithin, HoldCells, IsKept, IsChanged, AreTold, AreSeated}
use Rattle.kin_diameter.proofs.ListEnds.{between_turned, between_or_both, between_in}

-- numbers that have one of 2^13 slots are low
pub slots_low : (size : ℕ) (xs : List ℕ) → size ≤ 13 → HaveSlots size xs → AreLow xs
slots_low size xs small have i m =
    let most : 2 ^ size ≤ 2 ^ 13 = pow_mono small in
    let low = have i m in
    omega (arith, most, low)

-- the cells of a sweep of such chains have slots
pub cells_within : (size : ℕ) (upper lower : List ℕ) (es : List Breakpoint) (cells : List Near) → HaveSlots size upper → HaveSlots size lower → own_of A es ≡ breakpoints_of A upper → own_of B es ≡ breakpoints_back (reverse lower)
    → cells ≡ cell_pairs upper (reverse lower) es → AreWithin (2 ^ size) cells
cells_within size upper lower es cells above below of_upper of_lower listed n c = at k.slot
  where
    k : IsCellOf upper (reverse lower) n
    k = cell_of upper (reverse lower) es of_upper of_lower n (subst (λ (ns : List Near). Contains ns n) listed c)

    at : (n.slot ≡ 2 * k.u) ⊎ (n.slot ≡ 2 * k.v + 1) → n.slot < 2 ^ size
    at (inl e) = let low = above k.u k.upper in omega (arith, e, low)
    at (inr e) = let low = below k.v (in_reverse k.v lower k.lower) in omega (arith, e, low)

-- all of a list has been written anew
pub written : (n : ℕ) (xs ys : List (Option Near)) → length xs ≡ length ys → n ≡ length ys → take n (xs ++ drop (length xs) ys) ≡ xs
written n xs ys same all =
    ap (λ (zs : List (Option Near)). take n (xs ++ zs)) (drop_all (length xs) ys (omega (arith, same)))
    ∙ ap (take n) (append-nil xs) ∙ take_all n xs (omega (arith, same, all))

module _ {K : Type 0} where
  -- told once and then again
  pub told_through : (want : ℕ → Option Near) (t u v : Tournament K Near) → AreTold want t u → AreTold want u v → AreTold want t v
  told_through want t u v a b = record {
    same = λ x. record {
      key = (ap (λ (w : Tournament K Near). w.key) b.same ∙ ap (λ (w : Tournament K Near). w.key) a.same) x;
      size = (ap (λ (w : Tournament K Near). w.size) b.same ∙ ap (λ (w : Tournament K Near). w.size) a.same) x;
      slots = v.slots;
      marked = v.marked;
      winners = v.winners;
      facts = (ap (λ (w : Tournament K Near). w.facts) b.same ∙ ap (λ (w : Tournament K Near). w.facts) a.same) x;
      whole = (ap (λ (w : Tournament K Near). w.whole) b.same ∙ ap (λ (w : Tournament K Near). w.whole) a.same) x;
    };
    slots_room = b.slots_room ∙ a.slots_room;
    marks_room = b.marks_room ∙ a.marks_room;
    each = λ i. at i (a.each i) (b.each i);
  }
    where
      at : (i : ℕ) → IsKept t u i ⊎ IsChanged want t u i → IsKept u v i ⊎ IsChanged want u v i → IsKept t v i ⊎ IsChanged want t v i
      at i (inl k) (inl l) = inl (l.0 ∙ k.0, l.1 ∙ k.1)
      at i (inl k) (inr d) = inr (d.0, d.1, λ e. d.2 (k.0 ∙ e))
      at i (inr c) (inl l) = inr (l.0 ∙ c.0, l.1 ∙ c.1, c.2)
      at i (inr c) (inr d) = absurd (d.2 c.0)

  module _ (t u v : Tournament K Near) (before cells gone come : List Near) (free places free' : List (Option Near)) (was : AreSeated t before free) (held : HoldCells cells places)
      (between : DifferBetween before cells gone come)
      (first : AreTold (item_in places) t u) (told : (n : Near) → Contains gone n → item_in u.slots n.slot ≡ item_in places n.slot)
      (second : AreTold (item_in places) u v) (told' : (n : Near) → Contains come n → item_in v.slots n.slot ≡ item_in places n.slot) where
    both : AreTold (item_in places) t v
    both = told_through (item_in places) t u v first second

    same_size : v.size ≡ t.size
    same_size = ap (λ (w : Tournament K Near). w.size) both.same

    -- a slot that has got what is in its place holds a cell of the new sweep, if there is one
    placed : (i : ℕ) → item_in v.slots i ≡ item_in places i → HoldsCell cells i (item_in v.slots i)
    placed i e = subst (HoldsCell cells i) (sym e) (held i)

    still : (i : ℕ) → item_in u.slots i ≡ item_in places i → IsKept u v i ⊎ IsChanged (item_in places) u v i → item_in v.slots i ≡ item_in places i
    still i e (inl k) = k.0 ∙ e
    still i e (inr c) = c.0

    -- a slot that is as it was, of a cell before
    still_held : (i : ℕ) (n : Near) → item_in v.slots i ≡ Some n → n.slot ≡ i → Contains gone n ⊎ Contains cells n → HoldsCell cells i (item_in v.slots i)
    still_held i n e here (inl c) = placed i (still i (subst (λ j. item_in u.slots j ≡ item_in places j) here (told n c)) (second.each i))
    still_held i n e here (inr c) = subst (HoldsCell cells i) (sym e) (c, here)

    -- and of none
    still_none : (i : ℕ) → item_in v.slots i ≡ None → ((n : Near) → Contains before n → n.slot ≢ i) → HoldsCell cells i (item_in v.slots i)
    still_none i e none = subst (HoldsCell cells i) (sym e) (λ n c here. at n here (between_or_both cells before come gone (between_turned before cells gone come between) n c))
      where
        at : (n : Near) → n.slot ≡ i → Contains come n ⊎ Contains before n → ⊥
        at n here (inl c) = no_place (item_in places i) refl (held i)
          where
            empty : item_in places i ≡ None
            empty = sym (subst (λ j. item_in v.slots j ≡ item_in places j) here (told' n c)) ∙ e

            no_place : (x : Option Near) → item_in places i ≡ x → HoldsCell cells i x → ⊥
            no_place (Some m) f h = none-some m (sym empty ∙ f)
            no_place None f h = h n (between_in cells before come gone (between_turned before cells gone come between) n c) here
        at n here (inr c) = none n c here

    all_held : (i : ℕ) → HoldsCell cells i (item_in v.slots i)
    all_held i = at (both.each i)
      where
        kept : item_in v.slots i ≡ item_in t.slots i → (x : Option Near) → item_in t.slots i ≡ x → HoldsCell before i x → HoldsCell cells i (item_in v.slots i)
        kept same (Some n) e h = still_held i n (same ∙ e) h.1 (between_or_both before cells gone come between n h.0)
        kept same None e h = still_none i (same ∙ e) h

        at : IsKept t v i ⊎ IsChanged (item_in places) t v i → HoldsCell cells i (item_in v.slots i)
        at (inl k) = kept k.0 (item_in t.slots i) refl (was.held i)
        at (inr c) = placed i c.0

    pub told_all : AreTold (item_in v.slots) t v
    told_all = record { same = both.same; slots_room = both.slots_room; marks_room = both.marks_room; each = λ i. at i (both.each i) }
      where
        at : (i : ℕ) → IsKept t v i ⊎ IsChanged (item_in places) t v i → IsKept t v i ⊎ IsChanged (item_in v.slots) t v i
        at i (inl k) = inl k
        at i (inr c) = inr (refl, c.1, λ e. c.2 (e ∙ c.0))

    pub seated_again : AreWithin (2 ^ t.size) cells → length free' ≡ 2 ^ t.size → ((i : ℕ) → item_in free' i ≡ None) → AreSeated v cells free'
    seated_again within room none = record {
      slots_room = both.slots_room ∙ was.slots_room ∙ ap (λ n. 2 ^ n) (sym same_size);
      marks_room = both.marks_room ∙ was.marks_room ∙ ap (λ n. 2 ^ n) (sym same_size);
      places_room = room ∙ ap (λ n. 2 ^ n) (sym same_size);
      within = subst (λ n. AreWithin (2 ^ n) cells) (sym same_size) within;
      held = all_held;
      free = none;
    }

  -- without cells
  pub seated_none : (size : ℕ) (t : Tournament K Near) (cells : List Near) (places : List (Option Near)) → t.size ≡ size → t.slots ≡ replicate (2 ^ size) None → length t.marked ≡ 2 ^ size → cells ≡ [] → places ≡ replicate (2 ^ size) None → AreSeated t cells places
  seated_none size t cells places same slots marks none free = record {
    slots_room = ap length slots ∙ length-replicate (2 ^ size) None ∙ ap (λ n. 2 ^ n) (sym same);
    marks_room = marks ∙ ap (λ n. 2 ^ n) (sym same);
    places_room = ap length free ∙ length-replicate (2 ^ size) None ∙ ap (λ n. 2 ^ n) (sym same);
    within = λ n c. absurd (nowhere n c);
    held = λ i. subst (HoldsCell cells i) (sym (ap (λ xs. item_in xs i) slots ∙ get_or-replicate_any (2 ^ size) i None)) (λ n c. absurd (nowhere n c));
    free = λ i. ap (λ xs. item_in xs i) free ∙ get_or-replicate_any (2 ^ size) i None;
  }
    where
      nowhere : (n : Near) → ¬ (Contains cells n)
      nowhere n c = contains_none n (subst (λ (ns : List Near). Contains ns n) none c)
