-- From the state before a settle to that after it.
use Rattle.std.proofs.Common.{◌≡◌, ◌≢◌, ◌⊎◌, inl, inr, refl, sym, ap, ◌∙◌, subst, arith, List, [], ◌∷◌, ◌++◌, ℕ, ◌+◌, ◌*◌, ◌^◌, ◌<◌, ◌≤◌, length, map, filter, reverse, Bool, false}
use Rattle.std.specs.Prelude.{Contains, Option, Some, None, min, max, IsTrue}
use Rattle.std.proofs.lemmas.Bool.{and_parts, cases_lt}
use Rattle.std.proofs.lemmas.List.{length-map}
use Rattle.std.proofs.lemmas.List.Elements.{All-nil, All-cons}
use Rattle.std.proofs.lemmas.Nat.{pow-add}
use Rattle.std.proofs.lemmas.Option.{same_Some, slice_get-get_or, slice_get_within}
use Rattle.std.proofs.Math.Pow.{pow_mono}
use Rattle.kin_motion.specs.declared.fact.Placed.{Placed}
use Rattle.kin_motion.specs.Agreements.{FitsSize}
use Rattle.kin_motion.specs.Chains.{IsUpperChain, is_bare}
use Rattle.kin_motion.specs.ClosestPairs.{Near}
use Rattle.kin_motion.specs.Deltas.{Change}
use Rattle.kin_motion.specs.Farthest.{farness_key}
use Rattle.kin_motion.specs.Forms.{names}
use Rattle.kin_motion.specs.Kinetics.{ListsFailing, HasChanged}
use Rattle.kin_motion.specs.Merges.{Breakpoint, slopes_from}
use Rattle.kin_motion.specs.Numbers.{IsIn}
use Rattle.kin_motion.specs.Parts.{moved_by}
use Rattle.kin_motion.specs.Scene.{Scene, IsReal, placed_at, reflected}
use Rattle.kin_motion.specs.Sets.{ListsExactly}
use Rattle.kin_motion.specs.Sweeps.{IsSweep, IsSwept, cell_pairs, HoldsCell, AreCellSlots}
use Rattle.kin_motion.specs.Tournaments.{item_in}
use Rattle.kin_motion.proofs.Members.{in_reverse}
use Rattle.kin_motion.proofs.SetLaws.{contains_mapped}
use Rattle.kin_motion.proofs.SweepCells.{IsCellOf, cell_of}
use Rattle.kin_tourney.specs.Names.{AreLive}
use Rattle.kin_tourney.specs.Tournament.{Tournament, IsAtRest, IsReady, IsSettled, mark_count, CoversAskable}
use Rattle.kin_pairs.specs.declared.farness.Farness.{Farness}
use Rattle.kin_pairs.specs.PairKeys.{pair_names}
use Rattle.kin_pairs.specs.Sorting.{is_beyond, taken_back}
use Rattle.kin_pairs.proofs.Joining.{joined, facts_low}
use Rattle.kin_pairs.proofs.LiveNames.{names_live}
use Rattle.kin_pairs.proofs.Splitting.{pairs_covered}
use Rattle.kin_diameter.specs.Diameter.{Diameter, facts_of, names_leaving, IsSettledKinDiameter, IsReadyDiameter, IsSound, AreFewTests}
use Rattle.kin_diameter.specs.DiameterLaws.{farthest_settled}
use Rattle.kin_diameter.specs.Seats.{HaveSlots, AreTold, AreSeated}
use Rattle.kin_diameter.proofs.MarkedSlots.{marked_slots, marked_count, marked_changed}

-- a chain has live numbers alone
pub chain_live : (s : Scene) (live xs : List ℕ) (i : ℕ) → IsUpperChain s live xs → IsIn i xs → IsIn i live
chain_live s live xs i chain m = (and_parts _ (is_bare s live i) (sym (chain.members i) ∙ m)).0

-- of two live numbers the lesser and the greater are live
lesser_live : (live : List ℕ) (i j : ℕ) → IsIn i live → IsIn j live → IsIn (min i j) live
lesser_live live i j a b = at (cases_lt i j)
  where
    at : (i < j) ⊎ (j ≤ i) → IsIn (min i j) live
    at (inl h) = subst (λ n. IsIn n live) (let e : i ≡ min i j = omega (arith, h) in e) a
    at (inr h) = subst (λ n. IsIn n live) (let e : j ≡ min i j = omega (arith, h) in e) b

greater_live : (live : List ℕ) (i j : ℕ) → IsIn i live → IsIn j live → IsIn (max i j) live
greater_live live i j a b = at (cases_lt i j)
  where
    at : (i < j) ⊎ (j ≤ i) → IsIn (max i j) live
    at (inl h) = subst (λ n. IsIn n live) (let e : j ≡ max i j = omega (arith, h) in e) b
    at (inr h) = subst (λ n. IsIn n live) (let e : i ≡ max i j = omega (arith, h) in e) a

-- a fact that may be asked for doesn't name a number that isn't live
none_leaving : (leaving : Option ℕ) (live : List ℕ) (p : Placed) → ((i : ℕ) → leaving ≡ Some i → ¬ (IsIn i live)) → ((i : ℕ) → ¬ (IsIn i live) → names p.fact.form i ≡ false) → names_leaving leaving (moved_by 1 p) ≡ false
none_leaving None live p gone h = refl
none_leaving (Some i) live p gone h = h i (gone i refl)

-- slopes are in part 0
pub slopes_first : (s : Scene) (es : List Breakpoint) (slopes : List Placed) → slopes ≡ map (placed_at s 0) (slopes_from es) → (p : Placed) → Contains slopes p → p.part < 1
slopes_first s es slopes e p c =
    let m = contains_mapped (placed_at s 0) (slopes_from es) p (subst (λ (ps : List Placed). Contains ps p) e c) in
    let f : p.part ≡ 0 = ap (λ (q : Placed). q.part) m.2 in omega (arith, f)

-- the slots as the definition has them
pub slots_filled : (size : ℕ) (cells : List Near) (slots : List (Option Near)) → length slots ≡ 2 ^ (size + 1) → ((i : ℕ) → HoldsCell cells i (item_in slots i)) → AreCellSlots size cells slots
slots_filled size cells slots room held = record {
  count = room;
  each = λ i x e. subst (HoldsCell cells i) (same_Some _ _ (sym (slice_get-get_or slots i None (slice_get_within slots i x e)) ∙ e)) (held i);
}

-- the chains have been swept, and the cells have their slots
pub record HasSwept (old : Diameter) (s : Scene) (es : List Breakpoint) (slopes : List Placed) (u : Tournament Farness Near) (listed : List Near) (free : List (Option Near)) : Type 0 where
  pub sweep : IsSweep s old.upper (reverse old.lower) es
  pub is : slopes ≡ map (placed_at s 0) (slopes_from es)
  pub told : AreTold (item_in u.slots) old.cells u
  pub all : listed ≡ cell_pairs old.upper (reverse old.lower) es
  pub seated : AreSeated u listed free

pub has_swept : {old : Diameter} {s : Scene} {es bs : List Breakpoint} {slopes : List Placed} {u : Tournament Farness Near} {listed : List Near} {free : List (Option Near)} {a b c d : List ℕ} → a ≡ old.upper → b ≡ old.lower → c ≡ old.upper → d ≡ old.lower → bs ≡ es
    → IsSweep s a (reverse b) es → slopes ≡ map (placed_at s 0) (slopes_from es) → AreTold (item_in u.slots) old.cells u → listed ≡ cell_pairs c (reverse d) bs → AreSeated u listed free → HasSwept old s es slopes u listed free
has_swept {old} {s} {es} {bs} {slopes} {u} {listed} {free} {a} {b} {c} {d} e f g h k sweep is told all seated = record {
  sweep = subst (λ xs. IsSweep s old.upper (reverse xs) es) f (subst (λ xs. IsSweep s xs (reverse b) es) e sweep);
  is = is;
  told = told;
  all = all ∙ (λ t. cell_pairs (g t) (reverse (h t)) (k t));
  seated = seated;
}

-- what a settle is called with
pub record IsCalled (old : Diameter) (cells : List Near) (places : List (Option Near)) (s : Scene) (failed : List Placed) : Type 0 where
  pub known : IsSound old.size old.slopes old.cells cells places
  pub real : IsReal s
  pub may : IsReadyDiameter old s
  pub failing : ListsFailing (facts_of old) (names_leaving old.leaving) s failed

pub called : {old k : Diameter} {cells : List Near} {places : List (Option Near)} {s : Scene} {failed : List Placed} → old ≡ k → (IsTrue old.whole → IsSound old.size old.slopes old.cells cells places) → IsReal s → IsReadyDiameter k s
    → ListsFailing (facts_of k) (names_leaving k.leaving) s failed → IsCalled old cells places s failed
called {old} {k} {cells} {places} {s} {failed} is known real ready failing =
    let may : IsReadyDiameter old s = subst (λ (c : Diameter). IsReadyDiameter c s) (sym is) ready in
    record { known = known may.whole; real = real; may = may; failing = subst (λ (c : Diameter). ListsFailing (facts_of c) (names_leaving c.leaving) s failed) (sym is) failing }

module _ {old : Diameter} {cells : List Near} {places : List (Option Near)} {s : Scene} {failed : List Placed} (call : IsCalled old cells places s failed) where
  pub fits_all : FitsSize 12 s
  fits_all i live = let low = call.may.fits i live in let most : 2 ^ old.size ≤ 2 ^ 12 = pow_mono call.known.small in omega (arith, low, most)

  pub levels_few : old.cells.size ≤ 13
  levels_few = let e = call.known.levels in let k = call.known.small in omega (arith, e, k)

  have_slots : (t : Scene) (xs : List ℕ) → IsUpperChain t s.live xs → HaveSlots old.cells.size xs
  have_slots t xs chain i m =
      let low = call.may.fits i (chain_live t s.live xs i chain m) in
      let twice = pow-add 2 old.size 1 in
      subst (λ n. 2 * i + 1 < 2 ^ n) (sym call.known.levels) (omega (arith, low, twice))

  pub upper_slots : HaveSlots old.cells.size old.upper
  upper_slots = have_slots s old.upper call.may.chains.0

  pub lower_slots : HaveSlots old.cells.size old.lower
  lower_slots = have_slots (reflected s) old.lower call.may.chains.1

  -- the chains have been swept, and the cells have their slots
  module _ {es : List Breakpoint} {slopes : List Placed} {u : Tournament Farness Near} {listed : List Near} {free : List (Option Near)} (has : HasSwept old s es slopes u listed free) where
    swept : IsSwept s old.upper old.lower es
    swept = record { upper_chain = call.may.chains.0; lower_chain = call.may.chains.1; sweep = has.sweep }

    same_size : u.size ≡ old.cells.size
    same_size = ap (λ (t : Tournament Farness Near). t.size) has.told.same

    same_facts : u.facts ≡ old.cells.facts
    same_facts = ap (λ (t : Tournament Farness Near). t.facts) has.told.same

    levels : u.size ≡ old.size + 1
    levels = same_size ∙ call.known.levels

    -- both numbers of a cell are live
    cell_live : (n : Near) → Contains listed n → AreLive s.live (pair_names n)
    cell_live n c = subst (λ (m : Near). AreLive s.live (pair_names m)) (sym k.pair) (All-cons (λ i. IsIn i s.live) (min k.u k.v) (max k.u k.v ∷ []) (lesser_live s.live k.u k.v u_live v_live)
        (All-cons (λ i. IsIn i s.live) (max k.u k.v) [] (greater_live s.live k.u k.v u_live v_live) (All-nil (λ i. IsIn i s.live))))
      where
        k : IsCellOf old.upper (reverse old.lower) n
        k = cell_of old.upper (reverse old.lower) es has.sweep.of_upper has.sweep.of_lower n (subst (λ (ns : List Near). Contains ns n) has.all c)

        u_live : IsIn k.u s.live
        u_live = chain_live s s.live old.upper k.u call.may.chains.0 k.upper

        v_live : IsIn k.v s.live
        v_live = chain_live (reflected s) s.live old.lower k.v call.may.chains.1 (in_reverse k.v old.lower k.lower)

    in_slot : (i : ℕ) (n : Near) → item_in u.slots i ≡ Some n → Contains listed n × (n.slot ≡ i)
    in_slot i n e = subst (HoldsCell listed i) e (has.seated.held i)

    -- the tournament may settle
    pub cells_ready : IsReady pair_names u s
    cells_ready = record {
      whole = ap (λ (t : Tournament Farness Near). t.whole) has.told.same ∙ call.known.rest.whole;
      apart = λ i j n e f. sym (in_slot i n e).1 ∙ (in_slot j n f).1;
      live = λ i n e. cell_live n (in_slot i n e).0;
    }

    pub cells_told : CoversAskable u.facts s (map (taken_back 1) (filter (is_beyond 1) failed))
    cells_told =
        subst (λ fs. CoversAskable fs s (map (taken_back 1) (filter (is_beyond 1) failed))) (sym same_facts)
        (pairs_covered 1 (names_leaving old.leaving) s old.slopes old.cells.facts failed call.known.first call.failing
        (λ x c live. none_leaving old.leaving s.live x call.may.gone (λ i absent. names_live s.live i absent x.fact.form live)))

    pub cells_small : u.size ≤ 15
    cells_small = let k = call.known.small in let e = levels in omega (arith, e, k)

    pub cells_low : (p : Placed) → Contains u.facts p → p.part < 2 ^ 15
    cells_low p c = call.known.low p (subst (λ fs. Contains fs p) same_facts c)

    -- the tournament has settled
    module _ {v : Tournament Farness Near} (same : v ≡ record u { marked = v.marked; winners = v.winners; facts = v.facts }) (settled : IsSettled pair_names farness_key v s) where
      same_slots : v.slots ≡ u.slots
      same_slots = ap (λ (t : Tournament Farness Near). t.slots) same

      same_levels : v.size ≡ u.size
      same_levels = ap (λ (t : Tournament Farness Near). t.size) same

      filled : AreCellSlots old.size (cell_pairs old.upper (reverse old.lower) es) v.slots
      filled =
          subst (λ (ns : List Near). AreCellSlots old.size ns v.slots) has.all
          (slots_filled old.size listed v.slots (ap length same_slots ∙ has.seated.slots_room ∙ ap (λ n. 2 ^ n) levels) (λ i. subst (HoldsCell listed i) (sym (ap (λ xs. item_in xs i) same_slots)) (has.seated.held i)))

      pub settled_now : (leaving : Option ℕ) (whole : Bool) → IsSettledKinDiameter (record { size = old.size; upper = old.upper; lower = old.lower; breakpoints = es; slopes = slopes; cells = v; leaving = leaving; whole = whole }) s
      settled_now leaving whole =
          let k : Diameter = record { size = old.size; upper = old.upper; lower = old.lower; breakpoints = es; slopes = slopes; cells = v; leaving = leaving; whole = whole } in
          record {
            farthest = farthest_settled k s call.real call.may.fits swept has.is (same_levels ∙ levels) filled settled;
            fits = call.may.fits;
            swept = swept;
            slopes = has.is;
            size = same_levels ∙ levels;
            filled = filled;
            cells = settled;
          }

      pub sound_now : IsAtRest v → length v.marked ≡ length u.marked → IsSound old.size slopes v listed free
      sound_now rest room = record {
        small = call.known.small;
        levels = same_levels ∙ levels;
        rest = rest;
        seated = record {
          slots_room = ap length same_slots ∙ has.seated.slots_room ∙ ap (λ n. 2 ^ n) (sym same_levels);
          marks_room = room ∙ has.seated.marks_room ∙ ap (λ n. 2 ^ n) (sym same_levels);
          places_room = has.seated.places_room ∙ ap (λ n. 2 ^ n) (sym same_levels);
          within = λ n c. subst (λ m. n.slot < 2 ^ m) (sym same_levels) (has.seated.within n c);
          held = λ i. subst (HoldsCell listed i) (sym (ap (λ xs. item_in xs i) same_slots)) (has.seated.held i);
          free = has.seated.free;
        };
        first = slopes_first s es slopes has.is;
        low = facts_low pair_names farness_key v s settled (let e : v.size ≡ old.size + 1 = same_levels ∙ levels in let k = call.known.small in omega (arith, e, k));
      }

      pub changed_now : (out mid out' : Change) → HasChanged old.slopes slopes out mid → HasChanged (map (moved_by 1) u.facts) (map (moved_by 1) v.facts) mid out' → HasChanged (facts_of old) (slopes ++ map (moved_by 1) v.facts) out out'
      changed_now out mid out' first second =
          joined 1 old.slopes slopes old.cells.facts v.facts out mid out' call.known.first (slopes_first s es slopes has.is) first
          (subst (λ (fs : List Placed). HasChanged (map (moved_by 1) fs) (map (moved_by 1) v.facts) mid out') same_facts second)

      -- the breakpoints, the slots with another pair and the failed facts that were told
      pub tests_now : (leaving : Option ℕ) (whole : Bool) (picked : List Placed) (before mid after : ℕ) → picked ≡ map (taken_back 1) (filter (is_beyond 1) failed) → mid ≤ before + length es → after ≤ mid + u.size * (mark_count u.marked + length picked)
          → AreFewTests old (record { size = old.size; upper = old.upper; lower = old.lower; breakpoints = es; slopes = slopes; cells = v; leaving = leaving; whole = whole }) failed before after
      tests_now leaving whole picked before mid after e h g = record {
        changed = marked_slots old.cells u has.told call.known.rest.unmarked;
        other = subst (λ (xs : List (Option Near)). ListsExactly (marked_slots old.cells u has.told call.known.rest.unmarked) (λ i. item_in old.cells.slots i ≢ item_in xs i)) (sym same_slots) (marked_changed old.cells u has.told call.known.rest.unmarked);
        bound = bound;
      }
        where
          count : length (marked_slots old.cells u has.told call.known.rest.unmarked) ≡ mark_count u.marked
          count = marked_count old.cells u has.told call.known.rest.unmarked

          number : length picked ≡ length (filter (is_beyond 1) failed)
          number = ap length e ∙ length-map (filter (is_beyond 1) failed) (taken_back 1)

          asked : after ≤ mid + (old.size + 1) * (length (marked_slots old.cells u has.told call.known.rest.unmarked) + length (filter (is_beyond 1) failed))
          asked =
              subst (λ n. after ≤ mid + (old.size + 1) * (n + length (filter (is_beyond 1) failed))) (sym count)
              (subst (λ n. after ≤ mid + (old.size + 1) * (mark_count u.marked + n)) number (subst (λ n. after ≤ mid + n * (mark_count u.marked + length picked)) levels g))

          bound : after ≤ before + length es + (old.size + 1) * (length (marked_slots old.cells u has.told call.known.rest.unmarked) + length (filter (is_beyond 1) failed))
          bound = let k = asked in omega (arith, h, k)
