-- What a settle asks is within the bound of a kept farthest pair.
use Rattle.std.proofs.Common.{◌≡◌, ◌≢◌, ◌⊎◌, inl, inr, refl, sym, ap, ◌∙◌, subst, arith, List, [], ℕ, ◌+◌, ◌*◌, ◌≤◌, Bool, true, false, length, filter}
use Rattle.std.specs.Prelude.{Contains, IsTrue, Option, Some, None}
use Rattle.std.proofs.lemmas.Bool.Decides.{nat_tests}
use Rattle.kin_motion.specs.declared.fact.Placed.{Placed}
use Rattle.kin_motion.specs.ClosestPairs.{Near}
use Rattle.kin_motion.specs.DiameterFacts.{IsCellFact, IsDiameterFact}
use Rattle.kin_motion.specs.Forms.{names}
use Rattle.kin_motion.specs.Kinetics.{ListsFailing}
use Rattle.kin_motion.specs.Numbers.{IsIn, HasEntered}
use Rattle.kin_motion.specs.Scene.{Scene, Holds}
use Rattle.kin_motion.specs.Sets.{ListsExactly}
use Rattle.kin_motion.specs.Spending.{AreCells, HasFailed, HasRisenWithin, MayDiameterAsk}
use Rattle.kin_motion.specs.Sweeps.{AreChains}
use Rattle.kin_motion.specs.Tournaments.{item_in}
use Rattle.kin_motion.proofs.Members.{in_cases, in_head, in_tail}
use Rattle.kin_motion.proofs.SetLaws.{distinct_filter, exactly_none, filter-complete, filter-sound}
use Rattle.kin_tourney.specs.Tournament.{Tournament}
use Rattle.kin_pairs.specs.declared.farness.Farness.{Farness}
use Rattle.kin_pairs.specs.Sorting.{is_beyond}
use Rattle.kin_diameter.specs.Diameter.{Diameter, facts_of, names_leaving, IsSettledKinDiameter, AreFewTests}

-- ---- the facts that aren't spared are those that name no number that has left
-- of the numbers that a fact names those that were live are
abbrev pub Stays : List ℕ → List ℕ → Placed → Type 0
Stays before after p = (i : ℕ) → IsTrue (names p.fact.form i) → IsIn i before → IsIn i after

-- which facts are spared, where the live numbers have become these
pub record AreSpared (leaving : Option ℕ) (before after : List ℕ) : Type 0 where
  pub stays : (p : Placed) → names_leaving leaving p ≡ false → Stays before after p
  pub spared : (p : Placed) → Stays before after p → names_leaving leaving p ≡ false

pub none_spared : (before after : List ℕ) → before ≡ after → AreSpared None before after
none_spared before after same = record { stays = λ p free i named there. subst (IsIn i) same there; spared = λ p stays. refl }

pub none_spared_entering : (n : ℕ) (before after : List ℕ) → HasEntered n before after → AreSpared None before after
none_spared_entering n before after entered = record { stays = λ p free i named there. sym (entered.lists.same i) ∙ in_tail i n before there; spared = λ p stays. refl }

pub leaving_spared : (n : ℕ) (before after : List ℕ) → HasEntered n after before → AreSpared (Some n) before after
leaving_spared n before after left = record {
  stays = λ p free i named there. other p free i named (in_cases i n after (left.lists.same i ∙ there));
  spared = λ p stays. free p stays (names p.fact.form n) refl;
}
  where
    other : (p : Placed) → names p.fact.form n ≡ false → (i : ℕ) → IsTrue (names p.fact.form i) → (i ≡ n) ⊎ IsIn i after → IsIn i after
    other p free i named (inl e) = absurd (let clash : true ≡ false = sym (subst (λ m. IsTrue (names p.fact.form m)) e named) ∙ free in cc)
    other p free i named (inr k) = k

    free : (p : Placed) → Stays before after p → (b : Bool) → names p.fact.form n ≡ b → b ≡ false
    free p stays true e = absurd (let clash : true ≡ false = sym (stays n e (sym (left.lists.same n) ∙ in_head n after)) ∙ left.absent in cc)
    free p stays false e = refl

-- ---- the facts of the tournament
of_cells : (size : ℕ) (s : Scene) (p : Placed) → is_beyond 1 p ≡ true → IsDiameterFact size s p → IsCellFact size s p
of_cells size s p beyond (inl slope) = absurd (let part : p.part ≡ 0 = ap (λ (q : Placed). q.part) slope.fact in grind (arith, nat_tests, part, beyond))
of_cells size s p beyond (inr cell) = cell

cell_beyond : (size : ℕ) (s : Scene) (p : Placed) → IsCellFact size s p → is_beyond 1 p ≡ true
cell_beyond size s p cell = let part : p.part ≡ 1 + cell.node.part = ap (λ (q : Placed). q.part) cell.placed in grind (arith, nat_tests, part)

-- there is something to do between two scenes: another number is live, a chain has changed, or a fact has failed
abbrev pub IsBusy : ℕ → Scene → Scene → Type 0
IsBusy size v w = (upper lower : List ℕ) → v.live ≡ w.live → AreChains v upper lower → AreChains w upper lower → ((p : Placed) → IsDiameterFact size v p → Holds w p.fact) → ⊥

-- It was settled in the scene v over its chains then; since it has been given others, and perhaps a number that leaves. It settles in the scene w.
module _ (old given new : Diameter) (v w : Scene) (failed : List Placed) (before : IsSettledKinDiameter old v) (after : IsSettledKinDiameter new w)
    (same_size : given.size ≡ old.size) (same_facts : facts_of given ≡ facts_of old) (same_cells : given.cells ≡ old.cells) (stays : new.size ≡ old.size)
    (spared : AreSpared given.leaving v.live w.live) (failing : ListsFailing (facts_of given) (names_leaving given.leaving) w failed) where
  facts : ListsExactly (facts_of given) (IsDiameterFact old.size v)
  facts = subst (λ (fs : List Placed). ListsExactly fs (IsDiameterFact old.size v)) (sym same_facts) before.farthest.exact

  cells_failed : ListsExactly (filter (is_beyond 1) failed) (HasFailed (IsCellFact old.size v) v w)
  cells_failed = record { once = distinct_filter (is_beyond 1) failed failing.once; each = λ p. (to p, from p) }
    where
      to : (p : Placed) → Contains (filter (is_beyond 1) failed) p → HasFailed (IsCellFact old.size v) v w p
      to p c =
          let there = filter-sound (is_beyond 1) failed p c in
          let fails = (failing.each p).0 there.0 in
          record { was = of_cells old.size v p there.1 ((facts.each p).0 fails.0); stays = spared.stays p fails.1; fails = fails.2 }

      from : (p : Placed) → HasFailed (IsCellFact old.size v) v w p → Contains (filter (is_beyond 1) failed) p
      from p h = filter-complete (is_beyond 1) failed p ((failing.each p).1 ((facts.each p).1 (inr h.was), spared.spared p h.stays, h.fails)) (cell_beyond old.size v p h.was)

  cells_before : AreCells old.size v old.breakpoints old.cells.slots
  cells_before = record { upper = old.upper; lower = old.lower; swept = before.swept; filled = before.filled }

  cells_after : AreCells old.size w new.breakpoints new.cells.slots
  cells_after = subst (λ n. AreCells n w new.breakpoints new.cells.slots) stays (record { upper = new.upper; lower = new.lower; swept = after.swept; filled = after.filled })

  -- a settle then asks no more than it may
  pub may_ask : IsBusy old.size v w → (start end : ℕ) → AreFewTests given new failed start end → HasRisenWithin (MayDiameterAsk old.size v w) start end
  may_ask busy start end few =
      let asked = length new.breakpoints + (old.size + 1) * (length few.changed + length (filter (is_beyond 1) failed)) in (
        asked,
        record {
          breakpoints_before = old.breakpoints;
          slots_before = old.cells.slots;
          before = cells_before;
          breakpoints = new.breakpoints;
          slots = new.cells.slots;
          after = cells_after;
          changed = few.changed;
          other = subst (λ (cells : Tournament Farness Near). ListsExactly few.changed (λ i. item_in cells.slots i ≢ item_in new.cells.slots i)) same_cells few.other;
          failed = filter (is_beyond 1) failed;
          exactly = cells_failed;
          bound = omega arith;
          quiet = λ upper lower same were are hold. absurd (busy upper lower same were are hold);
        },
        at (few.bound),
      )
    where
      at : end ≤ start + length new.breakpoints + (given.size + 1) * (length few.changed + length (filter (is_beyond 1) failed))
          → end ≤ start + (length new.breakpoints + (old.size + 1) * (length few.changed + length (filter (is_beyond 1) failed)))
      at bound = let same = ap (λ n. (n + 1) * (length few.changed + length (filter (is_beyond 1) failed))) same_size in omega (arith, bound, same)

-- where nothing was to do nothing is asked
pub asks_nothing : (old : Diameter) (v w : Scene) (count : ℕ) → IsSettledKinDiameter old v → IsSettledKinDiameter old w → v.live ≡ w.live → ((p : Placed) → Contains (facts_of old) p → Holds w p.fact)
    → HasRisenWithin (MayDiameterAsk old.size v w) count count
asks_nothing old v w count before after same hold = (
  0,
  record {
    breakpoints_before = old.breakpoints;
    slots_before = old.cells.slots;
    before = record { upper = old.upper; lower = old.lower; swept = before.swept; filled = before.filled };
    breakpoints = old.breakpoints;
    slots = old.cells.slots;
    after = record { upper = old.upper; lower = old.lower; swept = after.swept; filled = after.filled };
    changed = [];
    other = exactly_none _ (λ i other. other refl);
    failed = [];
    exactly = exactly_none _ (λ p h. h.fails (hold p ((before.farthest.exact.each p).1 (inr h.was))));
    bound = omega arith;
    quiet = λ upper lower same were are hold. refl;
  },
  omega arith,
)
