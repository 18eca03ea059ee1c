-- The facts of a farthest pair determine it, where both chains are the same.
use Rattle.std.proofs.Common.{◌≡◌, inl, inr, refl, sym, ap, ap₂, ◌∙◌, subst, List, [], ◌∷◌, ◌++◌, map, get_or, reverse, ℕ, ◌+◌}
use Rattle.std.specs.Prelude.{Contains, ◌↔◌, Option}
use Rattle.std.proofs.lemmas.List.Elements.{All-contains, Contains-get_or}
use Rattle.kin_algebra.proofs.Members.{contains_head, contains_tail}
use Rattle.kin_motion.specs.declared.fact.Placed.{Placed}
use Rattle.kin_motion.specs.declared.form.Form.{Form}
use Rattle.kin_motion.specs.Agreements.{FitsSize}
use Rattle.kin_motion.specs.ClosestPairs.{Near}
use Rattle.kin_motion.specs.Contents.{IsSettledTournament, IsSettledDiameter}
use Rattle.kin_motion.specs.DiameterFacts.{IsDiameterFact}
use Rattle.kin_motion.specs.Farthest.{IsFarthest, farness_key}
use Rattle.kin_motion.specs.Kinetics.{AllHold, HaveSameLive}
use Rattle.kin_motion.specs.Merges.{Breakpoint, slopes_from}
use Rattle.kin_motion.specs.Numbers.{IsIn}
use Rattle.kin_motion.specs.Parts.{moved_by}
use Rattle.kin_motion.specs.Scene.{Scene, IsReal, Holds, placed_at}
use Rattle.kin_motion.specs.Sweeps.{AreChains, IsSwept, sweep_of, cell_pairs, cell_slots, two_in}
use Rattle.kin_motion.specs.Tournaments.{best_of, items_under, tournament_facts}
use Rattle.kin_motion.proofs.DistanceLaws.{real_distance_laws}
use Rattle.kin_motion.proofs.CellSlots.{cells_fill}
use Rattle.kin_motion.proofs.DiameterFactLaws.{names_slot, one_slot, nodes_exact}
use Rattle.kin_motion.proofs.FairKeys.{IsFair}
use Rattle.kin_motion.proofs.FarthestLaws.{farther-otherwise, farther-through, farther-never, farther-total, one_farthest}
use Rattle.kin_motion.proofs.PlayedTournaments.{tournament_is_determined}
use Rattle.kin_motion.proofs.SetLaws.{contains_mapped, exactly_in_words}
use Rattle.kin_motion.proofs.SweepLaws.{one_sweep}
use Rattle.kin_motion.proofs.Winners.{winner_agrees}
use Rattle.kin_far.specs.Diameters.{DiameterIsDetermined}
use Rattle.kin_far.proofs.DeterminedSweeps.{held_signs, sweep_is_determined}
use Rattle.kin_far.proofs.SettledDiameters.{diameter_is_settled}

-- ---- the tournament of given cells
module _ (size : ℕ) (cells : List Near) where
  abbrev slots : List (Option Near)
  slots = cell_slots size cells

  abbrev winner_in : Scene → ℕ → Option Near
  winner_in s n = best_of s farness_key (items_under (size + 1) n slots)

  abbrev facts_in : Scene → List Placed
  facts_in s = tournament_facts s farness_key (size + 1) slots

  settled_in : (s : Scene) → IsReal s → IsSettledTournament s farness_key (size + 1) slots (winner_in s) (facts_in s)
  settled_in s real =
      let laws = real_distance_laws s real in
      record {
        winners = λ n some inside. winner_agrees s farness_key (farther-otherwise s laws) (farther-through s laws) (farther-never s laws) (size + 1) slots (one_slot size cells) n;
        exact = nodes_exact size cells s real;
      }

  fair_in : (s : Scene) → IsReal s → IsFair s farness_key slots
  fair_in s real = record {
    total = λ i j a b n here there. farther-total s (real_distance_laws s real) a b (λ e. n (sym (names_slot size cells i a here) ∙ ap (λ (x : Near). x.slot) e ∙ names_slot size cells j b there));
    through = λ i j k a b c p q r. farther-through s (real_distance_laws s real) a b c;
  }

-- equal signs, equal facts
same_map : (f g : Form → Placed) (xs : List Form) → ((x : Form) → Contains xs x → f x ≡ g x) → map f xs ≡ map g xs
same_map f g [] same = refl
same_map f g (x ∷ xs) same = ap₂ (λ (p : Placed) (ps : List Placed). p ∷ ps) (same x (contains_head x xs)) (same_map f g xs (λ y c. same y (contains_tail x y xs c)))

-- ---- in another scene
module _ (size : ℕ) (v w : Scene) (upper lower : List ℕ) (real : IsReal v) (real' : IsReal w) (fits : FitsSize size v) (same : HaveSameLive v w) (chains : AreChains v upper lower) (chains' : AreChains w upper lower)
    (hold : (p : Placed) → IsDiameterFact size v p → Holds w p.fact) where
  abbrev es : List Breakpoint
  es = sweep_of v upper (reverse lower)

  abbrev cells : List Near
  cells = cell_pairs upper (reverse lower) es

  swept : IsSwept v upper lower es
  swept = record { upper_chain = chains.0; lower_chain = chains.1; sweep = (one_sweep v upper lower real chains.0 chains.1).0 }

  settled_here : IsSettledDiameter v size (two_in (winner_in size cells v 1)) (map (placed_at v 0) (slopes_from es) ++ map (moved_by 1) (facts_in size cells v))
  settled_here =
      diameter_is_settled size v upper lower es (cell_slots size cells) (winner_in size cells v) (facts_in size cells v) real fits swept (cells_fill size cells) (settled_in size cells v real)

  slopes_hold : AllHold w (map (placed_at v 0) (slopes_from es))
  slopes_hold n d l =
      let m = contains_mapped (placed_at v 0) (slopes_from es) _ (Contains-get_or (map (placed_at v 0) (slopes_from es)) n d l) in
      hold (get_or (map (placed_at v 0) (slopes_from es)) n d) (inl (record { upper = upper; lower = lower; breakpoints = es; swept = swept; form = m.0; listed = m.1; fact = m.2 }))

  pairs_hold : AllHold w (facts_in size cells v)
  pairs_hold n d l =
      let q = ((settled_in size cells v real).exact.each _).0 (Contains-get_or (facts_in size cells v) n d l) in
      hold (moved_by 1 (get_or (facts_in size cells v) n d))
      (inr (record { upper = upper; lower = lower; breakpoints = es; swept = swept; slots = cell_slots size cells; filled = cells_fill size cells; node = get_or (facts_in size cells v) n d; fact = q; placed = refl }))

  same_slopes : map (placed_at w 0) (slopes_from es) ≡ map (placed_at v 0) (slopes_from es)
  same_slopes = same_map (placed_at w 0) (placed_at v 0) (slopes_from es) (λ form c. let e = held_signs v w (slopes_from es) slopes_hold form c in λ t. record { part = 0; fact = record { form = form; sign = e t } })

  settled_there : IsSettledDiameter w size (two_in (winner_in size cells v 1)) (map (placed_at v 0) (slopes_from es) ++ map (moved_by 1) (facts_in size cells v))
  settled_there =
      subst (λ (ps : List Placed). IsSettledDiameter w size (two_in (winner_in size cells v 1)) (ps ++ map (moved_by 1) (facts_in size cells v))) same_slopes
      (diameter_is_settled size w upper lower es (cell_slots size cells) (winner_in size cells v) (facts_in size cells v) real' (λ i h. fits i (subst (IsIn i) (sym same) h))
      (sweep_is_determined v w upper lower es real' swept chains' slopes_hold) (cells_fill size cells)
      (tournament_is_determined v w farness_key (size + 1) (cell_slots size cells) (cells_fill size cells).count (fair_in size cells v real) (fair_in size cells w real')
      (winner_in size cells v) (facts_in size cells v) (settled_in size cells v real) pairs_hold))

  same_farthest : (pair : Option (ℕ × ℕ)) → IsFarthest v pair → IsFarthest w pair
  same_farthest pair h = subst (IsFarthest w) (one_farthest v (two_in (winner_in size cells v 1)) pair real settled_here.pair h) settled_there.pair

  same_facts : (p : Placed) → IsDiameterFact size v p ↔ IsDiameterFact size w p
  same_facts p = (λ f. (settled_there.exact.each p).0 ((settled_here.exact.each p).1 f), λ f. (settled_here.exact.each p).0 ((settled_there.exact.each p).1 f))

pub diameter_is_determined : DiameterIsDetermined
diameter_is_determined size v w upper lower pair facts real real' fits same chains chains' is_pair exact hold = (
  same_farthest size v w upper lower real real' fits same chains chains' held pair is_pair,
  exactly_in_words facts (IsDiameterFact size v) (IsDiameterFact size w) (same_facts size v w upper lower real real' fits same chains chains' held) exact,
)
  where
    held : (p : Placed) → IsDiameterFact size v p → Holds w p.fact
    held p f = All-contains (λ (q : Placed). Holds w q.fact) facts p hold ((exact.each p).1 f)
