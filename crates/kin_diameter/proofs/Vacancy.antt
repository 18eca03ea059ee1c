-- Without points it is settled wherever no number is live.
use Rattle.std.proofs.Common.{◌≡◌, inl, inr, refl, sym, ap, ◌∙◌, subst, arith, List, [], ◌∷◌, ◌++◌, ℕ, ◌+◌, ◌^◌, true, false, ◌&&◌, length, map, reverse}
use Rattle.std.specs.Prelude.{Contains, Option, Some, None, replicate}
use Rattle.std.proofs.lemmas.List.{length-replicate}
use Rattle.std.proofs.lemmas.Nat.{pow-add}
use Rattle.std.proofs.lemmas.Option.{none-some}
use Rattle.std.proofs.Math.Pow.{pow_pos}
use Rattle.kin_algebra.proofs.Members.{contains_none, contains_head}
use Rattle.kin_algebra.proofs.Places.{get_or-replicate_any}
use Rattle.kin_motion.specs.declared.fact.Placed.{Placed}
use Rattle.kin_motion.specs.declared.form.Form.{Form}
use Rattle.kin_motion.specs.Chains.{IsUpperChain, is_bare}
use Rattle.kin_motion.specs.ClosestPairs.{Near}
use Rattle.kin_motion.specs.Contents.{IsWinner}
use Rattle.kin_motion.specs.DiameterFacts.{IsDiameterFact}
use Rattle.kin_motion.specs.Farthest.{IsFarthest, farness_key}
use Rattle.kin_motion.specs.Merges.{Half, Half.{A, B}, Breakpoint, slopes_from}
use Rattle.kin_motion.specs.Numbers.{is_in, IsIn}
use Rattle.kin_motion.specs.Parts.{moved_by}
use Rattle.kin_motion.specs.Scene.{Scene, reflected}
use Rattle.kin_motion.specs.Sets.{ListsExactly}
use Rattle.kin_motion.specs.Sweeps.{IsSwept, cell_pairs, HoldsCell, two_in}
use Rattle.kin_motion.specs.Tournaments.{item_in}
use Rattle.kin_motion.proofs.BreakpointLaws.{own_has}
use Rattle.kin_motion.proofs.Members.{in_reverse}
use Rattle.kin_motion.proofs.NodeLaws.{held_slot}
use Rattle.kin_motion.proofs.SetLaws.{exactly_none}
use Rattle.kin_motion.proofs.SweepCells.{cell_of}
use Rattle.kin_tourney.specs.Tournament.{Tournament, IsSettled, winner_at}
use Rattle.kin_pairs.specs.declared.farness.Farness.{Farness}
use Rattle.kin_pairs.specs.PairKeys.{pair_names}
use Rattle.kin_diameter.specs.Diameter.{Diameter, IsSettledKinDiameter}
use Rattle.kin_diameter.proofs.Settling.{chain_live, slots_filled}
use Rattle.kin_diameter.proofs.SweptPoints.{upper_points, lower_points}

module _ (s : Scene) (none : s.live ≡ []) where
  no_live : (i : ℕ) → ¬ (IsIn i s.live)
  no_live i h = let clash : false ≡ true = sym (ap (is_in i) none) ∙ h in cc

  no_chain : (v : Scene) → IsUpperChain v s.live []
  no_chain v = record { members = λ p. ap (λ live. is_in p live && is_bare v live p) (sym none); rising = tt }

  -- nothing is swept
  module _ (upper lower : List ℕ) (es : List Breakpoint) (swept : IsSwept s upper lower es) where
    no_breakpoint : (e : Breakpoint) → ¬ (Contains es e)
    no_breakpoint e c = at e.half refl
      where
        at : (g : Half) → e.half ≡ g → ⊥
        at A g =
            no_live e.left (chain_live s s.live upper e.left swept.upper_chain
            (upper_points A upper e (subst (λ (fs : List Breakpoint). Contains fs e) swept.sweep.of_upper (own_has A es e c g))).left)
        at B g =
            no_live e.left (chain_live (reflected s) s.live lower e.left swept.lower_chain (in_reverse e.left lower
            (lower_points (reverse lower) e (subst (λ (fs : List Breakpoint). Contains fs e) swept.sweep.of_lower (own_has B es e c g))).left))

    no_slope : (form : Form) → ¬ (Contains (slopes_from es) form)
    no_slope form c = at es no_breakpoint c
      where
        at : (es : List Breakpoint) → ((e : Breakpoint) → ¬ (Contains es e)) → Contains (slopes_from es) form → ⊥
        at [] empty c = contains_none form c
        at (e ∷ es) empty c = empty e (contains_head e es)

    no_cell : (n : Near) → ¬ (Contains (cell_pairs upper (reverse lower) es) n)
    no_cell n c = let k = cell_of upper (reverse lower) es swept.sweep.of_upper swept.sweep.of_lower n c in no_live k.u (chain_live s s.live upper k.u swept.upper_chain k.upper)

  no_fact : (size : ℕ) (p : Placed) → ¬ (IsDiameterFact size s p)
  no_fact size p (inl w) = no_slope w.upper w.lower w.breakpoints w.swept w.form w.listed
  no_fact size p (inr w) =
      no_cell w.upper w.lower w.breakpoints w.swept w.fact.left (w.filled.each w.fact.left_best.slot (Some w.fact.left) (held_slot w.slots w.fact.left_best.slot w.fact.left w.fact.left_best.held)).0

  module _ (size : ℕ) (t : Tournament Farness Near) (levels : t.size ≡ size + 1) (slots : t.slots ≡ replicate (2 ^ (size + 1)) None) (facts : t.facts ≡ []) (settled : IsSettled pair_names farness_key t s) where
    slot_none : (i : ℕ) → item_in t.slots i ≡ None
    slot_none i = ap (λ xs. item_in xs i) slots ∙ get_or-replicate_any (2 ^ (size + 1)) i None

    no_winner : winner_at t 1 ≡ None
    no_winner = at (winner_at t 1) (settled.tournament.winners 1 (omega arith) (let g = pow-add 2 t.size 1 in omega (arith, g, pow_pos t.size)))
      where
        at : (x : Option Near) → IsWinner s farness_key t.size t.slots 1 x → x ≡ None
        at None h = refl
        at (Some m) h = absurd (none-some m (sym (slot_none h.slot) ∙ h.held))

    pub vacant : IsSettledKinDiameter (record { size = size; upper = []; lower = []; breakpoints = []; slopes = []; cells = t; leaving = None; whole = true }) s
    vacant = record {
      farthest = record {
        pair = subst (λ x. IsFarthest s (two_in x)) (sym no_winner) (λ i j p. no_live i p.i_live);
        exact = subst (λ (fs : List Placed). ListsExactly ([] ++ map (moved_by 1) fs) (IsDiameterFact size s)) (sym facts) (exactly_none _ (no_fact size));
      };
      fits = λ i l. absurd (no_live i l);
      swept = record { upper_chain = no_chain s; lower_chain = no_chain (reflected s); sweep = record { of_upper = refl; of_lower = refl; falling = tt } };
      slopes = refl;
      size = levels;
      filled = slots_filled size [] t.slots (ap length slots ∙ length-replicate (2 ^ (size + 1)) None) (λ i. subst (HoldsCell [] i) (sym (slot_none i)) (λ n c. absurd (contains_none n c)));
      cells = settled;
    }

-- a new structure has no points
pub vacant_settled : (size : ℕ) (upper lower : List ℕ) (es : List Breakpoint) (slopes : List Placed) (t : Tournament Farness Near) → upper ≡ [] → lower ≡ [] → es ≡ [] → slopes ≡ [] → t.size ≡ size + 1 → t.slots ≡ replicate (2 ^ (size + 1)) None → t.facts ≡ []
    → ((s : Scene) → IsSettled pair_names farness_key t s) → (s : Scene) → s.live ≡ []
    → IsSettledKinDiameter (record { size = size; upper = upper; lower = lower; breakpoints = es; slopes = slopes; cells = t; leaving = None; whole = true }) s
vacant_settled size upper lower es slopes t is_upper is_lower is_es is_slopes levels slots facts settled s none =
    subst (λ (k : Diameter). IsSettledKinDiameter k s)
    (λ x. record { size = size; upper = sym is_upper x; lower = sym is_lower x; breakpoints = sym is_es x; slopes = sym is_slopes x; cells = t; leaving = None; whole = true })
    (vacant s none size t levels slots facts (settled s))
