-- The farthest pair is that of a cell.
use Rattle.std.proofs.Common.{◌≡◌, ◌⊎◌, inl, inr, ◌∙◌, subst, arith, List, [], ◌∷◌, reverse, ℕ, ◌*◌}
use Rattle.std.specs.Prelude.{Contains, min, max}
use Rattle.std.proofs.lemmas.Bool.{and_from}
use Rattle.kin_motion.specs.Chains.{is_bare}
use Rattle.kin_motion.specs.ClosestFacts.{near}
use Rattle.kin_motion.specs.ClosestPairs.{Near}
use Rattle.kin_motion.specs.Laws.{HasSlopeLaws}
use Rattle.kin_motion.specs.Merges.{Breakpoint}
use Rattle.kin_motion.specs.Numbers.{IsIn}
use Rattle.kin_motion.specs.Scene.{Scene, IsReal, reflected}
use Rattle.kin_motion.specs.Sweeps.{IsSweep, IsSwept, cell_pairs}
use Rattle.kin_motion.proofs.ChainLaws.{chain_within}
use Rattle.kin_motion.proofs.Members.{in_reverse, into_reverse}
use Rattle.kin_motion.proofs.SlopeLaws.{real_slope_laws}
use Rattle.kin_far.specs.FarCells.{FarthestIsCell}
use Rattle.kin_motion.proofs.SweepLaws.{in_order}
use Rattle.kin_far.proofs.FarPoints.{Supported, supported}
use Rattle.kin_far.proofs.SweepWalk.{Reaches, Live, walk}

module _ (s : Scene) (real : IsReal s) (upper lower : List ℕ) (es : List Breakpoint) (swept : IsSwept s upper lower es) where
  abbrev slopes : HasSlopeLaws s
  slopes = real_slope_laws s real

  -- a cell where h and l are current
  module _ (h l : ℕ) (known : Supported s h l) where
    h_listed : IsIn h upper
    h_listed = swept.upper_chain.members h ∙ and_from _ (is_bare s s.live h) known.h_in known.h_bare

    l_listed : IsIn l (reverse lower)
    l_listed = into_reverse l lower (swept.lower_chain.members l ∙ and_from _ (is_bare (reflected s) s.live l) known.l_in known.l_bare)

    in_cells : (us ls : List ℕ) → IsSweep s us ls es → Live s slopes h l known us → Live s slopes h l known ls → IsIn h us → IsIn l ls → Reaches s slopes h l known (cell_pairs us ls es)
    in_cells [] ls sweep a b i j = absurd cc
    in_cells (p ∷ ps) [] sweep a b i j = absurd cc
    in_cells (p ∷ ps) (q ∷ qs) sweep a b i j = walk s slopes h l known es (2 * p) p q ps qs sweep.of_upper sweep.of_lower (in_order s slopes upper lower swept.upper_chain.rising swept.lower_chain.rising es swept.sweep) a b i j

    reached : Reaches s slopes h l known (cell_pairs upper (reverse lower) es)
    reached =
        in_cells upper (reverse lower) swept.sweep
        (λ c k. chain_within s s.live upper swept.upper_chain c k)
        (λ c k. chain_within (reflected s) s.live lower swept.lower_chain c (in_reverse c lower k))
        h_listed l_listed

pub farthest_is_cell : FarthestIsCell
farthest_is_cell s upper lower es i j real swept f = at (supported s real i j f)
  where
    in_turn : (slot m n : ℕ) → min m n ≡ i → max m n ≡ j → near slot m n ≡ record { i = i; j = j; slot = slot }
    in_turn slot m n e g = λ t. record { i = e t; j = g t; slot = slot }

    at : Supported s i j ⊎ Supported s j i → (slot : ℕ) × Contains (cell_pairs upper (reverse lower) es) (record { i = i; j = j; slot = slot })
    at (inl known) =
        let r = reached s real upper lower es swept i j known in
        let rising = f.pair.rising in
        (r.0, subst (λ (n : Near). Contains (cell_pairs upper (reverse lower) es) n) (in_turn r.0 i j (omega (arith, rising)) (omega (arith, rising))) r.1)
    at (inr known) =
        let r = reached s real upper lower es swept j i known in
        let rising = f.pair.rising in
        (r.0, subst (λ (n : Near). Contains (cell_pairs upper (reverse lower) es) n) (in_turn r.0 j i (omega (arith, rising)) (omega (arith, rising))) r.1)
