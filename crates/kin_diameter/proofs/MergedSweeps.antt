-- When nothing is left the merge is the sweep, and no slope stands twice in it.
use Rattle.std.proofs.Common.{◌≡◌, sym, ap, ◌∙◌, subst, List, [], ◌∷◌, ◌++◌, map, reverse, ℕ, zero, suc, Option, Some}
use Rattle.std.specs.Prelude.{slice_get}
use Rattle.std.proofs.lemmas.List.{append-nil}
use Rattle.std.proofs.lemmas.Option.{same_Some}
use Rattle.kin_motion.specs.declared.fact.Placed.{Placed}
use Rattle.kin_motion.specs.Merges.{Half.{A, B}, Breakpoint, own_of, breakpoints_of, slopes_from}
use Rattle.kin_motion.specs.Numbers.{IsChain}
use Rattle.kin_motion.specs.Scene.{Scene, IsReal, placed_at, reflected}
use Rattle.kin_motion.specs.Sets.{AreDistinct}
use Rattle.kin_motion.specs.Sweeps.{breakpoints_back, AreChains, IsSweep}
use Rattle.kin_motion.proofs.MergeLaws.{upper_falls}
use Rattle.kin_motion.proofs.RealLaws.{real_turn_laws}
use Rattle.kin_motion.proofs.ReflectedLaws.{reflected-real}
use Rattle.kin_motion.proofs.SetLaws.{distinct_mapped}
use Rattle.kin_motion.proofs.SlopeLaws.{real_slope_laws}
use Rattle.kin_motion.proofs.SweepLaws.{chain_reversed, back_reversed, in_order}
use Rattle.kin_motion.proofs.SweepSlopes.{slopes_once}
use Rattle.kin_chain.proofs.InPlace.{falls, breakpoints_fall, in_place_falls}
use Rattle.kin_far.proofs.DeterminedSweeps.{fall_back}
use Rattle.kin_diameter.specs.declared.merge.Placing.{Placing}
use Rattle.kin_diameter.specs.declared.slope.Slope.{Slope as Kept}
use Rattle.kin_diameter.specs.Seen.{slope_fact}
use Rattle.kin_diameter.proofs.Merges.{IsUnderWay}

module _ (s : Scene) (real : IsReal s) (upper lower : List ℕ) (chains : AreChains s upper lower) where
  pub sweep_done : (us ls es : List Breakpoint) (last : Option Placing) → us ≡ [] → ls ≡ [] → IsUnderWay s (breakpoints_of A upper) (breakpoints_back (reverse lower)) us ls es last → IsSweep s upper (reverse lower) es
  sweep_done us ls es last no_us no_ls w =
      let of_upper = sym (append-nil (own_of A es)) ∙ ap (λ (l : List Breakpoint). own_of A es ++ l) (sym no_us) ∙ w.of_upper in
      let of_lower = sym (append-nil (own_of B es)) ∙ ap (λ (l : List Breakpoint). own_of B es ++ l) (sym no_ls) ∙ w.of_lower in
      record {
        of_upper = of_upper;
        of_lower = of_lower;
        falling = in_place_falls s es
            (subst (λ (fs : List Breakpoint). IsChain (falls s) fs) (sym of_upper) (breakpoints_fall s A upper (upper_falls s (real_turn_laws s real) s.live upper chains.0)))
            (subst (λ (fs : List Breakpoint). IsChain (falls s) fs) (sym (of_lower ∙ back_reversed lower))
            (chain_reversed (λ e f. falls s f e) (breakpoints_of B lower)
            (fall_back s (real_slope_laws s real) lower (upper_falls (reflected s) (real_turn_laws (reflected s) (reflected-real s real)) s.live lower chains.1))))
            w.in_place;
      }

  -- no slope stands twice
  forms_once : (es : List Breakpoint) → IsSweep s upper (reverse lower) es → AreDistinct (slopes_from es)
  forms_once es sweep = let slopes = real_slope_laws s real in slopes_once s slopes es (in_order s slopes upper lower chains.0.rising chains.1.rising es sweep)

  pub kept_once : (es : List Breakpoint) (kept : List Kept) → IsSweep s upper (reverse lower) es → map slope_fact kept ≡ map (placed_at s 0) (slopes_from es) → AreDistinct kept
  kept_once es kept sweep is =
      distinct_from_map slope_fact kept
      (subst (λ (l : List Placed). AreDistinct l) (sym is) (distinct_mapped (placed_at s 0) (slopes_from es) (λ f g e. ap (λ (p : Placed). p.fact.form) e) (forms_once es sweep)))
    where
      got : {X Y : Type 0} (f : X → Y) (xs : List X) (n : ℕ) (x : X) → slice_get xs n ≡ Some x → slice_get (map f xs) n ≡ Some (f x)
      got f [] n x e = absurd cc
      got f (y ∷ ys) zero x e = ap (λ z. Some (f z)) (same_Some y x e)
      got f (y ∷ ys) (suc n) x e = got f ys n x e

      distinct_from_map : {X Y : Type 0} (f : X → Y) (xs : List X) → AreDistinct (map f xs) → AreDistinct xs
      distinct_from_map f xs d i j x e g = d i j (f x) (got f xs i x e) (got f xs j x g)
