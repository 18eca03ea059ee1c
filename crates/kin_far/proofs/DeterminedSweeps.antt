-- The slopes along a sweep determine it.
use Rattle.std.proofs.Common.{◌≡◌, refl, sym, ap, ◌∙◌, subst, List, [], ◌∷◌, map, ℕ, Bool, true, false, cond, ◌||◌}
use Rattle.std.specs.Prelude.{Contains}
use Rattle.std.proofs.lemmas.List.Elements.{All-contains, Contains-append_left, Contains-append_right}
use Rattle.kin_algebra.proofs.Members.{contains_head}
use Rattle.kin_motion.specs.declared.fact.Placed.{Placed}
use Rattle.kin_motion.specs.declared.form.Form.{Form}
use Rattle.kin_motion.specs.Chains.{is_plus}
use Rattle.kin_motion.specs.Laws.{HasSlopeLaws}
use Rattle.kin_motion.specs.Kinetics.{AllHold}
use Rattle.kin_motion.specs.Merges.{Half.{A, B}, Breakpoint, is_of, breakpoints_of, slope_form, slope_between, slopes_from, goes_first, is_placed_before}
use Rattle.kin_motion.specs.Numbers.{IsChain}
use Rattle.kin_motion.specs.Scene.{Scene, Holds, placed_at, reflected}
use Rattle.kin_motion.proofs.MergeLaws.{Falls, upper_falls}
use Rattle.kin_motion.proofs.RealLaws.{real_turn_laws}
use Rattle.kin_motion.proofs.ReflectedLaws.{reflected-real}
use Rattle.kin_motion.proofs.SetLaws.{contains_map}
use Rattle.kin_motion.proofs.SlopeLaws.{real_slope_laws}
use Rattle.kin_chain.specs.Merging.{is_in_place}
use Rattle.kin_chain.proofs.InPlace.{falls, breakpoints_fall, in_place_falls}
use Rattle.kin_far.specs.Diameters.{SweepIsDetermined}
use Rattle.kin_motion.proofs.SweepLaws.{chain_reversed, back_reversed}

-- the breakpoints of a lower chain fall from right to left
pub fall_back : (s : Scene) → HasSlopeLaws s → (xs : List ℕ) → Falls (reflected s) xs → IsChain (λ e f. falls s f e) (breakpoints_of B xs)
fall_back s slopes [] f = tt
fall_back s slopes (i ∷ []) f = tt
fall_back s slopes (i ∷ j ∷ []) f = tt
fall_back s slopes (i ∷ j ∷ k ∷ ps) f = (ap is_plus (slopes.opposite i j j k ∙ f.0), fall_back s slopes (j ∷ k ∷ ps) f.1)

-- neighbours of different halves that were in their order are in place where their slopes have the same sign
stay_in_place : (v w : Scene) (es : List Breakpoint) → IsChain (is_placed_before v) es → ((form : Form) → Contains (slopes_from es) form → w.sign form ≡ v.sign form) → IsChain (is_in_place w) es
stay_in_place v w [] c same = tt
stay_in_place v w (e ∷ []) c same = tt
stay_in_place v w (e ∷ f ∷ es) c same = (
  at (is_of e.half f.half) refl,
  stay_in_place v w (f ∷ es) c.1 (λ form k. same form (Contains-append_right (slope_between e f) (slopes_from (f ∷ es)) form k)),
)
  where
    listed : is_of e.half f.half ≡ false → Contains (slopes_from (e ∷ f ∷ es)) (slope_form e f)
    listed q =
        Contains-append_left (slope_between e f) (slopes_from (f ∷ es)) (slope_form e f)
        (subst (λ b. Contains (cond b [] (slope_form e f ∷ [])) (slope_form e f)) (sym q) (contains_head (slope_form e f) []))

    at : (b : Bool) → is_of e.half f.half ≡ b → b || is_placed_before w e f ≡ true
    at true q = refl
    at false q = ap (λ t. goes_first t e.half f.half) (same (slope_form e f) (listed q)) ∙ c.0

-- the signs of the slopes that hold
pub held_signs : (v w : Scene) (forms : List Form) → AllHold w (map (placed_at v 0) forms) → (form : Form) → Contains forms form → w.sign form ≡ v.sign form
held_signs v w forms hold form c = All-contains (λ (p : Placed). Holds w p.fact) (map (placed_at v 0) forms) (placed_at v 0 form) hold (contains_map (placed_at v 0) forms form c)

pub sweep_is_determined : SweepIsDetermined
sweep_is_determined v w upper lower es real swept chains hold = record {
  upper_chain = chains.0;
  lower_chain = chains.1;
  sweep = record {
    of_upper = swept.sweep.of_upper;
    of_lower = swept.sweep.of_lower;
    falling = in_place_falls w es
        (subst (λ (fs : List Breakpoint). IsChain (falls w) fs) (sym swept.sweep.of_upper) (breakpoints_fall w A upper (upper_falls w (real_turn_laws w real) w.live upper chains.0)))
        (subst (λ (fs : List Breakpoint). IsChain (falls w) fs) (sym (swept.sweep.of_lower ∙ back_reversed lower))
        (chain_reversed (λ e f. falls w f e) (breakpoints_of B lower)
        (fall_back w (real_slope_laws w real) lower (upper_falls (reflected w) (real_turn_laws (reflected w) (reflected-real w real)) w.live lower chains.1))))
        (stay_in_place v w es swept.sweep.falling (held_signs v w (slopes_from es) hold));
  };
}
