-- A list of the breakpoints of two upper chains whose neighbours are in place is the list of breakpoints.
use Rattle.std.proofs.Common.{◌≡◌, refl, sym, ap, ◌∙◌, subst, List, [], ◌∷◌, ℕ, Bool, true, false, cond, ◌||◌}
use Rattle.kin_algebra.specs.declared.sign.Sign.{Sign}
use Rattle.kin_algebra.specs.declared.sign.Sign.TheVariants.{Minus, Zero, Plus}
use Rattle.kin_motion.specs.Numbers.{IsChain}
use Rattle.kin_motion.specs.Scene.{Scene}
use Rattle.kin_motion.specs.Chains.{is_plus, IsUpperChain}
use Rattle.kin_motion.specs.Merges.{Half, Half.{A, B}, Breakpoint, is_of, breakpoints_of, slope_form, goes_first, is_placed_before, own_of, IsInterleaving, IsBreakpointList}
use Rattle.kin_motion.specs.Laws.{HasTurnLaws}
use Rattle.kin_motion.proofs.BreakpointLaws.{itself}
use Rattle.kin_motion.proofs.MergeLaws.{Falls, upper_falls}
use Rattle.kin_motion.proofs.ListChains.{chain_tail}
use Rattle.kin_chain.specs.Merging.{is_in_place}

either : (a b : Bool) → a || b ≡ true → a ≡ false → b ≡ true
either true b e f = absurd cc
either false b e f = e

module _ (s : Scene) where
  -- the first is steeper
  abbrev pub falls : Breakpoint → Breakpoint → Bool
  falls e f = is_plus (s.sign (slope_form e f))

  pub breakpoints_fall : (h : Half) (a : List ℕ) → Falls s a → IsChain falls (breakpoints_of h a)
  breakpoints_fall h [] f = tt
  breakpoints_fall h (i ∷ []) f = tt
  breakpoints_fall h (i ∷ j ∷ []) f = tt
  breakpoints_fall h (i ∷ j ∷ k ∷ ps) f = (ap is_plus f.0, breakpoints_fall h (j ∷ k ∷ ps) f.1)

  own_behind : (h : Half) (e : Breakpoint) (es : List Breakpoint) → IsChain falls (own_of h (e ∷ es)) → IsChain falls (own_of h es)
  own_behind h e es c = at (is_of h e.half) c
    where
      at : (b : Bool) → IsChain falls (cond b (e ∷ own_of h es) (own_of h es)) → IsChain falls (own_of h es)
      at true c = chain_tail falls e (own_of h es) c
      at false c = c

  steeper_first : (e f : Breakpoint) → falls e f ≡ true → is_placed_before s e f ≡ true
  steeper_first e f c = at (s.sign (slope_form e f)) c
    where
      at : (t : Sign) → is_plus t ≡ true → goes_first t e.half f.half ≡ true
      at Plus c = refl
      at Zero c = absurd cc
      at Minus c = absurd cc

  -- two neighbours of one half
  own_neighbours : (h : Half) (e f : Breakpoint) (es : List Breakpoint) → e.half ≡ h → f.half ≡ h → IsChain falls (own_of h (e ∷ f ∷ es)) → is_placed_before s e f ≡ true
  own_neighbours h e f es p q c =
      let first : is_of h e.half ≡ true = ap (is_of h) p ∙ itself h in
      let second : is_of h f.half ≡ true = ap (is_of h) q ∙ itself h in
      steeper_first e f
      (subst (λ b. IsChain falls (cond b (e ∷ f ∷ own_of h es) (f ∷ own_of h es))) first (subst (λ b. IsChain falls (cond (is_of h e.half) (e ∷ cond b (f ∷ own_of h es) (own_of h es)) (cond b (f ∷ own_of h es) (own_of h es)))) second c)).0

  pub in_place_falls : (es : List Breakpoint) → IsChain falls (own_of A es) → IsChain falls (own_of B es) → IsChain (is_in_place s) es → IsChain (is_placed_before s) es
  in_place_falls [] fa fb c = tt
  in_place_falls (e ∷ []) fa fb c = tt
  in_place_falls (e ∷ f ∷ es) fa fb c = (at e.half refl f.half refl, in_place_falls (f ∷ es) (own_behind A e (f ∷ es) fa) (own_behind B e (f ∷ es) fb) c.1)
    where
      apart : (g h : Half) → e.half ≡ g → f.half ≡ h → is_of g h ≡ false → is_placed_before s e f ≡ true
      apart g h p q n = either (is_of e.half f.half) (is_placed_before s e f) c.0 (ap (λ x. is_of x f.half) p ∙ ap (is_of g) q ∙ n)

      at : (g : Half) → e.half ≡ g → (h : Half) → f.half ≡ h → is_placed_before s e f ≡ true
      at A p A q = own_neighbours A e f es p q fa
      at A p B q = apart A B p q refl
      at B p A q = apart B A p q refl
      at B p B q = own_neighbours B e f es p q fb

  -- neighbours in place
  pub list_in_place : HasTurnLaws s → (left right a b : List ℕ) (es : List Breakpoint) → IsUpperChain s left a → IsUpperChain s right b → IsInterleaving a b es → IsChain (is_in_place s) es → IsBreakpointList s a b es
  list_in_place turns left right a b es ua ub walk c = record {
    of_a = walk.of_a;
    of_b = walk.of_b;
    falling = in_place_falls es
        (subst (λ (fs : List Breakpoint). IsChain falls fs) (sym walk.of_a) (breakpoints_fall A a (upper_falls s turns left a ua)))
        (subst (λ (fs : List Breakpoint). IsChain falls fs) (sym walk.of_b) (breakpoints_fall B b (upper_falls s turns right b ub))) c;
  }
