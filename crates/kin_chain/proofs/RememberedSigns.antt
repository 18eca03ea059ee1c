-- Where the forms of a merge have the signs that were seen before, the forms, the places of neighbours and the cells are those from before.
use Rattle.std.proofs.Common.{◌≡◌, refl, sym, ap, ap₂, ◌∙◌, subst, List, [], ◌∷◌, ◌++◌, ℕ, Bool, true, false, cond, not, ◌&&◌, ◌||◌, pos}
use Rattle.std.specs.Prelude.{Contains, Option, Some, None}
use Rattle.std.proofs.lemmas.List.Elements.{Contains-append_left, Contains-append_right}
use Rattle.kin_algebra.proofs.Members.{contains_head, contains_tail}
use Rattle.kin_algebra.specs.declared.sign.Sign.{Sign}
use Rattle.kin_algebra.specs.declared.sign.Sign.TheVariants.{Minus, Zero, Plus}
use Rattle.kin_algebra.specs.Signs.{opposite_of, first_of}
use Rattle.kin_algebra.proofs.Signs.{opposite-opposite}
use Rattle.kin_motion.specs.declared.form.Form.{Form}
use Rattle.kin_motion.specs.declared.form.Form.TheVariants.{Line, Turn}
use Rattle.kin_motion.specs.Numbers.{IsChain}
use Rattle.kin_motion.specs.Scene.{Scene, x_sign, y_sign}
use Rattle.kin_motion.specs.Chains.{is_zero}
use Rattle.kin_motion.specs.Merges.{Half, Half.{A, B}, Breakpoint, is_of, slope_form, goes_first, IsInterleaving, current_after, other_current, slope_between, slopes_from, turns_from, end_forms, last_of, forms_of_ends, forms_of_merge}
use Rattle.kin_motion.specs.Cells.{Cell, above_at, above_left, above_right, is_narrow, cells_from, cells_of}
use Rattle.kin_chain.specs.Merging.{is_in_place}
use Rattle.kin_chain.proofs.Walks.{behind_of, at_end}

module _ (old now : Scene) where
  -- each of these forms has its sign from before
  pub record Agree (fs : List Form) : Type 0 where
    pub same : (f : Form) → Contains fs f → now.sign f ≡ old.sign f

  agree_left : (fs gs : List Form) → Agree (fs ++ gs) → Agree fs
  agree_left fs gs k = record { same = λ f c. k.same f (Contains-append_left fs gs f c) }

  agree_right : (fs gs : List Form) → Agree (fs ++ gs) → Agree gs
  agree_right fs gs k = record { same = λ f c. k.same f (Contains-append_right fs gs f c) }

  agree_head : (f : Form) (fs : List Form) → Agree (f ∷ fs) → now.sign f ≡ old.sign f
  agree_head f fs k = k.same f (contains_head f fs)

  agree_tail : (f : Form) (fs : List Form) → Agree (f ∷ fs) → Agree fs
  agree_tail f fs k = record { same = λ g c. k.same g (contains_tail f g fs c) }

  -- ---- neighbours
  -- the slope of two neighbours of different halves
  apart_agrees : (e f : Breakpoint) → is_of e.half f.half ≡ false → Agree (slope_between e f) → now.sign (slope_form e f) ≡ old.sign (slope_form e f)
  apart_agrees e f n k = agree_head (slope_form e f) [] (subst (λ b. Agree (cond b [] (slope_form e f ∷ []))) n k)

  neighbours_in_place : (e f : Breakpoint) → Agree (slope_between e f) → is_in_place now e f ≡ is_in_place old e f
  neighbours_in_place e f k = at (is_of e.half f.half) (apart_agrees e f) k
    where
      at : (b : Bool) → (b ≡ false → Agree (slope_between e f) → now.sign (slope_form e f) ≡ old.sign (slope_form e f)) → Agree (slope_between e f)
          → b || goes_first (now.sign (slope_form e f)) e.half f.half ≡ b || goes_first (old.sign (slope_form e f)) e.half f.half
      at true g k = refl
      at false g k = ap (λ t. goes_first t e.half f.half) (g refl k)

  pub in_place_kept : (es : List Breakpoint) → Agree (slopes_from es) → IsChain (is_in_place old) es → IsChain (is_in_place now) es
  in_place_kept [] k c = tt
  in_place_kept (e ∷ []) k c = tt
  in_place_kept (e ∷ f ∷ es) k c = (
    neighbours_in_place e f (agree_left (slope_between e f) (slopes_from (f ∷ es)) k) ∙ c.0,
    in_place_kept (f ∷ es) (agree_right (slope_between e f) (slopes_from (f ∷ es)) k) c.1,
  )

  -- ---- the outer ends
  -- the x of two points compares as before, and where it is equal the y does, too
  record EndAgrees (a b : ℕ) : Type 0 where
    pub x : x_sign now a b ≡ x_sign old a b
    pub y : x_sign old a b ≡ Zero → y_sign now a b ≡ y_sign old a b

  end_agrees : (a b : ℕ) → Agree (end_forms old a b) → EndAgrees a b
  end_agrees a b k = record {
    x = agree_head (Line (pos 1) (pos 0) (pos 0) a b) _ k;
    y = λ z. agree_head (Line (pos 0) (pos 1) (pos 0) a b) []
        (subst (λ b'. Agree (cond b' (Line (pos 0) (pos 1) (pos 0) a b ∷ []) [])) (ap is_zero z) (agree_tail (Line (pos 1) (pos 0) (pos 0) a b) _ k));
  }

  end_forms_kept : (a b : ℕ) → EndAgrees a b → end_forms now a b ≡ end_forms old a b
  end_forms_kept a b k = ap (λ t. Line (pos 1) (pos 0) (pos 0) a b ∷ cond (is_zero t) (Line (pos 0) (pos 1) (pos 0) a b ∷ []) []) k.x

  first_same : (t u u' : Sign) → (t ≡ Zero → u ≡ u') → first_of t u ≡ first_of t u'
  first_same Plus u u' f = refl
  first_same Zero u u' f = f refl
  first_same Minus u u' f = refl

  zero_back : (t : Sign) → opposite_of t ≡ Zero → t ≡ Zero
  zero_back t e = sym (opposite-opposite t) ∙ ap opposite_of e

  left_kept : (a b : ℕ) → EndAgrees a b → above_left now a b ≡ above_left old a b
  left_kept a b k = ap (λ t. first_of t (opposite_of (y_sign now a b))) k.x ∙ first_same (x_sign old a b) (opposite_of (y_sign now a b)) (opposite_of (y_sign old a b)) (λ z. ap opposite_of (k.y z))

  right_kept : (a b : ℕ) → EndAgrees a b → above_right now a b ≡ above_right old a b
  right_kept a b k =
      ap (λ t. first_of (opposite_of t) (opposite_of (y_sign now a b))) k.x
      ∙ first_same (opposite_of (x_sign old a b)) (opposite_of (y_sign now a b)) (opposite_of (y_sign old a b)) (λ z. ap opposite_of (k.y (zero_back (x_sign old a b) z)))

  -- both ends of chains that begin with a and b
  both_agree : (a : ℕ) (as' : List ℕ) (b : ℕ) (bs : List ℕ) → Agree (forms_of_ends old a as' b bs) → EndAgrees a b × EndAgrees (last_of a as') (last_of b bs)
  both_agree a [] b [] k = (end_agrees a b k, end_agrees a b k)
  both_agree a [] b (q ∷ bs) k = (end_agrees a b (agree_left (end_forms old a b) _ k), end_agrees a (last_of q bs) (agree_right (end_forms old a b) _ k))
  both_agree a (p ∷ as') b bs k = (end_agrees a b (agree_left (end_forms old a b) _ k), end_agrees (last_of p as') (last_of b bs) (agree_right (end_forms old a b) _ k))

  ends_kept : (a : ℕ) (as' : List ℕ) (b : ℕ) (bs : List ℕ) → EndAgrees a b → EndAgrees (last_of a as') (last_of b bs) → forms_of_ends now a as' b bs ≡ forms_of_ends old a as' b bs
  ends_kept a [] b [] l r = end_forms_kept a b l
  ends_kept a [] b (q ∷ bs) l r = ap₂ (λ (fs gs : List Form). fs ++ gs) (end_forms_kept a b l) (end_forms_kept a (last_of q bs) r)
  ends_kept a (p ∷ as') b bs l r = ap₂ (λ (fs gs : List Form). fs ++ gs) (end_forms_kept a b l) (end_forms_kept (last_of p as') (last_of b bs) r)

  -- ---- cells
  -- the slopes from the breakpoint in front on
  abbrev slopes_behind : Option Breakpoint → List Breakpoint → List Form
  slopes_behind None es = slopes_from es
  slopes_behind (Some d) es = slopes_from (d ∷ es)

  narrow_kept : (before : Option Breakpoint) (e : Breakpoint) (es : List Breakpoint) → Agree (slopes_behind before (e ∷ es)) → is_narrow now before e ≡ is_narrow old before e
  narrow_kept None e es k = refl
  narrow_kept (Some d) e es k = at (is_of d.half e.half) (apart_agrees d e) (agree_left (slope_between d e) (slopes_from (e ∷ es)) k)
    where
      at : (b : Bool) → (b ≡ false → Agree (slope_between d e) → now.sign (slope_form d e) ≡ old.sign (slope_form d e)) → Agree (slope_between d e)
          → not b && is_zero (now.sign (slope_form d e)) ≡ not b && is_zero (old.sign (slope_form d e))
      at true g k = refl
      at false g k = ap is_zero (g refl k)

  slopes_on : (before : Option Breakpoint) (e : Breakpoint) (es : List Breakpoint) → Agree (slopes_behind before (e ∷ es)) → Agree (slopes_from (e ∷ es))
  slopes_on None e es k = k
  slopes_on (Some d) e es k = agree_right (slope_between d e) (slopes_from (e ∷ es)) k

  above_kept : (a b : ℕ) (e : Breakpoint) → now.sign (Turn e.left e.right (other_current e.half a b)) ≡ old.sign (Turn e.left e.right (other_current e.half a b)) → above_at now a b e ≡ above_at old a b e
  above_kept a b e k = at e.half k
    where
      at : (h : Half) → now.sign (Turn e.left e.right (other_current h a b)) ≡ old.sign (Turn e.left e.right (other_current h a b))
          → cond (is_of A h) (opposite_of (now.sign (Turn e.left e.right b))) (now.sign (Turn e.left e.right a)) ≡ cond (is_of A h) (opposite_of (old.sign (Turn e.left e.right b))) (old.sign (Turn e.left e.right a))
      at A k = ap opposite_of k
      at B k = k

  cells_kept_from : (before : Option Breakpoint) (left : Sign) (a : ℕ) (as' : List ℕ) (b : ℕ) (bs : List ℕ) (es : List Breakpoint) → IsInterleaving (a ∷ as') (b ∷ bs) es
      → Agree (turns_from a b es) → Agree (slopes_behind before es) → EndAgrees (last_of a as') (last_of b bs) → cells_from now before left a b es ≡ cells_from old before left a b es
  cells_kept_from before left a as' b bs [] walk turns slopes end = at as' (at_end A a as' walk.of_a) bs (at_end B b bs walk.of_b) end
    where
      at : (as' : List ℕ) → as' ≡ [] → (bs : List ℕ) → bs ≡ [] → EndAgrees (last_of a as') (last_of b bs) → cells_from now before left a b [] ≡ cells_from old before left a b []
      at [] p [] q end = ap (λ t. record { a = a; b = b; left = left; right = t; narrow = false } ∷ []) (right_kept a b end)
      at [] p (y ∷ ys) q end = absurd cc
      at (x ∷ xs) p bs q end = absurd cc
  cells_kept_from before left a as' b bs (e ∷ es) walk turns slopes end =
      let w = behind_of a as' b bs e es walk in
      let above = above_kept a b e (agree_head (Turn e.left e.right (other_current e.half a b)) _ turns) in
      let rest = cells_kept_from (Some e) (above_at old a b e) (current_after A e a) w.a_rest (current_after B e b) w.b_rest es w.walk (agree_tail (Turn e.left e.right (other_current e.half a b)) _ turns) (slopes_on before e es slopes)
      (subst (λ x. EndAgrees x (last_of (current_after B e b) w.b_rest)) (sym w.a_last) (subst (λ y. EndAgrees (last_of a as') y) (sym w.b_last) end)) in
      ap (λ t. record { a = a; b = b; left = left; right = t; narrow = is_narrow now before e } ∷ cells_from now (Some e) t (current_after A e a) (current_after B e b) es) above
      ∙ ap (λ n. record { a = a; b = b; left = left; right = above_at old a b e; narrow = n } ∷ cells_from now (Some e) (above_at old a b e) (current_after A e a) (current_after B e b) es) (narrow_kept before e es slopes)
      ∙ ap (λ (cs : List Cell). record { a = a; b = b; left = left; right = above_at old a b e; narrow = is_narrow old before e } ∷ cs) rest

  -- ---- the merge of two chains that begin with a and b
  module _ (a : ℕ) (as' : List ℕ) (b : ℕ) (bs : List ℕ) (es : List Breakpoint) (k : Agree (forms_of_merge old (a ∷ as') (b ∷ bs) es)) where
    inner_agree : Agree (turns_from a b es ++ slopes_from es)
    inner_agree = agree_left (turns_from a b es ++ slopes_from es) (forms_of_ends old a as' b bs) k

    pub slopes_agree : Agree (slopes_from es)
    slopes_agree = agree_right (turns_from a b es) (slopes_from es) inner_agree

    ends_agree : EndAgrees a b × EndAgrees (last_of a as') (last_of b bs)
    ends_agree = both_agree a as' b bs (agree_right (turns_from a b es ++ slopes_from es) (forms_of_ends old a as' b bs) k)

    pub forms_kept : forms_of_merge now (a ∷ as') (b ∷ bs) es ≡ forms_of_merge old (a ∷ as') (b ∷ bs) es
    forms_kept = ap (λ (fs : List Form). turns_from a b es ++ slopes_from es ++ fs) (ends_kept a as' b bs ends_agree.0 ends_agree.1)

    pub cells_kept : IsInterleaving (a ∷ as') (b ∷ bs) es → cells_of now a b es ≡ cells_of old a b es
    cells_kept walk =
        ap (λ t. cells_from now None t a b es) (left_kept a b ends_agree.0)
        ∙ cells_kept_from None (above_left old a b) a as' b bs es walk (agree_left (turns_from a b es) (slopes_from es) inner_agree) slopes_agree ends_agree.1
