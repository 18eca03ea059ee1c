-- The forms of a merge name points of its two chains.
use Rattle.std.proofs.Common.{◌≡◌, ◌⊎◌, inl, inr, refl, sym, ap, ◌∙◌, subst, List, [], ◌∷◌, ◌++◌, ℕ, Bool, true, false, cond, ◌+◌, ◌*◌, pos, arith}
use Rattle.std.specs.Prelude.{Contains}
use Rattle.std.proofs.lemmas.List.Elements.{Contains-append_cases}
use Rattle.std.proofs.lemmas.Bool.{and_parts}
use Rattle.kin_algebra.proofs.Members.{contains_none, contains_head, contains_tail, contains_cases}
use Rattle.kin_motion.specs.declared.form.Form.{Form}
use Rattle.kin_motion.specs.declared.form.Form.TheVariants.{Line, Turn}
use Rattle.kin_motion.specs.Forms.{IsAskable}
use Rattle.kin_motion.specs.Numbers.{is_in, IsIn}
use Rattle.kin_motion.specs.Scene.{Scene, x_sign}
use Rattle.kin_motion.specs.Chains.{is_zero, IsUpperChain}
use Rattle.kin_motion.specs.Merges.{IsMergeForm, Half, Half.{A, B}, Breakpoint, is_of, breakpoints_of, slope_form, IsBreakpointList, current_after, other_current, turns_from, slope_between, slopes_from, end_forms, last_of, forms_of_ends, forms_of_merge, points_under, IsNodeForm}
use Rattle.kin_motion.specs.Tournaments.{is_under}
use Rattle.kin_motion.proofs.CurrentLaws.{forms_agree}
use Rattle.kin_motion.proofs.SetLaws.{filter-complete}
use Rattle.kin_motion.proofs.AgreementLaws.{kept-members}
use Rattle.kin_motion.proofs.Members.{in_head, in_tail}
use Rattle.kin_motion.proofs.ChainLaws.{chain_within}

-- all numbers of the list are live
abbrev pub AllLive : List ℕ → List ℕ → Type 0
AllLive live xs = (i : ℕ) → is_in i xs ≡ true → IsIn i live

module _ (live : List ℕ) where
  pub first_live : (i : ℕ) (xs : List ℕ) → AllLive live (i ∷ xs) → IsIn i live
  first_live i xs known = known i (in_head i xs)

  pub rest_live : (i : ℕ) (xs : List ℕ) → AllLive live (i ∷ xs) → AllLive live xs
  rest_live i xs known j e = known j (in_tail j i xs e)

  abbrev pub AreLive : Breakpoint → Type 0
  AreLive e = IsIn e.left live × IsIn e.right live

  pub breakpoints_live : (h : Half) (xs : List ℕ) → AllLive live xs → (e : Breakpoint) → Contains (breakpoints_of h xs) e → AreLive e
  breakpoints_live h [] known e c = absurd (contains_none e c)
  breakpoints_live h (i ∷ []) known e c = absurd (contains_none e c)
  breakpoints_live h (i ∷ j ∷ xs) known e c = at (contains_cases (record { half = h; left = i; right = j }) e (breakpoints_of h (j ∷ xs)) c) (breakpoints_live h (j ∷ xs) (rest_live i (j ∷ xs) known) e)
    where
      here : AreLive (record { half = h; left = i; right = j })
      here = (first_live i (j ∷ xs) known, first_live j xs (rest_live i (j ∷ xs) known))

      at : (record { half = h; left = i; right = j } ≡ e) ⊎ Contains (breakpoints_of h (j ∷ xs)) e → (Contains (breakpoints_of h (j ∷ xs)) e → AreLive e) → AreLive e
      at (inl q) rest = subst (λ (x : Breakpoint). AreLive x) q here
      at (inr k) rest = rest k

  either_live : (b : Bool) (i j : ℕ) → IsIn i live → IsIn j live → IsIn (cond b i j) live
  either_live true i j x y = x
  either_live false i j x y = y

  other_live : (h : Half) (a b : ℕ) → IsIn a live → IsIn b live → IsIn (other_current h a b) live
  other_live A a b x y = y
  other_live B a b x y = x

  -- ---- the forms, kind by kind
  turns_askable : (a b : ℕ) → IsIn a live → IsIn b live → (es : List Breakpoint) → ((e : Breakpoint) → Contains es e → AreLive e) → (f : Form) → Contains (turns_from a b es) f → IsAskable live f
  turns_askable a b x y [] known f c = absurd (contains_none f c)
  turns_askable a b x y (e ∷ es) known f c =
      at (contains_cases (Turn e.left e.right (other_current e.half a b)) f (turns_from (current_after A e a) (current_after B e b) es) c)
      (turns_askable (current_after A e a) (current_after B e b) (either_live (is_of A e.half) e.right a here.1 x) (either_live (is_of B e.half) e.right b here.1 y) es (λ g k. known g (contains_tail e g es k)) f)
    where
      here : AreLive e
      here = known e (contains_head e es)

      at : (Turn e.left e.right (other_current e.half a b) ≡ f) ⊎ Contains (turns_from (current_after A e a) (current_after B e b) es) f → (Contains (turns_from (current_after A e a) (current_after B e b) es) f → IsAskable live f) → IsAskable live f
      at (inl q) rest = subst (IsAskable live) q (here.0, here.1, other_live e.half a b x y)
      at (inr k) rest = rest k

  between_askable : (e f : Breakpoint) → AreLive e → AreLive f → (g : Form) → Contains (slope_between e f) g → IsAskable live g
  between_askable e f x y g c = at (is_of e.half f.half) c
    where
      only : (slope_form e f ≡ g) ⊎ Contains [] g → IsAskable live g
      only (inl q) = subst (IsAskable live) q (x.0, x.1, y.0, y.1)
      only (inr k) = absurd (contains_none g k)

      at : (b : Bool) → Contains (cond b [] (slope_form e f ∷ [])) g → IsAskable live g
      at true c = absurd (contains_none g c)
      at false c = only (contains_cases (slope_form e f) g [] c)

  pub slopes_askable : (es : List Breakpoint) → ((e : Breakpoint) → Contains es e → AreLive e) → (g : Form) → Contains (slopes_from es) g → IsAskable live g
  slopes_askable [] known g c = absurd (contains_none g c)
  slopes_askable (e ∷ []) known g c = absurd (contains_none g c)
  slopes_askable (e ∷ f ∷ es) known g c =
      at (Contains-append_cases (slope_between e f) (slopes_from (f ∷ es)) g c) (slopes_askable (f ∷ es) (λ h k. known h (contains_tail e h (f ∷ es) k)) g)
    where
      at : Contains (slope_between e f) g ⊎ Contains (slopes_from (f ∷ es)) g → (Contains (slopes_from (f ∷ es)) g → IsAskable live g) → IsAskable live g
      at (inl k) rest = between_askable e f (known e (contains_head e (f ∷ es))) (known f (contains_tail e f (f ∷ es) (contains_head f es))) g k
      at (inr k) rest = rest k

  end_askable : (s : Scene) (a b : ℕ) → IsIn a live → IsIn b live → (g : Form) → Contains (end_forms s a b) g → IsAskable live g
  end_askable s a b x y g c = at (contains_cases (Line (pos 1) (pos 0) (pos 0) a b) g (cond (is_zero (x_sign s a b)) (Line (pos 0) (pos 1) (pos 0) a b ∷ []) []) c)
    where
      along_y : (t : Bool) → Contains (cond t (Line (pos 0) (pos 1) (pos 0) a b ∷ []) []) g → IsAskable live g
      along_y false c = absurd (contains_none g c)
      along_y true c = only (contains_cases (Line (pos 0) (pos 1) (pos 0) a b) g [] c)
        where
          only : (Line (pos 0) (pos 1) (pos 0) a b ≡ g) ⊎ Contains [] g → IsAskable live g
          only (inl q) = subst (IsAskable live) q (record { i_live = x; j_live = y; dx_small = omega arith; dy_small = omega arith; off_small = omega arith })
          only (inr k) = absurd (contains_none g k)

      at : (Line (pos 1) (pos 0) (pos 0) a b ≡ g) ⊎ Contains (cond (is_zero (x_sign s a b)) (Line (pos 0) (pos 1) (pos 0) a b ∷ []) []) g → IsAskable live g
      at (inl q) = subst (IsAskable live) q (record { i_live = x; j_live = y; dx_small = omega arith; dy_small = omega arith; off_small = omega arith })
      at (inr k) = along_y (is_zero (x_sign s a b)) k

  last_live : (p : ℕ) (ps : List ℕ) → AllLive live (p ∷ ps) → IsIn (last_of p ps) live
  last_live p [] known = first_live p [] known
  last_live p (q ∷ qs) known = last_live q qs (rest_live p (q ∷ qs) known)

  ends_askable : (s : Scene) (a : ℕ) (as' : List ℕ) (b : ℕ) (bs : List ℕ) → AllLive live (a ∷ as') → AllLive live (b ∷ bs) → (g : Form) → Contains (forms_of_ends s a as' b bs) g → IsAskable live g
  ends_askable s a as' b bs x y g c = by_chains as' bs x y c
    where
      both : (as' bs : List ℕ) → AllLive live (a ∷ as') → AllLive live (b ∷ bs) → Contains (end_forms s a b) g ⊎ Contains (end_forms s (last_of a as') (last_of b bs)) g → IsAskable live g
      both as' bs x y (inl k) = end_askable s a b (first_live a as' x) (first_live b bs y) g k
      both as' bs x y (inr k) = end_askable s (last_of a as') (last_of b bs) (last_live a as' x) (last_live b bs y) g k

      by_chains : (as' bs : List ℕ) → AllLive live (a ∷ as') → AllLive live (b ∷ bs) → Contains (forms_of_ends s a as' b bs) g → IsAskable live g
      by_chains [] [] x y c = end_askable s a b (first_live a [] x) (first_live b [] y) g c
      by_chains [] (q ∷ qs) x y c = both [] (q ∷ qs) x y (Contains-append_cases (end_forms s a b) (end_forms s (last_of a []) (last_of b (q ∷ qs))) g c)
      by_chains (p ∷ ps) bs x y c = both (p ∷ ps) bs x y (Contains-append_cases (end_forms s a b) (end_forms s (last_of a (p ∷ ps)) (last_of b bs)) g c)

  -- ---- the merge
  list_live : (s : Scene) (a b : List ℕ) (es : List Breakpoint) → AllLive live a → AllLive live b → IsBreakpointList s a b es → (e : Breakpoint) → Contains es e → AreLive e
  list_live s a b es x y l e c = by_half e.half refl
    where
      by_half : (h : Half) → e.half ≡ h → AreLive e
      by_half A q = breakpoints_live A a x e (subst (λ (gs : List Breakpoint). Contains gs e) l.of_a (filter-complete (λ (f : Breakpoint). is_of A f.half) es e c (ap (is_of A) q)))
      by_half B q = breakpoints_live B b y e (subst (λ (gs : List Breakpoint). Contains gs e) l.of_b (filter-complete (λ (f : Breakpoint). is_of B f.half) es e c (ap (is_of B) q)))

  merge_askable : (s : Scene) (a b : List ℕ) (es : List Breakpoint) → AllLive live a → AllLive live b → IsBreakpointList s a b es → (g : Form) → Contains (forms_of_merge s a b es) g → IsAskable live g
  merge_askable s [] b es x y l g c = absurd (contains_none g c)
  merge_askable s (a ∷ as') [] es x y l g c = absurd (contains_none g c)
  merge_askable s (a ∷ as') (b ∷ bs) es x y l g c = by_kind (Contains-append_cases (turns_from a b es ++ slopes_from es) (forms_of_ends s a as' b bs) g c)
    where
      known : (e : Breakpoint) → Contains es e → AreLive e
      known = list_live s (a ∷ as') (b ∷ bs) es x y l

      inner : Contains (turns_from a b es) g ⊎ Contains (slopes_from es) g → IsAskable live g
      inner (inl k) = turns_askable a b (first_live a as' x) (first_live b bs y) es known g k
      inner (inr k) = slopes_askable es known g k

      by_kind : Contains (turns_from a b es ++ slopes_from es) g ⊎ Contains (forms_of_ends s a as' b bs) g → IsAskable live g
      by_kind (inl k) = inner (Contains-append_cases (turns_from a b es) (slopes_from es) g k)
      by_kind (inr k) = ends_askable s a as' b bs x y g k

-- ---- a node of the tree
under_live : (size : ℕ) (s : Scene) (v : ℕ) → AllLive s.live (points_under size s v)
under_live size s v i e = (and_parts (is_in i s.live) (is_under size v i) (sym (kept-members (is_under size v) s.live i) ∙ e)).0

pub chain_live : (live : List ℕ) (s : Scene) (set xs : List ℕ) → IsUpperChain s set xs → AllLive live set → AllLive live xs
chain_live live s set xs chain known i e = known i (chain_within s set xs chain i e)

-- a form of the merge of two sets of live numbers may be asked for
pub merge_form_askable : (live : List ℕ) (s : Scene) (left right : List ℕ) (f : Form) → AllLive live left → AllLive live right → IsMergeForm s left right f → IsAskable live f
merge_form_askable live s left right f x y m =
    merge_askable live s m.a m.b m.breakpoints (chain_live live s left m.a m.a_chain x) (chain_live live s right m.b m.b_chain y) m.sorted f ((forms_agree s m.a m.b m.breakpoints f).1 m.listed)

pub node_form_askable : (size : ℕ) (s : Scene) (v : ℕ) (f : Form) → IsNodeForm size s v f → IsAskable s.live f
node_form_askable size s v f m = merge_form_askable s.live s (points_under size s (2 * v)) (points_under size s (2 * v + 1)) f (under_live size s (2 * v)) (under_live size s (2 * v + 1)) m
