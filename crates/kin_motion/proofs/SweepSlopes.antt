-- Along a sweep no form of slopes stands twice, though two neighbours may be turned round: of equal slopes the upper one is first, and each chain has one of a slope at most.
use Rattle.std.proofs.Common.{◌≡◌, ◌⊎◌, inl, inr, refl, sym, ap, ◌∙◌, subst, List, [], ◌∷◌, ◌++◌, Bool, true, false, cond}
use Rattle.std.specs.Prelude.{Contains}
use Rattle.std.proofs.lemmas.List.Elements.{Contains-append_cases}
use Rattle.kin_algebra.specs.declared.sign.Sign.{Sign}
use Rattle.kin_algebra.specs.declared.sign.Sign.TheVariants.{Minus, Zero, Plus}
use Rattle.kin_algebra.specs.Signs.{SumMayBe}
use Rattle.kin_algebra.proofs.Members.{contains_none, contains_head, contains_tail, contains_cases}
use Rattle.kin_algebra.proofs.Signs.{zero_from_opposite}
use Rattle.kin_motion.specs.declared.form.Form.{Form}
use Rattle.kin_motion.specs.declared.form.Form.TheVariants.{Line, Turn, Slope, Dist}
use Rattle.kin_motion.specs.Laws.{HasSlopeLaws}
use Rattle.kin_motion.specs.Merges.{Half, Half.{A, B}, Breakpoint, is_of, other, slope_form, slope_between, slopes_from, goes_first}
use Rattle.kin_motion.specs.Numbers.{IsChain}
use Rattle.kin_motion.specs.Scene.{Scene}
use Rattle.kin_motion.specs.Sets.{AreDistinct}
use Rattle.kin_motion.proofs.BreakpointLaws.{comes, right_signs, comes_through, comes_never}
use Rattle.kin_motion.proofs.ListChains.{chain_tail, chain_first}
use Rattle.kin_motion.proofs.SetLaws.{distinct_none, distinct_cons}

-- ---- halves
not_same : (x y : Half) → is_of x y ≡ false → y ≡ other x
not_same A A e = absurd cc
not_same A B e = refl
not_same B A e = refl
not_same B B e = absurd cc

one_of_two : (g x : Half) → (g ≡ x) ⊎ (g ≡ other x)
one_of_two A A = inl refl
one_of_two A B = inr refl
one_of_two B A = inr refl
one_of_two B B = inl refl

other_twice : (x : Half) → other (other x) ≡ x
other_twice A = refl
other_twice B = refl

strictly : (t : Sign) (x : Half) → goes_first t x x ≡ true → t ≡ Plus
strictly Plus x e = refl
strictly Zero A e = absurd cc
strictly Zero B e = absurd cc
strictly Minus x e = absurd cc

never_level : (t : Sign) (x y : Half) → goes_first t x y ≡ true → SumMayBe t Plus Zero → ⊥
never_level Plus x y e sum = absurd cc
never_level Zero x y e sum = absurd cc
never_level Minus x y e sum = absurd cc

-- ---- the numbers of a form
first_step : Form → Breakpoint
first_step (Slope i j k l) = record { half = A; left = i; right = j }
first_step (Line dx dy off i j) = record { half = A; left = i; right = j }
first_step (Turn i j k) = record { half = A; left = i; right = j }
first_step (Dist i j k l) = record { half = A; left = i; right = j }

second_step : Form → Breakpoint
second_step (Slope i j k l) = record { half = A; left = k; right = l }
second_step (Line dx dy off i j) = record { half = A; left = i; right = j }
second_step (Turn i j k) = record { half = A; left = i; right = j }
second_step (Dist i j k l) = record { half = A; left = k; right = l }

-- two breakpoints have the same points
record SamePoints (e f : Breakpoint) : Type 0 where
  left : e.left ≡ f.left
  right : e.right ≡ f.right

same_firsts : (e f g h : Breakpoint) → slope_form g h ≡ slope_form e f → SamePoints g e
unfolding first_step
same_firsts e f g h q = record { left = ap (λ x. (first_step x).left) q; right = ap (λ x. (first_step x).right) q }

same_seconds : (e f g h : Breakpoint) → slope_form g h ≡ slope_form e f → SamePoints h f
unfolding second_step
same_seconds e f g h q = record { left = ap (λ x. (second_step x).left) q; right = ap (λ x. (second_step x).right) q }

one_breakpoint : (e f : Breakpoint) → e.half ≡ f.half → SamePoints e f → e ≡ f
one_breakpoint e f h p = let a = p.left in let b = p.right in λ t. record { half = h t; left = a t; right = b t }

-- ---- neighbours
-- two breakpoints of different halves with this form
record HasSlope (es : List Breakpoint) (form : Form) : Type 0 where
  g : Breakpoint
  h : Breakpoint
  g_in : Contains es g
  h_in : Contains es h
  differ : is_of g.half h.half ≡ false
  is : form ≡ slope_form g h

in_slope : (e f : Breakpoint) (form : Form) → Contains (slope_between e f) form → (is_of e.half f.half ≡ false) × (form ≡ slope_form e f)
in_slope e f form c = at (is_of e.half f.half) refl c
  where
    at : (b : Bool) → is_of e.half f.half ≡ b → Contains (cond b [] (slope_form e f ∷ [])) form → (is_of e.half f.half ≡ false) × (form ≡ slope_form e f)
    at true q c = absurd (contains_none form c)
    at false q c = (q, alone (contains_cases (slope_form e f) form [] c))
      where
        alone : (slope_form e f ≡ form) ⊎ Contains [] form → form ≡ slope_form e f
        alone (inl r) = sym r
        alone (inr k) = absurd (contains_none form k)

slope_of : (es : List Breakpoint) (form : Form) → Contains (slopes_from es) form → HasSlope es form
slope_of [] form c = absurd (contains_none form c)
slope_of (e ∷ []) form c = absurd (contains_none form c)
slope_of (e ∷ f ∷ es) form c = at (Contains-append_cases (slope_between e f) (slopes_from (f ∷ es)) form c) (slope_of (f ∷ es) form)
  where
    at : Contains (slope_between e f) form ⊎ Contains (slopes_from (f ∷ es)) form → (Contains (slopes_from (f ∷ es)) form → HasSlope (f ∷ es) form) → HasSlope (e ∷ f ∷ es) form
    at (inl k) rest = let w = in_slope e f form k in record { g = e; h = f; g_in = contains_head e (f ∷ es); h_in = contains_tail e f (f ∷ es) (contains_head f es); differ = w.0; is = w.1 }
    at (inr k) rest = let w = rest k in record { g = w.g; h = w.h; g_in = contains_tail e w.g (f ∷ es) w.g_in; h_in = contains_tail e w.h (f ∷ es) w.h_in; differ = w.differ; is = w.is }

module _ (s : Scene) (slopes : HasSlopeLaws s) where
  -- equal points, equal slopes
  level_slope : (e g : Breakpoint) → SamePoints g e → s.sign (slope_form e g) ≡ Zero
  level_slope e g p =
      ap (λ i. s.sign (Slope e.left e.right i g.right)) p.left ∙ ap (λ j. s.sign (Slope e.left e.right e.left j)) p.right
      ∙ zero_from_opposite (s.sign (Slope e.left e.right e.left e.right)) (slopes.opposite e.left e.right e.left e.right)

  not_later : (e f : Breakpoint) (es : List Breakpoint) → IsChain (comes s slopes) (e ∷ f ∷ es) → is_of e.half f.half ≡ false → HasSlope (f ∷ es) (slope_form e f) → ⊥
  not_later e f es chain apart w = at (one_of_two w.g.half e.half) (contains_cases f w.g es w.g_in)
    where
      before : (x : Breakpoint) → Contains (f ∷ es) x → comes s slopes e x ≡ true
      before x c = chain_first (comes s slopes) (comes_through s slopes) e (f ∷ es) chain x c

      never : (x : Breakpoint) → Contains (f ∷ es) x → x ≡ e → ⊥
      never x c q = comes_never s slopes e (subst (λ (y : Breakpoint). comes s slopes e y ≡ true) q (before x c))

      g_points : SamePoints w.g e
      g_points = same_firsts e f w.g w.h (sym w.is)

      h_points : SamePoints w.h f
      h_points = same_seconds e f w.g w.h (sym w.is)

      f_half : f.half ≡ other e.half
      f_half = not_same e.half f.half apart

      h_half : w.g.half ≡ other e.half → w.h.half ≡ e.half
      h_half q = not_same w.g.half w.h.half w.differ ∙ ap other q ∙ other_twice e.half

      at : (w.g.half ≡ e.half) ⊎ (w.g.half ≡ other e.half) → (f ≡ w.g) ⊎ Contains es w.g → ⊥
      at (inl q) place = never w.g w.g_in (one_breakpoint w.g e q g_points)
      at (inr q) (inl same) =
          never w.h w.h_in
          (one_breakpoint w.h e (h_half q)
          (record { left = h_points.left ∙ ap (λ (x : Breakpoint). x.left) same ∙ g_points.left; right = h_points.right ∙ ap (λ (x : Breakpoint). x.right) same ∙ g_points.right }))
      at (inr q) (inr behind) =
          let first = right_signs s slopes e f (before f (contains_head f es)) in
          let second = right_signs s slopes f w.g (chain_first (comes s slopes) (comes_through s slopes) f es (chain_tail (comes s slopes) e (f ∷ es) chain) w.g behind) in
          let same : w.g.half ≡ f.half = q ∙ sym f_half in
          let plus : s.sign (slope_form f w.g) ≡ Plus = strictly (s.sign (slope_form f w.g)) f.half (subst (λ x. goes_first (s.sign (slope_form f w.g)) f.half x ≡ true) same second.2) in
          let sum = slopes.through e.left e.right f.left f.right w.g.left w.g.right first.0 first.1 second.1 in
          never_level (s.sign (slope_form e f)) e.half f.half first.2
          (subst (λ t. SumMayBe (s.sign (slope_form e f)) t Zero) plus (subst (λ t. SumMayBe (s.sign (slope_form e f)) (s.sign (slope_form f w.g)) t) (level_slope e w.g g_points) sum))

  pub slopes_once : (es : List Breakpoint) → IsChain (comes s slopes) es → AreDistinct (slopes_from es)
  slopes_once [] chain = distinct_none
  slopes_once (e ∷ []) chain = distinct_none
  slopes_once (e ∷ f ∷ es) chain = at (is_of e.half f.half) refl (slopes_once (f ∷ es) chain.1)
    where
      at : (b : Bool) → is_of e.half f.half ≡ b → AreDistinct (slopes_from (f ∷ es)) → AreDistinct (cond b [] (slope_form e f ∷ []) ++ slopes_from (f ∷ es))
      at true q rest = rest
      at false q rest = distinct_cons (slope_form e f) (slopes_from (f ∷ es)) (λ c. not_later e f es chain q (slope_of (f ∷ es) (slope_form e f) c)) rest
