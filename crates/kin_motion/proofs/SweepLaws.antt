-- An upper and a lower chain have one sweep, and it is the computed one.
use Rattle.std.proofs.Common.{◌≡◌, ◌⊎◌, inl, inr, refl, sym, ap, ◌∙◌, subst, List, [], ◌∷◌, ◌++◌, reverse, ℕ, Bool, true, ◌&&◌}
use Rattle.std.specs.Prelude.{Contains}
use Rattle.std.proofs.lemmas.Bool.{and_from}
use Rattle.std.proofs.lemmas.List.{reverse-append}
use Rattle.kin_algebra.proofs.Members.{contains_none, contains_cases}
use Rattle.kin_motion.specs.Chains.{is_left}
use Rattle.kin_motion.specs.Laws.{HasSlopeLaws}
use Rattle.kin_motion.specs.Merges.{Half, Half.{A, B}, Breakpoint, breakpoints_of, goes_first, is_placed_before}
use Rattle.kin_motion.specs.Numbers.{IsChain}
use Rattle.kin_motion.specs.Scene.{Scene, reflected}
use Rattle.kin_motion.specs.Sweeps.{breakpoints_back, IsSweep, sweep_of}
use Rattle.kin_motion.proofs.BreakpointLaws.{own_half, own_has, own_in, weaker_chain, goes_right, comes, right_signs, comes_through, comes_never, breakpoints_come, all_right, merged_right, list_comes}
use Rattle.kin_motion.proofs.ListChains.{same_list}
use Rattle.kin_motion.proofs.MergeLaws.{Falls, upper_falls}
use Rattle.kin_motion.proofs.RealLaws.{real_turn_laws}
use Rattle.kin_motion.proofs.ReflectedLaws.{reflected-real}
use Rattle.kin_motion.proofs.SlopeLaws.{real_slope_laws}
use Rattle.kin_motion.specs.Theorems.{OneSweep}

-- ---- a chain from its end
module _ {X : Type 0} (lt : X → X → Bool) where
  -- each comes after the next
  abbrev Back : List X → Type 0
  Back = IsChain (λ x y. lt y x)

  push_back : (ys : List X) (y x : X) → Back (ys ++ y ∷ []) → lt x y ≡ true → Back (ys ++ y ∷ x ∷ [])
  push_back [] y x c e = (e, tt)
  push_back (z ∷ []) y x c e = (c.0, (e, tt))
  push_back (z ∷ w ∷ ys) y x c e = (c.0, push_back (w ∷ ys) y x c.1 e)

  pub chain_reversed : (xs : List X) → IsChain lt xs → Back (reverse xs)
  chain_reversed [] c = tt
  chain_reversed (x ∷ []) c = tt
  chain_reversed (x ∷ y ∷ ys) c =
      subst Back (sym (reverse-append (x ∷ y ∷ []) ys))
      (push_back (reverse ys) y x (subst Back (reverse-append (y ∷ []) ys) (chain_reversed (y ∷ ys) c.1)) c.0)

-- ---- the breakpoints of a chain from its end
of_lower : ℕ → ℕ → Breakpoint
of_lower i j = record { half = B; left = i; right = j }

back_half : (xs : List ℕ) (e : Breakpoint) → Contains (breakpoints_back xs) e → e.half ≡ B
unfolding of_lower
back_half [] e c = absurd (contains_none e c)
back_half (j ∷ []) e c = absurd (contains_none e c)
back_half (j ∷ i ∷ ps) e c = at (contains_cases (of_lower i j) e (breakpoints_back (i ∷ ps)) c) (back_half (i ∷ ps) e)
  where
    at : (of_lower i j ≡ e) ⊎ Contains (breakpoints_back (i ∷ ps)) e → (Contains (breakpoints_back (i ∷ ps)) e → e.half ≡ B) → e.half ≡ B
    at (inl f) rest = sym (ap (λ (x : Breakpoint). x.half) f)
    at (inr k) rest = rest k

one_more : (zs : List ℕ) (j i : ℕ) → breakpoints_back (zs ++ j ∷ i ∷ []) ≡ breakpoints_back (zs ++ j ∷ []) ++ of_lower i j ∷ []
unfolding of_lower
one_more [] j i = refl
one_more (z ∷ []) j i = refl
one_more (z ∷ w ∷ zs) j i = ap (λ (es : List Breakpoint). of_lower w z ∷ es) (one_more (w ∷ zs) j i)

pub back_reversed : (xs : List ℕ) → breakpoints_back (reverse xs) ≡ reverse (breakpoints_of B xs)
unfolding of_lower
back_reversed [] = refl
back_reversed (i ∷ []) = refl
back_reversed (i ∷ j ∷ ps) =
    ap breakpoints_back (reverse-append (i ∷ j ∷ []) ps) ∙ one_more (reverse ps) j i
    ∙ ap (λ (es : List Breakpoint). es ++ of_lower i j ∷ []) (ap breakpoints_back (sym (reverse-append (j ∷ []) ps)) ∙ back_reversed (j ∷ ps))
    ∙ sym (reverse-append (of_lower i j ∷ []) (breakpoints_of B (j ∷ ps)))

module _ (s : Scene) (slopes : HasSlopeLaws s) where
  -- the breakpoints of a lower chain come one before the other, from right to left
  come_back : (xs : List ℕ) → IsChain (is_left s) xs → Falls (reflected s) xs → IsChain (λ e f. comes s slopes f e) (breakpoints_of B xs)
  come_back [] c f = tt
  come_back (i ∷ []) c f = tt
  come_back (i ∷ j ∷ []) c f = tt
  come_back (i ∷ j ∷ k ∷ ps) c f = (
    and_from (is_left s j k && is_left s i j) _ (and_from (is_left s j k) (is_left s i j) c.1.0 c.0) (ap (λ t. goes_first t B B) (slopes.opposite i j j k ∙ f.0)),
    come_back (j ∷ k ∷ ps) c.1 f.1,
  )

  lower_comes : (xs : List ℕ) → IsChain (is_left s) xs → Falls (reflected s) xs → IsChain (comes s slopes) (breakpoints_back (reverse xs))
  lower_comes xs c f = subst (IsChain (comes s slopes)) (sym (back_reversed xs)) (chain_reversed (λ e f. comes s slopes f e) (breakpoints_of B xs) (come_back xs c f))

  -- they go to the right
  pub back_right : (xs : List ℕ) → IsChain (λ x y. is_left s y x) xs → (e : Breakpoint) → Contains (breakpoints_back xs) e → goes_right s slopes e ≡ true
  unfolding of_lower
  back_right [] c e k = absurd (contains_none e k)
  back_right (j ∷ []) c e k = absurd (contains_none e k)
  back_right (j ∷ i ∷ ps) c e k = at (contains_cases (of_lower i j) e (breakpoints_back (i ∷ ps)) k) (back_right (i ∷ ps) c.1 e)
    where
      at : (of_lower i j ≡ e) ⊎ Contains (breakpoints_back (i ∷ ps)) e → (Contains (breakpoints_back (i ∷ ps)) e → goes_right s slopes e ≡ true) → goes_right s slopes e ≡ true
      at (inl f) rest = sym (ap (goes_right s slopes) f) ∙ c.0
      at (inr m) rest = rest m

  -- ---- the list
  module _ (upper lower : List ℕ) (upper_rises : IsChain (is_left s) upper) (lower_rises : IsChain (is_left s) lower) where
    pub in_order : (es : List Breakpoint) → IsSweep s upper (reverse lower) es → IsChain (comes s slopes) es
    in_order es sweep = list_comes s slopes es right sweep.falling
      where
        right : (e : Breakpoint) → Contains es e → goes_right s slopes e ≡ true
        right e c = at e.half refl
          where
            at : (g : Half) → e.half ≡ g → goes_right s slopes e ≡ true
            at A g = all_right s slopes A upper upper_rises e (subst (λ (gs : List Breakpoint). Contains gs e) sweep.of_upper (own_has A es e c g))
            at B g = back_right (reverse lower) (chain_reversed (is_left s) lower lower_rises) e (subst (λ (gs : List Breakpoint). Contains gs e) sweep.of_lower (own_has B es e c g))

    same_members : (es fs : List Breakpoint) → IsSweep s upper (reverse lower) es → IsSweep s upper (reverse lower) fs → (e : Breakpoint) → Contains es e → Contains fs e
    same_members es fs a b e c = at e.half refl
      where
        at : (g : Half) → e.half ≡ g → Contains fs e
        at A g = own_in A fs e (subst (λ (gs : List Breakpoint). Contains gs e) (a.of_upper ∙ sym b.of_upper) (own_has A es e c g))
        at B g = own_in B fs e (subst (λ (gs : List Breakpoint). Contains gs e) (a.of_lower ∙ sym b.of_lower) (own_has B es e c g))

    pub only_one : (es fs : List Breakpoint) → IsSweep s upper (reverse lower) es → IsSweep s upper (reverse lower) fs → es ≡ fs
    only_one es fs a b = same_list (comes s slopes) (comes_never s slopes) (comes_through s slopes) es fs (in_order es a) (in_order fs b) (same_members es fs a b) (same_members fs es b a)

    there_is_one : Falls s upper → Falls (reflected s) lower → IsSweep s upper (reverse lower) (sweep_of s upper (reverse lower))
    there_is_one f g =
        let m = merged_right s slopes (breakpoints_of A upper) (breakpoints_back (reverse lower)) (own_half A upper) (back_half (reverse lower)) (breakpoints_come s slopes A upper upper_rises f)
        (weaker_chain (comes s slopes) (is_placed_before s) (λ e h c. (right_signs s slopes e h c).2) (breakpoints_back (reverse lower)) (lower_comes lower lower_rises g)) in
        record { of_upper = m.1; of_lower = m.2; falling = m.0 }

pub one_sweep : OneSweep
one_sweep s upper lower real u l =
    let slopes = real_slope_laws s real in
    let there = there_is_one s slopes upper lower u.rising l.rising (upper_falls s (real_turn_laws s real) s.live upper u) (upper_falls (reflected s) (real_turn_laws (reflected s) (reflected-real s real)) s.live lower l) in
    (there, λ es sweep. only_one s slopes upper lower u.rising l.rising es (sweep_of s upper (reverse lower)) sweep there)
